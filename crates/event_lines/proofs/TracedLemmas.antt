-- The event after a line's clock is the line's event.
use Rattle.std.proofs.Common.{◌≡◌, ℕ, List, ap, ◌∙◌, Option, Some}
use Rattle.std.specs.Option.{option_map_or}
use Rattle.event_lines.specs.Traced.{clock_event, clock_place, event_behind, named_text, stamp_at}
use Rattle.event_lines.specs.declared.traced.LineEvent.{LineEvent}
use Rattle.event_lines.specs.declared.traced.LineEvent.TheVariants.{Absent}

pub at_clock : (line text : List ℕ) (place : ℕ) (stamp : Option ℕ) (event : LineEvent) → Some place ≡ clock_place line
    → stamp ≡ stamp_at place line → text ≡ named_text place line → event ≡ event_behind stamp text → event ≡ clock_event line
at_clock line text place stamp event found stamped named is =
    is ∙ ap (λ (s : Option ℕ). event_behind s text) stamped ∙ ap (event_behind (stamp_at place line)) named
    ∙ ap (λ (o : Option ℕ). option_map_or (λ place. event_behind (stamp_at place line) (named_text place line)) o Absent) found
