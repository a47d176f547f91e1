use Rattle.std.proofs.Common.{ℕ, List, codes, sym, ap, ◌∙◌}
use Rattle.std.specs.Option.{option_map}
use Rattle.bank_lines.specs.LogHeads.{up_to}
use Rattle.bank_lines.specs.Parts.{value_after}
use Rattle.event_lines.specs.Driver.{place_told}
use Rattle.event_lines.proofs.DriverLemmas.{driver_so}
use Rattle.event_lines.proofs.driver_event.driver_error.Goals as goal

pub returns : goal.returns
returns c =
    sym (driver_so c.args.text.now c.in_ok-controller.controller.now c.in_ok-layers.layers.now c.in_ok-error.error c.place_told.result
    (sym c.controller_of.ensures ∙ ap (option_map (λ controller. controller.now)) c.in_ok-controller.was)
    (ap (λ (text : List ℕ). value_after (codes "location:") (up_to 32 text)) (sym c.cut.ensures.rest)
    ∙ ap (value_after (codes "location:")) (sym c.cut-2.ensures.front)
    ∙ sym c.value_after.ensures ∙ ap (option_map (λ layers. layers.now)) c.in_ok-layers.was)
    (sym c.controller_error.ensures ∙ c.in_ok-error.was)
    (ap (λ (number : List ℕ). place_told c.args.text.now number c.in_ok-layers.layers.now) (sym c.cut.ensures.front) ∙ sym c.place_told.ensures))
