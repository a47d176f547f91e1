-- How many events are done in a beginning of what events print.
use Rattle.std.proofs.Common.{◌≡◌, ℕ, suc, ◌+◌, ◌≤◌, ◌⊎◌, inl, inr, List, [], ◌∷◌, ◌++◌, length, take, drop, get_or, All, refl, sym, ap, ◌∙◌, arith, append_assoc, one-add}
use Rattle.std.proofs.lemmas.List.Elements.{All-head, All-tail}
use Rattle.ras_texts.specs.Text.{done_line}
use Rattle.ras_events.specs.DoneLines.{done_count}
use Rattle.ras_events.specs.QuietLines.{AreQuietLines}
use Rattle.ras_events.specs.PrintedEvents.{PrintedEvent, IsPrintedEvent, HoldsFirst, printed_event, printed_events}
use Rattle.ras_events.proofs.DoneLemmas.{quiet_count, done_counts, none_done, event_begun}

event_counts : (event : PrintedEvent) (more : List ℕ) → IsPrintedEvent event → done_count (printed_event event ++ more) ≡ 1 + done_count more
event_counts event more quiet =
    ap done_count (append_assoc event.text (done_line event.number) more) ∙ quiet_count event.text (done_line event.number ++ more) quiet ∙ done_counts event.number more

pub events_count : (events : List PrintedEvent) (more : List ℕ) → All IsPrintedEvent events → done_count (printed_events events ++ more) ≡ length events + done_count more
events_count [] more all = omega arith
events_count (event ∷ events) more all =
    ap done_count (append_assoc (printed_event event) (printed_events events) more)
    ∙ event_counts event (printed_events events ++ more) (All-head IsPrintedEvent event events all)
    ∙ omega (arith, events_count events more (All-tail IsPrintedEvent event events all))

-- A beginning of two texts ends before the end of the first, or contains the first.
abbrev IsCut : List ℕ → List ℕ → List ℕ → List ℕ → Type 0
IsCut part rest first second =
    ((left : List ℕ) × (1 ≤ length left) × (part ++ left ≡ first)) ⊎ ((more : List ℕ) × (part ≡ first ++ more) × (more ++ rest ≡ second))

cut_more : (b c : ℕ) (part rest first second : List ℕ) → b ≡ c → IsCut part rest first second → IsCut (b ∷ part) rest (c ∷ first) second
cut_more b c part rest first second same (inl (left, some, is)) = inl (left, some, λ i. same i ∷ is i)
cut_more b c part rest first second same (inr (more, is, later)) = inr (more, (λ i. same i ∷ is i), later)

cut : (part rest first second : List ℕ) → part ++ rest ≡ first ++ second → IsCut part rest first second
cut part rest [] second is = inr (part, refl, is)
cut [] rest (c ∷ first) second is = inl (c ∷ first, omega arith, refl)
cut (b ∷ part) rest (c ∷ first) second is =
    cut_more b c part rest first second (ap (λ (t : List ℕ). get_or t 0 0) is) (cut part rest first second (ap (λ (t : List ℕ). drop 1 t) is))

none_held : (events : List PrintedEvent) (part : List ℕ) → done_count part ≡ 0 → HoldsFirst events part
none_held events part none = record {
  few = omega (arith, none);
  left = part;
  first = ap (λ n. printed_events (take n events) ++ part) none;
}

one_held : (event : PrintedEvent) (events : List PrintedEvent) (part more : List ℕ) → IsPrintedEvent event → part ≡ printed_event event ++ more → HoldsFirst events more → HoldsFirst (event ∷ events) part
one_held event events part more quiet is held =
    let count : done_count part ≡ suc (done_count more) = ap done_count is ∙ event_counts event more quiet ∙ one-add (done_count more) in
    record {
      few = omega (arith, count, held.few);
      left = held.left;
      first = ap (λ n. printed_events (take n (event ∷ events)) ++ held.left) count
          ∙ append_assoc (printed_event event) (printed_events (take (done_count more) events)) held.left
          ∙ ap (λ (t : List ℕ). printed_event event ++ t) held.first ∙ sym is;
    }

pub first_held : (events : List PrintedEvent) (last part rest : List ℕ) → All IsPrintedEvent events → AreQuietLines last → part ++ rest ≡ printed_events events ++ last → HoldsFirst events part
first_held [] last part rest all quiet is = none_held [] part (none_done last part rest quiet is)
first_held (event ∷ events) last part rest all quiet is =
    let own : IsPrintedEvent event = All-head IsPrintedEvent event events all in
    let others : All IsPrintedEvent events = All-tail IsPrintedEvent event events all in
    by own (λ more later. first_held events last more rest others quiet later)
    (cut part rest (printed_event event) (printed_events events ++ last) (is ∙ append_assoc (printed_event event) (printed_events events) last))
  where
    by : IsPrintedEvent event → ((more : List ℕ) → more ++ rest ≡ printed_events events ++ last → HoldsFirst events more) → IsCut part rest (printed_event event) (printed_events events ++ last) → HoldsFirst (event ∷ events) part
    by own again (inl (left, some, begun)) = none_held (event ∷ events) part (event_begun event.text part left event.number own begun some)
    by own again (inr (more, whole, later)) = one_held event events part more own whole (again more later)
