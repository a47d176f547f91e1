-- Where a line's last event name is.
use Rattle.std.proofs.Common.{◌≡◌, ℕ, zero, suc, ◌+◌, Bool, true, false, nat_eq, List, [], ◌∷◌, length, take, refl, sym, ap, ◌∙◌, arith, Option, Some, None, length-take}
use Rattle.std.specs.List.{starts_with}
use Rattle.std.proofs.lemmas.Slice.Eq.{bytes_eq-Decides}
use Rattle.memchr.specs.Find.{FindsLastNeedle, OccursAt, NoneAfter, Nowhere}
use Rattle.memchr.proofs.lemmas.MatchLemmas.{OccursAt-part, OccursAt-from_part}
use Rattle.bank_lines.specs.Trace.{last_mark, event_mark, one_on}

starts-occurs : (line : List ℕ) → starts_with nat_eq line event_mark ≡ true → OccursAt line event_mark 0
starts-occurs line is =
    let front : event_mark ≡ take (length event_mark) line = (bytes_eq-Decides event_mark (take (length event_mark) line)).0 is in
    OccursAt-from_part line event_mark 0 (omega (arith, ap length front, length-take (length event_mark) line)) (sym front)

occurs-starts : (line : List ℕ) → OccursAt line event_mark 0 → starts_with nat_eq line event_mark ≡ true
occurs-starts line occurs = (bytes_eq-Decides event_mark (take (length event_mark) line)).1 (sym (OccursAt-part line event_mark 0 occurs))

-- if an event name is at an index of a line, it is one further on with one more byte in front
further : (b : ℕ) (line : List ℕ) (k : ℕ) → OccursAt line event_mark k → OccursAt (b ∷ line) event_mark (suc k)
further b line k occurs = OccursAt-from_part (b ∷ line) event_mark (suc k) (omega (arith, occurs.fits)) (OccursAt-part line event_mark k occurs)

nearer : (b : ℕ) (line : List ℕ) (k : ℕ) → OccursAt (b ∷ line) event_mark (suc k) → OccursAt line event_mark k
nearer b line k occurs = OccursAt-from_part line event_mark k (omega (arith, occurs.fits)) (OccursAt-part (b ∷ line) event_mark (suc k) occurs)

-- an event name at a line's first byte, if there is none after it
here : (b : ℕ) (line : List ℕ) (starts : Bool) → starts_with nat_eq (b ∷ line) event_mark ≡ starts → last_mark line ≡ None → last_mark (b ∷ line) ≡ one_on None starts
here b line starts is none =
    ap (λ (place : Option ℕ). one_on place (starts_with nat_eq (b ∷ line) event_mark)) none ∙ ap (one_on None) is

pub mark_none : (line : List ℕ) → Nowhere (OccursAt line event_mark) 0 (length line + 1) → last_mark line ≡ None
mark_none [] nowhere = refl
mark_none (b ∷ line) nowhere = by (starts_with nat_eq (b ∷ line) event_mark) refl (mark_none line (λ k low high occurs. nowhere (suc k) (omega arith) (omega (arith, high)) (further b line k occurs)))
  where
    by : (starts : Bool) → starts_with nat_eq (b ∷ line) event_mark ≡ starts → last_mark line ≡ None → last_mark (b ∷ line) ≡ None
    by true is rest = absurd (nowhere 0 (omega arith) (omega arith) (starts-occurs (b ∷ line) is))
    by false is rest = here b line false is rest

pub mark_at : (line : List ℕ) (k : ℕ) → NoneAfter (OccursAt line event_mark) 0 (length line + 1) k → OccursAt line event_mark k → last_mark line ≡ Some k
mark_at [] k last occurs = absurd (omega (arith, occurs.fits))
mark_at (b ∷ line) zero last occurs =
    here b line true (occurs-starts (b ∷ line) occurs)
    (mark_none line (λ k low high later. last.after (suc k) (omega arith) (omega (arith, high)) (further b line k later)))
mark_at (b ∷ line) (suc k) last occurs =
    let next : k + 1 ≡ suc k = omega arith in
    ap (λ (place : Option ℕ). one_on place (starts_with nat_eq (b ∷ line) event_mark))
    (mark_at line k (record {
      low = omega arith;
      high = omega (arith, last.high);
      after = λ j low high later. last.after (suc j) (omega (arith, low)) (omega (arith, high)) (further b line j later);
    }) (nearer b line k occurs))
    ∙ ap Some next

pub mark_is : (line : List ℕ) (found : Option ℕ) → FindsLastNeedle line event_mark found → found ≡ last_mark line
mark_is line None nowhere = sym (mark_none line nowhere)
mark_is line (Some k) last = sym (mark_at line k last.0 last.1)
