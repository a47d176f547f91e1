-- The search for the last event name of a line.
use Rattle.std.proofs.Common.{◌≡◌, ℕ, ◌+◌, ◌-◌, ◌<◌, ◌≤◌, ◌==◌, false, List, length, take, drop, get_or, sym, ap, ◌∙◌, subst, arith, inl, inr, Option, None, Some}
use Rattle.std.proofs.lemmas.Bool.{cases_lt, eq-eqb, false≢true}
use Rattle.std.proofs.lemmas.List.{get_or-drop}
use Rattle.memchr.specs.Find.{OccursAt}
use Rattle.bank_lines.specs.Steps.Names.{LastBelow, NoNameIn}
use Rattle.bank_lines.specs.Trace.{event_mark, last_mark}
use Rattle.bank_lines.proofs.LogHeadLemmas.{rest_is}
use Rattle.bank_lines.proofs.MarkLemmas.{mark_is}

module _ (line : List ℕ) where
  -- a search for the byte `_` skips no name
  pub names_passed : (low from passed : ℕ) → from + passed ≤ length line → NoNameIn line low from
      → ((k : ℕ) → k < passed → (get_or (take (length line - from) (drop from line)) k 0 == 95) ≡ false) → NoNameIn line low (from + passed)
  names_passed low from passed inside before other k late below occurs = elim (cases_lt (k + 3) from) [
    | inl early ↦ before k late early occurs
    | inr behind ↦
        let there : from + (k + 3 - from) ≡ k + 3 = omega arith in
        let byte : get_or (take (length line - from) (drop from line)) (k + 3 - from) 0 ≡ 95 =
        ap (λ rest. get_or rest (k + 3 - from) 0) (rest_is from line) ∙ get_or-drop from line (k + 3 - from) 0 ∙ ap (λ i. get_or line i 0) there ∙ occurs.reads 3 (omega arith) in
        false≢true (sym (other (k + 3 - from) (omega arith)) ∙ eq-eqb _ _ byte)
  ]

  pub last_passed : (from passed : ℕ) (last : Option ℕ) → from + passed ≤ length line → LastBelow line from last
      → ((k : ℕ) → k < passed → (get_or (take (length line - from) (drop from line)) k 0 == 95) ≡ false) → LastBelow line (from + passed) last
  last_passed from passed None inside before other = names_passed 0 from passed inside before other
  last_passed from passed (Some place) inside before other = (before.0, names_passed (place + 1) from passed inside before.1 other)

  -- a step past a byte `_` that is in no name
  names_round : (low place : ℕ) → NoNameIn line low place → ¬ ((3 ≤ place) × OccursAt line event_mark (place - 3)) → NoNameIn line low (place + 1)
  names_round low place before not k late below occurs = elim (cases_lt (k + 3) place) [
    | inl early ↦ before k late early occurs
    | inr last ↦ let same : k ≡ place - 3 = omega arith in not (omega arith, subst (OccursAt line event_mark) same occurs)
  ]

  pub last_round : (place : ℕ) (last : Option ℕ) → LastBelow line place last → ¬ ((3 ≤ place) × OccursAt line event_mark (place - 3)) → LastBelow line (place + 1) last
  last_round place None before not = names_round 0 place before not
  last_round place (Some p) before not = (before.0, names_round (p + 1) place before.1 not)

  -- a name whose byte `_` comes here is the last one so far
  pub last_here : (place : ℕ) → 3 ≤ place → OccursAt line event_mark (place - 3) → LastBelow line (place + 1) (Some (place - 3))
  last_here place some occurs = (occurs, λ k late below later. absurd (omega (arith, some, late, below)))

  -- the search is complete at the line's end
  pub last_finds : (last : Option ℕ) → LastBelow line (length line) last → last ≡ last_mark line
  last_finds None none = mark_is line None (λ k low high occurs. none k (omega arith) (omega (arith, occurs.fits)) occurs)
  last_finds (Some place) found =
      mark_is line (Some place) (
        record {
          low = omega arith;
          high = omega (arith, found.0.fits);
          after = λ k low high occurs. found.1 k (omega (arith, low)) (omega (arith, occurs.fits)) occurs;
        },
        found.0,
      )
