-- The table agrees with the definition at each of the 16 values, by computing.
use Rattle.std.proofs.Common.{◌≡◌, ℕ, zero, suc, ◌<◌, ◌&&◌, Bool, true, false, eqb, get_or, List, refl, arith, inl, inr}
use Rattle.std.proofs.lemmas.Bool.{cases_eq, eqb-true}
use Rattle.std.specs.Fmt.{digit_glyph}
use Rattle.bank_lines.specs.declared.text.TheConstants.{DIGITS}
use Rattle.bank_lines.proofs.text.digit_of.Goals as goal

-- whether a table has each digit below n
agrees_below : List ℕ → ℕ → Bool
agrees_below table zero = true
agrees_below table (suc n) = eqb (get_or table n 0) (digit_glyph false n) && agrees_below table n

both_of : (t rest : Bool) → (t && rest) ≡ true → (t ≡ true) × (rest ≡ true)
both_of true rest h = (refl, h)
both_of false rest h = cc

agrees_at : (table : List ℕ) (n : ℕ) → agrees_below table n ≡ true → (value : ℕ) → value < n → get_or table value 0 ≡ digit_glyph false value
unfolding agrees_below
agrees_at table zero h value lt = absurd (omega arith)
agrees_at table (suc n) h value lt =
    let both = both_of (eqb (get_or table n 0) (digit_glyph false n)) (agrees_below table n) h in
    elim (cases_eq value n) [ inl same ↦ rw same (eqb-true _ _ both.0) | inr other ↦ agrees_at table n both.1 value (omega arith) ]

pub returns : goal.returns
unfolding agrees_below
returns c = agrees_at DIGITS 16 refl c.args.value c.requires
