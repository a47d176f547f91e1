-- The table is compared with the definition at each of the 256 bytes, by computing.
use Rattle.std.proofs.Common.{◌≡◌, ℕ, zero, suc, ◌<◌, ◌&&◌, Bool, true, false, eqb, get_or, List, refl, ap, ◌∙◌, arith, inl, inr}
use Rattle.std.proofs.lemmas.Bool.{cases_eq, eqb-true}
use Rattle.std.specs.Char.{digit_value}
use Rattle.ras_script.specs.declared.number.TheConstants.{DIGIT_VALUES}
use Rattle.ras_script.proofs.number.value_of.Goals as goal

-- Whether a table has the value of each digit below n.
agrees_below : List ℕ → ℕ → Bool
agrees_below table zero = true
agrees_below table (suc n) = eqb (get_or table n 0) (digit_value n) && agrees_below table n

both_of : (t rest : Bool) → (t && rest) ≡ true → (t ≡ true) × (rest ≡ true)
both_of true rest h = (refl, h)
both_of false rest h = cc

agrees_at : (table : List ℕ) (n : ℕ) → agrees_below table n ≡ true → (b : ℕ) → b < n → get_or table b 0 ≡ digit_value b
unfolding agrees_below
agrees_at table zero h b lt = absurd (omega arith)
agrees_at table (suc n) h b lt =
    let both = both_of (eqb (get_or table n 0) (digit_value n)) (agrees_below table n) h in
    elim (cases_eq b n) [ inl same ↦ rw same (eqb-true _ _ both.0) | inr other ↦ agrees_at table n both.1 b (omega arith) ]

pub returns : goal.returns
unfolding agrees_below
returns c = ap (λ place. get_or DIGIT_VALUES place 0) c.from.ensures ∙ agrees_at DIGIT_VALUES 256 refl c.args.byte (omega arith)
