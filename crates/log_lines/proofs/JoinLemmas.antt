-- Texts that are appended one after another are one text.
use Rattle.std.proofs.Common.{◌≡◌, ℕ, List, ◌++◌, ap, ◌∙◌, append_assoc, Result, Ok, Err, OnOk}

pub joined_two : (old first second a b : List ℕ) → a ≡ old ++ first → b ≡ a ++ second → b ≡ old ++ (first ++ second)
joined_two old first second a b begun more = more ∙ ap (λ (text : List ℕ). text ++ second) begun ∙ append_assoc old first second

pub joined_three : (old first second third a b c : List ℕ) → a ≡ old ++ first → b ≡ a ++ second → c ≡ b ++ third
    → c ≡ old ++ (first ++ second ++ third)
joined_three old first second third a b c begun more most =
    joined_two old (first ++ second) third b c (joined_two old first second a b begun more) most

-- What holds of a call that returned Ok has what follows from it.
pub on_ok : {A E P Q : Type 0} (result : Result A E) → OnOk result P → (P → Q) → OnOk result Q
on_ok (Ok done) holds so = so holds
on_ok (Err why) holds so = tt

pub on_both : {A E P Q R : Type 0} (result : Result A E) → OnOk result P → OnOk result Q → (P → Q → R) → OnOk result R
on_both (Ok done) first second so = so first second
on_both (Err why) first second so = tt

-- What holds anyway holds of a call that returned Ok.
pub if_ok : {A E P : Type 0} (result : Result A E) → P → OnOk result P
if_ok (Ok done) holds = holds
if_ok (Err why) holds = tt
