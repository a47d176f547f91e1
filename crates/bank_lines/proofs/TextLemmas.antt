-- Texts of several pieces.
use Rattle.std.proofs.Common.{◌≡◌, ℕ, List, [], ◌∷◌, ◌++◌, codes, refl, ap, ◌∙◌, append_assoc, Result, Ok, Err, OnOk}
use Rattle.std.specs.List.{join_with_byte}

-- two pieces, one after the other, if the second is appended to the first
pub two_pieces : {A E : Type 0} (old a b c d first second : List ℕ) (result : Result A E)
    → first ≡ old ++ a ++ b → OnOk result (second ≡ first ++ c ++ d) → OnOk result (second ≡ old ++ (a ++ b ++ c ++ d))
two_pieces old a b c d first second (Ok done) one two =
    two ∙ ap (λ (t : List ℕ). t ++ c ++ d) one ∙ simp append_assoc refl
two_pieces old a b c d first second (Err why) one two = tt

-- a text that ends with a rest, seen from before its last piece
before_piece : (last text before piece rest : List ℕ) → last ≡ text ++ rest → text ≡ before ++ piece → last ≡ before ++ (piece ++ rest)
before_piece last text before piece rest ends is = ends ∙ ap (λ (t : List ℕ). t ++ rest) is ∙ append_assoc before piece rest

-- the words of a report's line
pub report_pieces : {A E : Type 0} (old boot seconds cpu bank tsc cap mcg status addr misc : List ℕ)
    → (t1 t2 t3 t4 t5 t6 t7 t8 t9 last : List ℕ) (result : Result A E)
    → t1 ≡ old ++ codes "bank " ++ boot → t2 ≡ t1 ++ codes " " ++ seconds → t3 ≡ t2 ++ codes " " ++ cpu → t4 ≡ t3 ++ codes " " ++ bank → t5 ≡ t4 ++ codes " " ++ tsc
    → t6 ≡ t5 ++ 32 ∷ cap → t7 ≡ t6 ++ 32 ∷ mcg → t8 ≡ t7 ++ 32 ∷ status → t9 ≡ t8 ++ 32 ∷ addr → OnOk result (last ≡ t9 ++ 32 ∷ misc)
    → OnOk result (last ≡ old ++ join_with_byte 32 (codes "bank" ∷ boot ∷ seconds ∷ cpu ∷ bank ∷ tsc ∷ cap ∷ mcg ∷ status ∷ addr ∷ misc ∷ []))
report_pieces old boot seconds cpu bank tsc cap mcg status addr misc t1 t2 t3 t4 t5 t6 t7 t8 t9 last (Ok done) e1 e2 e3 e4 e5 e6 e7 e8 e9 e10 =
    let r9 : List ℕ = (32 ∷ addr) ++ 32 ∷ misc in
    let r8 : List ℕ = (32 ∷ status) ++ r9 in
    let r7 : List ℕ = (32 ∷ mcg) ++ r8 in
    let r6 : List ℕ = (32 ∷ cap) ++ r7 in
    let r5 : List ℕ = (32 ∷ tsc) ++ r6 in
    let r4 : List ℕ = (32 ∷ bank) ++ r5 in
    let r3 : List ℕ = (32 ∷ cpu) ++ r4 in
    let r2 : List ℕ = (32 ∷ seconds) ++ r3 in
    before_piece last t1 old (codes "bank " ++ boot) r2 (
    before_piece last t2 t1 (32 ∷ seconds) r3 (
    before_piece last t3 t2 (32 ∷ cpu) r4 (
    before_piece last t4 t3 (32 ∷ bank) r5 (
    before_piece last t5 t4 (32 ∷ tsc) r6 (
    before_piece last t6 t5 (32 ∷ cap) r7 (
    before_piece last t7 t6 (32 ∷ mcg) r8 (
    before_piece last t8 t7 (32 ∷ status) r9 (
    before_piece last t9 t8 (32 ∷ addr) (32 ∷ misc) e10 e9)
    e8) e7) e6)
    (e5 ∙ append_assoc t4 (codes " ") tsc))
    (e4 ∙ append_assoc t3 (codes " ") bank))
    (e3 ∙ append_assoc t2 (codes " ") cpu))
    (e2 ∙ append_assoc t1 (codes " ") seconds))
    (e1 ∙ append_assoc old (codes "bank ") boot)
report_pieces old boot seconds cpu bank tsc cap mcg status addr misc t1 t2 t3 t4 t5 t6 t7 t8 t9 last (Err why) e1 e2 e3 e4 e5 e6 e7 e8 e9 e10 = tt
