-- The last word of a text.
use Rattle.std.proofs.Common.{◌≡◌, ℕ, suc, ◌+◌, ◌<◌, ◌≤◌, ◌==◌, false, List, [], ◌∷◌, ◌++◌, length, take, drop, get_or, sym, ap, ◌∙◌, arith, length-drop}
use Rattle.std.proofs.Math.Seq.{drop-cons}
use Rattle.std.proofs.lemmas.List.{get_or-drop, take-append-drop}
use Rattle.std.proofs.lemmas.List.Splits.{slice_split_none}
use Rattle.std.specs.List.{All}
use Rattle.ras_script.proofs.LineAndWordLemmas.{split_between}
use Rattle.bank_lines.specs.Parts.{cut_at}
use Rattle.bank_lines.specs.Trace.{last_word}
use Rattle.bank_lines.proofs.TraceHeadLemmas.{last_behind}

-- a text has no space from here on
abbrev pub NoSpaceFrom : ℕ → List ℕ → Type 0
NoSpaceFrom start text = (k d : ℕ) → start ≤ k → k < length text → (get_or text k d == 32) ≡ false

pub last_whole : (text : List ℕ) → NoSpaceFrom 0 text → last_word [] (cut_at 32 text) ≡ text
last_whole text none = ap (last_word []) (slice_split_none (λ b. b == 32) text (λ k d inside. none k d (omega arith) inside))

pub last_behind_space : (text : List ℕ) (place : ℕ) → place < length text → get_or text place 0 ≡ 32 → NoSpaceFrom (suc place) text
    → last_word [] (cut_at 32 text) ≡ drop (suc place) text
last_behind_space text place inside space none =
    let front : List ℕ = take place text in
    let rest : List ℕ = drop (suc place) text in
    let is : text ≡ front ++ 32 ∷ rest =
    sym (take-append-drop place text) ∙ ap (λ behind. front ++ behind) (drop-cons text place 0 inside ∙ ap (λ b. b ∷ rest) space) in
    let joined : All (λ b. (b == 32) ≡ false) rest =
    λ k d low. ap (λ b. b == 32) (get_or-drop (suc place) text k d) ∙ none (suc place + k) d (omega arith) (omega (arith, low, length-drop (suc place) text)) in
    ap (λ (whole : List ℕ). last_word [] (cut_at 32 whole)) is
    ∙ ap (last_word []) (split_between 32 front rest)
    ∙ ap (λ (words : List (List ℕ)). last_word [] (cut_at 32 front ++ words)) (slice_split_none (λ b. b == 32) rest joined)
    ∙ last_behind [] (cut_at 32 front) rest
