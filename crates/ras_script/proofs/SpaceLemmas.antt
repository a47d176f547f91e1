-- Lines and their words by the indexes of spaces.
use Rattle.std.proofs.Common.{◌≡◌, ℕ, suc, ◌+◌, ◌-◌, ◌<◌, ◌≤◌, ◌==◌, nat_lt, Ok, true, List, [], ◌∷◌, length, take, drop, get_or, refl, ap, sym, ◌∙◌, arith, length-drop}
use Rattle.std.proofs.Math.Seq.{take-length}
use Rattle.std.proofs.lemmas.Bool.Decides.{nat_tests}
use Rattle.std.proofs.lemmas.Simd.{get_or-chunk, length-chunk}
use Rattle.ras_script.specs.Steps.Places.{StandsNowhere}
use Rattle.std.specs.List.{filter, onto_first, slice_split}
use Rattle.ras_script.specs.Line.{line_of, line_of_words}
use Rattle.ras_script.specs.declared.line.Line.TheVariants.{Nothing}
use Rattle.ras_script.specs.SplittingLaws.{Lacks}

-- A text doesn't have a byte if the byte is at no index.
pub lacks_places : (byte : ℕ) (text : List ℕ) → ((k : ℕ) → k < length text → ¬ (get_or text k 0 ≡ byte)) → Lacks byte text
lacks_places byte [] none = tt
lacks_places byte (b ∷ text) none = (none 0 (omega arith), lacks_places byte text (λ k low. none (suc k) (omega arith)))

pub lacks_between : (line : List ℕ) (start end : ℕ) → start ≤ end → end ≤ length line → StandsNowhere 32 line start end → Lacks 32 (take (end - start) (drop start line))
lacks_between line start end ordered within none =
    let long : length (take (end - start) (drop start line)) ≡ end - start = length-chunk start (end - start) line (omega arith) in
    lacks_places 32 (take (end - start) (drop start line)) (λ k low space.
    none (start + k) (omega arith) (omega (arith, long)) (sym (get_or-chunk start (end - start) line k 0 (omega (arith, long))) ∙ space))

-- the rest of a line, as the code cuts it
pub rest_is : (line : List ℕ) (start : ℕ) → take (length line - start) (drop start line) ≡ drop start line
rest_is line start = ap (λ k. take k (drop start line)) (sym (length-drop start line)) ∙ take-length (drop start line)

-- An empty line, and a comment, whose first byte is `#`.
pub empty_asks : (bytes : List ℕ) → length bytes ≡ 0 → line_of bytes ≡ Ok Nothing
empty_asks [] none = refl
empty_asks (b ∷ bytes) none = absurd (omega arith)

pub comment_asks : (bytes : List ℕ) → get_or bytes 0 0 ≡ 35 → line_of bytes ≡ Ok Nothing
comment_asks [] is = absurd (omega arith)
comment_asks (b ∷ bytes) is = ap (λ first. line_of (first ∷ bytes)) is ∙ by (slice_split (λ b. b == 32) bytes)
  where
    by : (parts : List (List ℕ)) → line_of_words (filter (λ word. nat_lt 0 (length word)) (onto_first 35 parts)) ≡ Ok Nothing
    by [] = refl
    by (part ∷ parts) = let test : nat_lt 0 (length (35 ∷ part)) ≡ true = grind (arith, nat_tests) in rw test refl
