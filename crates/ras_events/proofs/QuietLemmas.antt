-- Joined texts of whole lines.
use Rattle.std.proofs.Common.{◌≡◌, ℕ, true, false, List, [], ◌∷◌, ◌++◌, All, flat_map, sym, ◌∙◌, append-nil}
use Rattle.std.specs.List.{AllByRecursion}
use Rattle.std.proofs.lemmas.List.Concat.{flat_map-append}
use Rattle.std.proofs.lemmas.List.Elements.{All-head, All-tail}
use Rattle.ras_base.specs.Text.{line_with}
use Rattle.ras_script.specs.SplittingLaws.{Lacks}
use Rattle.ras_texts.specs.Text.{done_line}
use Rattle.ras_events.specs.DoneLines.{is_done_line}
use Rattle.ras_events.specs.QuietLines.{AreLines, AreQuietLines, IsQuietLine}
use Rattle.ras_events.proofs.ByteLemmas.{is_unbroken, lacks_from}
use Rattle.ras_events.proofs.DoneLemmas.{done_text, done_lacks}

pub all_both : {X : Type 0} (P : X → Type 0) (xs ys : List X) → AllByRecursion P xs → AllByRecursion P ys → AllByRecursion P (xs ++ ys)
all_both P [] ys one other = other
all_both P (x ∷ xs) ys one other = (one.0, all_both P xs ys one.1 other)

both_whole : (one other : List ℕ) (lines more : List (List ℕ)) → one ≡ flat_map line_with lines → other ≡ flat_map line_with more → one ++ other ≡ flat_map line_with (lines ++ more)
both_whole one other lines more first second = (λ i. first i ++ second i) ∙ sym (flat_map-append line_with lines more)

-- ---- lines of any kind

pub lines_both : (one other : List ℕ) → AreLines one → AreLines other → AreLines (one ++ other)
lines_both one other first second = record {
  lines = first.lines ++ second.lines;
  each = all_both (Lacks 10) first.lines second.lines first.each second.each;
  whole = both_whole one other first.lines second.lines first.whole second.whole;
}

pub line_alone : (text : List ℕ) → Lacks 10 text → AreLines (line_with text)
line_alone text lacks = record { lines = text ∷ []; each = (lacks, tt); whole = sym (append-nil (line_with text)) }

pub done_alone : (number : ℕ) → AreLines (done_line number)
done_alone number = line_alone (done_text number) (done_lacks number)

each_lacks : (lines : List (List ℕ)) → AllByRecursion IsQuietLine lines → AllByRecursion (Lacks 10) lines
each_lacks [] all = tt
each_lacks (line ∷ lines) all = (all.0.0, each_lacks lines all.1)

pub lines_quiet : (text : List ℕ) → AreQuietLines text → AreLines text
lines_quiet text quiet = record { lines = quiet.lines; each = each_lacks quiet.lines quiet.each; whole = quiet.whole }

-- ---- quiet lines

pub quiet_none : AreQuietLines []
quiet_none = record { lines = []; each = tt; whole = λ i. [] }

pub quiet_both : (one other : List ℕ) → AreQuietLines one → AreQuietLines other → AreQuietLines (one ++ other)
quiet_both one other first second = record {
  lines = first.lines ++ second.lines;
  each = all_both IsQuietLine first.lines second.lines first.each second.each;
  whole = both_whole one other first.lines second.lines first.whole second.whole;
}

pub quiet_alone : (text : List ℕ) → Lacks 10 text → is_done_line text ≡ false → AreQuietLines (line_with text)
quiet_alone text lacks other = record { lines = text ∷ []; each = ((lacks, other), tt); whole = sym (append-nil (line_with text)) }

pub quiet_line : (text : List ℕ) → is_unbroken text ≡ true → is_done_line text ≡ false → AreQuietLines (line_with text)
quiet_line text unbroken other = quiet_alone text (lacks_from text unbroken) other

-- The lines of each element of a list are quiet.
pub quiet_all : {X : Type 0} (line : X → List ℕ) → ((x : X) → AreQuietLines (line x)) → (xs : List X) → AreQuietLines (flat_map line xs)
quiet_all line quiet [] = quiet_none
quiet_all line quiet (x ∷ xs) = quiet_both (line x) (flat_map line xs) (quiet x) (quiet_all line quiet xs)

pub quiet_each : {X : Type 0} (P : X → Type 0) (line : X → List ℕ) → ((x : X) → P x → AreQuietLines (line x)) → (xs : List X) → All P xs → AreQuietLines (flat_map line xs)
quiet_each P line quiet [] all = quiet_none
quiet_each P line quiet (x ∷ xs) all =
    quiet_both (line x) (flat_map line xs) (quiet x (All-head P x xs all)) (quiet_each P line quiet xs (All-tail P x xs all))
