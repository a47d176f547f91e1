-- A line with a report's number and prefix, and what it changes if it isn't the kernel's own.
use Rattle.std.proofs.Common.{◌≡◌, ℕ, suc, ◌+◌, ◌^◌, ◌<◌, ◌&&◌, ◌==◌, ◌||◌, Bool, true, false, List, [], ◌∷◌, ◌++◌, decimal, drop, length, refl, sym, ap, ◌∙◌, arith, length-drop, Option, Some, None}
use Rattle.std.specs.Prelude.{is_some, if◌then◌else◌}
use Rattle.std.specs.List.{position_or_len}
use Rattle.bank_lines.specs.LogHeads.{after, is_own, up_to}
use Rattle.block_lines.specs.Kernel.{printed_line}
use Rattle.block_lines.specs.LogLines.{error_mark, has_mark, marked_line_of, own_by, own_line_of}
use Rattle.block_lines.specs.declared.log_line.Marking.TheVariants.{Foreign, Own, Unmarked}
use Rattle.block_lines.specs.declared.log_line.OwnLine.{OwnLine}
use Rattle.block_lines.proofs.KernelLemmas.{mark_read}

-- a report's number and prefix come after the first brace of a text, or after a later one
pub mark_after : (text : List ℕ) → has_mark text ≡ (is_some (marked_line_of (after 123 text)) || has_mark (after 123 text))
mark_after [] = refl
mark_after (b ∷ text) = by (b == 123) refl (mark_after text)
  where
    by : (brace : Bool) → (b == 123) ≡ brace → has_mark text ≡ (is_some (marked_line_of (after 123 text)) || has_mark (after 123 text))
        → has_mark (b ∷ text) ≡ (is_some (marked_line_of (after 123 (b ∷ text))) || has_mark (after 123 (b ∷ text)))
    by true is ih = rw is refl
    by false is ih =
        let further : 1 + position_or_len (λ c. c == 123) text + 1 ≡ suc (position_or_len (λ c. c == 123) text + 1) = omega arith in
        rw is (ih ∙ ap (λ (n : ℕ). is_some (marked_line_of (drop n (b ∷ text))) || has_mark (drop n (b ∷ text))) (sym further))

pub after_shorter : (text : List ℕ) → 0 < length text → length (after 123 text) < length text
after_shorter text some = omega (arith, some, length-drop (position_or_len (λ b. b == 123) text + 1) text)

or_true : (b : Bool) → (b || true) ≡ true
or_true true = refl
or_true false = refl

-- a line that the kernel prints after any head has a report's number and prefix
pub printed_marked : (head : List ℕ) (number : ℕ) (text : List ℕ) → number < 2 ^ 64 → has_mark (printed_line head number text) ≡ true
printed_marked [] number text small =
    ap (λ (o : Option OwnLine). is_some o || has_mark (decimal number ++ 125 ∷ (error_mark ++ text))) (mark_read number text small)
printed_marked (b ∷ head) number text small =
    ap (λ (rest : Bool). b == 123 && is_some (marked_line_of (printed_line head number text)) || rest) (printed_marked head number text small)
    ∙ or_true (b == 123 && is_some (marked_line_of (printed_line head number text)))

pub foreign_is : (line : List ℕ) → has_mark line ≡ true → is_own (up_to 123 line) ≡ false → own_line_of line ≡ Foreign
foreign_is line marked other = by (marked_line_of (after 123 line)) (sym (mark_after line)) marked
  where
    by : (o : Option OwnLine) → (is_some o || has_mark (after 123 line)) ≡ has_mark line → has_mark line ≡ true
        → own_by (up_to 123 line) (after 123 line) o ≡ Foreign
    by (Some own) is marked = ap (λ (holds : Bool). if holds then Own own else Foreign) other
    by None is marked = ap (λ (more : Bool). if more then Foreign else Unmarked) (is ∙ marked)
