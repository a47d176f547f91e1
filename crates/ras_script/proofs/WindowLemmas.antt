-- The bytes in the buffer of a reader of lines, after a read past their end or a step of their start.
use Rattle.std.proofs.Common.{◌≡◌, ℕ, ◌+◌, ◌-◌, ◌≤◌, List, [], ◌++◌, length, take, drop, slice_range, Option, Some, None, IfSome, refl, sym, ap, ◌∙◌, arith, length-append, length-drop, length-take}
use Rattle.std.proofs.lemmas.List.{append-nil, take_at, drop_at, take-append-le, drop-take, drop-drop, length-take-le, take-append-drop}
use Rattle.board_core.specs.Takes.{Takes}
use Rattle.ras_script.specs.Reader.{AreTaken}
use Rattle.ras_script.specs.Steps.Feeds.{line_feed_in}
use Rattle.ras_script.specs.Steps.ReaderSteps.{Gains}
use borrow.Rule.Slice.PartMut.{put_mid, post_of}
use lib.Seq.{take-add}

-- The bytes after the end are in the buffer once the end is past them.
pub grown : (xs ys : List ℕ) (start end n : ℕ) → start ≤ end → take end ys ≡ take end xs
    → slice_range ys start (end + n) ≡ slice_range xs start end ++ take n (drop end ys)
grown xs ys start end n ordered same =
    let sum : end + n - start ≡ (end - start) + n = omega arith in
    let parts : end ≡ start + (end - start) = omega arith in
    let held : take (end - start) (drop start ys) ≡ take (end - start) (drop start xs) =
    sym (drop-take start (end - start) ys) ∙ ap (λ j. drop start (take j ys)) (sym parts) ∙ ap (drop start) same
    ∙ ap (λ j. drop start (take j xs)) parts ∙ drop-take start (end - start) xs in
    let rest : drop (end - start) (drop start ys) ≡ drop end ys = drop-drop (end - start) start ys ∙ ap (λ j. drop j ys) (sym parts) in
    ap (λ j. take j (drop start ys)) sum ∙ take-add (end - start) n (drop start ys) ∙ rw (held, rest) refl

pub kept : (xs ys : List ℕ) (start end : ℕ) → start ≤ end → take end ys ≡ take end xs → slice_range ys start end ≡ slice_range xs start end
kept xs ys start end ordered same =
    let none : end ≡ end + 0 = omega arith in
    ap (slice_range ys start) none ∙ grown xs ys start end 0 ordered same ∙ append-nil _

-- The bytes that a read takes from a source.
are_taken : (n : ℕ) (buffer : List ℕ) (before now : Option (List ℕ)) → Takes n buffer before now → AreTaken (take n buffer) before now
are_taken n buffer None now takes = takes
are_taken n buffer (Some left) now takes = rw (takes.0) (rw (takes.1) (sym (take-append-drop n left)))

-- A read of no byte is at the source's end.
ends_at : (n : ℕ) (buffer : List ℕ) (before now : Option (List ℕ)) → Takes n buffer before now → n ≡ 0 → IfSome before (λ left. left ≡ [])
ends_at n buffer None now takes none = tt
ends_at n buffer (Some left) now takes none = takes.3 none

pub gained : (xs ys : List ℕ) (start end n : ℕ) (before now : Option (List ℕ)) → start ≤ end → take end ys ≡ take end xs → n ≤ length (drop end ys)
    → Takes n (drop end ys) before now → Gains n (slice_range xs start end) (slice_range ys start (end + n)) before now
gained xs ys start end n before now ordered same fits takes = record {
  bytes = take n (drop end ys);
  size = length-take-le n (drop end ys) fits;
  held = grown xs ys start end n ordered same;
  taken = are_taken n (drop end ys) before now takes;
  ends = ends_at n (drop end ys) before now takes;
}

-- What a read into a part of a slice leaves of the slice.
pub written_front : (xs piece : List ℕ) (end k : ℕ) → end ≤ length xs → take end (put_mid end k xs piece) ≡ take end xs
written_front xs piece end k within =
    take_at (take end xs) (piece ++ post_of end k xs) end (length-take-le end xs within)

pub written_part : (xs piece : List ℕ) (end k n : ℕ) (before now : Option (List ℕ)) → end ≤ length xs → n ≤ length piece → Takes n piece before now → Takes n (drop end (put_mid end k xs piece)) before now
written_part xs piece end k n None now within fits takes = takes
written_part xs piece end k n (Some left) now within fits takes =
    let rest : drop end (put_mid end k xs piece) ≡ piece ++ post_of end k xs = drop_at (take end xs) (piece ++ post_of end k xs) end (length-take-le end xs within) in
    (takes.0, rw (rest, take-append-le n piece (post_of end k xs) fits) (takes.1), takes.2, takes.3)

-- The bytes in the buffer without the first ones.
pub dropped : (xs : List ℕ) (start end count : ℕ) → start + count ≤ end → slice_range xs (start + count) end ≡ drop count (slice_range xs start end)
dropped xs start end count inside =
    let parts : end - start ≡ count + (end - (start + count)) = omega arith in
    sym (ap (λ j. drop count (take j (drop start xs))) parts ∙ drop-take count _ (drop start xs)
    ∙ ap (take (end - (start + count))) (drop-drop count start xs))

-- The first line feed of the earlier bytes, after more were read.
pub found_held : (xs ys : List ℕ) (start end n found : ℕ) → start ≤ end → take end ys ≡ take end xs → end + n ≤ length ys → found ≡ start + line_feed_in (slice_range xs start end)
    → (end - start ≤ length (slice_range ys start (end + n))) × (found - start ≡ line_feed_in (take (end - start) (slice_range ys start (end + n))))
found_held xs ys start end n found ordered same fits is =
    let more : slice_range ys start (end + n) ≡ slice_range xs start end ++ take n (drop end ys) = grown xs ys start end n ordered same in
    let size : length (slice_range xs start end) ≡ end - start = omega (arith, ap length (kept xs ys start end ordered same), length-take {A = ℕ}, length-drop {A = ℕ}) in
    let front : take (end - start) (slice_range ys start (end + n)) ≡ slice_range xs start end = ap (take (end - start)) more ∙ take_at (slice_range xs start end) (take n (drop end ys)) (end - start) size in
    let both : length (slice_range ys start (end + n)) ≡ length (slice_range xs start end) + length (take n (drop end ys)) = ap length more ∙ length-append (slice_range xs start end) (take n (drop end ys)) in
    (omega (arith, both, size), rw front (omega (arith, is)))
