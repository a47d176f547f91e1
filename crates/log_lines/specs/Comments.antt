-- The comments of a filter, and the text of a line that one call can print.
use Rattle.std.specs.Prelude.{ℕ, ◌==◌, ◌&&◌, Bool, true, false, not, List, [], ◌∷◌, ◌++◌, codes, decimal, length, map, nat_lt, take, if◌then◌else◌}
use Rattle.std.specs.List.{list_any}
use Rattle.line_filters.specs.declared.feeding.TheConstants.{MOST_AT_ONCE}
use Rattle.log_lines.specs.declared.comments.TheConstants.{MOST_SHOWN}

-- a comment about the input of this number
abbrev pub comment : List ℕ → ℕ → List ℕ
comment name number = name ++ decimal number ++ 10 ∷ []

abbrev pub too_long_comment : ℕ → List ℕ
too_long_comment number = comment (codes "# too long ") number

abbrev pub cut_comment : ℕ → List ℕ
cut_comment number = comment (codes "# cut ") number

abbrev pub cut_said : ℕ → Bool → List ℕ
cut_said number cut = if cut then cut_comment number else []

abbrev pub gap_comment : ℕ → List ℕ
gap_comment number = comment (codes "# gap ") number

abbrev pub extlog_comment : ℕ → List ℕ
extlog_comment number = comment (codes "# extlog ") number

-- ---- what a comment shows of a line

-- a byte, or `?` if it isn't printable ASCII
abbrev pub shown_byte : ℕ → ℕ
shown_byte byte = if nat_lt 31 byte && nat_lt byte 127 then byte else 63

-- the line's beginning
abbrev pub shown_of : List ℕ → List ℕ
shown_of line = map shown_byte (take MOST_SHOWN line)

-- A text with this at the end of each of its comments. Whether a line begins here, and if not, whether it is a
-- comment.
abbrev pub commented : List ℕ → Bool → Bool → List ℕ → List ℕ
commented shown begins inside [] = []
commented shown begins inside (b ∷ text) =
    let remark = if begins then b == 35 else inside in
    (if b == 10 && remark then 32 ∷ shown else []) ++ b ∷ commented shown (b == 10) remark text

abbrev pub with_shown : List ℕ → List ℕ → List ℕ
with_shown shown text = commented shown true false text

-- whether a text may have a comment: no other line of the filters has the sign of one
abbrev pub has_comment : List ℕ → Bool
has_comment text = list_any (λ b. b == 35) text

-- ---- what one call can print

-- what stands for a text that is left out
abbrev pub left_out_comment : ℕ → List ℕ → List ℕ
left_out_comment number shown = codes "# left out " ++ decimal number ++ 32 ∷ shown ++ 10 ∷ []

abbrev pub exceeds_call : List ℕ → Bool
exceeds_call text = nat_lt MOST_AT_ONCE (length text)

-- whether a text is printed as it is
abbrev pub is_plain : List ℕ → Bool
is_plain text = not (has_comment text) && not (exceeds_call text)

-- a text of at most this many bytes
abbrev pub limited : ℕ → ℕ → List ℕ → List ℕ → List ℕ
limited most number shown text = if nat_lt most (length text) then left_out_comment number shown else text

-- The text about a line: its comments show the line's beginning, unless the text would be too long with it.
abbrev pub fitted : ℕ → List ℕ → List ℕ → List ℕ
fitted number line text =
    let shown = shown_of line in
    let full = with_shown shown text in
    if exceeds_call full then limited MOST_AT_ONCE number shown text else full
