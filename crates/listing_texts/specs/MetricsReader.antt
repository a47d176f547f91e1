-- A parser of samples in the text format of Prometheus, version 0.0.4. It reads one byte after the other, and knows
-- nothing of accounts. It ignores comments and empty lines. Of what the format allows it accepts this: a name, labels
-- in braces with a comma between each two, one space, and a whole number in decimal digits.
use Rattle.std.specs.Prelude.{ℕ, ◌<◌, ◌^◌, ◌==◌, ◌||◌, ◌&&◌, not, nat_le, Bool, false, IsTrue, Option, None, Some, List, [], ◌∷◌, ◌++◌, fold, if◌then◌else◌}
use Rattle.std.specs.List.{list_all}
use Rattle.std.specs.Str.Parse.{digits_value}
use Rattle.dimm_topology.specs.Labels.{Bytes}
use Rattle.listing_texts.specs.Metrics.{Sample}

-- a name, and the labels with their values that were read after it
pub record Named : Type 0 where
  pub name : Bytes
  pub labels : List (Bytes × Bytes)

-- the parser's position in a line
pub data Place : Type 0 where
  begin : Place
  comment : Place
  in_name : Bytes → Place
  in_label : Named → Bytes → Place
  behind_label : Named → Bytes → Place
  in_value : Named → Bytes → Bytes → Place
  behind_backslash : Named → Bytes → Bytes → Place
  behind_value : Named → Place
  behind_labels : Named → Place
  in_number : Named → Bytes → Place
  wrong : Place

-- Whether a byte is a digit; whether it may be in a name: a letter, a digit or `_`.
abbrev pub is_digit : ℕ → Bool
is_digit sign = nat_le 48 sign && nat_le sign 57

abbrev pub is_name_sign : ℕ → Bool
is_name_sign sign =
    (nat_le 97 sign && nat_le sign 122) || (nat_le 65 sign && nat_le sign 90) || is_digit sign || sign == 95

-- one more label, with its value
abbrev pub with_label : Named → Bytes → Bytes → Named
with_label named label value = record named { labels = named.labels ++ (label, value) ∷ [] }

-- the place after a byte of the line; the signs are `#` 35, `{` 123, `}` 125, `=` 61, `"` 34, `\` 92, `,` 44, a space
-- 32, and after a backslash an `n` 110 for a line feed 10
abbrev pub next : Place → ℕ → Place
next begin sign = if sign == 35 then comment else if is_name_sign sign then in_name (sign ∷ []) else wrong
next comment sign = comment
next (in_name name) sign =
    if is_name_sign sign then in_name (name ++ sign ∷ [])
    else if sign == 123 then in_label (record { name = name; labels = [] }) []
    else if sign == 32 then in_number (record { name = name; labels = [] }) []
    else wrong
next (in_label named label) sign =
    if is_name_sign sign then in_label named (label ++ sign ∷ [])
    else if sign == 61 then behind_label named label
    else wrong
next (behind_label named label) sign = if sign == 34 then in_value named label [] else wrong
next (in_value named label value) sign =
    if sign == 34 then behind_value (with_label named label value)
    else if sign == 92 then behind_backslash named label value
    else in_value named label (value ++ sign ∷ [])
next (behind_backslash named label value) sign =
    if sign == 34 || sign == 92 then in_value named label (value ++ sign ∷ [])
    else if sign == 110 then in_value named label (value ++ 10 ∷ [])
    else wrong
next (behind_value named) sign =
    if sign == 44 then in_label named [] else if sign == 125 then behind_labels named else wrong
next (behind_labels named) sign = if sign == 32 then in_number named [] else wrong
next (in_number named digits) sign = if is_digit sign then in_number named (digits ++ sign ∷ []) else wrong
next wrong sign = wrong

-- the samples of the earlier lines, and the parser's position in this line
pub record Reader : Type 0 where
  pub samples : List Sample
  pub place : Place

-- the parser after a line feed: a line is a comment, empty, or a sample whose number has a digit
abbrev pub with_line : List Sample → Place → Reader
with_line samples begin = record { samples = samples; place = begin }
with_line samples comment = record { samples = samples; place = begin }
with_line samples (in_number named (digit ∷ digits)) = record {
  samples = samples ++ record { name = named.name; labels = named.labels; number = digits_value 10 (digit ∷ digits) } ∷ [];
  place = begin;
}
with_line samples place = record { samples = samples; place = wrong }

abbrev pub read_byte : Reader → ℕ → Reader
read_byte reader sign =
    if sign == 10 then with_line reader.samples reader.place
    else record reader { place = next reader.place sign }

-- The samples of a text, if each of its lines is a sample, a comment or empty, and ends with a line feed.
abbrev pub samples_at : Reader → Option (List Sample)
samples_at reader = elim reader.place [ begin ↦ Some reader.samples | other ↦ None ]

abbrev pub read_samples : List ℕ → Option (List Sample)
read_samples text = samples_at (fold read_byte (record { samples = []; place = begin }) text)

-- Whether a text is a name, and whether a text has no line feed.
abbrev pub is_name : Bytes → Bool
is_name [] = false
is_name (sign ∷ signs) = list_all is_name_sign (sign ∷ signs)

abbrev pub is_in_line : Bytes → Bool
is_in_line text = list_all (λ sign. not (sign == 10)) text

-- A sample can be printed as a line: its names are names, no value of a label has a line feed, and its number has at
-- most 64 bits.
pub record IsSample (sample : Sample) : Type 0 where
  pub name : IsTrue (is_name sample.name)
  pub labels : IsTrue (list_all (λ pair. is_name pair.0 && is_in_line pair.1) sample.labels)
  pub number : sample.number < 2 ^ 64
