-- What the laws of ranges and texts speak of.
use Rattle.std.specs.Prelude.{◌≡◌, ◌⊎◌, Bool, ℕ, ◌+◌, ◌<◌, ⊤, List, [], ◌∷◌, ◌++◌, length, map, Option, None, Some}
use Rattle.std.specs.List.{AllByRecursion}
use Rattle.ras_script.specs.Inputs.{Input, line, long}
use Rattle.line_filters.specs.declared.feeding.TheConstants.{MOST_AT_ONCE}
use Rattle.log_lines.specs.Dimms.{Part, Saying, block_at, dimm_parts, dimms_begun, part_text, range_text, slot_line}
use Rattle.log_lines.specs.LogWithDimms.{log_dimms_begun, log_sayings}
use Rattle.log_lines.specs.TraceFeed.{trace_begun}
use Rattle.log_lines.specs.TraceWithDimms.{trace_sayings}
use Rattle.log_lines.specs.declared.borders.Borders.{Borders}
use Rattle.log_lines.specs.declared.dimms.ToldRange.{ToldRange}

-- ---- the parts that are printed

abbrev pub said_in_trace : ℕ → ℕ → ℕ → Bool → List Input → List Saying
said_in_trace boot cap began drivers inputs = trace_sayings (trace_begun boot cap began drivers) inputs

abbrev pub said_in_log : ℕ → ℕ → ℕ → Borders → List Input → List Saying
said_in_log boot cap began borders inputs =
    log_sayings (log_dimms_begun boot cap began borders) inputs

-- the parts that are printed at the inputs of a trace, and of a log
abbrev pub trace_parts : ℕ → ℕ → ℕ → Bool → List Input → List Part
trace_parts boot cap began drivers inputs = dimm_parts dimms_begun (said_in_trace boot cap began drivers inputs)

abbrev pub log_parts : ℕ → ℕ → ℕ → Borders → List Input → List Part
log_parts boot cap began borders inputs = dimm_parts dimms_begun (said_in_log boot cap began borders inputs)

-- ---- no error is lost, doubled or changed

-- a part without its range
abbrev pub plain_part : Part → List ℕ
plain_part part = part.released ++ part.said

-- one call can't print a range, what waits and a text
abbrev pub DoesNotFit : List ℕ → List ℕ → Type 0
DoesNotFit held text =
    (range : Option ToldRange) × (MOST_AT_ONCE < length (range_text range) + length held + length text)

-- What is printed at each of these texts, if `held` waits before the first and `rest` behind the last: what waits and
-- the text; or what waits, while the text waits from now on; or only the text, if it doesn't fit, and what waits goes
-- on waiting.
abbrev pub PrintsTexts : List ℕ → List (List ℕ) → List (List ℕ) → List ℕ → Type 0
PrintsTexts held [] [] rest = rest ≡ held
PrintsTexts held [] (out ∷ outs) rest = ⊥
PrintsTexts held (text ∷ texts) [] rest = ⊥
PrintsTexts held (text ∷ texts) (out ∷ outs) rest =
    ((out ≡ held ++ text) × PrintsTexts [] texts outs rest)
    ⊎ (((out ≡ held) × PrintsTexts text texts outs rest)
    ⊎ ((out ≡ text) × (DoesNotFit held text × PrintsTexts held texts outs rest)))

-- What is printed are the texts of a feed, each once, and ranges: each part is a range or nothing and then what the
-- texts ask for, and at the end what still waits comes before the feed's last text.
pub record ChangesNoError (texts : List (List ℕ)) (last : List ℕ) (parts : List Part) (printed : List (List ℕ))
    (end : List ℕ) : Type 0 where
  pub rest : List ℕ
  pub parts_are : printed ≡ map part_text parts
  pub each : PrintsTexts [] texts (map plain_part parts) rest
  pub end_is : end ≡ rest ++ last

-- ---- without slots

-- an input that isn't a line of a slot
abbrev pub HasNoSlot : Input → Type 0
HasNoSlot (line bytes) = slot_line bytes ≡ None
HasNoSlot long = ⊤

-- ---- ranges

abbrev pub before_ranges : Option ToldRange → List ToldRange → List ToldRange
before_ranges None ranges = ranges
before_ranges (Some range) ranges = range ∷ ranges

-- the ranges of parts, in order
abbrev pub told_ranges : List Part → List ToldRange
told_ranges [] = []
told_ranges (part ∷ parts) = before_ranges part.range (told_ranges parts)

-- this holds of one of the sayings
abbrev pub IsOfOne : (Saying → Type 0) → List Saying → Type 0
IsOfOne P [] = ⊥
IsOfOne P (s ∷ sayings) = P s ⊎ IsOfOne P sayings

-- a line told the range's address with a DIMM's label, and a line of the heading has the range's name with this label
pub record IsToldRange (sayings : List Saying) (range : ToldRange) : Type 0 where
  pub label : List ℕ
  pub told : IsOfOne (λ s. s.told ≡ Some (range.address, label)) sayings
  pub slot : IsOfOne (λ s. s.slot ≡ Some (record { name = range.name; label = label })) sayings

-- no two ranges have an address in common
abbrev pub AreApart : List ToldRange → Type 0
AreApart [] = ⊤
AreApart (range ∷ ranges) =
    AllByRecursion (λ (other : ToldRange). ¬ (block_at other.address ≡ block_at range.address)) ranges × AreApart ranges
