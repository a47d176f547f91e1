-- Which DIMM the kernel names, and what is printed for it: a line `range` before the error that waits for the name.
use Rattle.std.specs.Prelude.{ℕ, ◌+◌, ◌*◌, ◌/◌, ◌==◌, ◌&&◌, Bool, true, false, not, List, [], ◌∷◌, ◌++◌, codes, drop, is_none, length, nat_lt, Option, None, Some, if◌then◌else◌}
use Rattle.std.specs.List.{find, list_any}
use Rattle.std.specs.Option.{option_map}
use Rattle.std.specs.Str.{bytes_eq}
use Rattle.bank_lines.specs.LogHeads.{after, begins, up_to}
use Rattle.dimm_topology.specs.Labels.{is_label}
use Rattle.dimm_topology.specs.declared.row.Row.TheVariants.{Range}
use Rattle.ras_script.specs.LineLaws.{line_text}
use Rattle.ras_script.specs.declared.line.Line.TheVariants.{Row}
use Rattle.log_lines.specs.Comments.{exceeds_call}
use Rattle.log_lines.specs.Slots.{SlotLine}
use Rattle.log_lines.specs.declared.dimms.ToldRange.{ToldRange}
use Rattle.log_lines.specs.declared.dimms.TheConstants.{MOST_HELD, MOST_RANGES, MOST_SLOTS}

-- ---- the heading

abbrev pub slot_in : List ℕ → Option SlotLine
slot_in text =
    if is_label (up_to 32 text) && nat_lt 0 (length (after 32 text))
    then Some (record { name = up_to 32 text; label = after 32 text }) else None

-- the line `# slot <name> <label>`: the name of a module in the script, and what the kernel calls the DIMM there
abbrev pub slot_line : List ℕ → Option SlotLine
slot_line bytes = if begins bytes (codes "# slot ") then slot_in (drop 7 bytes) else None

-- What a filter knows of DIMMs: the slots, whether only lines of slots came so far, the blocks of 64 bytes that have a
-- range, and the text that waits.
pub record DimmsState : Type 0 where
  pub slots : List SlotLine
  pub heading : Bool
  pub ranged : List ℕ
  pub held : List ℕ

abbrev pub dimms_begun : DimmsState
dimms_begun = record { slots = []; heading = true; ranged = []; held = [] }

-- with one more slot, if there is room for it
abbrev pub with_slot : DimmsState → SlotLine → DimmsState
with_slot dimms slot =
    if nat_lt (length dimms.slots) MOST_SLOTS then record dimms { slots = dimms.slots ++ slot ∷ [] } else dimms

-- The first line that isn't a slot's ends the heading.
abbrev pub in_heading : DimmsState → Option SlotLine → DimmsState
in_heading dimms (Some slot) = with_slot dimms slot
in_heading dimms None = record dimms { heading = false }

abbrev pub heard : DimmsState → Option SlotLine → DimmsState
heard dimms slot = if dimms.heading then in_heading dimms slot else dimms

-- whether the heading is over, and had slots
abbrev pub listens : DimmsState → Bool
listens dimms = not dimms.heading && nat_lt 0 (length dimms.slots)

-- ---- the range of a DIMM

-- the first slot that the kernel calls so
abbrev pub slot_called : List SlotLine → List ℕ → Option SlotLine
slot_called slots label = find (λ (slot : SlotLine). bytes_eq slot.label label) slots

-- the block of 64 bytes that has this address
abbrev pub block_at : ℕ → ℕ
block_at address = address / 64

-- whether an address may get a range: there are slots, there is room, and its block has no range
abbrev pub takes_range : DimmsState → ℕ → Bool
takes_range dimms address =
    listens dimms && nat_lt (length dimms.ranged) MOST_RANGES
    && not (list_any (λ block. block == block_at address) dimms.ranged)

-- the range for an address and what the kernel calls the DIMM there
abbrev pub range_told : DimmsState → Option (ℕ × List ℕ) → Option ToldRange
range_told dimms None = None
range_told dimms (Some told) =
    if takes_range dimms told.0
    then option_map (λ (slot : SlotLine). record { name = slot.name; address = told.0 })
    (slot_called dimms.slots told.1)
    else None

-- the line `range` of a module's name and the 64 bytes of the block
abbrev pub range_line : ToldRange → List ℕ
range_line range =
    line_text (Row (Range range.name (block_at range.address * 64) (block_at range.address * 64 + 63)))

abbrev pub range_text : Option ToldRange → List ℕ
range_text None = []
range_text (Some range) = range_line range ++ 10 ∷ []

abbrev pub ranged_with : List ℕ → Option ToldRange → List ℕ
ranged_with ranged None = ranged
ranged_with ranged (Some range) = ranged ++ block_at range.address ∷ []

-- ---- what is printed

-- what is printed at an input: a range, the text that waited, and the text of the input
pub record Part : Type 0 where
  pub range : Option ToldRange
  pub released : List ℕ
  pub said : List ℕ

abbrev pub part_text : Part → List ℕ
part_text part = range_text part.range ++ part.released ++ part.said

-- whether a text waits: its machine check may get a range, and it isn't too long
abbrev pub stays_held : DimmsState → List ℕ → Bool → Bool
stays_held dimms said waits = waits && listens dimms && not (nat_lt MOST_HELD (length said))

-- whether a text is printed alone: no text waits, no line told a DIMM, and the text doesn't wait
abbrev pub is_alone : DimmsState → Option (ℕ × List ℕ) → List ℕ → Bool → Bool
is_alone dimms told said waits = length dimms.held == 0 && (is_none told && not (stays_held dimms said waits))

abbrev pub whole_part : DimmsState → Option (ℕ × List ℕ) → List ℕ → Bool → Part
whole_part dimms told said waits = record {
  range = range_told dimms told;
  released = dimms.held;
  said = if stays_held dimms said waits then [] else said;
}

-- If one call can't print all of it, only the text of the input is printed, and what waits goes on waiting.
abbrev pub part_passed : DimmsState → Option (ℕ × List ℕ) → List ℕ → Bool → Part
part_passed dimms told said waits =
    if exceeds_call (part_text (whole_part dimms told said waits))
    then record { range = None; released = []; said = said }
    else whole_part dimms told said waits

abbrev pub with_whole : DimmsState → Option (ℕ × List ℕ) → List ℕ → Bool → DimmsState
with_whole dimms told said waits = record dimms {
  ranged = ranged_with dimms.ranged (range_told dimms told);
  held = if stays_held dimms said waits then said else [];
}

abbrev pub after_part : DimmsState → Option (ℕ × List ℕ) → List ℕ → Bool → DimmsState
after_part dimms told said waits =
    if exceeds_call (part_text (whole_part dimms told said waits)) then dimms else with_whole dimms told said waits

-- ---- over inputs

-- an input as the DIMMs see it: the slot that it describes, the address and the DIMM that the kernel tells, the text of
-- the input, and whether the text has a machine check that may get a range
pub record Saying : Type 0 where
  pub slot : Option SlotLine
  pub told : Option (ℕ × List ℕ)
  pub said : List ℕ
  pub waits : Bool

abbrev pub part_at : DimmsState → Saying → Part
part_at dimms s = part_passed (heard dimms s.slot) s.told s.said s.waits

abbrev pub dimms_after : DimmsState → Saying → DimmsState
dimms_after dimms s = after_part (heard dimms s.slot) s.told s.said s.waits

abbrev pub dimm_parts : DimmsState → List Saying → List Part
dimm_parts dimms [] = []
dimm_parts dimms (s ∷ sayings) = part_at dimms s ∷ dimm_parts (dimms_after dimms s) sayings

abbrev pub dimms_over : DimmsState → List Saying → DimmsState
dimms_over dimms [] = dimms
dimms_over dimms (s ∷ sayings) = dimms_over (dimms_after dimms s) sayings

-- the text at the end: what waits, and the last text
abbrev pub dimms_last : DimmsState → List ℕ → List ℕ
dimms_last dimms last = if exceeds_call (dimms.held ++ last) then last else dimms.held ++ last
