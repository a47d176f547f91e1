-- What Linux prints of a report of memory errors: `__ghes_print_estatus` of drivers/acpi/apei/ghes.c, and
-- `cper_estatus_print`, `cper_estatus_print_section`, `cper_print_mem` and `cper_mem_err_location` of
-- drivers/firmware/efi/cper.c, of versions 6.1.192 and 6.12.117. A text follows the prefix of a line.
use Rattle.std.specs.Prelude.{◌≡◌, ℕ, ◌+◌, ◌^◌, ◌<◌, ◌==◌, Bool, List, [], ◌∷◌, ◌++◌, codes, decimal, Option, None, Some, IfSome, if◌then◌else◌}
use Rattle.std.specs.Option.{option_map}
use Rattle.bank_lines.specs.Kernel.{register}
use Rattle.bank_lines.specs.Parts.{value_after}
use Rattle.block_lines.specs.Lines.{section_said, source_words}
use Rattle.block_lines.specs.LogLines.{error_mark}
use Rattle.block_lines.specs.declared.memory.MemoryError.{MemoryError}
use Rattle.block_lines.specs.declared.report_line.ReportLine.TheVariants.{Other}

-- A memory error as the kernel prints it: the error that is read, and what is skipped, in words.
pub record PrintedError : Type 0 where
  pub severity : ℕ
  pub physical : Option ℕ
  pub mask : Option ℕ
  pub node : Option ℕ
  pub card : Option ℕ
  pub «module» : Option ℕ
  pub kind : Option ℕ
  pub is_precise : Bool
  pub time : Option (List ℕ)
  pub unit_id : Option (List ℕ)
  pub unit_text : Option (List ℕ)
  pub status : Option (List ℕ)
  -- what follows node, card and module: rank, bank, row ..
  pub others : List ℕ
  pub kind_name : List ℕ
  pub slot : Option (List ℕ)

-- the error that is read
abbrev pub error_of : PrintedError → MemoryError
error_of p = record {
  severity = p.severity;
  physical = p.physical;
  mask = p.mask;
  location = record { node = p.node; card = p.card; «module» = p.«module» };
  kind = p.kind;
}

-- ---- texts

-- `cper_severity_strs`
abbrev pub severity_word : ℕ → List ℕ
severity_word severity =
    if severity == 0 then codes "recoverable"
    else if severity == 1 then codes "fatal"
    else if severity == 2 then codes "corrected"
    else codes "info"

abbrev pub start_text : ℕ → List ℕ
start_text source = source_words ++ decimal source

abbrev pub event_text : ℕ → List ℕ
event_text severity = codes "event severity: " ++ severity_word severity

abbrev pub error_text : ℕ → ℕ → List ℕ
error_text number severity =
    codes " Error " ++ (decimal number ++ 44 ∷ (codes " type: " ++ severity_word severity))

-- `<number>, <words>`
abbrev pub kind_text : List ℕ → ℕ → List ℕ
kind_text name kind = decimal kind ++ 44 ∷ name

-- a number after its name, if the number is known, and more text after it
abbrev pub with_number : List ℕ → Option ℕ → List ℕ → List ℕ
with_number name None more = more
with_number name (Some n) more = name ++ (decimal n ++ 32 ∷ more)

abbrev pub location_text : Option ℕ → Option ℕ → Option ℕ → List ℕ → List ℕ
location_text node card number others =
    with_number (codes "node:") node (with_number (codes "card:") card (with_number (codes "module:") number others))

-- ---- a section

-- the name of a section's time stamp
abbrev pub time_name : Bool → List ℕ
time_name is_precise = if is_precise then codes " precise tstamp: " else codes " imprecise tstamp: "

-- a text after its name, if it is printed, and more texts after it
abbrev pub optional : List ℕ → Option (List ℕ) → List (List ℕ) → List (List ℕ)
optional name None more = more
optional name (Some text) more = (name ++ text) ∷ more

-- the text of the location, if any of it is known, and more texts after it
abbrev pub unless_empty : List ℕ → List (List ℕ) → List (List ℕ)
unless_empty [] more = more
unless_empty (b ∷ text) more = (codes "  " ++ b ∷ text) ∷ more

-- the texts of the fields of a memory section, and more after them
abbrev pub field_texts : PrintedError → List (List ℕ) → List (List ℕ)
field_texts p more =
    optional (codes "   error_status: ") p.status (
    optional (codes "  physical_address: 0x") (option_map register p.physical) (
    optional (codes "  physical_address_mask: 0x") (option_map register p.mask) (
    unless_empty (location_text p.node p.card p.«module» p.others) (
    optional (codes "  error_type: ") (option_map (kind_text p.kind_name) p.kind) (
    optional (codes "  DIMM location: ") p.slot more)))))

-- the texts of the error with this number, and more after them
abbrev pub error_texts : ℕ → PrintedError → List (List ℕ) → List (List ℕ)
error_texts number p more =
    optional (time_name p.is_precise) p.time (
    error_text number p.severity ∷
    optional (codes " fru_id: ") p.unit_id (
    optional (codes " fru_text: ") p.unit_text (
    codes "  section_type: memory error" ∷ field_texts p more)))

-- the texts of errors, from this number on
abbrev pub errors_texts : ℕ → List PrintedError → List (List ℕ)
errors_texts number [] = []
errors_texts number (p ∷ ps) = error_texts number p (errors_texts (number + 1) ps)

-- ---- what is in range

-- The text after the location's first three numbers begins with none of their names, and says nothing by itself.
pub record AreOthers (others : List ℕ) : Type 0 where
  pub node : value_after (codes "node:") others ≡ None
  pub card : value_after (codes "card:") others ≡ None
  pub «module» : value_after (codes "module:") others ≡ None
  pub silent : section_said others ≡ Other

-- the numbers of an error fit their types
pub record IsPrinted (p : PrintedError) : Type 0 where
  pub severity : p.severity < 4
  pub physical : IfSome p.physical (λ n. n < 2 ^ 64)
  pub mask : IfSome p.mask (λ n. n < 2 ^ 64)
  pub node : IfSome p.node (λ n. n < 2 ^ 16)
  pub card : IfSome p.card (λ n. n < 2 ^ 16)
  pub «module» : IfSome p.«module» (λ n. n < 2 ^ 16)
  pub kind : IfSome p.kind (λ n. n < 2 ^ 8)
  pub others : AreOthers p.others

-- ---- a line

-- the line of the report with this number, after a head
abbrev pub printed_line : List ℕ → ℕ → List ℕ → List ℕ
printed_line head number text = head ++ 123 ∷ (decimal number ++ 125 ∷ (error_mark ++ text))
