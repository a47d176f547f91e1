-- The lines that the kernel prints of a report are read.
use Rattle.std.proofs.Common.{◌≡◌, ℕ, zero, suc, ◌+◌, ◌-◌, ◌^◌, ◌<◌, ◌≤◌, ◌==◌, nat_lt, Bool, true, false, List, [], ◌∷◌, ◌++◌, codes, decimal, length, map, take, drop, refl, sym, ap, ◌∙◌, arith, append_assoc, append-nil, length-append, lit<, Option, Some, None}
use Rattle.std.specs.Prelude.{IfSome, if◌then◌else◌}
use Rattle.std.specs.List.{AllByRecursion, position_or_len}
use Rattle.std.specs.Option.{option_map, option_map_or}
use Rattle.std.proofs.Math.Seq.{drop-append-add, take-append_seam}
use Rattle.std.proofs.lemmas.Bool.Decides.{nat_tests}
use Rattle.std.proofs.lemmas.Fmt.{decimal_nonempty}
use Rattle.ras_klog.specs.Reading.{read_then}
use Rattle.ras_script.proofs.WrittenNumberLemmas.{decimal_read}
use Rattle.ras_script.specs.Number.{decimal_of}
use Rattle.ras_script.specs.SplittingLaws.{Lacks}
use Rattle.bank_lines.specs.Kernel.{register}
use Rattle.bank_lines.specs.LogHeads.{after, is_own, up_to, without_spaces}
use Rattle.bank_lines.specs.Parts.{value_after}
use Rattle.bank_lines.proofs.KernelLemmas.{register_read}
use Rattle.bank_lines.proofs.NumeralLemmas.{decimal_lacks}
use Rattle.block_lines.specs.Kernel.{IsPrinted, PrintedError, error_of, error_text, error_texts, errors_texts, event_text, field_texts, kind_text, location_text, optional, printed_line, severity_word, start_text, time_name, unless_empty, with_number}
use Rattle.block_lines.specs.Lines.{after_named, location_of, number_named, report_line_of, section_said, severity_of}
use Rattle.block_lines.specs.LogLines.{error_mark, marked_line_of, own_after, own_by, own_line_of}
use Rattle.block_lines.specs.Reading.{ErrorsRead, errors_read, line_read, texts_read}
use Rattle.block_lines.specs.Reports.{blank_error, section_errors}
use Rattle.block_lines.specs.declared.log_line.Marking.TheVariants.{Foreign, Own}
use Rattle.block_lines.specs.declared.log_line.OwnLine.{OwnLine}
use Rattle.block_lines.specs.declared.memory.ErrorLocation.{ErrorLocation}
use Rattle.block_lines.specs.declared.memory.MemoryError.{MemoryError}
use Rattle.block_lines.specs.declared.memory.MemoryField.TheVariants.{Physical, Mask, At, Kind}
use Rattle.block_lines.specs.declared.report.OpenSection.{OpenSection}
use Rattle.block_lines.specs.declared.report.OpenSection.TheVariants.{Absent, Begun, Memory, LeftOut}
use Rattle.block_lines.specs.declared.report_line.ReportLine.{ReportLine}
use Rattle.block_lines.specs.declared.report_line.ReportLine.TheVariants as lines

-- ---- a text before and after a byte

first_byte : (byte : ℕ) (word rest : List ℕ) → Lacks byte word → position_or_len (λ b. b == byte) (word ++ byte ∷ rest) ≡ length word
first_byte byte [] rest lacks =
    let same : (byte == byte) ≡ true = grind (arith, nat_tests) in
    rw same refl
first_byte byte (b ∷ word) rest lacks =
    let other : (b == byte) ≡ false = grind (arith, nat_tests, lacks.0) in
    let one : 1 + length word ≡ suc (length word) = omega arith in
    rw other (ap (λ (n : ℕ). 1 + n) (first_byte byte word rest lacks.1) ∙ one)

pub front_is : (byte : ℕ) (word rest : List ℕ) → Lacks byte word → up_to byte (word ++ byte ∷ rest) ≡ word
front_is byte word rest lacks =
    ap (λ (n : ℕ). take n (word ++ byte ∷ rest)) (first_byte byte word rest lacks) ∙ take-append_seam word (byte ∷ rest)

rest_is : (byte : ℕ) (word rest : List ℕ) → Lacks byte word → after byte (word ++ byte ∷ rest) ≡ rest
rest_is byte word rest lacks =
    ap (λ (n : ℕ). drop (n + 1) (word ++ byte ∷ rest)) (first_byte byte word rest lacks) ∙ drop-append-add word (byte ∷ rest) 1

no_spaces : (word rest : List ℕ) → 0 < length word → Lacks 32 word → without_spaces (word ++ rest) ≡ word ++ rest
no_spaces [] rest some lacks = absurd (omega arith)
no_spaces (d ∷ word) rest some lacks =
    let other : (d == 32) ≡ false = grind (arith, nat_tests, lacks.0) in
    rw other refl

-- ---- lines

-- what a text after a report's number says
abbrev own_said : ℕ → List ℕ → OwnLine
own_said number text = record { report = number; line = report_line_of text }

pub mark_read : (number : ℕ) (text : List ℕ) → number < 2 ^ 64 → marked_line_of (decimal number ++ 125 ∷ (error_mark ++ text)) ≡ Some (own_said number text)
mark_read number text small =
    let marked : List ℕ = error_mark ++ text in
    let word : List ℕ = decimal number in
    let behind : List ℕ = word ++ 125 ∷ marked in
    let digits : Lacks 125 word = decimal_lacks 125 number (omega arith) small in
    ap (λ (front : List ℕ). read_then (decimal_of (2 ^ 64 - 1) front) (λ n. option_map (own_said n) (value_after error_mark (after 125 behind)))) (front_is 125 word marked digits)
    ∙ ap (λ (o : Option ℕ). read_then o (λ n. option_map (own_said n) (value_after error_mark (after 125 behind)))) (decimal_read (2 ^ 64 - 1) number (omega arith) (lit< tt))
    ∙ ap (λ (t : List ℕ). option_map (own_said number) (value_after error_mark t)) (rest_is 125 word marked digits)

pub line_is_own : (head : List ℕ) (number : ℕ) (text : List ℕ) → is_own head ≡ true → Lacks 123 head → number < 2 ^ 64
    → own_line_of (printed_line head number text) ≡ Own (record { report = number; line = report_line_of text })
line_is_own head number text own lacks small =
    let behind : List ℕ = decimal number ++ 125 ∷ (error_mark ++ text) in
    ap (λ (front : List ℕ). own_after front (after 123 (head ++ 123 ∷ behind))) (front_is 123 head behind lacks)
    ∙ ap (λ (t : List ℕ). own_after head t) (rest_is 123 head behind lacks)
    ∙ ap (λ (o : Option OwnLine). own_by head behind o) (mark_read number text small)
    ∙ ap (λ (holds : Bool). if holds then Own (own_said number text) else Foreign) own

severity_back : (n : ℕ) → n < 4 → severity_of (severity_word n) ≡ n
severity_back zero small = refl
severity_back (suc zero) small = refl
severity_back (suc (suc zero)) small = refl
severity_back (suc (suc (suc zero))) small = refl
severity_back (suc (suc (suc (suc n)))) small = absurd (omega arith)

pub start_read : (source : ℕ) → source < 2 ^ 16 → report_line_of (start_text source) ≡ lines.Start source
start_read source small =
    ap (λ (o : Option ℕ). option_map_or (λ s. lines.Start s) o lines.Unread) (decimal_read 65535 source (omega arith) (omega arith))

pub event_read : (severity : ℕ) → severity < 4 → report_line_of (event_text severity) ≡ lines.Event severity
event_read severity small = ap (λ (s : ℕ). lines.Event s) (severity_back severity small)

pub error_read : (number severity : ℕ) → number < 2 ^ 64 → severity < 4 → report_line_of (error_text number severity) ≡ lines.Error severity
error_read number severity fits small =
    let word : List ℕ = decimal number in
    let rest : List ℕ = codes " type: " ++ severity_word severity in
    let lacks : Lacks 44 word = decimal_lacks 44 number (omega arith) fits in
    ap (λ (w : List ℕ). option_map_or (λ s. lines.Error s) (read_then (decimal_of (2 ^ 64 - 1) w) (λ n. option_map severity_of (value_after (codes " type: ") (after 44 (word ++ 44 ∷ rest))))) lines.Unread) (front_is 44 word rest lacks)
    ∙ ap (λ (o : Option ℕ). option_map_or (λ s. lines.Error s) (read_then o (λ n. option_map severity_of (value_after (codes " type: ") (after 44 (word ++ 44 ∷ rest))))) lines.Unread) (decimal_read (2 ^ 64 - 1) number (omega arith) (lit< tt))
    ∙ ap (λ (w : List ℕ). option_map_or (λ s. lines.Error s) (option_map severity_of (value_after (codes " type: ") w)) lines.Unread) (rest_is 44 word rest lacks)
    ∙ ap (λ (s : ℕ). lines.Error s) (severity_back severity small)

pub physical_read : (n : ℕ) → n < 2 ^ 64 → report_line_of (codes "  physical_address: 0x" ++ register n) ≡ lines.Field (Some (Physical n))
physical_read n small = ap (λ (o : Option ℕ). lines.Field (option_map (λ m. Physical m) o)) (register_read n small)

pub mask_read : (n : ℕ) → n < 2 ^ 64 → report_line_of (codes "  physical_address_mask: 0x" ++ register n) ≡ lines.Field (Some (Mask n))
mask_read n small = ap (λ (o : Option ℕ). lines.Field (option_map (λ m. Mask m) o)) (register_read n small)

pub kind_read : (name : List ℕ) (n : ℕ) → n < 2 ^ 8 → report_line_of (codes "  error_type: " ++ kind_text name n) ≡ lines.Field (Some (Kind n))
kind_read name n small =
    ap (λ (w : List ℕ). lines.Field (option_map (λ k. Kind k) (decimal_of 255 w))) (front_is 44 (decimal n) name (decimal_lacks 44 n (omega arith) (omega arith)))
    ∙ ap (λ (o : Option ℕ). lines.Field (option_map (λ k. Kind k) o)) (decimal_read 255 n (omega arith) (omega arith))

-- ---- the place

-- a number after its name is read, and the text after it is found
named_is : (name : List ℕ) → ((x : List ℕ) → value_after name (name ++ x) ≡ Some x) → (o : Option ℕ) (more : List ℕ)
    → IfSome o (λ n. n < 2 ^ 16) → value_after name more ≡ None
    → (number_named name (with_number name o more) ≡ o) × (after_named name (with_number name o more) ≡ more)
named_is name has None more small none = (
  ap (λ (v : Option (List ℕ)). read_then v (λ value. decimal_of 65535 (up_to 32 (without_spaces value)))) none,
  ap (λ (v : Option (List ℕ)). option_map_or (λ value. after 32 (without_spaces value)) v more) none,
)
named_is name has (Some n) more small none =
    let fits : n < 2 ^ 16 = small in
    let word : List ℕ = decimal n in
    let lacks : Lacks 32 word = decimal_lacks 32 n (omega arith) (omega (arith, fits)) in
    let plain : without_spaces (word ++ 32 ∷ more) ≡ word ++ 32 ∷ more = no_spaces word (32 ∷ more) (decimal_nonempty n (omega (arith, fits))) lacks in (
      ap (λ (v : Option (List ℕ)). read_then v (λ value. decimal_of 65535 (up_to 32 (without_spaces value)))) (has (word ++ 32 ∷ more))
          ∙ ap (λ (t : List ℕ). decimal_of 65535 (up_to 32 t)) plain
          ∙ ap (λ (t : List ℕ). decimal_of 65535 t) (front_is 32 word more lacks)
          ∙ decimal_read 65535 n (omega (arith, fits)) (omega arith),
      ap (λ (v : Option (List ℕ)). option_map_or (λ value. after 32 (without_spaces value)) v (name ++ (word ++ 32 ∷ more))) (has (word ++ 32 ∷ more))
          ∙ ap (λ (t : List ℕ). after 32 t) plain
          ∙ rest_is 32 word more lacks,
    )

no_node : (card number : Option ℕ) (others : List ℕ) → value_after (codes "node:") others ≡ None
    → value_after (codes "node:") (with_number (codes "card:") card (with_number (codes "module:") number others)) ≡ None
no_node (Some c) number others none = refl
no_node None (Some m) others none = refl
no_node None None others none = none

no_card : (number : Option ℕ) (others : List ℕ) → value_after (codes "card:") others ≡ None
    → value_after (codes "card:") (with_number (codes "module:") number others) ≡ None
no_card (Some m) others none = refl
no_card None others none = none

module _ (p : PrintedError) (h : IsPrinted p) where
  abbrev modules : List ℕ
  modules = with_number (codes "module:") p.«module» p.others

  abbrev cards : List ℕ
  cards = with_number (codes "card:") p.card modules

  abbrev text : List ℕ
  text = with_number (codes "node:") p.node cards

  abbrev place : ErrorLocation
  place = record { node = p.node; card = p.card; «module» = p.«module» }

  location_read : location_of text ≡ place
  location_read =
      let n = named_is (codes "node:") (λ x. refl) p.node cards h.node (no_node p.card p.«module» p.others h.others.node) in
      let c = named_is (codes "card:") (λ x. refl) p.card modules h.card (no_card p.«module» p.others h.others.card) in
      let m = named_is (codes "module:") (λ x. refl) p.«module» p.others h.«module» h.others.«module» in
      let card : number_named (codes "card:") (after_named (codes "node:") text) ≡ p.card =
      ap (λ (t : List ℕ). number_named (codes "card:") t) n.1 ∙ c.0 in
      let number : number_named (codes "module:") (after_named (codes "card:") (after_named (codes "node:") text)) ≡ p.«module» =
      ap (λ (t : List ℕ). number_named (codes "module:") (after_named (codes "card:") t)) n.1
      ∙ ap (λ (t : List ℕ). number_named (codes "module:") t) c.1 ∙ m.0 in
      λ i. record { node = n.0 i; card = card i; «module» = number i }

-- ---- what a report's errors are by then

-- these errors ended, and this section is open
abbrev at : List MemoryError → OpenSection → ErrorsRead
at es section = record { ended = es; section = section }

-- the errors read after one more text
told : (given : ℕ) (es : List MemoryError) (section : OpenSection) (text : List ℕ) (line : ReportLine) (more : List (List ℕ)) → report_line_of text ≡ line
    → texts_read given (at es section) (text ∷ more) ≡ texts_read given (line_read given (at es section) line) more
told given es section words line more is = ap (λ (l : ReportLine). texts_read given (line_read given (at es section) l) more) is

-- a text that says nothing changes nothing, if it is printed
passed : (given : ℕ) (es : List MemoryError) (section : OpenSection) (name : List ℕ) → ((t : List ℕ) → report_line_of (name ++ t) ≡ lines.Other)
    → (o : Option (List ℕ)) (more : List (List ℕ)) → texts_read given (at es section) (optional name o more) ≡ texts_read given (at es section) more
passed given es section name other None more = refl
passed given es section name other (Some t) more = told given es section (name ++ t) lines.Other more (other t)

module _ (given : ℕ) (es : List MemoryError) (s : ℕ) where
  -- a memory error of which these fields are known
  abbrev known : Option ℕ → Option ℕ → ErrorLocation → Option ℕ → ErrorsRead
  known physical mask location kind = at es (Memory (record { severity = s; physical = physical; mask = mask; location = location; kind = kind }))

  abbrev nowhere : ErrorLocation
  nowhere = record { node = None; card = None; «module» = None }

  physical_told : (o : Option ℕ) (more : List (List ℕ)) → IfSome o (λ n. n < 2 ^ 64)
      → texts_read given (known None None nowhere None) (optional (codes "  physical_address: 0x") (option_map register o) more) ≡ texts_read given (known o None nowhere None) more
  physical_told None more small = refl
  physical_told (Some n) more small =
      told given es (Memory (blank_error s)) (codes "  physical_address: 0x" ++ register n) (lines.Field (Some (Physical n))) more (physical_read n small)

  mask_told : (physical o : Option ℕ) (more : List (List ℕ)) → IfSome o (λ n. n < 2 ^ 64)
      → texts_read given (known physical None nowhere None) (optional (codes "  physical_address_mask: 0x") (option_map register o) more) ≡ texts_read given (known physical o nowhere None) more
  mask_told physical None more small = refl
  mask_told physical (Some n) more small =
      told given es (Memory (record { severity = s; physical = physical; mask = None; location = nowhere; kind = None })) (codes "  physical_address_mask: 0x" ++ register n) (lines.Field (Some (Mask n))) more (mask_read n small)

  kind_told : (physical mask : Option ℕ) (location : ErrorLocation) (name : List ℕ) (o : Option ℕ) (more : List (List ℕ)) → IfSome o (λ n. n < 2 ^ 8)
      → texts_read given (known physical mask location None) (optional (codes "  error_type: ") (option_map (kind_text name) o) more) ≡ texts_read given (known physical mask location o) more
  kind_told physical mask location name None more small = refl
  kind_told physical mask location name (Some n) more small =
      told given es (Memory (record { severity = s; physical = physical; mask = mask; location = location; kind = None })) (codes "  error_type: " ++ kind_text name n) (lines.Field (Some (Kind n))) more (kind_read name n small)

  -- the location is read, if one of its numbers is known; other text in its place says nothing
  place_told : (physical mask node card number : Option ℕ) (others : List ℕ) (more : List (List ℕ))
      → location_of (location_text node card number others) ≡ record { node = node; card = card; «module» = number }
      → section_said others ≡ lines.Other
      → texts_read given (known physical mask nowhere None) (unless_empty (location_text node card number others) more)
      ≡ texts_read given (known physical mask (record { node = node; card = card; «module» = number }) None) more
  place_told physical mask (Some n) card number others more is silent =
      told given es (Memory (record { severity = s; physical = physical; mask = mask; location = nowhere; kind = None })) (codes "  " ++ location_text (Some n) card number others) (lines.Field (Some (At (record { node = Some n; card = card; «module» = number })))) more
      (ap (λ (l : ErrorLocation). lines.Field (Some (At l))) is)
  place_told physical mask None (Some c) number others more is silent =
      told given es (Memory (record { severity = s; physical = physical; mask = mask; location = nowhere; kind = None })) (codes "  " ++ location_text None (Some c) number others) (lines.Field (Some (At (record { node = None; card = Some c; «module» = number })))) more
      (ap (λ (l : ErrorLocation). lines.Field (Some (At l))) is)
  place_told physical mask None None (Some m) others more is silent =
      told given es (Memory (record { severity = s; physical = physical; mask = mask; location = nowhere; kind = None })) (codes "  " ++ location_text None None (Some m) others) (lines.Field (Some (At (record { node = None; card = None; «module» = Some m })))) more
      (ap (λ (l : ErrorLocation). lines.Field (Some (At l))) is)
  place_told physical mask None None None [] more is silent = refl
  place_told physical mask None None None (b ∷ others) more is silent =
      told given es (Memory (record { severity = s; physical = physical; mask = mask; location = nowhere; kind = None })) (codes "  " ++ b ∷ others) lines.Other more silent

-- the fields of a memory section are read
fields_told : (given : ℕ) (es : List MemoryError) (p : PrintedError) (more : List (List ℕ)) → IsPrinted p
    → texts_read given (at es (Memory (blank_error p.severity))) (field_texts p more) ≡ texts_read given (at es (Memory (error_of p))) more
fields_told given es p more h =
    let last : List (List ℕ) = optional (codes "  DIMM location: ") p.slot more in
    let kinds : List (List ℕ) = optional (codes "  error_type: ") (option_map (kind_text p.kind_name) p.kind) last in
    let places : List (List ℕ) = unless_empty (location_text p.node p.card p.«module» p.others) kinds in
    let masks : List (List ℕ) = optional (codes "  physical_address_mask: 0x") (option_map register p.mask) places in
    let physicals : List (List ℕ) = optional (codes "  physical_address: 0x") (option_map register p.physical) masks in
    let at_place : ErrorLocation = record { node = p.node; card = p.card; «module» = p.«module» } in
    passed given es (Memory (blank_error p.severity)) (codes "   error_status: ") (λ t. refl) p.status physicals
    ∙ physical_told given es p.severity p.physical masks h.physical
    ∙ mask_told given es p.severity p.physical p.mask places h.mask
    ∙ place_told given es p.severity p.physical p.mask p.node p.card p.«module» p.others kinds (location_read p h) h.others.silent
    ∙ kind_told given es p.severity p.physical p.mask at_place p.kind_name p.kind last h.kind
    ∙ passed given es (Memory (error_of p)) (codes "  DIMM location: ") (λ t. refl) p.slot more

-- the time of an error says nothing
pub time_passed : (is_precise : Bool) (t : List ℕ) → report_line_of (time_name is_precise ++ t) ≡ lines.Other
time_passed true t = refl
time_passed false t = refl

-- the texts of an error are read, after fewer errors than a report stores
error_told : (given : ℕ) (es : List MemoryError) (section : OpenSection) (number : ℕ) (p : PrintedError) (more : List (List ℕ)) → IsPrinted p → number < 2 ^ 64
    → length (es ++ section_errors section) < 12
    → texts_read given (at es section) (error_texts number p more) ≡ texts_read given (at (es ++ section_errors section) (Memory (error_of p))) more
error_told given es section number p more h fits few =
    let ended : List MemoryError = es ++ section_errors section in
    let fields : List (List ℕ) = field_texts p more in
    let typed : List (List ℕ) = codes "  section_type: memory error" ∷ fields in
    let named : List (List ℕ) = optional (codes " fru_text: ") p.unit_text typed in
    let units : List (List ℕ) = optional (codes " fru_id: ") p.unit_id named in
    let room : nat_lt (length ended + 0) 12 ≡ true = grind (arith, nat_tests, few) in
    passed given es section (time_name p.is_precise) (time_passed p.is_precise) p.time (error_text number p.severity ∷ units)
    ∙ told given es section (error_text number p.severity) (lines.Error p.severity) units (error_read number p.severity fits h.severity)
    ∙ passed given ended (Begun p.severity) (codes " fru_id: ") (λ t. refl) p.unit_id named
    ∙ passed given ended (Begun p.severity) (codes " fru_text: ") (λ t. refl) p.unit_text typed
    ∙ ap (λ (es : List MemoryError). texts_read given (at es (if nat_lt (length ended + 0) 12 then Memory (blank_error p.severity) else LeftOut)) fields) (append-nil ended)
    ∙ ap (λ (b : Bool). texts_read given (at ended (if b then Memory (blank_error p.severity) else LeftOut)) fields) room
    ∙ fields_told given ended p more h

-- the texts of all errors are read
errors_told : (given : ℕ) (es : List MemoryError) (section : OpenSection) (number : ℕ) (ps : List PrintedError) → AllByRecursion IsPrinted ps
    → number + length ps < 2 ^ 64 → length (es ++ section_errors section) + length ps ≤ 12
    → errors_read (texts_read given (at es section) (errors_texts number ps)) ≡ (es ++ section_errors section) ++ map error_of ps
errors_told given es section number [] all fits few = sym (append-nil (es ++ section_errors section))
errors_told given es section number (p ∷ ps) all fits few =
    let ended : List MemoryError = es ++ section_errors section in
    let longer : length (ended ++ error_of p ∷ []) ≡ length ended + 1 = length-append ended (error_of p ∷ []) in
    ap errors_read (error_told given es section number p (errors_texts (number + 1) ps) all.0 (omega (arith, fits)) (omega (arith, few)))
    ∙ errors_told given ended (Memory (error_of p)) (number + 1) ps all.1 (omega (arith, fits)) (omega (arith, few, longer))
    ∙ append_assoc ended (error_of p ∷ []) (map error_of ps)

pub errors_all_read : (given : ℕ) (ps : List PrintedError) → AllByRecursion IsPrinted ps → length ps ≤ 12
    → errors_read (texts_read given (record { ended = []; section = Absent }) (errors_texts 0 ps)) ≡ map error_of ps
errors_all_read given ps all few = errors_told given [] Absent 0 ps all (omega (arith, few)) (omega (arith, few))
