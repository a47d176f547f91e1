-- The event of a memory controller, as the kernel prints it, is read.
use Rattle.std.proofs.Common.{◌≡◌, ℕ, zero, suc, ◌+◌, ◌*◌, ◌-◌, ◌^◌, ◌<◌, ◌==◌, ◌&&◌, ◌||◌, Bool, true, false, not, nat_eq, List, [], ◌∷◌, ◌++◌, codes, decimal, drop, take, refl, sym, subst, ap, ◌∙◌, arith, append_assoc, Option, Some, None, if◌then◌else◌}
use Rattle.std.specs.Prelude.{is_some, unwrap_or, IfSome}
use Rattle.std.specs.Fmt.{digits}
use Rattle.std.specs.Int.{is_power_of_two}
use Rattle.std.specs.Int.RustNames.{count_ones}
use Rattle.std.specs.List.{ends_with, list_all, position_or_len}
use Rattle.std.proofs.lemmas.List.{take-append-drop}
use Rattle.std.proofs.lemmas.Slice.Eq.{bytes_eq-Decides}
use Rattle.std.specs.Option.{option_map_or}
use Rattle.std.specs.Str.{bytes_eq}
use Rattle.std.proofs.lemmas.Bool.Decides.{nat_tests}
use Rattle.std.proofs.lemmas.Nat.{ones_cat, pow_pos}
use Rattle.ras_klog.specs.Reading.{provided, read_then}
use Rattle.ras_script.specs.Number.{decimal_of, hexadecimal_of}
use Rattle.ras_script.specs.SplittingLaws.{Lacks}
use Rattle.bank_lines.specs.Kernel.{padded}
use Rattle.bank_lines.specs.LogHeads.{after, mark_place, up_to}
use Rattle.bank_lines.specs.Parts.{value_after}
use Rattle.bank_lines.proofs.KernelLemmas.{padded_lacks, padded_read}
use Rattle.bank_lines.proofs.LogTextLemmas.{after_is, up_to_is}
use Rattle.bank_lines.proofs.NumeralLemmas.{decimal_lacks, lack_both, literal_lacks}
use Rattle.block_lines.specs.Lines.{location_of}
use Rattle.block_lines.specs.declared.memory.ErrorLocation.{ErrorLocation}
use Rattle.block_lines.specs.declared.memory.MemoryError.{MemoryError}
use Rattle.event_lines.specs.Memory.{address_told, addresses_in, behind_controller, controller_error_of, controller_of, detail_in, firmware_mark, grain_mask, grain_of, kind_before, type_severity}
use Rattle.event_lines.specs.MemoryKernel.{IsMemory, PrintedMemory, before_more, controller_text, error_of_memory, grain_text, memory_front, message_text, number_before, places_text, printed_memory, severity_name}
use Rattle.event_lines.specs.Traced.{controller_event, found_memory, other_event}
use Rattle.event_lines.specs.declared.traced.LineEvent.TheVariants.{Absent, Unread}
use Rattle.event_lines.proofs.AerLemmas.{last_cut}
use Rattle.event_lines.proofs.ControllerLemmas.{HasNone, last_behind_mark, none_before, none_behind_space}
use Rattle.event_lines.proofs.KindLemmas.{kind_is_before}
use Rattle.event_lines.proofs.PlaceLemmas.{places_read}
use Rattle.event_lines.proofs.PlacedLemmas.{Stands, stands_behind}
use Rattle.event_lines.proofs.SectionEventLemmas.{all_below, and_left, and_right, below, is_read, read_is}

-- ---- the grain: a test of all 32

abbrev lacks_it : ℕ → List ℕ → Bool
lacks_it byte word = list_all (λ b. not (b == byte)) word

abbrev is_mask : Option ℕ → Option ℕ → Bool
is_mask None None = true
is_mask (Some a) (Some b) = a == b
is_mask a b = false

mask_is : (a b : Option ℕ) → is_mask a b ≡ true → a ≡ b
mask_is None None is = refl
mask_is None (Some b) is = absurd cc
mask_is (Some a) None is = absurd cc
mask_is (Some a) (Some b) is = let same : a ≡ b = grind (arith, nat_tests, is) in ap Some same

negated : (b : Bool) → not b ≡ true → b ≡ false
negated true is = absurd cc
negated false is = refl

abbrev pub mask_of_bits : ℕ → Option ℕ
mask_of_bits bits = if bits == 0 then None else Some (2 ^ 64 - 2 ^ bits)

abbrev last_word : List ℕ
last_word = codes "-2147483648"

-- each grain but the last is a decimal number
abbrev is_word : ℕ → Bool
is_word bits =
    bits == 31 || (not (bytes_eq (decimal (2 ^ bits)) last_word) && is_read (decimal_of (2 ^ 30) (decimal (2 ^ bits))) (2 ^ bits))

abbrev is_fine : ℕ → Bool
is_fine bits =
    is_word bits
    && (is_mask (grain_mask (2 ^ bits)) (mask_of_bits bits) && (lacks_it 32 (grain_text bits) && lacks_it 40 (grain_text bits)))

all_fine : all_below 32 is_fine ≡ true
unfolding digits
all_fine = refl

one_bit : (k : ℕ) → count_ones (2 ^ k) ≡ 1
unfolding count_ones
one_bit k =
    let whole : 2 ^ k ≡ 1 * 2 ^ k + 0 = omega arith in
    ap count_ones whole ∙ ones_cat k 1 0 (pow_pos k)

module _ (bits : ℕ) (small : bits < 32) where
  fine : is_fine bits ≡ true
  fine = below 32 bits is_fine all_fine small

  abbrev masked : Bool
  masked = is_mask (grain_mask (2 ^ bits)) (mask_of_bits bits)

  abbrev lacking : Bool
  lacking = lacks_it 32 (grain_text bits) && lacks_it 40 (grain_text bits)

  rest_fine : (masked && lacking) ≡ true
  rest_fine = and_right (is_word bits) (masked && lacking) fine

  pub grain_read : grain_of (grain_text bits) ≡ Some (2 ^ bits)
  grain_read = by (bits == 31) refl (and_left (is_word bits) (masked && lacking) fine)
    where
      by : (last : Bool) → (bits == 31) ≡ last
          → (last || (not (bytes_eq (decimal (2 ^ bits)) last_word) && is_read (decimal_of (2 ^ 30) (decimal (2 ^ bits))) (2 ^ bits))) ≡ true
          → grain_of (if last then last_word else decimal (2 ^ bits)) ≡ Some (2 ^ bits)
      by true is word =
          let same : 31 ≡ bits = grind (arith, nat_tests, is) in
          ap (λ (k : ℕ). Some (2 ^ k)) same
      by false is word =
          let other : not (bytes_eq (decimal (2 ^ bits)) last_word) ≡ true = and_left (not (bytes_eq (decimal (2 ^ bits)) last_word)) (is_read (decimal_of (2 ^ 30) (decimal (2 ^ bits))) (2 ^ bits)) word in
          let read : decimal_of (2 ^ 30) (decimal (2 ^ bits)) ≡ Some (2 ^ bits) =
          read_is (decimal_of (2 ^ 30) (decimal (2 ^ bits))) (2 ^ bits) (and_right (not (bytes_eq (decimal (2 ^ bits)) last_word)) (is_read (decimal_of (2 ^ 30) (decimal (2 ^ bits))) (2 ^ bits)) word) in
          let power : is_power_of_two (2 ^ bits) ≡ true = ap (λ (n : ℕ). n == 1) (one_bit bits) in
          ap (λ (same : Bool). if same then Some (2 ^ 31) else read_then (decimal_of (2 ^ 30) (decimal (2 ^ bits))) (λ grain. provided (is_power_of_two grain) (Some grain))) (negated (bytes_eq (decimal (2 ^ bits)) last_word) other)
          ∙ ap (λ (o : Option ℕ). read_then o (λ grain. provided (is_power_of_two grain) (Some grain))) read
          ∙ ap (λ (holds : Bool). provided holds (Some (2 ^ bits))) power

  pub mask_read : grain_mask (2 ^ bits) ≡ mask_of_bits bits
  mask_read = mask_is (grain_mask (2 ^ bits)) (mask_of_bits bits) (and_left masked lacking rest_fine)

  pub grain_lacks : Lacks 32 (grain_text bits) × Lacks 40 (grain_text bits)
  grain_lacks =
      let both : lacking ≡ true = and_right masked lacking rest_fine in (
        literal_lacks 32 (grain_text bits) (and_left (lacks_it 32 (grain_text bits)) (lacks_it 40 (grain_text bits)) both),
        literal_lacks 40 (grain_text bits) (and_right (lacks_it 32 (grain_text bits)) (lacks_it 40 (grain_text bits)) both),
      )

-- ---- the severity

pub severity_read : (severity : ℕ) → severity < 4 → type_severity (severity_name severity) ≡ severity
severity_read zero small = refl
severity_read (suc zero) small = refl
severity_read (suc (suc zero)) small = refl
severity_read (suc (suc (suc zero))) small = refl
severity_read (suc (suc (suc (suc n)))) small = absurd (omega arith)

pub severity_lacks : (severity : ℕ) → severity < 4 → Lacks 32 (severity_name severity)
severity_lacks zero small = literal_lacks 32 (codes "Uncorrected") refl
severity_lacks (suc zero) small = literal_lacks 32 (codes "Fatal") refl
severity_lacks (suc (suc zero)) small = literal_lacks 32 (codes "Corrected") refl
severity_lacks (suc (suc (suc zero))) small = literal_lacks 32 (codes "Info") refl
severity_lacks (suc (suc (suc (suc n)))) small = absurd (omega arith)

-- ---- the address

pub address_small : (o : Option ℕ) → IfSome o (λ n. (0 < n) × (n < 2 ^ 64)) → unwrap_or o 0 < 2 ^ 64
address_small None is = omega arith
address_small (Some n) is = is.1

pub address_read : (o : Option ℕ) → IfSome o (λ n. (0 < n) × (n < 2 ^ 64)) → address_told (unwrap_or o 0) ≡ o
address_read None is = refl
address_read (Some n) is =
    let above : 0 < n = is.0 in
    let other : (n == 0) ≡ false = grind (arith, nat_tests, above) in
    rw other refl

-- ---- no mark in what is in the parentheses

number_none : (name : List ℕ) (o : Option ℕ) (more : List ℕ) → Lacks 40 name → IfSome o (λ n. n < 2 ^ 16) → HasNone more → HasNone (number_before name o more)
number_none name None more lacks small none = none
number_none name (Some n) more lacks small none =
    let fits : n < 2 ^ 16 = small in
    none_before name (decimal n ++ before_more more) lacks
    (none_before (decimal n) (before_more more) (decimal_lacks 40 n (omega arith) (omega (arith, fits))) (by more none))
  where
    by : (more : List ℕ) → HasNone more → HasNone (before_more more)
    by [] none = refl
    by (b ∷ more) none = none_before (32 ∷ []) (b ∷ more) ((λ (e : ◌≡◌ {A = ℕ} 32 40). omega (arith, e)), tt) none

-- ---- what is in the parentheses

pub controller_at : (front controller : List ℕ) → behind_controller controller ≡ None
    → controller_of ((front ++ (codes " (mc:" ++ controller)) ++ codes ")") ≡ Some controller
controller_at front controller none =
    ap (λ (o : Option (List ℕ)). read_then o behind_controller) (last_cut 41 (front ++ (codes " (mc:" ++ controller)))
    ∙ last_behind_mark front controller none

-- a text that is after a byte is in the whole text too
stands_whole : (byte : ℕ) (text : List ℕ) → Stands firmware_mark (after byte text) → Stands firmware_mark text
stands_whole byte text stands =
    let k : ℕ = position_or_len (λ b. b == byte) text + 1 in
    subst (Stands firmware_mark) (take-append-drop k text) (stands_behind firmware_mark (take k text) (drop k text) stands)

-- the detail's name is in the parentheses
detail_stands : (controller places : List ℕ) → value_after firmware_mark (detail_in controller) ≡ Some places → Stands firmware_mark controller
detail_stands controller places is =
    stands_whole 32 controller (stands_whole 32 (after 32 controller)
    (stands_whole 32 (addresses_in controller) (stands_whole 32 (after 32 (addresses_in controller))
    (stands_whole 32 (after 32 (after 32 (addresses_in controller))) (begins (detail_in controller) is)))))
  where
    begins : (text : List ℕ) → value_after firmware_mark text ≡ Some places → Stands firmware_mark text
    begins text is = by (bytes_eq (take 15 text) firmware_mark) refl is
      where
        by : (same : Bool) → bytes_eq (take 15 text) firmware_mark ≡ same → (if same then Some (drop 15 text) else None) ≡ Some places → Stands firmware_mark text
        by true same is =
            let front : take 15 text ≡ firmware_mark = (bytes_eq-Decides (take 15 text) firmware_mark).0 same in
            let whole : firmware_mark ++ drop 15 text ≡ text = ap (λ (t : List ℕ). t ++ drop 15 text) (sym front) ∙ take-append-drop 15 text in
            subst (Stands firmware_mark) whole (record { place = 0; is = refl })
        by false same is = absurd cc

pub other_driver : (stamp : Option ℕ) (front controller : List ℕ) → behind_controller controller ≡ None
    → mark_place firmware_mark controller ≡ None
    → controller_event stamp ((front ++ (codes " (mc:" ++ controller)) ++ codes ")") ≡ Absent
other_driver stamp front controller none other =
    ap (λ (o : Option (List ℕ)). option_map_or (λ inside. option_map_or (λ places. found_memory stamp (controller_error_of text inside places)) (value_after firmware_mark (detail_in inside)) (other_event inside)) o Unread)
    (controller_at front controller none)
    ∙ by (value_after firmware_mark (detail_in controller)) refl
  where
    text : List ℕ
    text = (front ++ (codes " (mc:" ++ controller)) ++ codes ")"

    by : (o : Option (List ℕ)) → value_after firmware_mark (detail_in controller) ≡ o
        → option_map_or (λ places. found_memory stamp (controller_error_of text controller places)) o (other_event controller) ≡ Absent
    by None is = ap (λ (o : Option ℕ). if is_some o then Unread else Absent) other
    by (Some places) is = absurd (nowhere (sym other ∙ (detail_stands controller places is).is))
      where
        nowhere : None ≡ Some (detail_stands controller places is).place → ⊥
        nowhere is = cc

pub cut_event : (stamp : Option ℕ) (text : List ℕ) → ends_with nat_eq text (41 ∷ []) ≡ false → controller_event stamp text ≡ Unread
cut_event stamp text is = rw is refl

-- ---- what is read, part by part

pub controller_so : (text controller places told message digits word : List ℕ) (address grain severity : ℕ) (physical mask kind : Option ℕ) (location : ErrorLocation)
    → value_after (codes "1 ") text ≡ Some told → value_after (codes "error: ") (after 32 told) ≡ Some message
    → value_after (codes "address:0x") (up_to 32 (addresses_in controller)) ≡ Some digits → hexadecimal_of digits ≡ Some address
    → value_after (codes "grain:") (up_to 32 (after 32 (addresses_in controller))) ≡ Some word → grain_of word ≡ Some grain
    → type_severity (up_to 32 told) ≡ severity → address_told address ≡ physical → grain_mask grain ≡ mask
    → location_of places ≡ location → kind_before (codes " on ") message ≡ kind
    → controller_error_of text controller places ≡ Some (record { severity = severity; physical = physical; mask = mask; location = location; kind = kind })
controller_so text controller places told message digits word address grain severity physical mask kind location f1 f2 f3 f4 f5 f6 f7 f8 f9 f10 f11 =
    rw (f1, f2, f3, f4, f5, f6) (λ i. Some (record { severity = f7 i; physical = f8 i; mask = f9 i; location = f10 i; kind = f11 i }))

event_so : (stamp : Option ℕ) (text controller places : List ℕ) (error : Option MemoryError)
    → controller_of text ≡ Some controller → value_after (codes "APEI location: ") (detail_in controller) ≡ Some places
    → controller_error_of text controller places ≡ error → controller_event stamp text ≡ found_memory stamp error
event_so stamp text controller places error whole detail read = rw (whole, detail) (ap (found_memory stamp) read)

module _ (p : PrintedMemory) (is : IsMemory p) where
  abbrev places : List ℕ
  places = places_text p.location p.others

  abbrev address : ℕ
  address = unwrap_or p.address 0

  abbrev address_digits : List ℕ
  address_digits = padded 8 address

  abbrev grain : List ℕ
  grain = grain_text p.grain_bits

  abbrev detail : List ℕ
  detail = codes "APEI location: " ++ places

  abbrev syndromes : List ℕ
  syndromes = codes "syndrome:0x00000000" ++ 32 ∷ detail

  abbrev grains : List ℕ
  grains = (codes "grain:" ++ grain) ++ 32 ∷ syndromes

  abbrev addresses : List ℕ
  addresses = (codes "address:0x" ++ address_digits) ++ 32 ∷ grains

  abbrev layers : List ℕ
  layers = (codes "location:" ++ p.layers) ++ 32 ∷ addresses

  small : address < 2 ^ 64
  small = address_small p.address is.address

  space_not : ¬ (◌≡◌ {A = ℕ} 48 32)
  space_not e = omega (arith, e)

  paren_not : ¬ (◌≡◌ {A = ℕ} 48 40)
  paren_not e = omega (arith, e)

  address_lacks : Lacks 32 (codes "address:0x" ++ address_digits)
  address_lacks = lack_both 32 (codes "address:0x") address_digits (literal_lacks 32 (codes "address:0x") refl) (padded_lacks 32 8 address (omega arith) space_not small)

  grains_lack : Lacks 32 (codes "grain:" ++ grain)
  grains_lack = lack_both 32 (codes "grain:") grain (literal_lacks 32 (codes "grain:") refl) (grain_lacks p.grain_bits is.grain).0

  addresses_are : addresses_in (controller_text p) ≡ addresses
  addresses_are =
      ap (after 32) (after_is 32 (decimal p.controller) layers (decimal_lacks 32 p.controller (omega arith) (omega (arith, is.controller))))
      ∙ after_is 32 (codes "location:" ++ p.layers) addresses (lack_both 32 (codes "location:") p.layers (literal_lacks 32 (codes "location:") refl) is.layers_joined)

  grains_are : after 32 (addresses_in (controller_text p)) ≡ grains
  grains_are = ap (after 32) addresses_are ∙ after_is 32 (codes "address:0x" ++ address_digits) grains address_lacks

  detail_is : detail_in (controller_text p) ≡ detail
  detail_is =
      ap (λ (text : List ℕ). after 32 (after 32 text)) grains_are
      ∙ ap (after 32) (after_is 32 (codes "grain:" ++ grain) syndromes grains_lack)
      ∙ after_is 32 (codes "syndrome:0x00000000") detail (literal_lacks 32 (codes "syndrome:0x00000000") refl)

  places_none : HasNone places
  places_none =
      number_none (codes "node:") p.location.node (number_before (codes "card:") p.location.card (number_before (codes "module:") p.location.«module» p.others))
      (literal_lacks 40 (codes "node:") refl) is.places.location.node
      (number_none (codes "card:") p.location.card (number_before (codes "module:") p.location.«module» p.others)
      (literal_lacks 40 (codes "card:") refl) is.places.location.card
      (number_none (codes "module:") p.location.«module» p.others (literal_lacks 40 (codes "module:") refl) is.places.location.«module» is.no_mark))

  -- the text from the grain on
  abbrev masked_text : List ℕ
  masked_text = grain ++ (codes " syndrome:0x00000000 APEI location: " ++ places)

  abbrev addressed : List ℕ
  addressed = address_digits ++ (codes " grain:" ++ masked_text)

  masked_none : HasNone masked_text
  masked_none =
      none_before grain (codes " syndrome:0x00000000 APEI location: " ++ places) (grain_lacks p.grain_bits is.grain).1
      (none_before (codes " syndrome:0x00000000 APEI location: ") places (literal_lacks 40 (codes " syndrome:0x00000000 APEI location: ") refl) places_none)

  addressed_none : HasNone addressed
  addressed_none =
      none_before address_digits (codes " grain:" ++ masked_text) (padded_lacks 40 8 address (omega arith) paren_not small)
      (none_before (codes " grain:") masked_text (literal_lacks 40 (codes " grain:") refl) masked_none)

  no_mark : behind_controller (controller_text p) ≡ None
  no_mark =
      none_behind_space (controller_text p)
      (none_before (decimal p.controller) (codes " location:" ++ (p.layers ++ (codes " address:0x" ++ addressed))) (decimal_lacks 40 p.controller (omega arith) (omega (arith, is.controller)))
      (none_before (codes " location:") (p.layers ++ (codes " address:0x" ++ addressed)) (literal_lacks 40 (codes " location:") refl)
      (none_before p.layers (codes " address:0x" ++ addressed) is.layers_plain
      (none_before (codes " address:0x") addressed (literal_lacks 40 (codes " address:0x") refl) addressed_none))))

  controller_is : controller_of (printed_memory p) ≡ Some (controller_text p)
  controller_is = controller_at (memory_front p) (controller_text p) no_mark

  -- ---- the front

  abbrev name : List ℕ
  name = severity_name p.severity

  -- the text after the message
  abbrev ending : List ℕ
  ending = p.label ++ ((codes " (mc:" ++ controller_text p) ++ codes ")")

  abbrev message : List ℕ
  message = message_text p.kind ++ (codes " on " ++ ending)

  abbrev told : List ℕ
  told = name ++ 32 ∷ (codes "error: " ++ message)

  text_is : printed_memory p ≡ codes "1 " ++ told
  text_is =
      let end : List ℕ = (codes " (mc:" ++ controller_text p) ++ codes ")" in
      let labelled : List ℕ = codes " on " ++ p.label in
      let typed : List ℕ = codes " error: " ++ (message_text p.kind ++ labelled) in
      append_assoc (memory_front p) (codes " (mc:" ++ controller_text p) (codes ")")
      ∙ ap (λ (rest : List ℕ). codes "1 " ++ rest) (append_assoc name typed end)
      ∙ ap (λ (rest : List ℕ). codes "1 " ++ (name ++ (codes " error: " ++ rest))) (append_assoc (message_text p.kind) labelled end)

  error_read : controller_error_of (printed_memory p) (controller_text p) places ≡ Some (error_of_memory p)
  error_read =
      controller_so (printed_memory p) (controller_text p) places told message address_digits grain address (2 ^ p.grain_bits) p.severity
      p.address (mask_of_bits p.grain_bits) (error_of_memory p).kind p.location
      (ap (value_after (codes "1 ")) text_is)
      (ap (value_after (codes "error: ")) (after_is 32 name (codes "error: " ++ message) (severity_lacks p.severity is.severity)))
      (ap (λ (text : List ℕ). value_after (codes "address:0x") (up_to 32 text)) addresses_are
      ∙ ap (value_after (codes "address:0x")) (up_to_is 32 (codes "address:0x" ++ address_digits) grains address_lacks))
      (padded_read 8 address (omega arith) small)
      (ap (λ (text : List ℕ). value_after (codes "grain:") (up_to 32 text)) grains_are
      ∙ ap (value_after (codes "grain:")) (up_to_is 32 (codes "grain:" ++ grain) syndromes grains_lack))
      (grain_read p.grain_bits is.grain)
      (ap type_severity (up_to_is 32 name (codes "error: " ++ message) (severity_lacks p.severity is.severity)) ∙ severity_read p.severity is.severity)
      (address_read p.address is.address)
      (mask_read p.grain_bits is.grain)
      (places_read p.location p.others is.places)
      (kind_is_before p.kind ending)

  pub controller_read : (stamp : Option ℕ) → controller_event stamp (printed_memory p) ≡ found_memory stamp (Some (error_of_memory p))
  controller_read stamp =
      event_so stamp (printed_memory p) (controller_text p) places (Some (error_of_memory p))
      controller_is (ap (value_after (codes "APEI location: ")) detail_is) error_read
