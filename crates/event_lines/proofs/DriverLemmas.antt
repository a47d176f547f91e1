-- The event of any driver of a memory controller, as the kernel prints it, is read.
use Rattle.std.proofs.Common.{◌≡◌, ℕ, zero, suc, ◌+◌, ◌^◌, ◌<◌, ◌==◌, ◌&&◌, Bool, true, false, nat_eq, List, [], ◌∷◌, ◌++◌, codes, decimal, take, length, refl, ap, ◌∙◌, arith, append_assoc, Option, Some, None, if◌then◌else◌}
use Rattle.std.specs.Prelude.{not, unwrap_or, IfSome}
use Rattle.std.specs.Cmp.Lexicographic.{pointwise}
use Rattle.std.specs.Fmt.{digits}
use Rattle.std.specs.List.{list_all, starts_with}
use Rattle.std.specs.Option.{option_map, option_map_or}
use Rattle.std.proofs.Math.Seq.{take-append_seam}
use Rattle.std.proofs.lemmas.Bool.Decides.{nat_tests}
use Rattle.ras_script.proofs.WrittenNumberLemmas.{decimal_read}
use Rattle.ras_klog.specs.Reading.{read_then}
use Rattle.ras_script.specs.Number.{decimal_of, hexadecimal_of}
use Rattle.ras_script.specs.SplittingLaws.{Lacks}
use Rattle.bank_lines.specs.Kernel.{padded}
use Rattle.bank_lines.specs.LogHeads.{after, mark_place, up_to}
use Rattle.bank_lines.specs.Parts.{value_after}
use Rattle.bank_lines.proofs.KernelLemmas.{padded_lacks, padded_read}
use Rattle.bank_lines.proofs.LogTextLemmas.{after_is, up_to_is}
use Rattle.bank_lines.proofs.NumeralLemmas.{decimal_lacks, lack_both, literal_lacks}
use Rattle.block_lines.specs.declared.memory.ErrorLocation.{ErrorLocation}
use Rattle.block_lines.specs.declared.memory.MemoryError.{MemoryError}
use Rattle.event_lines.specs.DimmTold.{address_in}
use Rattle.event_lines.specs.Driver.{before_on, driver_error_of, driver_place, lacks_place, message_of, place_told, placed_at}
use Rattle.event_lines.specs.DriverKernel.{IsDriver, PrintedDriver, driver_front, driver_inside, error_of_driver, layer_text, layers_text, printed_driver}
use Rattle.event_lines.specs.Memory.{address_told, addresses_in, behind_controller, controller_error_of, controller_of, firmware_mark, kind_before, kind_named, type_severity}
use Rattle.event_lines.specs.MemoryKernel.{before_more, grain_text, severity_name}
use Rattle.event_lines.specs.Traced.{controller_event}
use Rattle.event_lines.specs.declared.traced.LineEvent.TheVariants.{Absent}
use Rattle.event_lines.proofs.ControllerLemmas.{HasNone, none_before, none_behind_space}
use Rattle.event_lines.proofs.MemoryLemmas.{address_read, address_small, controller_at, controller_so, grain_lacks, grain_read, mask_of_bits, mask_read, other_driver, severity_lacks, severity_read}
use Rattle.event_lines.proofs.SectionEventLemmas.{all_below, below}

and_false : (a : Bool) → (a && false) ≡ false
and_false true = refl
and_false false = refl

-- ---- the message

-- a text that doesn't begin with three bytes doesn't begin with more
and_more : (a b c d : Bool) → (a && (b && (c && true))) ≡ false → (a && (b && (c && d))) ≡ false
and_more true true true d is = absurd cc
and_more true true false d is = refl
and_more true false c d is = refl
and_more false b c d is = refl

no_more : (a b : Bool) → (a && (b && false)) ≡ false
no_more a b = ap (λ (rest : Bool). a && rest) (and_false b) ∙ and_false a

-- the text ` on `, and the message's ` on`
abbrev on : List ℕ
on = codes " on "

-- not here, and not later
record OnNone (b : ℕ) (message : List ℕ) : Type 0 where
  here : starts_with nat_eq (b ∷ message) (codes " on") ≡ false
  later : mark_place (codes " on") message ≡ None

on_none : (b : ℕ) (message : List ℕ) → mark_place (codes " on") (b ∷ message) ≡ None → OnNone b message
on_none b message none = by (starts_with nat_eq (b ∷ message) (codes " on")) refl (mark_place (codes " on") message) refl none
  where
    by : (starts : Bool) → starts_with nat_eq (b ∷ message) (codes " on") ≡ starts → (o : Option ℕ) → mark_place (codes " on") message ≡ o
        → (if starts then Some 0 else option_map (λ place. place + 1) o) ≡ None → OnNone b message
    by true starts o place none = absurd cc
    by false starts None place none = record { here = starts; later = place }
    by false starts (Some p) place none = absurd cc

not_here : (b : ℕ) (message rest : List ℕ) → starts_with nat_eq (b ∷ message) (codes " on") ≡ false
    → starts_with nat_eq (b ∷ (message ++ (on ++ rest))) on ≡ false
not_here b [] rest none = and_false (nat_eq 32 b)
not_here b (c ∷ []) rest none = no_more (nat_eq 32 b) (nat_eq 111 c)
not_here b (c ∷ d ∷ message) rest none =
    and_more (nat_eq 32 b) (nat_eq 111 c) (nat_eq 110 d) (pointwise nat_eq (32 ∷ []) (take 1 (message ++ (on ++ rest)))) none

pub on_first : (message rest : List ℕ) → mark_place (codes " on") message ≡ None → mark_place on (message ++ (on ++ rest)) ≡ Some (length message)
on_first [] rest none = refl
on_first (b ∷ message) rest none =
    let parts : OnNone b message = on_none b message none in
    let next : length message + 1 ≡ length (b ∷ message) = omega arith in
    ap (λ (starts : Bool). if starts then Some 0 else option_map (λ place. place + 1) (mark_place on (message ++ (on ++ rest)))) (not_here b message rest parts.here)
    ∙ ap (option_map (λ place. place + 1)) (on_first message rest parts.later)
    ∙ ap Some next

-- the text after `error: `
abbrev message_rest : List ℕ → List ℕ → List ℕ
message_rest [] ending = codes "on " ++ ending
message_rest (b ∷ message) ending = (b ∷ message) ++ (on ++ ending)

-- no type's name begins as a message that is empty goes on
empty_named : (place : ℕ) (ending : List ℕ) → kind_named (take place (codes "on " ++ ending)) ≡ None
empty_named zero ending = refl
empty_named (suc n) ending = refl

kind_is : (message ending : List ℕ) → mark_place (codes " on") message ≡ None → kind_before on (message_rest message ending) ≡ kind_named message
kind_is [] ending none = by (mark_place on (codes "on " ++ ending))
  where
    by : (o : Option ℕ) → option_map_or (λ place. kind_named (take place (codes "on " ++ ending))) o None ≡ None
    by None = refl
    by (Some place) = empty_named place ending
kind_is (b ∷ message) ending none =
    let whole : List ℕ = (b ∷ message) ++ (on ++ ending) in
    ap (λ (o : Option ℕ). option_map_or (λ place. kind_named (take place whole)) o None) (on_first (b ∷ message) ending none)
    ∙ ap kind_named (take-append_seam (b ∷ message) (on ++ ending))

-- an empty message isn't one that lacks a place
empty_placed : (place : ℕ) (ending : List ℕ) → lacks_place (take place (codes "on " ++ ending)) ≡ false
empty_placed zero ending = refl
empty_placed (suc n) ending = refl

lacks_is : (message ending : List ℕ) → mark_place (codes " on") message ≡ None → lacks_place (before_on (message_rest message ending)) ≡ lacks_place message
lacks_is [] ending none = by (mark_place on (codes "on " ++ ending))
  where
    by : (o : Option ℕ) → lacks_place (option_map_or (λ place. take place (codes "on " ++ ending)) o (codes "on " ++ ending)) ≡ false
    by None = refl
    by (Some place) = empty_placed place ending
lacks_is (b ∷ message) ending none =
    let whole : List ℕ = (b ∷ message) ++ (on ++ ending) in
    ap (λ (o : Option ℕ). lacks_place (option_map_or (λ place. take place whole) o whole)) (on_first (b ∷ message) ending none)
    ∙ ap lacks_place (take-append_seam (b ∷ message) (on ++ ending))

message_is : (message ending : List ℕ) → value_after (codes "error: ") (codes "error:" ++ (before_more message ++ (on ++ ending))) ≡ Some (message_rest message ending)
message_is [] ending = refl
message_is (b ∷ message) ending = refl

-- ---- the layers

layer_small : (o : Option ℕ) → IfSome o (λ n. n < 2 ^ 7) → (byte : ℕ) → Lacks byte (codes "-1") → ((n : ℕ) → n < 2 ^ 64 → Lacks byte (decimal n)) → Lacks byte (layer_text o)
layer_small None small byte none some = none
layer_small (Some n) small byte none some = let fits : n < 2 ^ 7 = small in some n (omega (arith, fits))

layer_read : (o : Option ℕ) → IfSome o (λ n. n < 2 ^ 7) → decimal_of 65535 (layer_text o) ≡ o
layer_read None small = refl
layer_read (Some n) small = let fits : n < 2 ^ 7 = small in decimal_read 65535 n (omega (arith, fits)) (omega arith)

-- ---- no name of the firmware's detail

-- a text doesn't begin with the name's second letter
abbrev goes_on : List ℕ → Bool
goes_on [] = false
goes_on (b ∷ text) = nat_eq 80 b

record NotFirmware (text : List ℕ) : Type 0 where
  first : goes_on text ≡ false
  none : mark_place firmware_mark text ≡ None

not_begun : (b : ℕ) (text : List ℕ) → goes_on text ≡ false → starts_with nat_eq (b ∷ text) firmware_mark ≡ false
not_begun b [] other = and_false (nat_eq 65 b)
not_begun b (c ∷ text) other =
    ap (λ (is : Bool). nat_eq 65 b && (is && pointwise nat_eq (codes "EI location: ") (take 13 text))) other ∙ and_false (nat_eq 65 b)

-- a text without the second letter in front adds no such name
not_added : (front text : List ℕ) → Lacks 80 front → NotFirmware text → NotFirmware (front ++ text)
not_added [] text lacks plain = plain
not_added (b ∷ front) text lacks plain =
    let rest : NotFirmware (front ++ text) = not_added front text lacks.1 plain in record {
      first = grind (arith, nat_tests, lacks.0);
      none =
          ap (λ (starts : Bool). if starts then Some 0 else option_map (λ place. place + 1) (mark_place firmware_mark (front ++ text))) (not_begun b (front ++ text) rest.first)
          ∙ ap (option_map (λ place. place + 1)) rest.none;
    }

detail_not : (detail : List ℕ) → mark_place firmware_mark detail ≡ None → NotFirmware (before_more detail)
detail_not [] none = record { first = refl; none = refl }
detail_not (b ∷ detail) none = record { first = refl; none = ap (option_map (λ place. place + 1)) none }

detail_none : (detail : List ℕ) → HasNone detail → HasNone (before_more detail)
detail_none [] none = refl
detail_none (b ∷ detail) none = none_before (32 ∷ []) (b ∷ detail) ((λ (e : ◌≡◌ {A = ℕ} 32 40). omega (arith, e)), tt) none

-- a grain has no such letter: a test of all 32
abbrev is_plain : ℕ → Bool
is_plain bits = list_all (λ b. not (b == 80)) (grain_text bits)

all_plain : all_below 32 is_plain ≡ true
unfolding digits
all_plain = refl

grain_plain : (bits : ℕ) → bits < 32 → Lacks 80 (grain_text bits)
grain_plain bits small = literal_lacks 80 (grain_text bits) (below 32 bits is_plain all_plain small)

-- ---- what is read, part by part

pub driver_so : (text controller layers : List ℕ) (error : MemoryError) (place : ErrorLocation) → controller_of text ≡ Some controller
    → value_after (codes "location:") (up_to 32 (after 32 controller)) ≡ Some layers → controller_error_of text controller [] ≡ Some error
    → place_told text (up_to 32 controller) layers ≡ place → driver_error_of text ≡ Some (placed_at place error)
driver_so text controller layers error place f1 f2 f3 f4 = rw (f1, f2, f3) (λ i. Some (placed_at (f4 i) error))

module _ (p : PrintedDriver) (is : IsDriver p) where
  abbrev address : ℕ
  address = unwrap_or p.address 0

  abbrev address_digits : List ℕ
  address_digits = padded 8 address

  abbrev syndrome_digits : List ℕ
  syndrome_digits = padded 8 p.syndrome

  abbrev grain : List ℕ
  grain = grain_text p.grain_bits

  abbrev number : List ℕ
  number = decimal p.controller

  abbrev numbers : List ℕ
  numbers = layers_text p

  abbrev syndromes : List ℕ
  syndromes = codes "syndrome:0x" ++ (syndrome_digits ++ before_more p.detail)

  abbrev grains : List ℕ
  grains = (codes "grain:" ++ grain) ++ 32 ∷ syndromes

  abbrev addresses : List ℕ
  addresses = (codes "address:0x" ++ address_digits) ++ 32 ∷ grains

  abbrev layers : List ℕ
  layers = (codes "location:" ++ numbers) ++ 32 ∷ addresses

  small : address < 2 ^ 64
  small = address_small p.address is.address

  number_small : p.controller < 2 ^ 64
  number_small = omega (arith, is.controller)

  space_not : ¬ (◌≡◌ {A = ℕ} 48 32)
  space_not e = omega (arith, e)

  paren_not : ¬ (◌≡◌ {A = ℕ} 48 40)
  paren_not e = omega (arith, e)

  letter_not : ¬ (◌≡◌ {A = ℕ} 48 80)
  letter_not e = omega (arith, e)

  -- the layers lack each byte that neither a number nor `-1` nor a colon has
  numbers_lack : (byte : ℕ) → Lacks byte (codes "-1") → ¬ (58 ≡ byte) → ((n : ℕ) → n < 2 ^ 64 → Lacks byte (decimal n)) → Lacks byte numbers
  numbers_lack byte none other some =
      lack_both byte (layer_text p.top) (58 ∷ (layer_text p.middle ++ 58 ∷ layer_text p.low)) (layer_small p.top is.top byte none some)
      (other, lack_both byte (layer_text p.middle) (58 ∷ layer_text p.low) (layer_small p.middle is.middle byte none some) (other, layer_small p.low is.low byte none some))

  numbers_joined : Lacks 32 numbers
  numbers_joined = numbers_lack 32 (literal_lacks 32 (codes "-1") refl) (λ (e : ◌≡◌ {A = ℕ} 58 32). omega (arith, e)) (λ n few. decimal_lacks 32 n (omega arith) few)

  numbers_plain : Lacks 40 numbers
  numbers_plain = numbers_lack 40 (literal_lacks 40 (codes "-1") refl) (λ (e : ◌≡◌ {A = ℕ} 58 40). omega (arith, e)) (λ n few. decimal_lacks 40 n (omega arith) few)

  numbers_other : Lacks 80 numbers
  numbers_other = numbers_lack 80 (literal_lacks 80 (codes "-1") refl) (λ (e : ◌≡◌ {A = ℕ} 58 80). omega (arith, e)) (λ n few. decimal_lacks 80 n (omega arith) few)

  number_lacks : Lacks 32 number
  number_lacks = decimal_lacks 32 p.controller (omega arith) number_small

  layers_lack : Lacks 32 (codes "location:" ++ numbers)
  layers_lack = lack_both 32 (codes "location:") numbers (literal_lacks 32 (codes "location:") refl) numbers_joined

  address_lacks : Lacks 32 (codes "address:0x" ++ address_digits)
  address_lacks = lack_both 32 (codes "address:0x") address_digits (literal_lacks 32 (codes "address:0x") refl) (padded_lacks 32 8 address (omega arith) space_not small)

  grains_lack : Lacks 32 (codes "grain:" ++ grain)
  grains_lack = lack_both 32 (codes "grain:") grain (literal_lacks 32 (codes "grain:") refl) (grain_lacks p.grain_bits is.grain).0

  -- ---- where the parts are

  layers_are : after 32 (driver_inside p) ≡ layers
  layers_are = after_is 32 number layers number_lacks

  addresses_are : addresses_in (driver_inside p) ≡ addresses
  addresses_are = ap (after 32) layers_are ∙ after_is 32 (codes "location:" ++ numbers) addresses layers_lack

  pub address_is : address_in (driver_inside p) ≡ p.address
  address_is =
      ap (λ (text : List ℕ). read_then (value_after (codes "address:0x") (up_to 32 text)) (λ digits. read_then (hexadecimal_of digits) address_told)) addresses_are
      ∙ ap (λ (word : List ℕ). read_then (value_after (codes "address:0x") word) (λ digits. read_then (hexadecimal_of digits) address_told))
      (up_to_is 32 (codes "address:0x" ++ address_digits) grains address_lacks)
      ∙ ap (λ (o : Option ℕ). read_then o address_told) (padded_read 8 address (omega arith) small)
      ∙ address_read p.address is.address

  grains_are : after 32 (addresses_in (driver_inside p)) ≡ grains
  grains_are = ap (after 32) addresses_are ∙ after_is 32 (codes "address:0x" ++ address_digits) grains address_lacks

  -- ---- no mark in what is in the parentheses

  pub no_mark : behind_controller (driver_inside p) ≡ None
  no_mark =
      none_behind_space (driver_inside p)
      (none_before number (32 ∷ layers) (decimal_lacks 40 p.controller (omega arith) number_small)
      (none_before (codes " location:") (numbers ++ 32 ∷ addresses) (literal_lacks 40 (codes " location:") refl)
      (none_before numbers (32 ∷ addresses) numbers_plain
      (none_before (codes " address:0x") (address_digits ++ 32 ∷ grains) (literal_lacks 40 (codes " address:0x") refl)
      (none_before address_digits (32 ∷ grains) (padded_lacks 40 8 address (omega arith) paren_not small)
      (none_before (codes " grain:") (grain ++ 32 ∷ syndromes) (literal_lacks 40 (codes " grain:") refl)
      (none_before grain (32 ∷ syndromes) (grain_lacks p.grain_bits is.grain).1
      (none_before (codes " syndrome:0x") (syndrome_digits ++ before_more p.detail) (literal_lacks 40 (codes " syndrome:0x") refl)
      (none_before syndrome_digits (before_more p.detail) (padded_lacks 40 8 p.syndrome (omega arith) paren_not is.syndrome)
      (detail_none p.detail is.no_mark))))))))))

  not_named : NotFirmware (driver_inside p)
  not_named =
      not_added number (32 ∷ layers) (decimal_lacks 80 p.controller (omega arith) number_small)
      (not_added (codes " location:") (numbers ++ 32 ∷ addresses) (literal_lacks 80 (codes " location:") refl)
      (not_added numbers (32 ∷ addresses) numbers_other
      (not_added (codes " address:0x") (address_digits ++ 32 ∷ grains) (literal_lacks 80 (codes " address:0x") refl)
      (not_added address_digits (32 ∷ grains) (padded_lacks 80 8 address (omega arith) letter_not small)
      (not_added (codes " grain:") (grain ++ 32 ∷ syndromes) (literal_lacks 80 (codes " grain:") refl)
      (not_added grain (32 ∷ syndromes) (grain_plain p.grain_bits is.grain)
      (not_added (codes " syndrome:0x") (syndrome_digits ++ before_more p.detail) (literal_lacks 80 (codes " syndrome:0x") refl)
      (not_added syndrome_digits (before_more p.detail) (padded_lacks 80 8 p.syndrome (omega arith) letter_not is.syndrome)
      (detail_not p.detail is.other_driver)))))))))

  pub not_firmware : (stamp : Option ℕ) → controller_event stamp (printed_driver p) ≡ Absent
  not_firmware stamp = other_driver stamp (driver_front p) (driver_inside p) no_mark not_named.none

  -- ---- the front

  abbrev name : List ℕ
  name = severity_name p.severity

  -- the text after the message
  abbrev ending : List ℕ
  ending = p.label ++ ((codes " (mc:" ++ driver_inside p) ++ codes ")")

  abbrev errors : List ℕ
  errors = codes "error:" ++ (before_more p.message ++ (on ++ ending))

  abbrev told : List ℕ
  told = name ++ 32 ∷ errors

  text_is : printed_driver p ≡ codes "1 " ++ told
  text_is =
      let end : List ℕ = (codes " (mc:" ++ driver_inside p) ++ codes ")" in
      let labelled : List ℕ = on ++ p.label in
      let typed : List ℕ = codes " error:" ++ (before_more p.message ++ labelled) in
      append_assoc (driver_front p) (codes " (mc:" ++ driver_inside p) (codes ")")
      ∙ ap (λ (rest : List ℕ). codes "1 " ++ rest) (append_assoc name typed end)
      ∙ ap (λ (rest : List ℕ). codes "1 " ++ (name ++ (codes " error:" ++ rest))) (append_assoc (before_more p.message) labelled end)

  -- ---- the error

  abbrev nowhere : ErrorLocation
  nowhere = record { node = None; card = None; «module» = None }

  -- the error, but for its place
  abbrev placeless : MemoryError
  placeless = record (error_of_driver p) { location = nowhere }

  fields_read : controller_error_of (printed_driver p) (driver_inside p) [] ≡ Some placeless
  fields_read =
      controller_so (printed_driver p) (driver_inside p) [] told (message_rest p.message ending) address_digits grain address (2 ^ p.grain_bits) p.severity
      p.address (mask_of_bits p.grain_bits) (kind_named p.message) placeless.location
      (ap (value_after (codes "1 ")) text_is)
      (ap (value_after (codes "error: ")) (after_is 32 name errors (severity_lacks p.severity is.severity)) ∙ message_is p.message ending)
      (ap (λ (text : List ℕ). value_after (codes "address:0x") (up_to 32 text)) addresses_are
      ∙ ap (value_after (codes "address:0x")) (up_to_is 32 (codes "address:0x" ++ address_digits) grains address_lacks))
      (padded_read 8 address (omega arith) small)
      (ap (λ (text : List ℕ). value_after (codes "grain:") (up_to 32 text)) grains_are
      ∙ ap (value_after (codes "grain:")) (up_to_is 32 (codes "grain:" ++ grain) syndromes grains_lack))
      (grain_read p.grain_bits is.grain)
      (ap type_severity (up_to_is 32 name errors (severity_lacks p.severity is.severity)) ∙ severity_read p.severity is.severity)
      (address_read p.address is.address)
      (mask_read p.grain_bits is.grain)
      refl
      (kind_is p.message ending is.message)

  number_is : driver_place (up_to 32 (driver_inside p)) numbers ≡ record { node = Some p.controller; card = p.top; «module» = p.middle }
  number_is =
      let rest : List ℕ = layer_text p.middle ++ 58 ∷ layer_text p.low in
      let top : Lacks 58 (layer_text p.top) = layer_small p.top is.top 58 (literal_lacks 58 (codes "-1") refl) (λ n few. decimal_lacks 58 n (omega arith) few) in
      let middle : Lacks 58 (layer_text p.middle) = layer_small p.middle is.middle 58 (literal_lacks 58 (codes "-1") refl) (λ n few. decimal_lacks 58 n (omega arith) few) in
      let node : decimal_of 65535 (up_to 32 (driver_inside p)) ≡ Some p.controller =
      ap (decimal_of 65535) (up_to_is 32 number layers number_lacks) ∙ decimal_read 65535 p.controller (omega (arith, is.controller)) (omega arith) in
      let card : decimal_of 65535 (up_to 58 numbers) ≡ p.top =
      ap (decimal_of 65535) (up_to_is 58 (layer_text p.top) rest top) ∙ layer_read p.top is.top in
      let number : decimal_of 65535 (up_to 58 (after 58 numbers)) ≡ p.middle =
      ap (λ (text : List ℕ). decimal_of 65535 (up_to 58 text)) (after_is 58 (layer_text p.top) rest top)
      ∙ ap (decimal_of 65535) (up_to_is 58 (layer_text p.middle) (layer_text p.low) middle) ∙ layer_read p.middle is.middle in
      λ i. record { node = node i; card = card i; «module» = number i }

  message_told : lacks_place (message_of (printed_driver p)) ≡ lacks_place p.message
  message_told =
      ap (λ (text : List ℕ). lacks_place (option_map_or before_on (value_after (codes "error: ") (after 32 (after 32 text))) [])) text_is
      ∙ ap (λ (text : List ℕ). lacks_place (option_map_or before_on (value_after (codes "error: ") text) [])) (after_is 32 name errors (severity_lacks p.severity is.severity))
      ∙ ap (λ (o : Option (List ℕ)). lacks_place (option_map_or before_on o [])) (message_is p.message ending)
      ∙ lacks_is p.message ending is.message

  place_is : place_told (printed_driver p) (up_to 32 (driver_inside p)) numbers ≡ (error_of_driver p).location
  place_is =
      ap (λ (lacks : Bool). if lacks then nowhere else driver_place (up_to 32 (driver_inside p)) numbers) message_told
      ∙ ap (λ (place : ErrorLocation). if lacks_place p.message then nowhere else place) number_is

  pub driver_error_read : driver_error_of (printed_driver p) ≡ Some (error_of_driver p)
  driver_error_read =
      driver_so (printed_driver p) (driver_inside p) numbers placeless (error_of_driver p).location
      (controller_at (driver_front p) (driver_inside p) no_mark)
      (ap (λ (text : List ℕ). value_after (codes "location:") (up_to 32 text)) layers_are
      ∙ ap (value_after (codes "location:")) (up_to_is 32 (codes "location:" ++ numbers) addresses layers_lack))
      fields_read place_is
