-- The extended log's event, as the kernel prints it, is read.
use Rattle.std.proofs.Common.{◌≡◌, ℕ, zero, suc, ◌+◌, ◌-◌, ◌^◌, ◌<◌, ◌≤◌, ◌==◌, ◌||◌, Bool, true, false, nat_le, List, [], ◌∷◌, ◌++◌, codes, decimal, drop, take, length, refl, ap, ◌∙◌, arith, Option, Some, None}
use Rattle.std.specs.Prelude.{unwrap_or, IfSome}
use Rattle.std.specs.Option.{option_map}
use Rattle.std.proofs.lemmas.Bool.Decides.{nat_tests}
use Rattle.ras_klog.specs.Reading.{provided, read_then}
use Rattle.ras_script.proofs.WrittenNumberLemmas.{hexadecimal_read}
use Rattle.ras_script.specs.LineLaws.{hexadecimal}
use Rattle.ras_script.specs.Number.{hexadecimal_of}
use Rattle.ras_script.specs.SplittingLaws.{Lacks}
use Rattle.bank_lines.specs.Kernel.{register}
use Rattle.bank_lines.specs.LogHeads.{after, mark_place, up_to}
use Rattle.bank_lines.specs.Parts.{value_after}
use Rattle.bank_lines.proofs.KernelLemmas.{padded_lacks, register_read}
use Rattle.bank_lines.proofs.LogTextLemmas.{after_is, up_to_is}
use Rattle.bank_lines.proofs.NumeralLemmas.{decimal_lacks, hexadecimal_lacks, literal_lacks}
use Rattle.block_lines.specs.Kernel.{severity_word}
use Rattle.block_lines.specs.Lines.{location_of, severity_of}
use Rattle.block_lines.specs.declared.memory.ErrorLocation.{ErrorLocation}
use Rattle.block_lines.specs.declared.memory.MemoryError.{MemoryError}
use Rattle.event_lines.specs.Memory.{addressed_error_of, kind_named, extlog_error_of, low_bit_mask, low_bit_of, mask_and_location, whole_address_told}
use Rattle.event_lines.specs.MemoryKernel.{IsExtlog, PrintedExtlog, address_text, before_more, error_of_extlog, kind_told, extlog_others, number_before, places_text, printed_extlog, type_name}
use Rattle.event_lines.proofs.PlacedLemmas.{Stands, stands_behind}
use Rattle.event_lines.proofs.FlagLemmas.{value_to}
use Rattle.event_lines.proofs.KindLemmas.{KindRead, kind_read}
use Rattle.event_lines.proofs.PlaceLemmas.{places_read}

-- ---- the words

severity_back : (severity : ℕ) → severity < 4 → severity_of (severity_word severity) ≡ severity
severity_back zero small = refl
severity_back (suc zero) small = refl
severity_back (suc (suc zero)) small = refl
severity_back (suc (suc (suc zero))) small = refl
severity_back (suc (suc (suc (suc n)))) small = absurd (omega arith)

severity_lacks : (severity : ℕ) → severity < 4 → Lacks 32 (severity_word severity)
severity_lacks zero small = literal_lacks 32 (codes "recoverable") refl
severity_lacks (suc zero) small = literal_lacks 32 (codes "fatal") refl
severity_lacks (suc (suc zero)) small = literal_lacks 32 (codes "corrected") refl
severity_lacks (suc (suc (suc zero))) small = literal_lacks 32 (codes "info") refl
severity_lacks (suc (suc (suc (suc n)))) small = absurd (omega arith)

kind_is : (kind : Option ℕ) → kind_told (Some (unwrap_or kind 255)) ≡ kind_told kind
kind_is None = refl
kind_is (Some kind) = refl

-- ---- the address and its lowest valid bit

address_small : (o : Option ℕ) → IfSome o (λ n. n < 2 ^ 64 - 1) → unwrap_or o (2 ^ 64 - 1) < 2 ^ 64
address_small None is = omega arith
address_small (Some n) is = let below : n < 2 ^ 64 - 1 = is in omega (arith, below)

address_read : (o : Option ℕ) → IfSome o (λ n. n < 2 ^ 64 - 1) → whole_address_told (unwrap_or o (2 ^ 64 - 1)) ≡ o
address_read None is = refl
address_read (Some n) is =
    let below : n < 2 ^ 64 - 1 = is in
    let other : (n == 2 ^ 64 - 1) ≡ false = grind (arith, nat_tests, below) in
    rw other refl

bit_small : (o : Option ℕ) → IfSome o (λ bit. bit ≤ 64) → unwrap_or o 255 ≤ 255
bit_small None is = omega arith
bit_small (Some bit) is = let low : bit ≤ 64 = is in omega (arith, low)

bit_read : (o : Option ℕ) → IfSome o (λ bit. bit ≤ 64) → low_bit_of (hexadecimal (unwrap_or o 255)) ≡ Some (unwrap_or o 255)
bit_read o is =
    let bit : ℕ = unwrap_or o 255 in
    ap (λ (o : Option ℕ). read_then o (λ bit. provided (nat_le bit 64 || bit == 255) (Some bit)))
    (value_to 255 bit (hexadecimal bit) (hexadecimal_read false bit (omega (arith, bit_small o is))) (bit_small o is))
    ∙ ap (λ (holds : Bool). provided holds (Some bit)) (by o is)
  where
    by : (o : Option ℕ) → IfSome o (λ bit. bit ≤ 64) → (nat_le (unwrap_or o 255) 64 || unwrap_or o 255 == 255) ≡ true
    by None is = refl
    by (Some bit) is =
        let low : bit ≤ 64 = is in
        let few : nat_le bit 64 ≡ true = grind (arith, nat_tests, low) in
        rw few refl

mask_read : (o : Option ℕ) → IfSome o (λ bit. bit ≤ 64) → low_bit_mask (unwrap_or o 255) ≡ option_map (λ bit. 2 ^ 64 - 2 ^ bit) o
mask_read None is = refl
mask_read (Some bit) is =
    let low : bit ≤ 64 = is in
    let other : (bit == 255) ≡ false = grind (arith, nat_tests, low) in
    rw other refl

-- ---- the unit's name is somewhere in the text

abbrev unit_mark : List ℕ
unit_mark = codes "FRU: "

stands_after : (name : List ℕ) (o : Option ℕ) (more : List ℕ) → Stands unit_mark more → Stands unit_mark (number_before name o more)
stands_after name None more stands = stands
stands_after name (Some n) more stands = stands_behind unit_mark name (decimal n ++ before_more more) (stands_behind unit_mark (decimal n) (before_more more) (by more stands))
  where
    by : (more : List ℕ) → Stands unit_mark more → Stands unit_mark (before_more more)
    by [] stands = absurd (nowhere stands.is)
      where
        nowhere : None ≡ Some stands.place → ⊥
        nowhere is = cc
    by (b ∷ more) stands = stands_behind unit_mark (32 ∷ []) (b ∷ more) stands

-- ---- what is read, part by part

masked_so : (text word places : List ℕ) (bit place : ℕ) (mask : Option ℕ) (location : ErrorLocation)
    → value_after (codes "(mask lsb: ") text ≡ Some word → low_bit_of (up_to 41 word) ≡ Some bit
    → value_after (codes " ") (after 41 word) ≡ Some places → mark_place (codes "FRU: ") places ≡ Some place
    → low_bit_mask bit ≡ mask → location_of places ≡ location → mask_and_location text ≡ Some (mask, location)
masked_so text word places bit place mask location f1 f2 f3 f4 f5 f6 = rw (f1, f2, f3, f4, f5, f6) refl

addressed_so : (severity address : ℕ) (kind physical : Option ℕ) (text : List ℕ) (mask : Option ℕ) (location : ErrorLocation)
    → hexadecimal_of (up_to 32 text) ≡ Some address → whole_address_told address ≡ physical → mask_and_location (after 32 text) ≡ Some (mask, location)
    → addressed_error_of severity kind text ≡ Some (record { severity = severity; physical = physical; mask = mask; location = location; kind = kind })
addressed_so severity address kind physical text mask location f1 f2 f3 = rw (f1, f3, f2) refl

extlog_so : (text numbered told message behind : List ℕ) (place severity : ℕ) (kind : Option ℕ) (error : Option MemoryError)
    → value_after (codes "{") text ≡ Some numbered → value_after (codes " ") (after 125 numbered) ≡ Some told
    → value_after (codes "error: ") (after 32 told) ≡ Some message → mark_place (codes " physical addr: ") message ≡ Some place
    → severity_of (up_to 32 told) ≡ severity → kind_named (take place message) ≡ kind → drop (place + 16) message ≡ behind
    → addressed_error_of severity kind behind ≡ error → extlog_error_of text ≡ error
extlog_so text numbered told message behind place severity kind error f1 f2 f3 f4 f5 f6 f7 f8 = rw (f1, f2, f3, f4, f5, f6, f7) f8

module _ (p : PrintedExtlog) (is : IsExtlog p) where
  abbrev places : List ℕ
  places = places_text p.location (extlog_others p)

  abbrev bit : ℕ
  bit = unwrap_or p.low_bit 255

  abbrev word : List ℕ
  word = hexadecimal bit ++ 41 ∷ (32 ∷ places)

  abbrev address : ℕ
  address = unwrap_or p.address (2 ^ 64 - 1)

  abbrev masks : List ℕ
  masks = codes "(mask lsb: " ++ word

  abbrev kind : ℕ
  kind = unwrap_or p.kind 255

  abbrev message : List ℕ
  message = type_name kind ++ (codes " physical addr: " ++ address_text p)

  abbrev told : List ℕ
  told = severity_word p.severity ++ 32 ∷ (codes "error: " ++ message)

  unit_stands : Stands unit_mark places
  unit_stands =
      stands_after (codes "node:") p.location.node (number_before (codes "card:") p.location.card (number_before (codes "module:") p.location.«module» (extlog_others p)))
      (stands_after (codes "card:") p.location.card (number_before (codes "module:") p.location.«module» (extlog_others p))
      (stands_after (codes "module:") p.location.«module» (extlog_others p)
      (stands_behind unit_mark p.others (codes "FRU: " ++ p.unit) (record { place = 0; is = refl }))))

  bit_lacks : Lacks 41 (hexadecimal bit)
  bit_lacks = hexadecimal_lacks 41 bit (omega arith) (omega (arith, bit_small p.low_bit is.low_bit))

  masked_read : mask_and_location masks ≡ Some (option_map (λ bit. 2 ^ 64 - 2 ^ bit) p.low_bit, p.location)
  masked_read =
      masked_so masks word places bit unit_stands.place (option_map (λ bit. 2 ^ 64 - 2 ^ bit) p.low_bit) p.location
      refl
      (ap low_bit_of (up_to_is 41 (hexadecimal bit) (32 ∷ places) bit_lacks) ∙ bit_read p.low_bit is.low_bit)
      (ap (value_after (codes " ")) (after_is 41 (hexadecimal bit) (32 ∷ places) bit_lacks))
      unit_stands.is
      (mask_read p.low_bit is.low_bit)
      (places_read p.location (extlog_others p) is.places)

  address_lacks : Lacks 32 (register address)
  address_lacks = padded_lacks 32 16 address (omega arith) (λ (e : ◌≡◌ {A = ℕ} 48 32). omega (arith, e)) (address_small p.address is.address)

  addressed_read : addressed_error_of p.severity (kind_told p.kind) (address_text p) ≡ Some (error_of_extlog p)
  addressed_read =
      addressed_so p.severity address (kind_told p.kind) p.address (address_text p) (option_map (λ bit. 2 ^ 64 - 2 ^ bit) p.low_bit) p.location
      (ap hexadecimal_of (up_to_is 32 (register address) masks address_lacks) ∙ register_read address (address_small p.address is.address))
      (address_read p.address is.address)
      (ap mask_and_location (after_is 32 (register address) masks address_lacks) ∙ masked_read)

  named : KindRead kind (address_text p)
  named = kind_read kind (address_text p)

  pub extlog_text_read : extlog_error_of (printed_extlog p) ≡ Some (error_of_extlog p)
  extlog_text_read =
      extlog_so (printed_extlog p) (decimal p.number ++ 125 ∷ (32 ∷ told)) told message (address_text p) (length (type_name kind)) p.severity (kind_told p.kind) (Some (error_of_extlog p))
      refl
      (ap (value_after (codes " ")) (after_is 125 (decimal p.number) (32 ∷ told) (decimal_lacks 125 p.number (omega arith) (omega (arith, is.number)))))
      (ap (value_after (codes "error: ")) (after_is 32 (severity_word p.severity) (codes "error: " ++ message) (severity_lacks p.severity is.severity)))
      named.place
      (ap severity_of (up_to_is 32 (severity_word p.severity) (codes "error: " ++ message) (severity_lacks p.severity is.severity)) ∙ severity_back p.severity is.severity)
      (named.named ∙ kind_is p.kind)
      named.behind
      addressed_read
