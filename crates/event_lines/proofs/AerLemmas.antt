-- The text of an event is read as the kernel prints it.
use Rattle.std.proofs.Common.{◌≡◌, ℕ, ◌+◌, ◌-◌, ◌^◌, ◌<◌, true, nat_eq, List, [], ◌∷◌, ◌++◌, codes, decimal, take, drop, length, refl, ap, ◌∙◌, arith, length-append, append_assoc, sym, Option, Some, None, if◌then◌else◌}
use Rattle.std.proofs.Math.Seq.{take-append_seam}
use Rattle.std.proofs.lemmas.Bool.Decides.{nat_tests}
use Rattle.std.proofs.lemmas.List.{drop_at}
use Rattle.std.specs.Cmp.Lexicographic.{pointwise}
use Rattle.ras_klog.specs.Reading.{read_then}
use Rattle.ras_script.proofs.WrittenNumberLemmas.{decimal_read}
use Rattle.ras_script.specs.Number.{decimal_of}
use Rattle.ras_script.specs.SplittingLaws.{Lacks}
use Rattle.bank_lines.specs.Kernel.{padded}
use Rattle.bank_lines.specs.LogHeads.{after, up_to}
use Rattle.bank_lines.specs.Parts.{value_after}
use Rattle.bank_lines.proofs.KernelLemmas.{padded_lacks, padded_read}
use Rattle.bank_lines.proofs.LogTextLemmas.{after_is, up_to_is}
use Rattle.bank_lines.proofs.NumeralLemmas.{decimal_lacks, lack_both}
use Rattle.event_lines.specs.Aer.{aer_event_of, before_last, aer_device_of, errors_told, header_of, logged_header, aer_told}
use Rattle.event_lines.specs.Flags.{hexadecimal_to, status_of, word_of}
use Rattle.event_lines.specs.Kernel.{IsDevice, IsEvent, IsHeader, PrintedAer, aer_text, bits_sum, device_text, event_of, flags_text, header_text, hex_word, rows_of, severity_text}
use Rattle.event_lines.specs.declared.aer.AerDevice.{AerDevice}
use Rattle.event_lines.specs.declared.aer.AerEvent.{AerEvent}
use Rattle.event_lines.specs.declared.aer.AerSeverity.{AerSeverity}
use Rattle.event_lines.specs.declared.aer.AerSeverity.TheVariants.{Corrected, Fatal, NonFatal}
use Rattle.event_lines.specs.declared.aer.TlpHeader.{TlpHeader}
use Rattle.event_lines.specs.declared.aer.TlpHeader.TheVariants.{Missing, Logged}
use Rattle.event_lines.proofs.FlagLemmas.{flags_lack_comma, hex_word_lacks, status_read, value_to, word_read}

-- ---- the device

module _ (d : AerDevice) (within : IsDevice d) where
  abbrev segment : List ℕ
  segment = padded 4 d.segment

  abbrev bus : List ℕ
  bus = padded 2 d.bus

  abbrev device : List ℕ
  device = padded 2 d.device

  abbrev slot : List ℕ
  slot = device ++ 46 ∷ decimal d.function

  abbrev buses : List ℕ
  buses = bus ++ 58 ∷ slot

  no_colon : ¬ (◌≡◌ {A = ℕ} 48 58)
  no_colon e = omega (arith, e)

  segment_cut : up_to 58 (device_text d) ≡ segment
  segment_cut = up_to_is 58 segment buses (padded_lacks 58 4 d.segment (omega arith) no_colon (omega (arith, within.segment)))

  after_segment : after 58 (device_text d) ≡ buses
  after_segment = after_is 58 segment buses (padded_lacks 58 4 d.segment (omega arith) no_colon (omega (arith, within.segment)))

  bus_cut : up_to 58 buses ≡ bus
  bus_cut = up_to_is 58 bus slot (padded_lacks 58 2 d.bus (omega arith) no_colon (omega (arith, within.bus)))

  after_bus : after 58 buses ≡ slot
  after_bus = after_is 58 bus slot (padded_lacks 58 2 d.bus (omega arith) no_colon (omega (arith, within.bus)))

  device_lacks : Lacks 46 device
  device_lacks = padded_lacks 46 2 d.device (omega arith) (λ (e : ◌≡◌ {A = ℕ} 48 46). omega (arith, e)) (omega (arith, within.device))

  device_cut : up_to 46 slot ≡ device
  device_cut = up_to_is 46 device (decimal d.function) device_lacks

  after_device : after 46 slot ≡ decimal d.function
  after_device = after_is 46 device (decimal d.function) device_lacks

  segment_read : hexadecimal_to 65535 segment ≡ Some d.segment
  segment_read = value_to 65535 d.segment segment (padded_read 4 d.segment (omega arith) (omega (arith, within.segment))) (omega (arith, within.segment))

  bus_read : hexadecimal_to 255 bus ≡ Some d.bus
  bus_read = value_to 255 d.bus bus (padded_read 2 d.bus (omega arith) (omega (arith, within.bus))) (omega (arith, within.bus))

  device_number_read : hexadecimal_to 31 device ≡ Some d.device
  device_number_read = value_to 31 d.device device (padded_read 2 d.device (omega arith) (omega (arith, within.device))) (omega (arith, within.device))

  function_read : decimal_of 7 (decimal d.function) ≡ Some d.function
  function_read = decimal_read 7 d.function (omega (arith, within.function)) (omega arith)

  abbrev with_function : ℕ → ℕ → ℕ → Option ℕ → Option AerDevice
  with_function s b v o = read_then o (λ function. Some (record { segment = s; bus = b; device = v; function = function }))

  abbrev from_slot : ℕ → ℕ → List ℕ → Option AerDevice
  from_slot s b text = read_then (hexadecimal_to 31 (up_to 46 text)) (λ device. with_function s b device (decimal_of 7 (after 46 text)))

  abbrev from_bus : ℕ → List ℕ → Option AerDevice
  from_bus s text = read_then (hexadecimal_to 255 (up_to 58 text)) (λ bus. from_slot s bus (after 58 text))

  slot_read : from_slot d.segment d.bus slot ≡ Some d
  slot_read =
      ap (λ (text : List ℕ). read_then (hexadecimal_to 31 text) (λ device. with_function d.segment d.bus device (decimal_of 7 (after 46 slot)))) device_cut
      ∙ ap (λ (o : Option ℕ). read_then o (λ device. with_function d.segment d.bus device (decimal_of 7 (after 46 slot)))) device_number_read
      ∙ ap (λ (text : List ℕ). with_function d.segment d.bus d.device (decimal_of 7 text)) after_device
      ∙ ap (with_function d.segment d.bus d.device) function_read

  bus_is_read : from_bus d.segment buses ≡ Some d
  bus_is_read =
      ap (λ (text : List ℕ). read_then (hexadecimal_to 255 text) (λ bus. from_slot d.segment bus (after 58 buses))) bus_cut
      ∙ ap (λ (o : Option ℕ). read_then o (λ bus. from_slot d.segment bus (after 58 buses))) bus_read
      ∙ ap (from_slot d.segment d.bus) after_bus
      ∙ slot_read

  pub device_read : aer_device_of (device_text d) ≡ Some d
  device_read =
      ap (λ (text : List ℕ). read_then (hexadecimal_to 65535 text) (λ segment. from_bus segment (after 58 (device_text d)))) segment_cut
      ∙ ap (λ (o : Option ℕ). read_then o (λ segment. from_bus segment (after 58 (device_text d)))) segment_read
      ∙ ap (from_bus d.segment) after_segment
      ∙ bus_is_read

  pub device_lacks_space : Lacks 32 (device_text d)
  device_lacks_space =
      let other : ¬ (◌≡◌ {A = ℕ} 48 32) = λ (e : ◌≡◌ {A = ℕ} 48 32). omega (arith, e) in
      lack_both 32 segment (58 ∷ buses) (padded_lacks 32 4 d.segment (omega arith) other (omega (arith, within.segment))) (
        (λ (e : ◌≡◌ {A = ℕ} 58 32). omega (arith, e)),
        lack_both 32 bus (58 ∷ slot) (padded_lacks 32 2 d.bus (omega arith) other (omega (arith, within.bus))) (
          (λ (e : ◌≡◌ {A = ℕ} 58 32). omega (arith, e)),
          lack_both 32 device (46 ∷ decimal d.function) (padded_lacks 32 2 d.device (omega arith) other (omega (arith, within.device)))
              ((λ (e : ◌≡◌ {A = ℕ} 46 32). omega (arith, e)), decimal_lacks 32 d.function (omega arith) (omega (arith, within.function))),
        ),
      )

-- ---- the header

pub last_cut : (byte : ℕ) (text : List ℕ) → before_last byte (text ++ byte ∷ []) ≡ Some text
last_cut byte text =
    let whole : List ℕ = text ++ byte ∷ [] in
    let size : length whole - 1 ≡ length text = omega (arith, length-append text (byte ∷ [])) in
    let behind : drop (length whole - 1) whole ≡ byte ∷ [] = ap (λ (k : ℕ). drop k whole) size ∙ drop_at text (byte ∷ []) (length text) refl in
    let front : take (length whole - 1) whole ≡ text = ap (λ (k : ℕ). take k whole) size ∙ take-append_seam text (byte ∷ []) in
    let same : nat_eq byte byte ≡ true = grind (arith, nat_tests) in
    ap (λ (rest : List ℕ). if pointwise nat_eq (byte ∷ []) rest then Some (take (length whole - 1) whole) else None) behind
    ∙ rw same (ap Some front)

word_lacks_comma : (n : ℕ) → n < 2 ^ 32 → Lacks 44 (hex_word n)
word_lacks_comma n small = hex_word_lacks 44 n (omega arith) (λ (e : ◌≡◌ {A = ℕ} 48 44). omega (arith, e)) (λ (e : ◌≡◌ {A = ℕ} 120 44). omega (arith, e)) (omega (arith, small))

module _ (one two three four : ℕ) (within : IsHeader (Logged one two three four)) where
  abbrev last_two : List ℕ
  last_two = hex_word three ++ 44 ∷ hex_word four

  abbrev last_three : List ℕ
  last_three = hex_word two ++ 44 ∷ last_two

  abbrev all_words : List ℕ
  all_words = hex_word one ++ 44 ∷ last_three

  abbrev with_fourth : ℕ → ℕ → ℕ → Option ℕ → Option TlpHeader
  with_fourth a b c o = read_then o (λ d. Some (Logged a b c d))

  abbrev from_third : ℕ → ℕ → List ℕ → Option TlpHeader
  from_third a b text = read_then (word_of (up_to 44 text)) (λ c. with_fourth a b c (word_of (after 44 text)))

  abbrev from_second : ℕ → List ℕ → Option TlpHeader
  from_second a text = read_then (word_of (up_to 44 text)) (λ b. from_third a b (after 44 text))

  third_read : from_third one two last_two ≡ Some (Logged one two three four)
  third_read =
      ap (λ (text : List ℕ). read_then (word_of text) (λ c. with_fourth one two c (word_of (after 44 last_two)))) (up_to_is 44 (hex_word three) (hex_word four) (word_lacks_comma three within.2))
      ∙ ap (λ (o : Option ℕ). read_then o (λ c. with_fourth one two c (word_of (after 44 last_two)))) (word_read three within.2)
      ∙ ap (λ (text : List ℕ). with_fourth one two three (word_of text)) (after_is 44 (hex_word three) (hex_word four) (word_lacks_comma three within.2))
      ∙ ap (with_fourth one two three) (word_read four within.3)

  second_read : from_second one last_three ≡ Some (Logged one two three four)
  second_read =
      ap (λ (text : List ℕ). read_then (word_of text) (λ b. from_third one b (after 44 last_three))) (up_to_is 44 (hex_word two) last_two (word_lacks_comma two within.1))
      ∙ ap (λ (o : Option ℕ). read_then o (λ b. from_third one b (after 44 last_three))) (word_read two within.1)
      ∙ ap (from_third one two) (after_is 44 (hex_word two) last_two (word_lacks_comma two within.1))
      ∙ third_read

  words_read : logged_header all_words ≡ Some (Logged one two three four)
  words_read =
      ap (λ (text : List ℕ). read_then (word_of text) (λ a. from_second a (after 44 all_words))) (up_to_is 44 (hex_word one) last_three (word_lacks_comma one within.0))
      ∙ ap (λ (o : Option ℕ). read_then o (λ a. from_second a (after 44 all_words))) (word_read one within.0)
      ∙ ap (from_second one) (after_is 44 (hex_word one) last_three (word_lacks_comma one within.0))
      ∙ second_read

  abbrev printed_words : List ℕ
  printed_words = hex_word one ++ 44 ∷ (hex_word two ++ 44 ∷ (hex_word three ++ 44 ∷ (hex_word four ++ codes "}")))

  joined : printed_words ≡ all_words ++ 125 ∷ []
  joined =
      let c : hex_word three ++ 44 ∷ (hex_word four ++ codes "}") ≡ last_two ++ 125 ∷ [] = sym (append_assoc (hex_word three) (44 ∷ hex_word four) (125 ∷ [])) in
      let b : hex_word two ++ 44 ∷ (hex_word three ++ 44 ∷ (hex_word four ++ codes "}")) ≡ last_three ++ 125 ∷ [] =
      ap (λ (rest : List ℕ). hex_word two ++ 44 ∷ rest) c ∙ sym (append_assoc (hex_word two) (44 ∷ last_two) (125 ∷ [])) in
      ap (λ (rest : List ℕ). hex_word one ++ 44 ∷ rest) b ∙ sym (append_assoc (hex_word one) (44 ∷ last_three) (125 ∷ []))

  logged_read : header_of (header_text (Logged one two three four)) ≡ Some (Logged one two three four)
  logged_read =
      ap (λ (text : List ℕ). read_then (before_last 125 text) logged_header) joined
      ∙ ap (λ (o : Option (List ℕ)). read_then o logged_header) (last_cut 125 all_words)
      ∙ words_read

header_read : (h : TlpHeader) → IsHeader h → header_of (header_text h) ≡ Some h
header_read Missing within = refl
header_read (Logged one two three four) within = logged_read one two three four within

-- ---- the event

module _ (p : PrintedAer) (within : IsEvent (event_of p)) where
  abbrev behind_flags : List ℕ
  behind_flags = codes " TLP Header=" ++ header_text p.header

  abbrev status_text : List ℕ
  status_text = flags_text p ++ 44 ∷ behind_flags

  no_comma : Lacks 44 (flags_text p)
  no_comma = flags_lack_comma p.severity p.set p.others within.status

  abbrev with_header : ℕ → Option (List ℕ) → Option AerEvent
  with_header status o =
      read_then o (λ header. read_then (header_of header) (λ header.
      Some (record { device = p.device; severity = p.severity; status = status; header = header })))

  status_is_read : aer_told p.device p.severity status_text ≡ Some (event_of p)
  status_is_read =
      ap (λ (text : List ℕ). read_then (status_of p.severity text) (λ status. with_header status (value_after (codes " TLP Header=") (after 44 status_text))))
      (up_to_is 44 (flags_text p) behind_flags no_comma)
      ∙ ap (λ (o : Option ℕ). read_then o (λ status. with_header status (value_after (codes " TLP Header=") (after 44 status_text))))
      (status_read p.severity p.set p.others within.status)
      ∙ ap (λ (text : List ℕ). with_header (bits_sum (rows_of p) + p.others) (value_after (codes " TLP Header=") text))
      (after_is 44 (flags_text p) behind_flags no_comma)
      ∙ ap (λ (o : Option TlpHeader). read_then o (λ header. Some (record { device = p.device; severity = p.severity; status = bits_sum (rows_of p) + p.others; header = header })))
      (header_read p.header within.header)

  severity_read : (s : AerSeverity) (text : List ℕ) → errors_told p.device (severity_text s ++ (codes ", " ++ text)) ≡ aer_told p.device s text
  severity_read Corrected text = refl
  severity_read Fatal text = refl
  severity_read NonFatal text = refl

  abbrev told : List ℕ
  told = severity_text p.severity ++ (codes ", " ++ status_text)

  abbrev named : List ℕ
  named = codes "PCIe Bus Error: severity=" ++ told

  pub text_read : aer_event_of (aer_text p) ≡ Some (event_of p)
  text_read =
      ap (λ (text : List ℕ). read_then (aer_device_of text) (λ device. read_then (value_after (codes "PCIe Bus Error: severity=") (after 32 (aer_text p))) (errors_told device)))
      (up_to_is 32 (device_text p.device) named (device_lacks_space p.device within.device))
      ∙ ap (λ (o : Option AerDevice). read_then o (λ device. read_then (value_after (codes "PCIe Bus Error: severity=") (after 32 (aer_text p))) (errors_told device)))
      (device_read p.device within.device)
      ∙ ap (λ (text : List ℕ). read_then (value_after (codes "PCIe Bus Error: severity=") text) (errors_told p.device))
      (after_is 32 (device_text p.device) named (device_lacks_space p.device within.device))
      ∙ severity_read p.severity status_text
      ∙ status_is_read
