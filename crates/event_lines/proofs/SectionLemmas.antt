-- The section, the block and the line of an event are read back.
use Rattle.std.proofs.Common.{◌≡◌, ℕ, ◌+◌, ◌^◌, ◌<◌, ◌≤◌, ◌==◌, ◌&&◌, Bool, true, false, nat_lt, List, [], ◌∷◌, ◌++◌, length, take, drop, refl, sym, ap, ◌∙◌, arith, append-nil, length-append, lit<, Some, Ok, Err, if◌then◌else◌}
use Rattle.std.specs.Prelude.{is_err, replicate, slice_index}
use Rattle.std.proofs.lemmas.Bool.Decides.{nat_tests}
use Rattle.std.proofs.lemmas.List.{take_all}
use Rattle.ras_base.specs.Bits.{is_set}
use Rattle.ras_base.specs.LittleEndian.{number_at, u16_bytes, u32_bytes, u64_bytes}
use Rattle.cper_sections.specs.Fields.{if_valid}
use Rattle.cper_sections.specs.Guids.{memory_guid, processor_guid, section_type_of, x64_guid}
use Rattle.cper_sections.specs.Sections.{section_of}
use Rattle.cper_pcie.specs.Section.{pcie_device_of, pcie_guid, pcie_of}
use Rattle.cper_pcie.specs.declared.section.PcieDevice.{PcieDevice}
use Rattle.cper_pcie.specs.declared.section.PcieRefused.TheVariants.{Short}
use Rattle.apei_sources.specs.Blocks.{block_of}
use Rattle.apei_sources.specs.Entries.{entries_of, entry_data, entry_guid, entry_length, entry_severity, is_refused}
use Rattle.apei_sources.specs.Laid.{IsEntry}
use Rattle.apei_sources.proofs.EntryLemmas.{entries_of-concat}
use Rattle.ras_facts.specs.Names.{same_name}
use Rattle.ras_script.proofs.LineTextLemmas.{text_read}
use Rattle.ras_script.specs.Bytes.{AreBytes}
use Rattle.ras_script.specs.Line.{line_of}
use Rattle.ras_script.specs.LineLaws.{line_text}
use Rattle.bank_lines.specs.declared.log_line.TheConstants.{LAST_SECOND}
use Rattle.block_lines.specs.Blocks.{block_front, entry_header_bytes, made_status, section_block_bytes, section_entry_bytes}
use Rattle.block_lines.proofs.LineLemmas.{AllBytes, front_all, front_long, header_all, joined, literal, u16_all, u32_all, u64_all, zeros}
use Rattle.block_lines.proofs.ReadBackLemmas.{block_by, cut_16, cut_32, cut_64, status_small, status_told}
use Rattle.event_lines.specs.Aer.{cper_severity}
use Rattle.event_lines.specs.Filter.{event_block}
use Rattle.event_lines.specs.Kernel.{IsEvent}
use Rattle.event_lines.specs.PcieBytes.{aer_bytes, correctable_by, device_bytes, tlp_bytes, pcie_section_bytes, pcie_type, uncorrectable_by}
use Rattle.event_lines.specs.ReadBack.{event_asked, event_entry, event_name, section_told}
use Rattle.event_lines.specs.declared.aer.AerDevice.{AerDevice}
use Rattle.event_lines.specs.declared.aer.AerEvent.{AerEvent}
use Rattle.event_lines.specs.declared.aer.AerSeverity.{AerSeverity}
use Rattle.event_lines.specs.declared.aer.AerSeverity.TheVariants.{Corrected, Fatal, NonFatal}
use Rattle.event_lines.specs.declared.aer.TlpHeader.{TlpHeader}
use Rattle.event_lines.specs.declared.aer.TlpHeader.TheVariants.{Missing, Logged}
use Rattle.event_lines.specs.declared.traced.FoundEvent.{FoundEvent}

-- ---- the section

header_long : (h : TlpHeader) → length (tlp_bytes h) ≡ 16
unfolding tlp_bytes u32_bytes
header_long Missing = refl
header_long (Logged one two three four) = refl

correctable_small : (s : AerSeverity) (n : ℕ) → n < 2 ^ 32 → correctable_by s n < 2 ^ 32
correctable_small Corrected n small = small
correctable_small Fatal n small = lit< tt
correctable_small NonFatal n small = lit< tt

uncorrectable_small : (s : AerSeverity) (n : ℕ) → n < 2 ^ 32 → uncorrectable_by s n < 2 ^ 32
uncorrectable_small Corrected n small = lit< tt
uncorrectable_small Fatal n small = small
uncorrectable_small NonFatal n small = small

severity_small : (s : AerSeverity) → cper_severity s < 2 ^ 32
severity_small Corrected = lit< tt
severity_small Fatal = lit< tt
severity_small NonFatal = lit< tt

module _ (e : AerEvent) where
  abbrev bytes : List ℕ
  bytes = pcie_section_bytes e

  validation_there : take 8 (drop 0 (pcie_section_bytes e)) ≡ u64_bytes 136
  unfolding pcie_section_bytes u64_bytes
  validation_there = refl

  vendor_there : take 2 (drop 24 (pcie_section_bytes e)) ≡ u16_bytes 0
  unfolding pcie_section_bytes device_bytes u16_bytes u64_bytes
  vendor_there = refl

  id_there : take 2 (drop 26 (pcie_section_bytes e)) ≡ u16_bytes 0
  unfolding pcie_section_bytes device_bytes u16_bytes u64_bytes
  id_there = refl

  function_there : slice_index (pcie_section_bytes e) 31 ≡ e.device.function
  unfolding pcie_section_bytes device_bytes u16_bytes u64_bytes
  function_there = refl

  device_there : slice_index (pcie_section_bytes e) 32 ≡ e.device.device
  unfolding pcie_section_bytes device_bytes u16_bytes u64_bytes
  device_there = refl

  segment_there : take 2 (drop 33 (pcie_section_bytes e)) ≡ u16_bytes e.device.segment
  unfolding pcie_section_bytes device_bytes u16_bytes u64_bytes
  segment_there = refl

  bus_there : slice_index (pcie_section_bytes e) 35 ≡ e.device.bus
  unfolding pcie_section_bytes device_bytes u16_bytes u64_bytes
  bus_there = refl

  uncorrectable_there : take 4 (drop 116 (pcie_section_bytes e)) ≡ u32_bytes (uncorrectable_by e.severity e.status)
  unfolding pcie_section_bytes device_bytes aer_bytes u16_bytes u32_bytes u64_bytes
  uncorrectable_there = refl

  correctable_there : take 4 (drop 128 (pcie_section_bytes e)) ≡ u32_bytes (correctable_by e.severity e.status)
  unfolding pcie_section_bytes device_bytes aer_bytes u16_bytes u32_bytes u64_bytes
  correctable_there = refl

  section_parts : length (pcie_section_bytes e) ≡ 140 + length (tlp_bytes e.header ++ replicate 52 0)
  unfolding pcie_section_bytes device_bytes aer_bytes u16_bytes u32_bytes u64_bytes
  section_parts = omega arith

  pub section_long : length (pcie_section_bytes e) ≡ 208
  section_long = omega (arith, section_parts, length-append (tlp_bytes e.header) (replicate 52 0), header_long e.header)

  validation_is : number_at 0 8 bytes ≡ 136
  validation_is = cut_64 0 136 bytes validation_there (lit< tt)

  there : {X : Type 0} (bit : ℕ) (value known : X) → is_set bit 136 ≡ true → value ≡ known → if_valid bit (number_at 0 8 bytes) value ≡ Some known
  there bit value known set is = ap (λ (w : ℕ). if_valid bit w value) validation_is ∙ rw set (ap Some is)

  module _ (within : IsEvent e) where
    abbrev known_device : PcieDevice
    known_device = record {
      segment = e.device.segment;
      bus = e.device.bus;
      device = e.device.device;
      function = e.device.function;
      vendor = 0;
      id = 0;
    }

    device_is : pcie_device_of (pcie_section_bytes e) ≡ known_device
    unfolding pcie_device_of
    device_is = λ i. record {
      segment = cut_16 33 e.device.segment bytes segment_there within.device.segment i;
      bus = bus_there i;
      device = device_there i;
      function = function_there i;
      vendor = cut_16 24 0 bytes vendor_there (lit< tt) i;
      id = cut_16 26 0 bytes id_there (lit< tt) i;
    }

    pub pcie_is : pcie_of (pcie_section_bytes e) ≡ Ok (section_told e)
    unfolding pcie_of
    pcie_is =
        let long : nat_lt (length bytes) 208 ≡ false = ap (λ (n : ℕ). nat_lt n 208) section_long in
        (λ i. if long i then Err Short else Ok (record {
          device = there 3 (pcie_device_of bytes) known_device refl device_is i;
          uncor = there 7 (number_at 116 4 bytes) (uncorrectable_by e.severity e.status) refl
              (cut_32 116 (uncorrectable_by e.severity e.status) bytes uncorrectable_there (uncorrectable_small e.severity e.status within.status)) i;
          cor = there 7 (number_at 128 4 bytes) (correctable_by e.severity e.status) refl
              (cut_32 128 (correctable_by e.severity e.status) bytes correctable_there (correctable_small e.severity e.status within.status)) i;
        }))

-- ---- an entry of this type

module _ (severity : ℕ) (section : List ℕ) where
  abbrev entry : List ℕ
  entry = section_entry_bytes pcie_type severity section

  guid_there : entry_guid (section_entry_bytes pcie_type severity section) ≡ pcie_guid
  unfolding section_entry_bytes entry_header_bytes pcie_guid
  guid_there = refl

  data_there : entry_data (section_entry_bytes pcie_type severity section) ≡ section
  unfolding section_entry_bytes entry_header_bytes u32_bytes number_at
  data_there = refl

  severity_there : take 4 (drop 16 (section_entry_bytes pcie_type severity section)) ≡ u32_bytes severity
  unfolding section_entry_bytes entry_header_bytes u32_bytes
  severity_there = refl

  size_there : take 4 (drop 24 (section_entry_bytes pcie_type severity section)) ≡ u32_bytes (length section)
  unfolding section_entry_bytes entry_header_bytes u32_bytes
  size_there = refl

  length-entry : length (section_entry_bytes pcie_type severity section) ≡ 72 + length section
  unfolding section_entry_bytes entry_header_bytes u32_bytes
  length-entry = omega arith

  entry_length_by : entry_length (section_entry_bytes pcie_type severity section) ≡ 72 + number_at 24 4 (section_entry_bytes pcie_type severity section)
  unfolding section_entry_bytes entry_header_bytes u32_bytes number_at
  entry_length_by = refl

  pcie_fine : is_err (section_of pcie_guid section) ≡ false
  unfolding section_of section_type_of memory_guid processor_guid x64_guid pcie_guid
  pcie_fine = refl

  not_refused : is_refused (section_entry_bytes pcie_type severity section) ≡ false
  unfolding is_refused
  not_refused =
      ap (λ (guid : List ℕ). is_err (section_of guid (entry_data (section_entry_bytes pcie_type severity section)))) guid_there
      ∙ ap (λ (content : List ℕ). is_err (section_of pcie_guid content)) data_there ∙ pcie_fine

  module _ (small : length section < 2 ^ 31) where
    entry_is : IsEntry entry
    entry_is = record {
      header = omega (arith, length-entry);
      whole = length-entry ∙ ap (λ (n : ℕ). 72 + n) (sym (cut_32 24 (length section) entry size_there (omega (arith, small)))) ∙ sym entry_length_by;
    }

    entries_are : entries_of entry ≡ Some (entry ∷ [])
    entries_are = ap (λ (l : List ℕ). entries_of l) (sym (append-nil entry)) ∙ entries_of-concat (entry ∷ []) (entry_is, tt)

    -- ---- its block

    abbrev block : List ℕ
    block = section_block_bytes pcie_type severity section

    block_status : take 4 (drop 0 (section_block_bytes pcie_type severity section)) ≡ u32_bytes (made_status severity 1)
    unfolding section_block_bytes block_front u32_bytes
    block_status = refl

    block_size : take 4 (drop 12 (section_block_bytes pcie_type severity section)) ≡ u32_bytes (72 + length section)
    unfolding section_block_bytes block_front u32_bytes
    block_size = refl

    behind : drop 20 (section_block_bytes pcie_type severity section) ≡ section_entry_bytes pcie_type severity section
    unfolding section_block_bytes block_front u32_bytes
    behind = refl

    length-block : length (section_block_bytes pcie_type severity section) ≡ 20 + length (section_entry_bytes pcie_type severity section)
    unfolding section_block_bytes block_front u32_bytes
    length-block = omega arith

    block_is : block_of (section_block_bytes pcie_type severity section)
        ≡ Ok (record { status = made_status severity 1; entries = section_entry_bytes pcie_type severity section ∷ [] })
    block_is =
        let status : number_at 0 4 block ≡ made_status severity 1 = cut_32 0 (made_status severity 1) block block_status (status_small severity 1 (omega arith)) in
        let size : number_at 12 4 block ≡ 72 + length section = cut_32 12 (72 + length section) block block_size (omega (arith, small)) in
        let whole : length block ≡ 20 + (72 + length section) = length-block ∙ ap (λ (n : ℕ). 20 + n) length-entry in
        let held : take (number_at 12 4 block) (drop 20 block) ≡ entry =
        ap (λ (n : ℕ). take n (drop 20 block)) size ∙ ap (take (72 + length section)) behind
        ∙ take_all (72 + length section) entry (omega (arith, length-entry)) in
        block_by block (made_status severity 1) (entry ∷ [])
        (grind (arith, nat_tests, whole))
        status
        (ap (λ (n : ℕ). n == 0) status ∙ status_told severity 1)
        (grind (arith, nat_tests, whole, size))
        (ap entries_of held ∙ entries_are)
        (rw not_refused refl)

    -- the block consists of bytes
    block_all : AllBytes section → AreBytes (section_block_bytes pcie_type severity section)
    unfolding section_block_bytes section_entry_bytes
    block_all all =
        let header : List ℕ = entry_header_bytes pcie_type severity (length section) in
        let front : List ℕ = block_front severity 1 (72 + length section) in (
          omega (arith, front_long severity 1 (72 + length section), length-append front (header ++ section)),
          joined front (header ++ section) (front_all severity 1 (72 + length section))
              (joined header section (header_all pcie_type severity (length section) (literal pcie_type refl)) all),
        )

-- ---- an event

header_bytes_all : (h : TlpHeader) → AllBytes (tlp_bytes h)
unfolding tlp_bytes
header_bytes_all Missing = zeros 16
header_bytes_all (Logged one two three four) =
    joined (u32_bytes one ++ u32_bytes two ++ u32_bytes three) (u32_bytes four)
    (joined (u32_bytes one ++ u32_bytes two) (u32_bytes three) (joined (u32_bytes one) (u32_bytes two) (u32_all one) (u32_all two)) (u32_all three))
    (u32_all four)

device_bytes_all : (d : AerDevice) → d.function < 256 → d.device < 256 → d.bus < 256 → AllBytes (device_bytes d)
unfolding device_bytes
device_bytes_all d function device bus =
    joined (replicate 7 0 ++ (d.function ∷ d.device ∷ []) ++ u16_bytes d.segment) (d.bus ∷ replicate 4 0)
    (joined (replicate 7 0 ++ (d.function ∷ d.device ∷ [])) (u16_bytes d.segment)
    (joined (replicate 7 0) (d.function ∷ d.device ∷ []) (zeros 7) (function, (device, tt))) (u16_all d.segment))
    (bus, zeros 4)

aer_bytes_all : (e : AerEvent) → AllBytes (aer_bytes e)
unfolding aer_bytes
aer_bytes_all e =
    let uncorrectable : List ℕ = u32_bytes (uncorrectable_by e.severity e.status) in
    let correctable : List ℕ = u32_bytes (correctable_by e.severity e.status) in
    joined (replicate 4 0 ++ uncorrectable ++ replicate 8 0 ++ correctable ++ replicate 8 0 ++ tlp_bytes e.header) (replicate 52 0)
    (joined (replicate 4 0 ++ uncorrectable ++ replicate 8 0 ++ correctable ++ replicate 8 0) (tlp_bytes e.header)
    (joined (replicate 4 0 ++ uncorrectable ++ replicate 8 0 ++ correctable) (replicate 8 0)
    (joined (replicate 4 0 ++ uncorrectable ++ replicate 8 0) correctable
    (joined (replicate 4 0 ++ uncorrectable) (replicate 8 0)
    (joined (replicate 4 0) uncorrectable (zeros 4) (u32_all (uncorrectable_by e.severity e.status)))
    (zeros 8)) (u32_all (correctable_by e.severity e.status))) (zeros 8)) (header_bytes_all e.header)) (zeros 52)

section_all : (e : AerEvent) → IsEvent e → AllBytes (pcie_section_bytes e)
unfolding pcie_section_bytes
section_all e within =
    joined (u64_bytes 136 ++ replicate 16 0 ++ device_bytes e.device ++ replicate 72 0) (aer_bytes e)
    (joined (u64_bytes 136 ++ replicate 16 0 ++ device_bytes e.device) (replicate 72 0)
    (joined (u64_bytes 136 ++ replicate 16 0) (device_bytes e.device)
    (joined (u64_bytes 136) (replicate 16 0) (u64_all 136) (zeros 16))
    (device_bytes_all e.device (omega (arith, within.device.function)) (omega (arith, within.device.device)) within.device.bus))
    (zeros 72)) (aer_bytes_all e)

few_bytes : (e : AerEvent) → length (pcie_section_bytes e) < 2 ^ 31
few_bytes e = omega (arith, section_long e)

pub event_block_is : (e : AerEvent) → block_of (event_block e) ≡ Ok (record { status = made_status (cper_severity e.severity) 1; entries = event_entry e ∷ [] })
event_block_is e = block_is (cper_severity e.severity) (pcie_section_bytes e) (few_bytes e)

pub entry_told : (e : AerEvent) → (entry_guid (event_entry e) ≡ pcie_guid) × (entry_severity (event_entry e) ≡ cper_severity e.severity)
    × (entry_data (event_entry e) ≡ pcie_section_bytes e)
entry_told e = (
  guid_there (cper_severity e.severity) (pcie_section_bytes e),
  cut_32 16 (cper_severity e.severity) (event_entry e) (severity_there (cper_severity e.severity) (pcie_section_bytes e)) (severity_small e.severity),
  data_there (cper_severity e.severity) (pcie_section_bytes e),
)

pub line_asks : (boot began : ℕ) (found : FoundEvent) → boot < 2 ^ 64 → began ≤ LAST_SECOND → found.stamp < 2 ^ 64 → IsEvent found.event
    → line_of (line_text (event_asked boot began found)) ≡ Ok (event_asked boot began found)
line_asks boot began found boots begins stamps within =
    text_read (event_asked boot began found) (
      boots,
      omega (arith, begins, stamps),
      lit< tt,
      stamps,
      block_all (cper_severity found.event.severity) (pcie_section_bytes found.event) (few_bytes found.event) (section_all found.event within),
    )

-- ---- its name

and_false : (a b c : Bool) → c ≡ false → (a && (b && c)) ≡ false
and_false true true c is = is
and_false true false c is = refl
and_false false b c is = refl

pub names_apart : (boot : ℕ) (one other : FoundEvent) → ¬ (one.stamp ≡ other.stamp) → same_name (event_name boot one) (event_name boot other) ≡ false
names_apart boot one other apart =
    let stamps : (one.stamp == other.stamp) ≡ false = grind (arith, nat_tests, apart) in
    and_false (boot == boot) true (one.stamp == other.stamp) stamps
