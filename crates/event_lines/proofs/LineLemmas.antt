-- A line that has an event, as tracers print it, is found.
use Rattle.std.proofs.Common.{◌≡◌, ℕ, zero, suc, ◌+◌, ◌*◌, ◌==◌, Bool, true, not, List, [], ◌∷◌, ◌++◌, codes, decimal, take, drop, length, ◌<◌, ◌≤◌, refl, sym, subst, ap, ◌∙◌, arith, append_assoc, length-append, Option, None, Some}
use Rattle.std.specs.Prelude.{replicate, unwrap_or}
use Rattle.std.proofs.Math.Seq.{take-append_seam}
use Rattle.std.proofs.lemmas.List.{drop_at}
use Rattle.std.specs.List.{prefix_len}
use Rattle.std.specs.Option.{option_map_or}
use Rattle.ras_klog.specs.Reading.{provided, read_then}
use Rattle.ras_script.proofs.LineAndWordLemmas.{split_between, split_lacking}
use Rattle.ras_script.specs.SplittingLaws.{Lacks}
use Rattle.bank_lines.specs.Kernel.{padded}
use Rattle.bank_lines.specs.LogHeads.{mark_place, without_spaces}
use Rattle.bank_lines.specs.Parts.{cut_at, value_after}
use Rattle.bank_lines.specs.Stamp.{stamp_of}
use Rattle.bank_lines.specs.Trace.{behind_name, is_count, last_word}
use Rattle.bank_lines.specs.TraceHeads.{IsFront, Tracer, clock, perf, trace_cmd, trace_pipe}
use Rattle.bank_lines.proofs.LogMarkLemmas.{first_behind}
use Rattle.bank_lines.specs.declared.stamp.TheConstants.{MOST_SECONDS}
use Rattle.bank_lines.proofs.NumeralLemmas.{lack_both, literal_lacks}
use Rattle.bank_lines.proofs.TraceHeadLemmas.{NoDash, clock_lacks, clock_reaches, counts, front_plain, last_behind, last_is, named_front, none_in_timed, stamp_read}
use Rattle.event_lines.specs.Aer.{aer_event_of}
use Rattle.event_lines.specs.DimmTold.{clocked_dimm, dimm_behind, dimm_of_driver, dimm_told, spaced_message, traced_dimm_of}
use Rattle.event_lines.specs.Driver.{any_event_of, driver_behind, driver_error_of, driver_event, event_or, named_or_absent}
use Rattle.event_lines.specs.DriverKernel.{IsDriver, PrintedDriver, driver_line, error_of_driver, printed_driver}
use Rattle.event_lines.specs.Kernel.{IsEvent, PrintedAer, aer_line, aer_text, device_text, event_head, event_of, flags_text, header_text, ras_before, severity_text}
use Rattle.event_lines.specs.Memory.{extlog_error_of}
use Rattle.event_lines.specs.MemoryKernel.{IsExtlog, IsMemory, PrintedExtlog, PrintedMemory, error_of_extlog, error_of_memory, extlog_line, memory_line, printed_extlog, printed_memory}
use Rattle.event_lines.specs.SectionEvent.{section_bytes_of, section_head_of}
use Rattle.event_lines.specs.SectionKernel.{IsSection, PrintedSection, head_of_section, printed_section, raw_text, section_line}
use Rattle.event_lines.specs.Traced.{clock_event, clock_place, controller_event, event_behind, event_or_unread, found_event, found_memory, found_section, line_event_of, named_text, stamp_at}
use Rattle.event_lines.specs.declared.traced.FoundMemory.{FoundMemory}
use Rattle.event_lines.specs.declared.traced.LineEvent.{LineEvent}
use Rattle.event_lines.specs.declared.traced.LineEvent.TheVariants.{Absent, Found, Memory, Section}
use Rattle.event_lines.proofs.AerLemmas.{device_lacks_space, text_read}
use Rattle.event_lines.proofs.DimmLemmas.{dimm_is}
use Rattle.event_lines.proofs.DriverLemmas.{driver_error_read, not_firmware}
use Rattle.event_lines.proofs.ExtlogLemmas.{extlog_text_read}
use Rattle.event_lines.proofs.MemoryLemmas.{controller_read}
use Rattle.event_lines.proofs.PlaceLemmas.{no_space}
use Rattle.event_lines.proofs.SectionEventLemmas.{bytes_are, ends_behind, ends_whole, head_read}

-- ---- spaces

passes : (text : List ℕ) → without_spaces (32 ∷ text) ≡ without_spaces text
passes text =
    let next : 1 + prefix_len (λ b. not (not (b == 32))) text ≡ suc (prefix_len (λ b. not (not (b == 32))) text) = omega arith in
    ap (λ (n : ℕ). drop n (32 ∷ text)) next

all_passed : (spaces : ℕ) (text : List ℕ) → without_spaces (replicate spaces 32 ++ text) ≡ without_spaces text
all_passed zero text = refl
all_passed (suc n) text = passes (replicate n 32 ++ text) ∙ all_passed n text

-- ---- bytes that aren't `-`

spaces_plain : (n : ℕ) (text : List ℕ) → Lacks 45 text → Lacks 45 (replicate n 32 ++ text)
spaces_plain zero text lacks = lacks
spaces_plain (suc n) text lacks = ((λ (e : ◌≡◌ {A = ℕ} 32 45). omega (arith, e)), spaces_plain n text lacks)

ras_plain : (tracer : Tracer) (text : List ℕ) → Lacks 45 text → Lacks 45 (ras_before tracer ++ text)
ras_plain trace_pipe text lacks = lacks
ras_plain trace_cmd text lacks = lacks
ras_plain perf text lacks = lack_both 45 (codes "ras:") text (literal_lacks 45 (codes "ras:") refl) lacks

-- the clock and the name reach past the column in which the number of a process would begin
pub no_dash : (tracer : Tracer) (seconds micros spaces : ℕ) → seconds ≤ MOST_SECONDS → micros < 1000000
    → (name rest : List ℕ) → Lacks 45 name → 6 ≤ length name
    → NoDash (clock seconds micros ++ 58 ∷ 32 ∷ (replicate spaces 32 ++ (ras_before tracer ++ (name ++ rest))))
no_dash tracer seconds micros spaces most six name rest plain long =
    let shows : List ℕ = clock seconds micros in
    let blanks : List ℕ = replicate spaces 32 in
    let system : List ℕ = ras_before tracer in
    let region : List ℕ = shows ++ 58 ∷ 32 ∷ (blanks ++ (system ++ name)) in
    let is : region ++ rest ≡ shows ++ 58 ∷ 32 ∷ (blanks ++ (system ++ (name ++ rest))) =
    append_assoc shows (58 ∷ 32 ∷ (blanks ++ (system ++ name))) rest
    ∙ ap (λ (t : List ℕ). shows ++ 58 ∷ 32 ∷ t) (append_assoc blanks (system ++ name) rest)
    ∙ ap (λ (t : List ℕ). shows ++ 58 ∷ 32 ∷ (blanks ++ t)) (append_assoc system name rest) in
    let lacks : Lacks 45 region =
    lack_both 45 shows (58 ∷ 32 ∷ (blanks ++ (system ++ name)))
    (clock_lacks seconds micros most six 45 (omega arith) (λ (e : ◌≡◌ {A = ℕ} 48 45). omega (arith, e)) (λ (e : ◌≡◌ {A = ℕ} 46 45). omega (arith, e)))
    ((λ (e : ◌≡◌ {A = ℕ} 58 45). omega (arith, e)), ((λ (e : ◌≡◌ {A = ℕ} 32 45). omega (arith, e)), spaces_plain spaces (system ++ name) (ras_plain tracer name plain))) in
    let reaches : 16 ≤ length region =
    omega (arith, long, clock_reaches seconds micros most six, length-append shows (58 ∷ 32 ∷ (blanks ++ (system ++ name))), length-append blanks (system ++ name), length-append system name) in
    subst NoDash is (front_plain region rest lacks reaches)

-- ---- a line

abbrev without_system : List ℕ → List ℕ
without_system text = unwrap_or (value_after (codes "ras:") text) text

-- the text of any event, which begins neither with a space nor with the system; its first letters are a name without
-- `-`
module _ (tracer : Tracer) (front : List ℕ) (seconds micros spaces : ℕ) (is : IsFront front seconds micros)
    (name rest : List ℕ) (plain : Lacks 45 name) (long : 6 ≤ length name)
    (begins : (t : Tracer) → without_system (without_spaces (ras_before t ++ (name ++ rest))) ≡ name ++ rest) where
  abbrev text : List ℕ
  text = name ++ rest

  abbrev shows : List ℕ
  shows = clock seconds micros

  -- the front after a name in columns, and the front up to the colon
  abbrev unnamed : List ℕ
  unnamed = behind_name front

  abbrev timed : List ℕ
  timed = unnamed ++ 32 ∷ shows

  abbrev named : List ℕ
  named = ras_before tracer ++ text

  abbrev behind : List ℕ
  behind = replicate spaces 32 ++ named

  abbrev whole : List ℕ
  whole = event_head tracer front seconds micros spaces ++ text

  -- the line after a name in columns
  abbrev line : List ℕ
  line = unnamed ++ 32 ∷ (shows ++ 58 ∷ 32 ∷ behind)

  whole_is : whole ≡ front ++ 32 ∷ (shows ++ 58 ∷ 32 ∷ behind)
  whole_is =
      let tail : List ℕ = replicate spaces 32 ++ ras_before tracer in
      append_assoc front (32 ∷ (shows ++ 58 ∷ 32 ∷ tail)) text
      ∙ ap (λ (rest : List ℕ). front ++ 32 ∷ rest) (append_assoc shows (58 ∷ 32 ∷ tail) text)
      ∙ ap (λ (rest : List ℕ). front ++ 32 ∷ (shows ++ 58 ∷ 32 ∷ rest)) (append_assoc (replicate spaces 32) (ras_before tracer) text)

  unnamed_is : behind_name whole ≡ line
  unnamed_is =
      ap behind_name whole_is
      ∙ named_front front (shows ++ 58 ∷ 32 ∷ behind) (no_dash tracer seconds micros spaces is.most is.six name rest plain long)

  line_is : line ≡ timed ++ (codes ": " ++ behind)
  line_is = sym (append_assoc unnamed (32 ∷ shows) (codes ": " ++ behind))

  placed : mark_place (codes ": ") line ≡ Some (length timed)
  placed =
      ap (mark_place (codes ": ")) line_is
      ∙ first_behind (codes ": ") timed behind (none_in_timed tracer front seconds micros spaces is) (omega arith) ((λ (e : ◌≡◌ {A = ℕ} 32 58). omega (arith, e)), tt)

  timed_front : take (length timed) line ≡ timed
  timed_front = ap (take (length timed)) line_is ∙ take-append_seam timed (codes ": " ++ behind)

  counted : is_count (last_word [] (cut_at 32 (take (length timed) line))) ≡ true
  counted =
      ap (λ (front : List ℕ). is_count (last_word [] (cut_at 32 front))) timed_front
      ∙ ap is_count (last_is tracer front seconds micros spaces is)
      ∙ counts seconds micros is.most is.six

  place_is : clock_place line ≡ Some (length timed)
  place_is =
      ap (λ (o : Option ℕ). read_then o (λ place. provided (is_count (last_word [] (cut_at 32 (take place line)))) (Some place))) placed
      ∙ ap (λ (holds : Bool). provided holds (Some (length timed))) counted

  -- the clock's word with its colon
  abbrev stamp : List ℕ
  stamp = shows ++ 58 ∷ []

  stamp_lacks : Lacks 32 stamp
  stamp_lacks =
      lack_both 32 shows (58 ∷ []) (clock_lacks seconds micros is.most is.six 32 (omega arith) (λ (e : ◌≡◌ {A = ℕ} 48 32). omega (arith, e)) (λ (e : ◌≡◌ {A = ℕ} 46 32). omega (arith, e)))
      ((λ (e : ◌≡◌ {A = ℕ} 58 32). omega (arith, e)), tt)

  split : line ≡ (timed ++ 58 ∷ []) ++ (32 ∷ behind)
  split = line_is ∙ sym (append_assoc timed (58 ∷ []) (32 ∷ behind))

  one_more : length timed + 1 ≡ length (timed ++ 58 ∷ [])
  one_more = omega (arith, length-append timed (58 ∷ []))

  stamped_front : take (length timed + 1) line ≡ unnamed ++ 32 ∷ stamp
  stamped_front =
      ap (λ (n : ℕ). take n line) one_more
      ∙ ap (take (length (timed ++ 58 ∷ []))) split
      ∙ take-append_seam (timed ++ 58 ∷ []) (32 ∷ behind)
      ∙ append_assoc unnamed (32 ∷ shows) (58 ∷ [])

  stamp_is : stamp_at (length timed) line ≡ Some (1000000 * seconds + micros)
  stamp_is =
      ap (λ (front : List ℕ). stamp_of (last_word [] (cut_at 32 front))) stamped_front
      ∙ ap (λ (words : List (List ℕ)). stamp_of (last_word [] words)) (split_between 32 unnamed stamp)
      ∙ ap (λ (words : List (List ℕ)). stamp_of (last_word [] (cut_at 32 unnamed ++ words))) (split_lacking 32 stamp stamp_lacks)
      ∙ ap stamp_of (last_behind [] (cut_at 32 unnamed) stamp)
      ∙ stamp_read seconds micros is.most is.six

  rest_is : drop (length timed + 1) line ≡ 32 ∷ behind
  rest_is = ap (drop (length timed + 1)) split ∙ drop_at (timed ++ 58 ∷ []) (32 ∷ behind) (length timed + 1) (sym one_more)

  named_is : named_text (length timed) line ≡ text
  named_is =
      ap (λ (rest : List ℕ). without_system (without_spaces rest)) rest_is
      ∙ ap without_system (passes behind ∙ all_passed spaces named)
      ∙ begins tracer

  clocked : clock_event line ≡ event_behind (Some (1000000 * seconds + micros)) text
  clocked =
      ap (λ (o : Option ℕ). option_map_or (λ place. event_behind (stamp_at place line) (named_text place line)) o Absent) place_is
      ∙ ap (λ (o : Option ℕ). event_behind o (named_text (length timed) line)) stamp_is
      ∙ ap (event_behind (Some (1000000 * seconds + micros))) named_is

  pub event_at : (event : LineEvent) → event_behind (Some (1000000 * seconds + micros)) text ≡ event
      → event_or_unread line event ≡ event → line_event_of whole ≡ event
  event_at event read kept =
      ap (λ (text : List ℕ). event_or_unread text (clock_event text)) unnamed_is
      ∙ ap (event_or_unread line) (clocked ∙ read)
      ∙ kept

  -- a driver's event is found, if no other event is there
  driven : driver_event line ≡ driver_behind (Some (1000000 * seconds + micros)) text
  driven =
      ap (λ (o : Option ℕ). option_map_or (λ place. driver_behind (stamp_at place line) (named_text place line)) o Absent) place_is
      ∙ ap (λ (o : Option ℕ). driver_behind o (named_text (length timed) line)) stamp_is
      ∙ ap (driver_behind (Some (1000000 * seconds + micros))) named_is

  pub driver_at : (found : FoundMemory) → event_behind (Some (1000000 * seconds + micros)) text ≡ Absent
      → driver_behind (Some (1000000 * seconds + micros)) text ≡ Memory found → any_event_of true whole ≡ Memory found
  driver_at found none read =
      ap (λ (text : List ℕ). event_or (clock_event text) (event_or (driver_event text) (named_or_absent text))) unnamed_is
      ∙ ap (λ (event : LineEvent). event_or event (event_or (driver_event line) (named_or_absent line))) (clocked ∙ none)
      ∙ ap (λ (event : LineEvent). event_or event (named_or_absent line)) (driven ∙ read)

  -- what an event tells of its DIMM is read from its text
  pub dimm_at : traced_dimm_of whole ≡ dimm_behind text
  dimm_at =
      ap clocked_dimm unnamed_is
      ∙ ap (λ (o : Option ℕ). read_then o (λ place. dimm_behind (named_text place line))) place_is
      ∙ ap dimm_behind named_is

-- ---- PCI Express errors

module _ (tracer : Tracer) (front : List ℕ) (seconds micros spaces more : ℕ) (p : PrintedAer)
    (is : IsFront front seconds micros) (within : IsEvent (event_of p)) where
  abbrev aer_named : List ℕ
  aer_named = codes "aer_event: " ++ (replicate more 32 ++ aer_text p)

  aer_begins : (t : Tracer) → without_system (without_spaces (ras_before t ++ aer_named)) ≡ aer_named
  aer_begins trace_pipe = refl
  aer_begins trace_cmd = refl
  aer_begins perf = refl

  unspaced : without_spaces (aer_text p) ≡ aer_text p
  unspaced =
      let device : List ℕ = device_text p.device in
      let segment : List ℕ = padded 4 p.device.segment in
      let named_text_of : List ℕ = codes " PCIe Bus Error: severity=" ++ (severity_text p.severity ++ (codes ", " ++ (flags_text p ++ (codes ", TLP Header=" ++ header_text p.header)))) in
      let buses : List ℕ = padded 2 p.device.bus ++ 58 ∷ (padded 2 p.device.device ++ 46 ∷ decimal p.device.function) in
      no_space device named_text_of (device_lacks_space p.device within.device)
      (omega (arith, length-append segment (58 ∷ buses)))

  pub line_read : line_event_of (aer_line (event_head tracer front seconds micros spaces) more p) ≡ Found (record { stamp = 1000000 * seconds + micros; event = event_of p })
  line_read =
      event_at tracer front seconds micros spaces is (codes "aer_event: ") (replicate more 32 ++ aer_text p)
      (literal_lacks 45 (codes "aer_event: ") refl) (omega arith) aer_begins (Found (record { stamp = 1000000 * seconds + micros; event = event_of p }))
      (ap (λ (text : List ℕ). found_event (Some (1000000 * seconds + micros)) (aer_event_of text)) (all_passed more (aer_text p) ∙ unspaced)
      ∙ ap (found_event (Some (1000000 * seconds + micros))) (text_read p within))
      refl

-- ---- sections

module _ (tracer : Tracer) (front : List ℕ) (seconds micros spaces more : ℕ) (p : PrintedSection)
    (is : IsFront front seconds micros) (within : IsSection p) where
  abbrev section_named : List ℕ
  section_named = codes "non_standard_event: " ++ (replicate more 32 ++ printed_section p)

  section_begins : (t : Tracer) → without_system (without_spaces (ras_before t ++ section_named)) ≡ section_named
  section_begins trace_pipe = refl
  section_begins trace_cmd = refl
  section_begins perf = refl

  pub section_read : line_event_of (section_line (event_head tracer front seconds micros spaces) more p)
      ≡ Section (record { stamp = 1000000 * seconds + micros; head = head_of_section p })
  section_read =
      event_at tracer front seconds micros spaces is (codes "non_standard_event: ") (replicate more 32 ++ printed_section p)
      (literal_lacks 45 (codes "non_standard_event: ") refl) (omega arith) section_begins (Section (record { stamp = 1000000 * seconds + micros; head = head_of_section p }))
      (ap (λ (text : List ℕ). found_section (Some (1000000 * seconds + micros)) (section_head_of text)) (all_passed more (printed_section p))
      ∙ ap (found_section (Some (1000000 * seconds + micros))) (head_read p within))
      refl

  pub section_bytes_read : section_bytes_of (head_of_section p) (section_line (event_head tracer front seconds micros spaces) more p) ≡ Some p.bytes
  section_bytes_read =
      let head : List ℕ = event_head tracer front seconds micros spaces in
      let raw : List ℕ = raw_text p in
      bytes_are p within (section_line head more p)
      (ends_behind head raw section_named
      (ends_behind (codes "non_standard_event: ") raw (replicate more 32 ++ printed_section p)
      (ends_behind (replicate more 32) raw (printed_section p) (ends_whole p within))))

-- ---- memory errors

module _ (tracer : Tracer) (front : List ℕ) (seconds micros spaces more : ℕ) (p : PrintedMemory)
    (is : IsFront front seconds micros) (within : IsMemory p) where
  abbrev memory_named : List ℕ
  memory_named = codes "mc_event: " ++ (replicate more 32 ++ printed_memory p)

  memory_begins : (t : Tracer) → without_system (without_spaces (ras_before t ++ memory_named)) ≡ memory_named
  memory_begins trace_pipe = refl
  memory_begins trace_cmd = refl
  memory_begins perf = refl

  pub memory_read : line_event_of (memory_line (event_head tracer front seconds micros spaces) more p)
      ≡ Memory (record { stamp = 1000000 * seconds + micros; error = error_of_memory p })
  memory_read =
      event_at tracer front seconds micros spaces is (codes "mc_event: ") (replicate more 32 ++ printed_memory p)
      (literal_lacks 45 (codes "mc_event: ") refl) (omega arith) memory_begins (Memory (record { stamp = 1000000 * seconds + micros; error = error_of_memory p }))
      (ap (controller_event (Some (1000000 * seconds + micros))) (all_passed more (printed_memory p))
      ∙ controller_read p within (Some (1000000 * seconds + micros)))
      refl

module _ (tracer : Tracer) (front : List ℕ) (seconds micros spaces more : ℕ) (p : PrintedExtlog)
    (is : IsFront front seconds micros) (within : IsExtlog p) where
  abbrev extlog_named : List ℕ
  extlog_named = codes "extlog_mem_event: " ++ (replicate more 32 ++ printed_extlog p)

  extlog_begins : (t : Tracer) → without_system (without_spaces (ras_before t ++ extlog_named)) ≡ extlog_named
  extlog_begins trace_pipe = refl
  extlog_begins trace_cmd = refl
  extlog_begins perf = refl

  pub extlog_read : line_event_of (extlog_line (event_head tracer front seconds micros spaces) more p)
      ≡ Memory (record { stamp = 1000000 * seconds + micros; error = error_of_extlog p })
  extlog_read =
      event_at tracer front seconds micros spaces is (codes "extlog_mem_event: ") (replicate more 32 ++ printed_extlog p)
      (literal_lacks 45 (codes "extlog_mem_event: ") refl) (omega arith) extlog_begins (Memory (record { stamp = 1000000 * seconds + micros; error = error_of_extlog p }))
      (ap (λ (text : List ℕ). found_memory (Some (1000000 * seconds + micros)) (extlog_error_of text)) (all_passed more (printed_extlog p))
      ∙ ap (found_memory (Some (1000000 * seconds + micros))) (extlog_text_read p within))
      refl

-- ---- memory errors that a driver decoded

module _ (tracer : Tracer) (front : List ℕ) (seconds micros spaces more : ℕ) (p : PrintedDriver)
    (is : IsFront front seconds micros) (within : IsDriver p) where
  abbrev driver_named : List ℕ
  driver_named = codes "mc_event: " ++ (replicate more 32 ++ printed_driver p)

  driver_begins : (t : Tracer) → without_system (without_spaces (ras_before t ++ driver_named)) ≡ driver_named
  driver_begins trace_pipe = refl
  driver_begins trace_cmd = refl
  driver_begins perf = refl

  pub driver_read : any_event_of true (driver_line (event_head tracer front seconds micros spaces) more p)
      ≡ Memory (record { stamp = 1000000 * seconds + micros; error = error_of_driver p })
  driver_read =
      let stamp : Option ℕ = Some (1000000 * seconds + micros) in
      driver_at tracer front seconds micros spaces is (codes "mc_event: ") (replicate more 32 ++ printed_driver p)
      (literal_lacks 45 (codes "mc_event: ") refl) (omega arith) driver_begins (record { stamp = 1000000 * seconds + micros; error = error_of_driver p })
      (ap (controller_event stamp) (all_passed more (printed_driver p)) ∙ not_firmware p within stamp)
      (ap (λ (text : List ℕ). found_memory stamp (driver_error_of text)) (all_passed more (printed_driver p))
      ∙ ap (found_memory stamp) (driver_error_read p within))

  pub dimm_read : mark_place (codes " on") (spaced_message p) ≡ None
      → traced_dimm_of (driver_line (event_head tracer front seconds micros spaces) more p) ≡ dimm_of_driver p
  dimm_read plain =
      dimm_at tracer front seconds micros spaces is (codes "mc_event: ") (replicate more 32 ++ printed_driver p)
      (literal_lacks 45 (codes "mc_event: ") refl) (omega arith) driver_begins
      ∙ ap dimm_told (all_passed more (printed_driver p))
      ∙ dimm_is p within plain
