-- An event's name after a clock is never skipped, and the name of a process in columns says nothing.
use Rattle.std.proofs.Common.{◌≡◌, ℕ, zero, suc, ◌<◌, ◌≤◌, ◌==◌, ◌&&◌, ◌||◌, Bool, true, false, List, [], ◌∷◌, ◌++◌, codes, drop, length, nat_eq, refl, sym, subst, ap, ◌∙◌, arith, append_assoc, Option, Some, None, if◌then◌else◌}
use Rattle.std.specs.Prelude.{is_some, replicate, slice_index, unwrap_or}
use Rattle.std.specs.Char.{is_digit}
use Rattle.std.specs.List.{starts_with}
use Rattle.std.specs.Option.{option_map_or, option_or}
use Rattle.std.specs.Str.{bytes_eq}
use Rattle.ras_script.proofs.LineAndWordLemmas.{split_between, split_lacking}
use Rattle.ras_script.specs.SplittingLaws.{Lacks}
use Rattle.bank_lines.specs.LogHeads.{mark_place}
use Rattle.bank_lines.specs.Parts.{cut_at, value_after}
use Rattle.bank_lines.specs.Trace.{behind_name, is_count}
use Rattle.bank_lines.specs.TraceHeads.{Tracer, clock, perf, trace_cmd, trace_pipe}
use Rattle.bank_lines.specs.declared.stamp.TheConstants.{MOST_SECONDS}
use Rattle.bank_lines.proofs.NumeralLemmas.{lack_both, literal_lacks}
use Rattle.bank_lines.proofs.TraceHeadLemmas.{behind_columns, clock_lacks, counts, named_front}
use Rattle.event_lines.specs.Driver.{any_event_of, driver_event, event_or, has_any_event, named_or_absent}
use Rattle.event_lines.specs.Kernel.{EventKind, aer_kind, event_head, extlog_kind, kind_name, ras_before, section_kind}
use Rattle.event_lines.specs.Memory.{behind_controller, firmware_mark}
use Rattle.event_lines.specs.Traced.{clock_event, event_or_unread, has_event, has_name, shows_clock, is_event_name, is_firmware, line_event_of}
use Rattle.event_lines.specs.declared.traced.LineEvent.{LineEvent}
use Rattle.event_lines.specs.declared.traced.LineEvent.TheVariants.{Absent, Unread, Found, Section, Memory}
use Rattle.event_lines.proofs.AerLemmas.{last_cut}
use Rattle.event_lines.proofs.ControllerLemmas.{last_behind_mark}
use Rattle.event_lines.proofs.LineLemmas.{no_dash}
use Rattle.event_lines.proofs.PlacedLemmas.{Stands, stands_behind}

-- ---- words

or_true : (a : Bool) → (a || true) ≡ true
or_true true = refl
or_true false = refl

module _ (by_firmware : Bool) where
  -- words before these change nothing
  has_behind : (words more : List (List ℕ)) → ((behind : Bool) → has_name by_firmware behind more ≡ true)
      → (behind : Bool) → has_name by_firmware behind (words ++ more) ≡ true
  has_behind [] more has behind = has behind
  has_behind (word ∷ words) more has behind =
      ap (λ (rest : Bool). (behind && is_event_name by_firmware word) || rest) (has_behind words more has (shows_clock word || (behind && (length word == 0))))
      ∙ or_true (behind && is_event_name by_firmware word)

  module _ (name text : List ℕ) (joined : Lacks 32 name) (named : is_event_name by_firmware name ≡ true) where
    -- an event's name is found after a clock and spaces
    has_here : (spaces : ℕ) → has_name by_firmware true (cut_at 32 (replicate spaces 32 ++ (name ++ 32 ∷ text))) ≡ true
    has_here zero =
        ap (has_name by_firmware true) (split_between 32 name text)
        ∙ ap (λ (words : List (List ℕ)). has_name by_firmware true (words ++ cut_at 32 text)) (split_lacking 32 name joined)
        ∙ ap (λ (is : Bool). is || has_name by_firmware (shows_clock name || (length name == 0)) (cut_at 32 text)) named
    has_here (suc n) =
        ap (has_name by_firmware true) (split_between 32 [] (replicate n 32 ++ (name ++ 32 ∷ text)))
        ∙ ap (λ (rest : Bool). is_event_name by_firmware [] || rest) (has_here n)
        ∙ or_true (is_event_name by_firmware [])

    module _ (front : List ℕ) (seconds micros spaces : ℕ) (most : seconds ≤ MOST_SECONDS) (low : micros < 1000000) where
      abbrev shows : List ℕ
      shows = clock seconds micros

      abbrev rest : List ℕ
      rest = replicate spaces 32 ++ (name ++ 32 ∷ text)

      abbrev stamp : List ℕ
      stamp = shows ++ 58 ∷ []

      stamp_lacks : Lacks 32 stamp
      stamp_lacks =
          lack_both 32 shows (58 ∷ []) (clock_lacks seconds micros most low 32 (omega arith) (λ (e : ◌≡◌ {A = ℕ} 48 32). omega (arith, e)) (λ (e : ◌≡◌ {A = ℕ} 46 32). omega (arith, e)))
          ((λ (e : ◌≡◌ {A = ℕ} 58 32). omega (arith, e)), tt)

      is_stamp : shows_clock stamp ≡ true
      is_stamp = ap (λ (o : Option (List ℕ)). option_map_or is_count o false) (last_cut 58 shows) ∙ counts seconds micros most low

      stamped : (behind : Bool) → has_name by_firmware behind (stamp ∷ cut_at 32 rest) ≡ true
      stamped behind =
          ap (λ (is : Bool). (behind && is_event_name by_firmware stamp) || has_name by_firmware (is || (behind && (length stamp == 0))) (cut_at 32 rest)) is_stamp
          ∙ ap (λ (has : Bool). (behind && is_event_name by_firmware stamp) || has) (has_here spaces)
          ∙ or_true (behind && is_event_name by_firmware stamp)

      words_are : cut_at 32 (front ++ 32 ∷ (shows ++ 58 ∷ 32 ∷ rest)) ≡ cut_at 32 front ++ stamp ∷ cut_at 32 rest
      words_are =
          split_between 32 front (shows ++ 58 ∷ 32 ∷ rest)
          ∙ ap (λ (text : List ℕ). cut_at 32 front ++ cut_at 32 text) (sym (append_assoc shows (58 ∷ []) (32 ∷ rest)))
          ∙ ap (λ (words : List (List ℕ)). cut_at 32 front ++ words) (split_between 32 stamp rest)
          ∙ ap (λ (words : List (List ℕ)). cut_at 32 front ++ (words ++ cut_at 32 rest)) (split_lacking 32 stamp stamp_lacks)

      pub name_found : has_name by_firmware false (cut_at 32 (front ++ 32 ∷ (shows ++ 58 ∷ 32 ∷ rest))) ≡ true
      name_found = ap (has_name by_firmware false) words_are ∙ has_behind (cut_at 32 front) (stamp ∷ cut_at 32 rest) stamped false

-- ---- a line

-- a line with an event's name after a clock isn't a line without an event
not_absent : (text : List ℕ) (event : LineEvent) → has_event text ≡ true → ¬ (event_or_unread text event ≡ Absent)
not_absent text Absent has is = absurd (unread_is (sym (ap (λ (b : Bool). if b then Unread else Absent) has) ∙ is))
  where
    unread_is : Unread ≡ Absent → ⊥
    unread_is = cc
not_absent text Unread has is = let other : Unread ≡ Absent = is in cc
not_absent text (Found found) has is = let other : Found found ≡ Absent = is in cc
not_absent text (Section found) has is = let other : Section found ≡ Absent = is in cc
not_absent text (Memory found) has is = let other : Memory found ≡ Absent = is in cc

-- an event, or another, isn't absent if the other isn't
either_there : (event other : LineEvent) → ¬ (other ≡ Absent) → ¬ (event_or event other ≡ Absent)
either_there Absent other there is = there is
either_there Unread other there is = let wrong : Unread ≡ Absent = is in cc
either_there (Found found) other there is = let wrong : Found found ≡ Absent = is in cc
either_there (Section found) other there is = let wrong : Section found ≡ Absent = is in cc
either_there (Memory found) other there is = let wrong : Memory found ≡ Absent = is in cc

named_there : (text : List ℕ) → has_any_event text ≡ true → ¬ (named_or_absent text ≡ Absent)
named_there text has is = let wrong : Unread ≡ Absent = sym (ap (λ (b : Bool). if b then Unread else Absent) has) ∙ is in cc

any_not_absent : (text : List ℕ) (event driver : LineEvent) → has_any_event text ≡ true → ¬ (event_or event (event_or driver (named_or_absent text)) ≡ Absent)
any_not_absent text event driver has =
    either_there event (event_or driver (named_or_absent text)) (either_there driver (named_or_absent text) (named_there text has))

is_somewhere : (mark text : List ℕ) → Stands mark text → is_some (mark_place mark text) ≡ true
is_somewhere mark text stands = ap is_some stands.is

some_is : {A : Type 0} (o : Option A) → ¬ (o ≡ None) → is_some o ≡ true
some_is None some = absurd (some refl)
some_is (Some x) some = refl

-- the last ` (mc:` of a text is also the last one after more text is put in front
some_kept : (front text inside : List ℕ) → behind_controller text ≡ Some inside → behind_controller (front ++ text) ≡ Some inside
some_kept [] text inside is = is
some_kept (b ∷ front) text inside is =
    ap (λ (o : Option (List ℕ)). option_or o (if starts_with nat_eq (b ∷ (front ++ text)) (codes " (mc:") then Some (drop 5 (b ∷ (front ++ text))) else None))
    (some_kept front text inside is)

abbrev any_name : List ℕ
any_name = codes "_event:"

module _ (tracer : Tracer) (front name text : List ℕ) (seconds micros spaces : ℕ) (most : seconds ≤ MOST_SECONDS) (low : micros < 1000000)
    (plain : Lacks 45 name) (long : 6 ≤ length name) (joined : Lacks 32 (ras_before tracer ++ name))
    (there : Stands any_name (name ++ 32 ∷ text)) where
  abbrev whole_name : List ℕ
  whole_name = ras_before tracer ++ name

  abbrev behind : List ℕ
  behind = replicate spaces 32 ++ (whole_name ++ 32 ∷ text)

  abbrev tail : List ℕ
  tail = clock seconds micros ++ 58 ∷ 32 ∷ behind

  abbrev line : List ℕ
  line = event_head tracer front seconds micros spaces ++ (name ++ 32 ∷ text)

  -- the line after a name in columns
  abbrev unnamed : List ℕ
  unnamed = behind_name front ++ 32 ∷ tail

  unnamed_is : behind_name line ≡ unnamed
  unnamed_is =
      let blanks : List ℕ = replicate spaces 32 in
      let system : List ℕ = ras_before tracer in
      let line_is : line ≡ front ++ 32 ∷ (clock seconds micros ++ 58 ∷ 32 ∷ (blanks ++ (system ++ (name ++ 32 ∷ text)))) =
      append_assoc front (32 ∷ (clock seconds micros ++ 58 ∷ 32 ∷ (blanks ++ system))) (name ++ 32 ∷ text)
      ∙ ap (λ (rest : List ℕ). front ++ 32 ∷ rest) (append_assoc (clock seconds micros) (58 ∷ 32 ∷ (blanks ++ system)) (name ++ 32 ∷ text))
      ∙ ap (λ (rest : List ℕ). front ++ 32 ∷ (clock seconds micros ++ 58 ∷ 32 ∷ rest)) (append_assoc blanks system (name ++ 32 ∷ text)) in
      ap behind_name line_is
      ∙ named_front front (clock seconds micros ++ 58 ∷ 32 ∷ (blanks ++ (system ++ (name ++ 32 ∷ text))))
      (no_dash tracer seconds micros spaces most low name (32 ∷ text) plain long)
      ∙ ap (λ (rest : List ℕ). behind_name front ++ 32 ∷ (clock seconds micros ++ 58 ∷ 32 ∷ (blanks ++ rest))) (sym (append_assoc system name (32 ∷ text)))

  any_there : Stands any_name unnamed
  any_there =
      stands_behind any_name (behind_name front) (32 ∷ tail)
      (stands_behind any_name (32 ∷ []) tail
      (stands_behind any_name (clock seconds micros) (58 ∷ 32 ∷ behind)
      (stands_behind any_name (58 ∷ 32 ∷ []) behind
      (stands_behind any_name (replicate spaces 32) (whole_name ++ 32 ∷ text)
      (subst (Stands any_name) (sym (append_assoc (ras_before tracer) name (32 ∷ text)))
      (stands_behind any_name (ras_before tracer) (name ++ 32 ∷ text) there))))))

  never_absent : (by_firmware : Bool) → is_event_name by_firmware whole_name ≡ true → is_firmware unnamed ≡ by_firmware → ¬ (line_event_of line ≡ Absent)
  never_absent by_firmware named firmware =
      let has : has_event unnamed ≡ true =
      ap (λ (there : Bool). there && has_name (is_firmware unnamed) false (cut_at 32 unnamed)) (is_somewhere any_name unnamed any_there)
      ∙ ap (λ (by : Bool). has_name by false (cut_at 32 unnamed)) firmware
      ∙ name_found by_firmware whole_name text joined named (behind_name front) seconds micros spaces most low in
      λ is. not_absent unnamed (clock_event unnamed) has (sym (ap (λ (text : List ℕ). event_or_unread text (clock_event text)) unnamed_is) ∙ is)

  -- an event's name is found, whoever made the event
  pub kind_never_absent : ((by_firmware : Bool) → is_event_name by_firmware whole_name ≡ true) → ¬ (line_event_of line ≡ Absent)
  kind_never_absent named = never_absent (is_firmware unnamed) (named (is_firmware unnamed)) refl

  -- a memory controller's event is found, if it has the name of the firmware's detail
  pub firmware_never_absent : (inside : List ℕ) → behind_controller text ≡ Some inside → ¬ (mark_place firmware_mark inside ≡ None)
      → is_event_name true whole_name ≡ true → ¬ (line_event_of line ≡ Absent)
  firmware_never_absent inside is marked named =
      let last : behind_controller unnamed ≡ Some inside =
      some_kept (behind_name front) (32 ∷ tail) inside
      (some_kept (32 ∷ []) tail inside
      (some_kept (clock seconds micros) (58 ∷ 32 ∷ behind) inside
      (some_kept (58 ∷ 32 ∷ []) behind inside
      (some_kept (replicate spaces 32) (whole_name ++ 32 ∷ text) inside
      (some_kept whole_name (32 ∷ text) inside
      (some_kept (32 ∷ []) text inside is)))))) in
      never_absent true named
      (ap (λ (o : Option (List ℕ)). option_map_or (λ behind. is_some (mark_place firmware_mark behind)) o true) last
      ∙ some_is (mark_place firmware_mark inside) marked)

  -- and whoever made it, if every driver's events are read
  pub any_never_absent : is_event_name true whole_name ≡ true → ¬ (any_event_of true line ≡ Absent)
  any_never_absent named =
      let has : has_any_event unnamed ≡ true =
      ap (λ (there : Bool). there && has_name true false (cut_at 32 unnamed)) (is_somewhere any_name unnamed any_there)
      ∙ name_found true whole_name text joined named (behind_name front) seconds micros spaces most low in
      λ is. any_not_absent unnamed (clock_event unnamed) (driver_event unnamed) has
      (sym (ap (λ (text : List ℕ). event_or (clock_event text) (event_or (driver_event text) (named_or_absent text))) unnamed_is) ∙ is)

-- ---- the events

named_is : (kind : EventKind) (tracer : Tracer) (by_firmware : Bool) → is_event_name by_firmware (ras_before tracer ++ kind_name kind) ≡ true
named_is aer_kind trace_pipe by_firmware = refl
named_is aer_kind trace_cmd by_firmware = refl
named_is aer_kind perf by_firmware = refl
named_is section_kind trace_pipe by_firmware = refl
named_is section_kind trace_cmd by_firmware = refl
named_is section_kind perf by_firmware = refl
named_is extlog_kind trace_pipe by_firmware = refl
named_is extlog_kind trace_cmd by_firmware = refl
named_is extlog_kind perf by_firmware = refl

ras_joined : (tracer : Tracer) (name : List ℕ) → Lacks 32 name → Lacks 32 (ras_before tracer ++ name)
ras_joined trace_pipe name lacks = lacks
ras_joined trace_cmd name lacks = lacks
ras_joined perf name lacks = lack_both 32 (codes "ras:") name (literal_lacks 32 (codes "ras:") refl) lacks

pub kind_passed : (kind : EventKind) (tracer : Tracer) (front text : List ℕ) (seconds micros spaces : ℕ) → seconds ≤ MOST_SECONDS → micros < 1000000
    → ¬ (line_event_of (event_head tracer front seconds micros spaces ++ (kind_name kind ++ 32 ∷ text)) ≡ Absent)
kind_passed aer_kind tracer front text seconds micros spaces most low =
    kind_never_absent tracer front (codes "aer_event:") text seconds micros spaces most low (literal_lacks 45 (codes "aer_event:") refl) (omega arith)
    (ras_joined tracer (codes "aer_event:") (literal_lacks 32 (codes "aer_event:") refl)) (record { place = 3; is = refl }) (named_is aer_kind tracer)
kind_passed section_kind tracer front text seconds micros spaces most low =
    kind_never_absent tracer front (codes "non_standard_event:") text seconds micros spaces most low (literal_lacks 45 (codes "non_standard_event:") refl) (omega arith)
    (ras_joined tracer (codes "non_standard_event:") (literal_lacks 32 (codes "non_standard_event:") refl)) (record { place = 12; is = refl }) (named_is section_kind tracer)
kind_passed extlog_kind tracer front text seconds micros spaces most low =
    kind_never_absent tracer front (codes "extlog_mem_event:") text seconds micros spaces most low (literal_lacks 45 (codes "extlog_mem_event:") refl) (omega arith)
    (ras_joined tracer (codes "extlog_mem_event:") (literal_lacks 32 (codes "extlog_mem_event:") refl)) (record { place = 10; is = refl }) (named_is extlog_kind tracer)

controller_named : (tracer : Tracer) → is_event_name true (ras_before tracer ++ codes "mc_event:") ≡ true
controller_named trace_pipe = refl
controller_named trace_cmd = refl
controller_named perf = refl

pub firmware_passed : (tracer : Tracer) (front told inside : List ℕ) (seconds micros spaces : ℕ) → seconds ≤ MOST_SECONDS → micros < 1000000
    → behind_controller inside ≡ None → ¬ (mark_place firmware_mark inside ≡ None)
    → ¬ (line_event_of (event_head tracer front seconds micros spaces ++ (codes "mc_event:" ++ 32 ∷ (told ++ (codes " (mc:" ++ inside)))) ≡ Absent)
firmware_passed tracer front told inside seconds micros spaces most low none marked =
    firmware_never_absent tracer front (codes "mc_event:") (told ++ (codes " (mc:" ++ inside)) seconds micros spaces most low
    (literal_lacks 45 (codes "mc_event:") refl) (omega arith) (ras_joined tracer (codes "mc_event:") (literal_lacks 32 (codes "mc_event:") refl))
    (record { place = 2; is = refl }) inside (last_behind_mark told inside none) marked (controller_named tracer)

-- ---- the name of a process

pub names_say_nothing : (name other rest : List ℕ) → length name ≡ 16 → length other ≡ 16 → is_digit (slice_index rest 0) 10 ≡ true
    → line_event_of (name ++ 45 ∷ rest) ≡ line_event_of (other ++ 45 ∷ rest)
names_say_nothing name other rest long other_long digit =
    ap (λ (text : List ℕ). event_or_unread text (clock_event text))
    (behind_columns name rest long digit ∙ sym (behind_columns other rest other_long digit))

pub any_names_say_nothing : (drivers : Bool) (name other rest : List ℕ) → length name ≡ 16 → length other ≡ 16 → is_digit (slice_index rest 0) 10 ≡ true
    → any_event_of drivers (name ++ 45 ∷ rest) ≡ any_event_of drivers (other ++ 45 ∷ rest)
any_names_say_nothing false name other rest long other_long digit = names_say_nothing name other rest long other_long digit
any_names_say_nothing true name other rest long other_long digit =
    ap (λ (text : List ℕ). event_or (clock_event text) (event_or (driver_event text) (named_or_absent text)))
    (behind_columns name rest long digit ∙ sym (behind_columns other rest other_long digit))

-- ---- with the drivers' events

pub driver_passed : (tracer : Tracer) (front text : List ℕ) (seconds micros spaces : ℕ) → seconds ≤ MOST_SECONDS → micros < 1000000
    → ¬ (any_event_of true (event_head tracer front seconds micros spaces ++ (codes "mc_event:" ++ 32 ∷ text)) ≡ Absent)
driver_passed tracer front text seconds micros spaces most low =
    any_never_absent tracer front (codes "mc_event:") text seconds micros spaces most low
    (literal_lacks 45 (codes "mc_event:") refl) (omega arith) (ras_joined tracer (codes "mc_event:") (literal_lacks 32 (codes "mc_event:") refl))
    (record { place = 2; is = refl }) (controller_named tracer)

-- a name that is found without the drivers' names is found with them
or_more : (a b c d : Bool) → (a || (b || (c || false))) ≡ true → (a || (b || (c || d))) ≡ true
or_more true b c d is = refl
or_more false true c d is = refl
or_more false false true d is = refl
or_more false false false d is = absurd cc

name_more : (word : List ℕ) → is_event_name false word ≡ true → is_event_name true word ≡ true
name_more word is =
    let name : List ℕ = unwrap_or (value_after (codes "ras:") word) word in
    or_more (bytes_eq name (codes "aer_event:")) (bytes_eq name (codes "non_standard_event:")) (bytes_eq name (codes "extlog_mem_event:")) (bytes_eq name (codes "mc_event:")) is

either_more : (first here more some all : Bool) → (here ≡ true → more ≡ true) → (some ≡ true → all ≡ true)
    → ((first && here) || some) ≡ true → ((first && more) || all) ≡ true
either_more false here more some all one other is = other is
either_more true true more some all one other is = ap (λ (b : Bool). b || all) (one refl)
either_more true false more some all one other is = ap (λ (b : Bool). more || b) (other is) ∙ or_true more

all_named : (after : Bool) (words : List (List ℕ)) → has_name false after words ≡ true → has_name true after words ≡ true
all_named after [] is = is
all_named after (word ∷ words) is =
    let next : Bool = shows_clock word || (after && (length word == 0)) in
    either_more after (is_event_name false word) (is_event_name true word) (has_name false next words) (has_name true next words)
    (name_more word) (all_named next words) is

name_kept : (by_firmware : Bool) (words : List (List ℕ)) → has_name by_firmware false words ≡ true → has_name true false words ≡ true
name_kept true words is = is
name_kept false words is = all_named false words is

event_kept : (text : List ℕ) → has_event text ≡ true → has_any_event text ≡ true
event_kept text is = by (is_some (mark_place any_name text)) is
  where
    by : (there : Bool) → (there && has_name (is_firmware text) false (cut_at 32 text)) ≡ true → (there && has_name true false (cut_at 32 text)) ≡ true
    by true is = name_kept (is_firmware text) (cut_at 32 text) is
    by false is = absurd cc

-- a line's event, given the event after its clock and whether its text has an event's name
module _ (text : List ℕ) where
  abbrev either : LineEvent → LineEvent
  either event = event_or event (event_or (driver_event text) (named_or_absent text))

  kept_there : (event : LineEvent) → ¬ (event_or_unread text event ≡ Absent) → ¬ (either event ≡ Absent)
  kept_there Absent there = by (has_event text) refl there
    where
      by : (has : Bool) → has_event text ≡ has → ¬ ((if has then Unread else Absent) ≡ Absent) → ¬ (either Absent ≡ Absent)
      by true has there = any_not_absent text Absent (driver_event text) (event_kept text has)
      by false has there = absurd (there refl)
  kept_there Unread there = there
  kept_there (Found found) there = there
  kept_there (Section found) there = there
  kept_there (Memory found) there = there

  kept_same : (event : LineEvent) → ¬ (event_or_unread text event ≡ Absent) → ¬ (event_or_unread text event ≡ Unread) → either event ≡ event_or_unread text event
  kept_same Absent there read = by (has_event text) there read
    where
      by : (has : Bool) → ¬ ((if has then Unread else Absent) ≡ Absent) → ¬ ((if has then Unread else Absent) ≡ Unread) → either Absent ≡ (if has then Unread else Absent)
      by true there read = absurd (read refl)
      by false there read = absurd (there refl)
  kept_same Unread there read = refl
  kept_same (Found found) there read = refl
  kept_same (Section found) there read = refl
  kept_same (Memory found) there read = refl

pub still_there : (drivers : Bool) (bytes : List ℕ) → ¬ (line_event_of bytes ≡ Absent) → ¬ (any_event_of drivers bytes ≡ Absent)
still_there false bytes there = there
still_there true bytes there = kept_there (behind_name bytes) (clock_event (behind_name bytes)) there

pub still_same : (drivers : Bool) (bytes : List ℕ) → ¬ (line_event_of bytes ≡ Absent) → ¬ (line_event_of bytes ≡ Unread) → any_event_of drivers bytes ≡ line_event_of bytes
still_same false bytes there read = refl
still_same true bytes there read = kept_same (behind_name bytes) (clock_event (behind_name bytes)) there read
