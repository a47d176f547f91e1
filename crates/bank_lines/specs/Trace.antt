-- What is found in a line of the text of the kernel's trace.
use Rattle.std.specs.Prelude.{nat_lt, ℕ, ◌+◌, ◌==◌, ◌&&◌, ◌||◌, Bool, false, List, [], ◌∷◌, codes, drop, length, slice_index, take, nat_eq, Option, None, Some, if◌then◌else◌}
use Rattle.std.specs.Char.{is_digit}
use Rattle.std.specs.List.{list_all, starts_with}
use Rattle.std.specs.Option.{option_map_or}
use Rattle.std.specs.Str.{bytes_eq}
use Rattle.ras_facts.specs.declared.bank.BankReport.{BankReport}
use Rattle.bank_lines.specs.declared.event.TraceEvent.{TraceEvent}
use Rattle.bank_lines.specs.declared.found.Finding.{Finding}
use Rattle.bank_lines.specs.declared.found.Finding.TheVariants.{Nothing, Foreign, Unread}
use Rattle.bank_lines.specs.TraceEvent.{event_in}
use Rattle.bank_lines.specs.Finding.{found_of}
use Rattle.bank_lines.specs.LogHeads.{has_digit, mark_place, without_spaces}
use Rattle.bank_lines.specs.Parts.{cut_at}

-- the event name, which comes before the text of an event
abbrev pub event_mark : List ℕ
event_mark = codes "mce_record: "

-- an index with one more byte before it; without an index, 0 if the event name is `here`
abbrev pub one_on : Option ℕ → Bool → Option ℕ
one_on (Some place) here = Some (place + 1)
one_on None here = if here then Some 0 else None

-- the index of a line's last event name
abbrev pub last_mark : List ℕ → Option ℕ
last_mark [] = None
last_mark (b ∷ line) = one_on (last_mark line) (starts_with nat_eq (b ∷ line) event_mark)

-- ---- where tracers print an event

-- Whether a line has the name of a process in columns: the kernel's own file prints it in the first 16, and after
-- them `-` and the number of the process (`trace_print_context` of kernel/trace/trace_output.c). A name has at most
-- 15 bytes, so no name reaches the `-`, whatever its bytes are.
abbrev pub is_in_columns : List ℕ → Bool
is_in_columns line =
    nat_lt 17 (length line) && (slice_index line 16 == 45 && is_digit (slice_index line 17) 10)

-- the text after a name in columns, or the whole line
abbrev pub behind_name : List ℕ → List ℕ
behind_name line = if is_in_columns line then drop 17 line else line

-- the last of these words, or `word` if there is none
abbrev pub last_word : List ℕ → List (List ℕ) → List ℕ
last_word word [] = word
last_word word (next ∷ words) = last_word next words

abbrev pub are_count_signs : List ℕ → Bool
are_count_signs word = list_all (λ b. b == 46 || is_digit b 10) word

-- What a tracer's clock shows: `12.500001`, or without microseconds. It has at least four characters: the name of a
-- process has at most 15 bytes, so no name contains such a word, a colon and the event name.
abbrev pub is_count : List ℕ → Bool
is_count word = nat_lt 3 (length word) && (has_digit word && are_count_signs word)

-- what may come between the clock's colon and the event name: spaces, and after them `mce:`, as perf prints it
abbrev pub is_system : List ℕ → Bool
is_system text = let name = without_spaces text in length name == 0 || bytes_eq name (codes "mce:")

abbrev pub is_traced_by : List ℕ → Option ℕ → Bool
is_traced_by before None = false
is_traced_by before (Some place) =
    is_count (last_word [] (cut_at 32 (take place before))) && is_system (drop (place + 1) before)

-- Whether tracers print this text before an event's name: after a name in columns, the first colon that a space
-- follows comes right after the clock, and only spaces and `mce:` come after it. An event name in the text of another
-- event, which a process may have chosen, has no such text before it.
abbrev pub is_traced : List ℕ → Bool
is_traced before = let head = behind_name before in is_traced_by head (mark_place (codes ": ") head)

-- whether a line has an event name, and its last one is where tracers print it
abbrev pub is_event_line : List ℕ → Bool
is_event_line line = option_map_or (λ place. is_traced (take place line)) (last_mark line) false

-- ---- what is found

-- the report of an event of this boot
abbrev pub event_report : ℕ → TraceEvent → BankReport
event_report boot event = record {
  boot = boot;
  seconds = event.seconds;
  cpu = event.cpu;
  bank = event.bank;
  tsc = event.tsc;
  cap = event.cap;
  mcg = event.mcg;
  status = event.status;
  addr = event.addr;
  misc = event.misc;
}

-- the finding of an event
abbrev pub event_found : ℕ → TraceEvent → Finding
event_found boot event =
    if event.vendor == 0 then found_of (event_report boot event)
    else Foreign event.vendor event.cpu event.bank

-- the finding in a line whose last event name is at this index
abbrev pub found_at : ℕ → List ℕ → ℕ → Finding
found_at boot line place =
    if is_traced (take place line)
    then option_map_or (event_found boot) (event_in (drop (place + 12) line)) Unread
    else Unread

-- the finding in a line
abbrev pub trace_found : ℕ → List ℕ → Finding
trace_found boot line = option_map_or (found_at boot line) (last_mark line) Nothing
