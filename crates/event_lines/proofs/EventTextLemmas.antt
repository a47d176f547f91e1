-- The text of an event is whole lines, and there is one.
use Rattle.std.proofs.Common.{◌≡◌, ℕ, ◌+◌, Bool, true, false, List, [], ◌∷◌, ◌++◌, refl, sym, ap, ◌∙◌, Option, None, Some}
use Rattle.std.specs.Option.{option_map_or}
use Rattle.block_lines.specs.Filter.{BlockProgress}
use Rattle.block_lines.specs.Reports.{Reporting}
use Rattle.block_lines.specs.Texts.{source_block_text, table_text, unread_report_line}
use Rattle.block_lines.specs.Whole.{AreWholeLines}
use Rattle.block_lines.proofs.WholeLemmas.{blocks_whole, ends, source_block_whole, source_line}
use Rattle.event_lines.specs.Driver.{any_event_of}
use Rattle.event_lines.specs.Events.{is_there, tells_any, tells_event}
use Rattle.event_lines.specs.Filter.{event_block, event_text_by, memory_block, section_block_of, section_event_text}
use Rattle.event_lines.specs.Traced.{line_event_of}
use Rattle.event_lines.specs.declared.filter.TheConstants.{TRACE_SOURCE}
use Rattle.event_lines.specs.declared.traced.FoundSection.{FoundSection}
use Rattle.event_lines.specs.declared.traced.LineEvent.{LineEvent}
use Rattle.event_lines.specs.declared.traced.LineEvent.TheVariants.{Absent, Found, Memory, Section, Unread}
use Rattle.event_lines.proofs.NameLemmas.{still_there}

-- ---- whole lines

section_whole : (p : BlockProgress) (found : FoundSection) (made : Option (List ℕ))
    → AreWholeLines (option_map_or (section_event_text p.reports found) made (unread_report_line (p.taken + 1) ++ 10 ∷ []))
section_whole p found None = ends (unread_report_line (p.taken + 1))
section_whole p found (Some block) = source_block_whole p.reports TRACE_SOURCE found.stamp block

pub event_whole : (p : BlockProgress) (line : List ℕ) (event : LineEvent) → AreWholeLines (event_text_by p line event)
event_whole p line Absent = blocks_whole None p.reports (p.taken + 1) line
event_whole p line Unread = ends (unread_report_line (p.taken + 1))
event_whole p line (Found found) = source_block_whole p.reports TRACE_SOURCE found.stamp (event_block found.event)
event_whole p line (Section found) = section_whole p found (section_block_of found line)
event_whole p line (Memory found) = source_block_whole p.reports TRACE_SOURCE found.stamp (memory_block found.error)

-- ---- a text

abbrev pub IsSaid : List ℕ → Type 0
IsSaid text = ¬ (text ≡ [])

pub said_after : (text : List ℕ) (b : ℕ) (rest : List ℕ) → IsSaid (text ++ b ∷ rest)
said_after [] b rest is = absurd cc
said_after (x ∷ text) b rest is = absurd cc

pub said_left : (text rest : List ℕ) → IsSaid text → IsSaid (text ++ rest)
said_left [] rest said is = said refl
said_left (x ∷ text) rest said is = absurd cc

pub said_right : (text rest : List ℕ) → IsSaid rest → IsSaid (text ++ rest)
said_right [] rest said is = said is
said_right (x ∷ text) rest said is = absurd cc

block_said : (r : Reporting) (source number : ℕ) (block : List ℕ) → IsSaid (source_block_text r source number block)
block_said r source number block = said_after (table_text r.sources source ++ source_line r source number block) 10 []

section_said : (p : BlockProgress) (found : FoundSection) (made : Option (List ℕ))
    → IsSaid (option_map_or (section_event_text p.reports found) made (unread_report_line (p.taken + 1) ++ 10 ∷ []))
section_said p found None = said_after (unread_report_line (p.taken + 1)) 10 []
section_said p found (Some block) = block_said p.reports TRACE_SOURCE found.stamp block

pub event_said : (p : BlockProgress) (line : List ℕ) (event : LineEvent) → is_there event ≡ true → IsSaid (event_text_by p line event)
event_said p line Absent there = absurd cc
event_said p line Unread there = said_after (unread_report_line (p.taken + 1)) 10 []
event_said p line (Found found) there = block_said p.reports TRACE_SOURCE found.stamp (event_block found.event)
event_said p line (Section found) there = section_said p found (section_block_of found line)
event_said p line (Memory found) there = block_said p.reports TRACE_SOURCE found.stamp (memory_block found.error)

-- ---- with the drivers' events

is_event : (event : LineEvent) → ¬ (event ≡ Absent) → is_there event ≡ true
is_event Absent some = absurd (some refl)
is_event Unread some = refl
is_event (Found found) some = refl
is_event (Section found) some = refl
is_event (Memory found) some = refl

pub told_any : (drivers : Bool) (line : List ℕ) → tells_event line ≡ true → tells_any drivers line ≡ true
told_any drivers line tells = is_event (any_event_of drivers line) (still_there drivers line some)
  where
    some : ¬ (line_event_of line ≡ Absent)
    some absent = let wrong : false ≡ true = sym (ap is_there absent) ∙ tells in cc
