-- What events print that are done one after the other.
use Rattle.std.specs.Prelude.{◌≡◌, ℕ, ◌≤◌, List, ◌++◌, flat_map, length, take}
use Rattle.ras_texts.specs.Text.{done_line}
use Rattle.ras_events.specs.DoneLines.{done_count}
use Rattle.ras_events.specs.QuietLines.{AreQuietLines}

-- A printed event: its lines, and then its done line.
pub record PrintedEvent : Type 0 where
  pub text : List ℕ
  pub number : ℕ

abbrev pub printed_event : PrintedEvent → List ℕ
printed_event event = event.text ++ done_line event.number

abbrev pub printed_events : List PrintedEvent → List ℕ
printed_events events = flat_map printed_event events

-- No line of an event is a done line, except the last.
abbrev pub IsPrintedEvent : PrintedEvent → Type 0
IsPrintedEvent event = AreQuietLines event.text

-- A text starts with the whole output of the first n of these events, where n is its number of done lines.
pub record HoldsFirst (events : List PrintedEvent) (text : List ℕ) : Type 0 where
  pub few : done_count text ≤ length events
  pub left : List ℕ
  pub first : printed_events (take (done_count text) events) ++ left ≡ text
