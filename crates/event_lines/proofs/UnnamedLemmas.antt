-- A text without the end of an event's name has no event.
use Rattle.std.proofs.Common.{◌≡◌, ℕ, zero, suc, ◌+◌, ◌==◌, ◌&&◌, Bool, true, false, nat_eq, List, [], ◌∷◌, ◌++◌, codes, drop, length, take, refl, sym, subst, ap, ◌∙◌, Option, Some, None, if◌then◌else◌}
use Rattle.std.specs.Prelude.{is_some, not, unwrap_or}
use Rattle.std.specs.List.{position_or_len, starts_with}
use Rattle.std.specs.Option.{option_map, option_map_or}
use Rattle.std.specs.Str.{bytes_eq}
use Rattle.std.proofs.lemmas.List.{take-append-drop}
use Rattle.std.proofs.lemmas.Slice.Eq.{bytes_eq-Decides}
use Rattle.ras_klog.specs.Reading.{read_then}
use Rattle.bank_lines.specs.LogHeads.{begins, mark_place, without_spaces}
use Rattle.bank_lines.specs.Parts.{cut_at, value_after}
use Rattle.bank_lines.specs.Trace.{behind_name}
use Rattle.event_lines.specs.DimmTold.{clocked_dimm, dimm_behind, traced_dimm_of}
use Rattle.event_lines.specs.Driver.{any_event_of, driver_behind, driver_event, event_or, named_or_absent}
use Rattle.event_lines.specs.Traced.{clock_event, clock_place, event_behind, event_or_unread, has_name, is_extlog, is_firmware, line_event_of, named_text, stamp_at}
use Rattle.event_lines.specs.declared.traced.LineEvent.{LineEvent}
use Rattle.event_lines.specs.declared.traced.LineEvent.TheVariants.{Absent, Unread}
use Rattle.event_lines.proofs.PlacedLemmas.{Stands}

abbrev mark : List ℕ
mark = codes "_event:"

abbrev pub IsUnnamed : List ℕ → Type 0
IsUnnamed text = mark_place mark text ≡ None

-- ---- a part of the text

unnamed_next : (b : ℕ) (text : List ℕ) → IsUnnamed (b ∷ text) → IsUnnamed text
unnamed_next b text none = by (starts_with nat_eq (b ∷ text) mark) (mark_place mark text) none
  where
    by : (starts : Bool) (o : Option ℕ) → (if starts then Some 0 else option_map (λ place. place + 1) o) ≡ None → o ≡ None
    by true o none = absurd cc
    by false None none = refl
    by false (Some place) none = absurd cc

unnamed_behind : (n : ℕ) (text : List ℕ) → IsUnnamed text → IsUnnamed (drop n text)
unnamed_behind zero text none = none
unnamed_behind (suc n) [] none = refl
unnamed_behind (suc n) (b ∷ text) none = unnamed_behind n text (unnamed_next b text none)

unnamed_text : (place : ℕ) (line : List ℕ) → IsUnnamed line → IsUnnamed (named_text place line)
unnamed_text place line none = by (bytes_eq (take 4 text) (codes "ras:"))
  where
    text : List ℕ
    text = without_spaces (drop (place + 1) line)

    spaces : ℕ
    spaces = position_or_len (λ b. not (b == 32)) (drop (place + 1) line)

    unnamed : IsUnnamed text
    unnamed = unnamed_behind spaces (drop (place + 1) line) (unnamed_behind (place + 1) line none)

    by : (system : Bool) → IsUnnamed (unwrap_or (if system then Some (drop 4 text) else None) text)
    by true = unnamed_behind 4 text unnamed
    by false = unnamed

-- ---- no name

module _ (name : List ℕ) (named : (rest : List ℕ) → Stands mark (name ++ rest)) (text : List ℕ) (none : IsUnnamed text) where
  never : name ≡ take (length name) text → ⊥
  never front =
      let whole : text ≡ name ++ drop (length name) text =
      sym (take-append-drop (length name) text) ∙ ap (λ (t : List ℕ). t ++ drop (length name) text) (sym front) in
      let stands : Stands mark (name ++ drop (length name) text) = named (drop (length name) text) in
      let wrong : Some stands.place ≡ None = sym stands.is ∙ subst IsUnnamed whole none in cc

  no_value : value_after name text ≡ None
  no_value = by (bytes_eq (take (length name) text) name) refl
    where
      by : (same : Bool) → bytes_eq (take (length name) text) name ≡ same → (if same then Some (drop (length name) text) else None) ≡ None
      by true same = absurd (never (sym ((bytes_eq-Decides (take (length name) text) name).0 same)))
      by false same = refl

  no_start : begins text name ≡ false
  no_start = by (begins text name) refl
    where
      by : (starts : Bool) → begins text name ≡ starts → starts ≡ false
      by true starts = absurd (never ((bytes_eq-Decides name (take (length name) text)).0 starts))
      by false starts = refl

module _ (text : List ℕ) (none : IsUnnamed text) where
  no_aer : value_after (codes "aer_event: ") text ≡ None
  no_aer = no_value (codes "aer_event: ") (λ rest. record { place = 3; is = refl }) text none

  no_section : value_after (codes "non_standard_event: ") text ≡ None
  no_section = no_value (codes "non_standard_event: ") (λ rest. record { place = 12; is = refl }) text none

  no_controller : value_after (codes "mc_event: ") text ≡ None
  no_controller = no_value (codes "mc_event: ") (λ rest. record { place = 2; is = refl }) text none

  no_extlog : value_after (codes "extlog_mem_event: ") text ≡ None
  no_extlog = no_value (codes "extlog_mem_event: ") (λ rest. record { place = 10; is = refl }) text none

  no_extlog_start : begins text (codes "extlog_mem_event: ") ≡ false
  no_extlog_start = no_start (codes "extlog_mem_event: ") (λ rest. record { place = 10; is = refl }) text none

  no_event_behind : (stamp : Option ℕ) → event_behind stamp text ≡ Absent
  no_event_behind stamp = rw (no_aer, no_section, no_controller, no_extlog) refl

  no_driver_behind : (stamp : Option ℕ) → driver_behind stamp text ≡ Absent
  no_driver_behind stamp = rw (no_controller) refl

  no_dimm_behind : dimm_behind text ≡ None
  no_dimm_behind = rw (no_controller) refl

-- ---- a line

module _ (text : List ℕ) (none : IsUnnamed text) where
  no_clock_event : clock_event text ≡ Absent
  no_clock_event = by (clock_place text)
    where
      by : (o : Option ℕ) → option_map_or (λ place. event_behind (stamp_at place text) (named_text place text)) o Absent ≡ Absent
      by None = refl
      by (Some place) = no_event_behind (named_text place text) (unnamed_text place text none) (stamp_at place text)

  no_driver_event : driver_event text ≡ Absent
  no_driver_event = by (clock_place text)
    where
      by : (o : Option ℕ) → option_map_or (λ place. driver_behind (stamp_at place text) (named_text place text)) o Absent ≡ Absent
      by None = refl
      by (Some place) = no_driver_behind (named_text place text) (unnamed_text place text none) (stamp_at place text)

  no_clocked_dimm : clocked_dimm text ≡ None
  no_clocked_dimm = by (clock_place text)
    where
      by : (o : Option ℕ) → read_then o (λ place. dimm_behind (named_text place text)) ≡ None
      by None = refl
      by (Some place) = no_dimm_behind (named_text place text) (unnamed_text place text none)

  no_extlog_at : option_map_or (λ place. begins (named_text place text) (codes "extlog_mem_event: ")) (clock_place text) false ≡ false
  no_extlog_at = by (clock_place text)
    where
      by : (o : Option ℕ) → option_map_or (λ place. begins (named_text place text) (codes "extlog_mem_event: ")) o false ≡ false
      by None = refl
      by (Some place) = no_extlog_start (named_text place text) (unnamed_text place text none)

  no_line_event : event_or_unread text (clock_event text) ≡ Absent
  no_line_event =
      ap (event_or_unread text) no_clock_event
      ∙ ap (λ (o : Option ℕ). if is_some o && has_name (is_firmware text) false (cut_at 32 text) then Unread else Absent) none

  no_any_event : event_or (clock_event text) (event_or (driver_event text) (named_or_absent text)) ≡ Absent
  no_any_event =
      ap (λ (event : LineEvent). event_or event (event_or (driver_event text) (named_or_absent text))) no_clock_event
      ∙ ap (λ (event : LineEvent). event_or event (named_or_absent text)) no_driver_event
      ∙ ap (λ (o : Option ℕ). if is_some o && has_name true false (cut_at 32 text) then Unread else Absent) none

-- what a search tells
pub unnamed_by : (text : List ℕ) → is_some (mark_place mark text) ≡ false → IsUnnamed text
unnamed_by text is = by (mark_place mark text) is
  where
    by : (o : Option ℕ) → is_some o ≡ false → o ≡ None
    by None is = refl
    by (Some place) is = absurd cc

pub absent_line : (line text : List ℕ) → text ≡ behind_name line → IsUnnamed text → Absent ≡ line_event_of line
absent_line line text is none = sym (no_line_event text none) ∙ ap (λ (text : List ℕ). event_or_unread text (clock_event text)) is

pub absent_any : (line text : List ℕ) → text ≡ behind_name line → IsUnnamed text → Absent ≡ any_event_of true line
absent_any line text is none =
    sym (no_any_event text none) ∙ ap (λ (text : List ℕ). event_or (clock_event text) (event_or (driver_event text) (named_or_absent text))) is

pub no_extlog_line : (line text : List ℕ) → text ≡ behind_name line → IsUnnamed text → false ≡ is_extlog line
no_extlog_line line text is none =
    sym (no_extlog_at text none)
    ∙ ap (λ (text : List ℕ). option_map_or (λ place. begins (named_text place text) (codes "extlog_mem_event: ")) (clock_place text) false) is

pub no_dimm_line : (line text : List ℕ) → text ≡ behind_name line → IsUnnamed text → None ≡ traced_dimm_of line
no_dimm_line line text is none = sym (no_clocked_dimm text none) ∙ ap clocked_dimm is
