-- The findings along the lines of a log are the findings of its groups.
use Rattle.std.proofs.Common.{◌≡◌, ℕ, ◌==◌, Bool, true, false, List, [], ◌∷◌, ◌++◌, map, refl, sym, ap, ◌∙◌, Option, None, Some, if◌then◌else◌}
use Rattle.std.specs.List.{flat_map}
use Rattle.mca_status.specs.Registers.{valid}
use Rattle.ras_facts.specs.Facts.{status_in}
use Rattle.ras_facts.specs.declared.bank.BankReport.{BankReport}
use Rattle.ras_klog.specs.Groups.{bank_of_group, told_of, told_of_groups, told_seconds, up_to_start, with_seconds}
use Rattle.ras_klog.specs.declared.line.KlogLine.{KlogLine}
use Rattle.ras_klog.specs.declared.line.KlogLine.TheVariants.{Start, Tsc, Processor, Other}
use Rattle.ras_klog.specs.declared.state.Head.{Head}
use Rattle.ras_klog.specs.declared.state.KlogOut.{KlogOut}
use Rattle.ras_klog.specs.declared.state.KlogOut.TheVariants as Told
use Rattle.ras_klog.specs.declared.state.Stage.{Stage}
use Rattle.ras_klog.specs.declared.state.Stage.TheVariants.{Idle, Begun, Timed}
use Rattle.ras_klog.specs.Stages.{has_place, out_at}
use Rattle.bank_lines.specs.Counts.{KeyCounts, named_found, number_in, whole_by}
use Rattle.bank_lines.specs.Naming.{key_of}
use Rattle.bank_lines.specs.Finding.{lacks_address, without_address}
use Rattle.bank_lines.specs.LogAlong.{found_at_end, state_after}
use Rattle.bank_lines.specs.LogGroups.{before_end, found_told, group_founds_from, group_vendor, klog_part, log_groups, log_up_to_start, judged, counts_by, printers_after, timed_vendor, told_in}
use Rattle.bank_lines.specs.declared.found.Finding.{Finding}
use Rattle.bank_lines.specs.declared.log_line.LogLine.{LogLine}
use Rattle.bank_lines.specs.declared.log_line.LogLine.TheVariants.{Nothing, Unread, Part}
use Rattle.bank_lines.specs.declared.log_line.Print.{Print}
use Rattle.bank_lines.specs.declared.log_state.LogState.{LogState}
use Rattle.bank_lines.specs.declared.log_state.Printers.{Printers}

-- ---- the groups are those of `klog`

up_is : (lines : List LogLine) → map klog_part (log_up_to_start lines) ≡ up_to_start (map klog_part lines)
up_is [] = refl
up_is (Part (Start c m b s) print vendor ∷ lines) = refl
up_is (Part (Tsc t a m) print vendor ∷ lines) = ap (λ (rest : List KlogLine). Tsc t a m ∷ rest) (up_is lines)
up_is (Part (Processor seconds) print vendor ∷ lines) = ap (λ (rest : List KlogLine). Processor seconds ∷ rest) (up_is lines)
up_is (Part Other print vendor ∷ lines) = ap (λ (rest : List KlogLine). Other ∷ rest) (up_is lines)
up_is (Nothing ∷ lines) = ap (λ (rest : List KlogLine). Other ∷ rest) (up_is lines)
up_is (Unread ∷ lines) = ap (λ (rest : List KlogLine). Other ∷ rest) (up_is lines)

module _ (boot cap : ℕ) where
  pub groups_are : (lines : List LogLine) → map (told_in boot cap) (log_groups lines) ≡ told_of_groups boot cap (map klog_part lines)
  groups_are [] = refl
  groups_are (Part (Start c m b s) print vendor ∷ lines) =
      ap (λ (rest : List KlogLine). told_of boot cap (record { cpu = c; mcg = m; bank = b; status = s }) rest ∷ map (told_in boot cap) (log_groups lines)) (up_is lines)
      ∙ ap (λ (outs : List KlogOut). told_of boot cap (record { cpu = c; mcg = m; bank = b; status = s }) (up_to_start (map klog_part lines)) ∷ outs) (groups_are lines)
  groups_are (Part (Tsc t a m) print vendor ∷ lines) = groups_are lines
  groups_are (Part (Processor seconds) print vendor ∷ lines) = groups_are lines
  groups_are (Part Other print vendor ∷ lines) = groups_are lines
  groups_are (Nothing ∷ lines) = groups_are lines
  groups_are (Unread ∷ lines) = groups_are lines

-- ---- along the lines

-- the group's finding at a line: nothing if the line is skipped
abbrev pub group_found : ℕ → ℕ → LogState → LogLine → Finding
group_found boot cap state (Part line print vendor) =
    if has_place state.work line
    then found_told state.printers state.print vendor (out_at boot cap state.work line) else Finding.Nothing
group_found boot cap state line = Finding.Nothing

abbrev pub found_group : ℕ → ℕ → Printers → Print → Head → List LogLine → Finding
found_group boot cap before print head rest = found_told before print (group_vendor rest) (told_of boot cap head (map klog_part rest))

abbrev pub work : Stage → Print → Printers → LogState
work stage print before = record { work = stage; print = print; printers = before }

-- ---- what is found of a whole report is none that isn't whole

abbrev is_partial : Finding → Bool
is_partial (Finding.Partial cpu bank) = true
is_partial found = false

goes : (found : Finding) (founds : List Finding) → is_partial found ≡ false → before_end (found ∷ founds) ≡ found ∷ before_end founds
goes Finding.Nothing founds none = refl
goes (Finding.Whole report) founds none = refl
goes (Finding.Torn report) founds none = refl
goes (Finding.Full report) founds none = refl
goes (Finding.Partial cpu bank) founds none = absurd cc
goes (Finding.Foreign vendor cpu bank) founds none = refl
goes (Finding.Firmware cpu) founds none = refl
goes Finding.Unread founds none = refl

-- a finding that isn't partial isn't partial after it is named
partial_named : (counts : KeyCounts) (found : Finding) → is_partial found ≡ false → is_partial (named_found counts found) ≡ false
partial_named counts (Finding.Whole report) none = by (report.tsc == 0) (number_in counts (key_of report))
  where
    by : (polled : Bool) (number : Option ℕ) → is_partial (if polled then whole_by report number else Finding.Whole report) ≡ false
    by true None = refl
    by true (Some n) = refl
    by false number = refl
partial_named counts Finding.Nothing none = refl
partial_named counts (Finding.Torn report) none = refl
partial_named counts (Finding.Full report) none = refl
partial_named counts (Finding.Partial cpu bank) none = absurd cc
partial_named counts (Finding.Foreign vendor cpu bank) none = refl
partial_named counts (Finding.Firmware cpu) none = refl
partial_named counts Finding.Unread none = refl

partial_judged : (vendor : ℕ) (report : BankReport) → is_partial (judged vendor (Told.Whole report)) ≡ false
partial_judged vendor r = by (vendor == 0) (valid (status_in r)) (r.bank == 255) (lacks_address r)
  where
    by : (intel is_valid firmware lacks : Bool)
        → is_partial (if intel then (if is_valid then (if firmware then Finding.Firmware r.cpu else (if lacks then Finding.Torn (without_address r) else Finding.Whole r)) else Finding.Nothing)
        else Finding.Foreign vendor r.cpu r.bank) ≡ false
    by true true true lacks = refl
    by true true false true = refl
    by true true false false = refl
    by true false firmware lacks = refl
    by false is_valid firmware lacks = refl

whole_goes : (before : Printers) (print : Print) (vendor : ℕ) (report : BankReport) (founds : List Finding)
    → before_end (found_told before print vendor (Told.Whole report) ∷ founds) ≡ found_told before print vendor (Told.Whole report) ∷ before_end founds
whole_goes before print vendor report founds =
    goes (found_told before print vendor (Told.Whole report)) founds (
    partial_named (counts_by before print) (judged vendor (Told.Whole report)) (partial_judged vendor report))

module _ (boot cap : ℕ) where
  -- the findings of the current report's group and of the groups in the lines after it
  abbrev pub founds_in : Stage → Print → Printers → List LogLine → List Finding
  founds_in Idle print before lines = group_founds_from boot cap before (log_groups lines)
  founds_in (Begun head) print before lines =
      let told : KlogOut = told_of boot cap head (map klog_part (log_up_to_start lines)) in
      found_told before print (group_vendor (log_up_to_start lines)) told
      ∷ group_founds_from boot cap (printers_after before print (group_vendor (log_up_to_start lines)) told) (log_groups lines)
  founds_in (Timed head tsc addr misc) print before lines =
      let told : KlogOut = with_seconds boot cap head tsc addr misc (told_seconds (map klog_part (log_up_to_start lines))) in
      found_told before print (timed_vendor (log_up_to_start lines)) told
      ∷ group_founds_from boot cap (printers_after before print (timed_vendor (log_up_to_start lines)) told) (log_groups lines)

  -- the finding at each line
  abbrev pub along : LogState → List LogLine → List Finding
  along state [] = []
  along state (line ∷ lines) = group_found boot cap state line ∷ along (state_after boot cap state line) lines

  -- the finding at each line, and the finding at the end
  abbrev pub to_end : LogState → List LogLine → List Finding
  to_end state [] = found_at_end state ∷ []
  to_end state (line ∷ lines) = group_found boot cap state line ∷ to_end (state_after boot cap state line) lines

  module _ {A : Type 0} (f : Finding → List A) (none : f Finding.Nothing ≡ []) where
    skip : (xs ys : List A) → xs ≡ ys → f Finding.Nothing ++ xs ≡ ys
    skip xs ys h = ap (λ (front : List A). front ++ xs) none ∙ h

    pub ends : (stage : Stage) (print : Print) (before : Printers) (lines : List LogLine)
        → flat_map f (to_end (work stage print before) lines) ≡ flat_map f (founds_in stage print before lines)
    ends Idle print before [] = skip [] [] refl
    ends (Begun head) print before [] = refl
    ends (Timed head tsc addr misc) print before [] = refl
    ends Idle print before (Part (Start c m b s) new v ∷ lines) =
        skip _ _ (ends (Begun (record { cpu = c; mcg = m; bank = b; status = s })) new before lines)
    ends Idle print before (Part (Tsc t a m) new v ∷ lines) = skip _ _ (ends Idle print before lines)
    ends Idle print before (Part (Processor seconds) new v ∷ lines) = skip _ _ (ends Idle print before lines)
    ends Idle print before (Part Other new v ∷ lines) = skip _ _ (ends Idle print before lines)
    ends Idle print before (Nothing ∷ lines) = skip _ _ (ends Idle print before lines)
    ends Idle print before (Unread ∷ lines) = skip _ _ (ends Idle print before lines)
    ends (Begun head) print before (Part (Start c m b s) new v ∷ lines) =
        ap (λ (rest : List A). f (Finding.Partial head.cpu head.bank) ++ rest) (ends (Begun (record { cpu = c; mcg = m; bank = b; status = s })) new before lines)
    ends (Begun head) print before (Part (Tsc t a m) new v ∷ lines) = skip _ _ (ends (Timed head t a m) print before lines)
    ends (Begun head) print before (Part (Processor seconds) new v ∷ lines) = skip _ _ (ends (Begun head) print before lines)
    ends (Begun head) print before (Part Other new v ∷ lines) = skip _ _ (ends (Begun head) print before lines)
    ends (Begun head) print before (Nothing ∷ lines) = skip _ _ (ends (Begun head) print before lines)
    ends (Begun head) print before (Unread ∷ lines) = skip _ _ (ends (Begun head) print before lines)
    ends (Timed head tsc addr misc) print before (Part (Start c m b s) new v ∷ lines) =
        ap (λ (rest : List A). f (Finding.Partial head.cpu head.bank) ++ rest) (ends (Begun (record { cpu = c; mcg = m; bank = b; status = s })) new before lines)
    ends (Timed head tsc addr misc) print before (Part (Tsc t a m) new v ∷ lines) = skip _ _ (ends (Timed head tsc addr misc) print before lines)
    ends (Timed head tsc addr misc) print before (Part (Processor seconds) new v ∷ lines) =
        let out : KlogOut = Told.Whole (bank_of_group boot cap head tsc addr misc seconds) in
        ap (λ (rest : List A). f (found_told before print v out) ++ rest) (ends Idle print (printers_after before print v out) lines)
    ends (Timed head tsc addr misc) print before (Part Other new v ∷ lines) = skip _ _ (ends (Timed head tsc addr misc) print before lines)
    ends (Timed head tsc addr misc) print before (Nothing ∷ lines) = skip _ _ (ends (Timed head tsc addr misc) print before lines)
    ends (Timed head tsc addr misc) print before (Unread ∷ lines) = skip _ _ (ends (Timed head tsc addr misc) print before lines)

    pub at_once : (stage : Stage) (print : Print) (before : Printers) (lines : List LogLine)
        → flat_map f (along (work stage print before) lines) ≡ flat_map f (before_end (founds_in stage print before lines))
    at_once Idle print before [] = refl
    at_once (Begun head) print before [] = refl
    at_once (Timed head tsc addr misc) print before [] = refl
    at_once Idle print before (Part (Start c m b s) new v ∷ lines) =
        skip _ _ (at_once (Begun (record { cpu = c; mcg = m; bank = b; status = s })) new before lines)
    at_once Idle print before (Part (Tsc t a m) new v ∷ lines) = skip _ _ (at_once Idle print before lines)
    at_once Idle print before (Part (Processor seconds) new v ∷ lines) = skip _ _ (at_once Idle print before lines)
    at_once Idle print before (Part Other new v ∷ lines) = skip _ _ (at_once Idle print before lines)
    at_once Idle print before (Nothing ∷ lines) = skip _ _ (at_once Idle print before lines)
    at_once Idle print before (Unread ∷ lines) = skip _ _ (at_once Idle print before lines)
    at_once (Begun head) print before (Part (Start c m b s) new v ∷ lines) =
        ap (λ (rest : List A). f (Finding.Partial head.cpu head.bank) ++ rest) (at_once (Begun (record { cpu = c; mcg = m; bank = b; status = s })) new before lines)
    at_once (Begun head) print before (Part (Tsc t a m) new v ∷ lines) = skip _ _ (at_once (Timed head t a m) print before lines)
    at_once (Begun head) print before (Part (Processor seconds) new v ∷ lines) = skip _ _ (at_once (Begun head) print before lines)
    at_once (Begun head) print before (Part Other new v ∷ lines) = skip _ _ (at_once (Begun head) print before lines)
    at_once (Begun head) print before (Nothing ∷ lines) = skip _ _ (at_once (Begun head) print before lines)
    at_once (Begun head) print before (Unread ∷ lines) = skip _ _ (at_once (Begun head) print before lines)
    at_once (Timed head tsc addr misc) print before (Part (Start c m b s) new v ∷ lines) =
        ap (λ (rest : List A). f (Finding.Partial head.cpu head.bank) ++ rest) (at_once (Begun (record { cpu = c; mcg = m; bank = b; status = s })) new before lines)
    at_once (Timed head tsc addr misc) print before (Part (Tsc t a m) new v ∷ lines) = skip _ _ (at_once (Timed head tsc addr misc) print before lines)
    at_once (Timed head tsc addr misc) print before (Part (Processor seconds) new v ∷ lines) =
        let out : KlogOut = Told.Whole (bank_of_group boot cap head tsc addr misc seconds) in
        let rest : List Finding = founds_in Idle print (printers_after before print v out) lines in
        ap (λ (more : List A). f (found_told before print v out) ++ more) (at_once Idle print (printers_after before print v out) lines)
        ∙ sym (ap (flat_map f) (whole_goes before print v (bank_of_group boot cap head tsc addr misc seconds) rest))
    at_once (Timed head tsc addr misc) print before (Part Other new v ∷ lines) = skip _ _ (at_once (Timed head tsc addr misc) print before lines)
    at_once (Timed head tsc addr misc) print before (Nothing ∷ lines) = skip _ _ (at_once (Timed head tsc addr misc) print before lines)
    at_once (Timed head tsc addr misc) print before (Unread ∷ lines) = skip _ _ (at_once (Timed head tsc addr misc) print before lines)
