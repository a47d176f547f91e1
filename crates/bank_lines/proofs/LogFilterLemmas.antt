-- The filter, which reads line by line, prints the text of the lines' groups.
use Rattle.std.proofs.Common.{◌≡◌, ℕ, ◌+◌, ◌==◌, ◌&&◌, Bool, true, false, not, List, [], ◌∷◌, ◌++◌, length, drop, refl, sym, ap, ◌∙◌, arith, Ok, Option, None, Some, if◌then◌else◌}
use Rattle.std.proofs.Math.Path.{fun_ext}
use Rattle.std.proofs.lemmas.List.{append-nil, drop_at, length-append}
use Rattle.std.proofs.lemmas.Grind.{flat_map-append}
use Rattle.std.specs.List.{flat_map}
use Rattle.mca_status.specs.Registers.{valid}
use Rattle.ras_facts.specs.Facts.{status_in}
use Rattle.ras_klog.specs.Klog.{added}
use Rattle.ras_klog.specs.Stages.{at_start, has_place, out_at, out_at_end, stage_after}
use Rattle.ras_klog.specs.declared.line.KlogLine.TheVariants.{Other}
use Rattle.ras_klog.specs.declared.state.KlogOut.{KlogOut}
use Rattle.ras_klog.specs.declared.state.KlogOut.TheVariants as Told
use Rattle.ras_klog.specs.declared.state.Stage.{Stage}
use Rattle.ras_klog.specs.declared.state.Stage.TheVariants.{Idle, Begun, Timed}
use Rattle.ras_facts.specs.declared.bank.BankReport.{BankReport}
use Rattle.ras_script.specs.SplittingLaws.{script_of}
use Rattle.bank_lines.specs.Counts.{KeyCounts, named_found, named_report, number_in, whole_by}
use Rattle.bank_lines.specs.Naming.{key_of}
use Rattle.bank_lines.specs.Finding.{is_torn, lacks_address, without_address}
use Rattle.bank_lines.specs.LogAlong.{answers_along, log_found_at, found_at_end, log_at_start, rest_along, state_after, state_over}
use Rattle.bank_lines.specs.LogFilter.{comment_at, comment_text, log_answers_after, early_lines, founds_of, founds_text, group_text, log_answers, log_filter, log_rest, tells_torn, work_after}
use Rattle.bank_lines.specs.EdacReports.{edac_after, edac_over, no_edac, marked_told, told_lines}
use Rattle.bank_lines.specs.LogGroups.{counts_by, found_told, judged, klog_part, no_names}
use Rattle.bank_lines.specs.LogLines.{log_line_of, printed_plain}
use Rattle.bank_lines.specs.Texts.{asking_line, found_text, torn_line, unread_line}
use Rattle.bank_lines.specs.declared.edac_report.EdacReport.{EdacReport}
use Rattle.bank_lines.specs.declared.found.Finding.{Finding}
use Rattle.bank_lines.specs.declared.log_line.LogLine.{LogLine}
use Rattle.bank_lines.specs.declared.log_line.LogLine.TheVariants.{Nothing, Unread, Part}
use Rattle.bank_lines.specs.declared.log_line.Print.{Print}
use Rattle.bank_lines.specs.declared.log_state.LogState.{LogState}
use Rattle.bank_lines.specs.declared.log_state.Printers.{Printers}
use Rattle.bank_lines.proofs.LogGroupLemmas.{along, at_once, ends, group_found, to_end}

-- what a text adds to its beginning
added_is : (begun more text : List ℕ) → text ≡ begun ++ more → added begun text ≡ more
added_is begun more text is = ap (drop (length begun)) is ∙ drop_at begun more (length begun) refl

-- ---- one line

-- the text of a whole report doesn't depend on its line's number, also after the report is named
whole_text : (n : ℕ) (counts : KeyCounts) (report : BankReport)
    → found_text n (named_found counts (Finding.Whole report)) ≡ group_text (named_found counts (Finding.Whole report))
whole_text n counts report = by (report.tsc == 0) (number_in counts (key_of report))
  where
    by : (polled : Bool) (number : Option ℕ)
        → found_text n (if polled then whole_by report number else Finding.Whole report) ≡ group_text (if polled then whole_by report number else Finding.Whole report)
    by true None = refl
    by true (Some k) = refl
    by false number = refl

torn_text : (n : ℕ) (report : BankReport)
    → found_text n (Finding.Torn report) ≡ script_of (torn_line n ∷ []) ++ group_text (Finding.Torn report)
torn_text n report = flat_map-append (λ (line : List ℕ). line ++ 10 ∷ []) (torn_line n ∷ []) (asking_line report ∷ [])

-- the text of a finding is its comment and its group's text
told_text : (n : ℕ) (before : Printers) (print : Print) (vendor : ℕ) (out : KlogOut)
    → found_text n (found_told before print vendor out)
    ≡ (if tells_torn vendor out then script_of (torn_line n ∷ []) else []) ++ group_text (found_told before print vendor out)
told_text n before print vendor Told.Nothing = refl
told_text n before print vendor (Told.Partial cpu bank) = refl
told_text n before print vendor (Told.Whole r) = by (vendor == 0) (valid (status_in r)) (r.bank == 255) (lacks_address r)
  where
    counts : KeyCounts
    counts = counts_by before print

    by : (intel is_valid firmware lacks : Bool)
        → found_text n (named_found counts (if intel then (if is_valid then (if firmware then Finding.Firmware r.cpu else (if lacks then Finding.Torn (without_address r) else Finding.Whole r)) else Finding.Nothing)
        else Finding.Foreign vendor r.cpu r.bank))
        ≡ (if intel && is_torn (if is_valid then (if firmware then Finding.Firmware r.cpu else (if lacks then Finding.Torn (without_address r) else Finding.Whole r)) else Finding.Nothing)
        then script_of (torn_line n ∷ []) else [])
        ++ group_text (named_found counts (if intel then (if is_valid then (if firmware then Finding.Firmware r.cpu else (if lacks then Finding.Torn (without_address r) else Finding.Whole r)) else Finding.Nothing)
        else Finding.Foreign vendor r.cpu r.bank))
    by true true true lacks = refl
    by true true false true = torn_text n (named_report counts (without_address r))
    by true true false false = whole_text n counts r
    by true false firmware lacks = refl
    by false is_valid firmware lacks = refl

-- a line's text is its comment and its group's text
one_line : (boot cap n : ℕ) (state : LogState) (line : LogLine)
    → found_text n (log_found_at boot cap state line)
    ≡ comment_at boot cap n state.work line ++ group_text (group_found boot cap state line)
one_line boot cap n state Nothing = refl
one_line boot cap n state Unread = sym (append-nil (found_text n Finding.Unread))
one_line boot cap n state (Part line print vendor) = by (has_place state.work line)
  where
    by : (place : Bool)
        → found_text n (if place then found_told state.printers state.print vendor (out_at boot cap state.work line) else Finding.Unread)
        ≡ (if not place then script_of (unread_line n ∷ []) else (if tells_torn vendor (out_at boot cap state.work line) then script_of (torn_line n ∷ []) else []))
        ++ group_text (if place then found_told state.printers state.print vendor (out_at boot cap state.work line) else Finding.Nothing)
    by true = told_text n state.printers state.print vendor (out_at boot cap state.work line)
    by false = sym (append-nil (found_text n Finding.Unread))

-- ---- the stage after lines

stays : (stage : Stage) → stage ≡ stage_after stage Other
stays Idle = refl
stays (Begun head) = refl
stays (Timed head tsc addr misc) = refl

work_is : (boot cap : ℕ) (state : LogState) (line : LogLine) → (state_after boot cap state line).work ≡ stage_after state.work (klog_part line)
work_is boot cap state (Part line print vendor) = refl
work_is boot cap state Nothing = stays state.work
work_is boot cap state Unread = stays state.work

over_work : (boot cap : ℕ) (state : LogState) (stage : Stage) (lines : List LogLine) → state.work ≡ stage
    → (state_over boot cap state lines).work ≡ work_after stage lines
over_work boot cap state stage [] is = is
over_work boot cap state stage (line ∷ lines) is =
    over_work boot cap (state_after boot cap state line) (stage_after stage (klog_part line)) lines
    (work_is boot cap state line ∙ ap (λ (s : Stage). stage_after s (klog_part line)) is)

-- ---- what lines tell

told-push : (report : EdacReport) (before : List (List ℕ)) (line : List ℕ)
    → told_lines report (before ++ line ∷ []) ≡ told_lines report before ++ marked_told (edac_over report before) (log_line_of line) ∷ []
told-push report [] line = refl
told-push report (b ∷ before) line =
    ap (λ (told : List LogLine). marked_told report (log_line_of b) ∷ told) (told-push (edac_after report (log_line_of b)) before line)

edac-push : (report : EdacReport) (before : List (List ℕ)) (line : List ℕ)
    → edac_over report (before ++ line ∷ []) ≡ edac_after (edac_over report before) (log_line_of line)
edac-push report [] line = refl
edac-push report (b ∷ before) line = edac-push (edac_after report (log_line_of b)) before line

-- what the lines say, and what the next line says
abbrev told : List (List ℕ) → List LogLine
told lines = told_lines no_edac lines

abbrev next : List (List ℕ) → List ℕ → LogLine
next before line = marked_told (edac_over no_edac before) (log_line_of line)

-- ---- lines

module _ (boot cap : ℕ) where
  along-push : (state : LogState) (before : List LogLine) (line : LogLine)
      → along boot cap state (before ++ line ∷ [])
      ≡ along boot cap state before ++ group_found boot cap (state_over boot cap state before) line ∷ []
  along-push state [] line = refl
  along-push state (b ∷ before) line =
      ap (λ (founds : List Finding). group_found boot cap state b ∷ founds) (along-push (state_after boot cap state b) before line)

  state-push : (state : LogState) (before : List LogLine) (line : LogLine)
      → state_over boot cap state (before ++ line ∷ []) ≡ state_after boot cap (state_over boot cap state before) line
  state-push state [] line = refl
  state-push state (b ∷ before) line = state-push (state_after boot cap state b) before line

  to_end-is : (state : LogState) (lines : List LogLine)
      → to_end boot cap state lines
      ≡ along boot cap state lines ++ found_at_end (state_over boot cap state lines) ∷ []
  to_end-is state [] = refl
  to_end-is state (line ∷ lines) =
      ap (λ (founds : List Finding). group_found boot cap state line ∷ founds) (to_end-is (state_after boot cap state line) lines)

  -- the state after lines
  abbrev over : List (List ℕ) → LogState
  over lines = state_over boot cap log_at_start (told lines)

  over-push : (before : List (List ℕ)) (line : List ℕ) → over (before ++ line ∷ []) ≡ state_after boot cap (over before) (next before line)
  over-push before line =
      ap (state_over boot cap log_at_start) (told-push no_edac before line) ∙ state-push log_at_start (told before) (next before line)

  -- the groups' text after lines, and after one more
  early_is : (lines : List (List ℕ)) → early_lines boot cap lines ≡ flat_map group_text (along boot cap log_at_start (told lines))
  early_is lines = sym (at_once boot cap group_text refl at_start printed_plain no_names (told lines))

  text_is : (lines : List (List ℕ)) → founds_text (founds_of boot cap lines) ≡ flat_map group_text (to_end boot cap log_at_start (told lines))
  text_is lines = sym (ends boot cap group_text refl at_start printed_plain no_names (told lines))

  one_text : (found : Finding) → flat_map group_text (found ∷ []) ≡ group_text found
  one_text found = append-nil (group_text found)

  pub early-push : (before : List (List ℕ)) (line : List ℕ)
      → early_lines boot cap (before ++ line ∷ [])
      ≡ early_lines boot cap before ++ group_text (group_found boot cap (over before) (next before line))
  early-push before line =
      let found : Finding = group_found boot cap (over before) (next before line) in
      early_is (before ++ line ∷ [])
      ∙ ap (λ (lines : List LogLine). flat_map group_text (along boot cap log_at_start lines)) (told-push no_edac before line)
      ∙ ap (flat_map group_text) (along-push log_at_start (told before) (next before line))
      ∙ flat_map-append group_text (along boot cap log_at_start (told before)) (found ∷ [])
      ∙ ap (λ (text : List ℕ). text ++ flat_map group_text (found ∷ [])) (sym (early_is before))
      ∙ ap (λ (text : List ℕ). early_lines boot cap before ++ text) (one_text found)

  -- no report is whole at the end
  end_text : (state : LogState) → group_text (found_at_end state) ≡ found_text 0 (found_at_end state)
  end_text state = by state.work
    where
      by : (stage : Stage) → group_text (judged 0 (out_at_end stage)) ≡ found_text 0 (judged 0 (out_at_end stage))
      by Idle = refl
      by (Begun head) = refl
      by (Timed head tsc addr misc) = refl

  text_ends : (lines : List (List ℕ)) → founds_text (founds_of boot cap lines) ≡ early_lines boot cap lines ++ rest_along boot cap log_at_start (told lines)
  text_ends lines =
      let found : Finding = found_at_end (over lines) in
      text_is lines
      ∙ ap (flat_map group_text) (to_end-is log_at_start (told lines))
      ∙ flat_map-append group_text (along boot cap log_at_start (told lines)) (found ∷ [])
      ∙ ap (λ (text : List ℕ). text ++ flat_map group_text (found ∷ [])) (sym (early_is lines))
      ∙ ap (λ (text : List ℕ). early_lines boot cap lines ++ text) (one_text found ∙ end_text (over lines))

  -- a line's text is its comment and what it adds to the groups' text
  line_is : (before : List (List ℕ)) (line : List ℕ)
      → found_text (length before + 1) (log_found_at boot cap (over before) (next before line))
      ≡ comment_text boot cap before line ++ added (early_lines boot cap before) (early_lines boot cap (before ++ line ∷ []))
  line_is before line =
      let state : LogState = over before in
      let found : Finding = group_found boot cap state (next before line) in
      one_line boot cap (length before + 1) state (next before line)
      ∙ ap (λ (stage : Stage). comment_at boot cap (length before + 1) stage (next before line) ++ group_text found) (over_work boot cap log_at_start at_start (told before) refl)
      ∙ ap (λ (text : List ℕ). comment_text boot cap before line ++ text) (sym (added_is (early_lines boot cap before) (group_text found) _ (early-push before line)))

  pub answers_are : (before lines : List (List ℕ))
      → answers_along boot cap (over before) (length before) (told_lines (edac_over no_edac before) lines) ≡ log_answers_after boot cap before lines
  answers_are before [] = refl
  answers_are before (line ∷ lines) = by (answers_are (before ++ line ∷ []) lines)
    where
      by : answers_along boot cap (over (before ++ line ∷ [])) (length (before ++ line ∷ [])) (told_lines (edac_over no_edac (before ++ line ∷ [])) lines) ≡ log_answers_after boot cap (before ++ line ∷ []) lines
          → answers_along boot cap (over before) (length before) (told_lines (edac_over no_edac before) (line ∷ lines)) ≡ log_answers_after boot cap before (line ∷ lines)
      by ih =
          let state : LogState = over before in
          let report : EdacReport = edac_after (edac_over no_edac before) (log_line_of line) in
          let text : List ℕ = found_text (length before + 1) (log_found_at boot cap state (next before line)) in
          let longer : length before + 1 ≡ length (before ++ line ∷ []) = omega (arith, length-append before (line ∷ [])) in
          ap (λ (s : LogState). Ok text ∷ answers_along boot cap s (length before + 1) (told_lines report lines)) (sym (over-push before line))
          ∙ ap (λ (n : ℕ). Ok text ∷ answers_along boot cap (over (before ++ line ∷ [])) n (told_lines report lines)) longer
          ∙ ap (λ (r : EdacReport). Ok text ∷ answers_along boot cap (over (before ++ line ∷ [])) (length (before ++ line ∷ [])) (told_lines r lines)) (sym (edac-push no_edac before line))
          ∙ ap (λ rest. Ok text ∷ rest) ih
          ∙ ap (λ (t : List ℕ). Ok t ∷ log_answers_after boot cap (before ++ line ∷ []) lines) (line_is before line)

  pub rest_is : (lines : List (List ℕ)) → rest_along boot cap log_at_start (told lines) ≡ log_rest boot cap lines
  rest_is lines = sym (added_is (early_lines boot cap lines) (rest_along boot cap log_at_start (told lines)) (founds_text (founds_of boot cap lines)) (text_ends lines))

  pub filter_is : record { answers = λ lines. answers_along boot cap log_at_start 0 (told lines); rest = λ lines. rest_along boot cap log_at_start (told lines); last = λ lines. [] } ≡ log_filter boot cap
  filter_is =
      ap (λ answers. record { answers = answers; rest = λ lines. rest_along boot cap log_at_start (told lines); last = λ lines. [] }) (fun_ext (λ lines. answers_are [] lines))
      ∙ ap (λ rest. record { answers = log_answers boot cap; rest = rest; last = λ lines. [] }) (fun_ext rest_is)
