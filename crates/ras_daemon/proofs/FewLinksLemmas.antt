-- No valid file has more than 256 links at a moment of a run.
use Rattle.std.proofs.Common.{◌≡◌, ℕ, List, [], ◌∷◌, ◌++◌, sym, ap, subst, ◌∙◌, inl, inr, arith}
use Rattle.std.specs.Prelude.{◌⊎◌}
use Rattle.std.specs.List.{AllByRecursion}
use Rattle.board_core.specs.Clock.{Adds, Always, Clock, LeftNow, Rests}
use Rattle.board_core.specs.Steps.ClockLemmas.{adds_none, adds_weaker, always_at_rest, always_goes_on}
use Rattle.board_core.specs.Doing.{Act, Moment, Seen, after_acts}
use Rattle.board_core.specs.Stop.{Left}
use Rattle.board_core.specs.Told.{Told}
use Rattle.board_core.proofs.DoingLemmas.{after-append, moment_parts}
use Rattle.ras_journal.specs.Recovered.{HasFewLinks}
use Rattle.ras_recover.specs.DiskCalls.{with_calls}
use Rattle.ras_recover.specs.Opening.{Opening, OpeningSynced}
use Rattle.ras_recover.specs.Recovering.{both_syncs}
use Rattle.ras_recover.proofs.OpeningFewLemmas.{opened_few}
use Rattle.ras_events.specs.Described.{NumberedLine}
use Rattle.ras_run.specs.Sites.{Site, Start, first_site}
use Rattle.ras_run.specs.Places.{Place, places_from, site_after, site_at}
use Rattle.ras_exit.specs.Endings.{CallEnding, answered, ending_of, faulted}
use Rattle.ras_exit.specs.declared.exit.Exit.{Exit}
use Rattle.ras_run.specs.LineActs.{HoldsAt}
use Rattle.ras_run.specs.Taking.{IsAccepted}
use Rattle.ras_run.proofs.LineFewLemmas.{asking_few, few_same, line_few, line_few_done, print_few, printed_few}
use Rattle.ras_run.proofs.LineLawLemmas.{line_holds}
use Rattle.ras_texts.specs.Orders.{standing_lines}
use Rattle.ras_daemon.specs.Steps.Doing.{AreAllAsked, DoesFirst, DoesPart, DoesRun, DoesScript, IsLastBy, KeepsStore, MayAsk, Opens, TakesScript}
use Rattle.ras_daemon.specs.RunActs.{AreDoneAlong, AreScriptActs, orders_acts}
use Rattle.ras_daemon.specs.RunOutput.{closing_line}
use Rattle.ras_daemon.specs.Steps.Running.{AreFirst}
use Rattle.ras_daemon.proofs.ScriptLemmas.{IsLast, asked_none, left_at_end, lines_hold, printed_holds}

-- ---- along accepted lines

along_few : (site : Site) (reads : List NumberedLine) (t : Told) (acts : List Act) → AllByRecursion IsAccepted (places_from site reads) → HoldsAt site t → HasFewLinks t.here
    → AreDoneAlong (places_from site reads) t acts → HasFewLinks (after_acts acts t).here × ((left : Left) → Moment acts t left → HasFewLinks left)
along_few site [] t acts all holds few is = (
  subst (λ (l : List Act). HasFewLinks (after_acts l t).here) (sym is) few,
  λ left moment. absurd (subst (λ (l : List Act). Moment l t left) is moment),
)
along_few site (read ∷ reads) t acts all holds few (here, rest, is, at, along) =
    let place : Place = (site, read) in
    let later = along_few (site_after site read) reads (after_acts here t) rest all.1 (line_holds place t holds at.0 here at.1 all.0) (line_few_done place t holds at.0 few here at.1 all.0) along in (
      subst (λ (u : Told). HasFewLinks u.here) (sym (ap (λ (l : List Act). after_acts l t) is ∙ after-append here rest t)) later.0,
      λ left moment. elim (moment_parts here rest t left (subst (λ (l : List Act). Moment l t left) is moment)) [
        | inl now ↦ line_few place t holds at.0 few here at.1 all.0 left now
        | inr behind ↦ later.1 left behind
      ],
    )

-- ---- the acts of a script

module _ (start : Start) (script : List ℕ) (t : Told) (before : List NumberedLine) (first : AreFirst start script before) (along : List Act) (lines : AreDoneAlong (places_from (first_site start) before) (after_acts (orders_acts start) t) along)
    (asked : List Act) (asks : MayAsk start script before (after_acts along (after_acts (orders_acts start) t)) asked) (last : List Act) (holds : HoldsAt (first_site start) t) (few : HasFewLinks t.here) where
  abbrev behind_orders : Told
  behind_orders = after_acts (orders_acts start) t

  abbrev behind_lines : Told
  behind_lines = after_acts along behind_orders

  abbrev behind_asked : Told
  behind_asked = after_acts asked behind_lines

  among : HasFewLinks behind_lines.here × ((left : Left) → Moment along behind_orders left → HasFewLinks left)
  among = along_few (first_site start) before behind_orders along first.accepted (printed_holds (first_site start) (standing_lines start.account) t holds) (printed_few (standing_lines start.account) t few) lines

  asking : (left : Left) → MayAsk start script before behind_lines asked → Moment asked behind_lines left → HasFewLinks left
  asking left (inl silent) moment = absurd (subst (λ (l : List Act). Moment l behind_lines left) silent moment)
  asking left (inr has) moment = asking_few (site_at start before, has.read) behind_lines among.0 left (subst (λ (l : List Act). Moment l behind_lines left) has.is moment)

  -- the files have few links after what was asked
  asked_few : (end : Exit) → AreAllAsked start script end before behind_lines asked → HasFewLinks behind_asked.here
  asked_few end all =
      let found = left_at_end start script before first behind_lines (lines_hold start script t before first along lines asked asks last holds) asked end all in
      few_same behind_lines.here behind_asked.here (ap (λ (l : Left). l.file0) found.2) (ap (λ (l : Left). l.file1) found.2) among.0

  last_few : (left : Left) → IsLast start script before behind_lines asked last → Moment last behind_asked left → HasFewLinks left
  last_few left (inl none) moment = absurd (subst (λ (l : List Act). Moment l behind_asked left) none moment)
  last_few left (inr (end, all, is)) moment = print_few (closing_line (site_at start before).account end) behind_asked left (asked_few end all) (subst (λ (l : List Act). Moment l behind_asked left) is moment)

  pub script_few : (left : Left) → IsLast start script before behind_lines asked last → Moment (orders_acts start ++ (along ++ (asked ++ last))) t left → HasFewLinks left
  script_few left is_last moment = elim (moment_parts (orders_acts start) (along ++ (asked ++ last)) t left moment) [
    | inl orders ↦ print_few (standing_lines start.account) t left few orders
    | inr later ↦ elim (moment_parts along (asked ++ last) behind_orders left later) [
      | inl line ↦ among.1 left line
      | inr behind ↦ elim (moment_parts asked last behind_lines left behind) [
        | inl ask ↦ asking left asks ask
        | inr end ↦ last_few left is_last end
      ]
    ]
  ]

  -- the files have few links if there is no last line
  pub script_few_done : last ≡ [] → KeepsStore start script before behind_lines asked → HasFewLinks (after_acts (orders_acts start ++ (along ++ (asked ++ last))) t).here
  script_few_done none silent =
      let here : (after_acts (orders_acts start ++ (along ++ (asked ++ last))) t).here ≡ behind_lines.here =
      ap (λ (u : Told). u.here)
      (after-append (orders_acts start) (along ++ (asked ++ last)) t ∙ after-append along (asked ++ last) behind_orders ∙ after-append asked last behind_lines ∙ ap (λ (l : List Act). after_acts l behind_asked) none)
      ∙ asked_none start script before first behind_lines (lines_hold start script t before first along lines asked asks last holds) asked silent in
      subst HasFewLinks (sym here) among.0

-- ---- a script that was taken

module _ {X : Type 0} (see : X → Seen) (start : Start) (script : List ℕ) (t : Told) (exit : Exit) (old new : X) (rests : Rests t (see old).told (see old).clock) (holds : HoldsAt (first_site start) t) (few : HasFewLinks t.here) where
  abbrev acts_by : DoesScript see start script t exit old new → List Act
  acts_by d = orders_acts start ++ (d.along ++ (d.asked ++ d.last))

  abbrev told_by : DoesScript see start script t exit old new → Told
  told_by d = after_acts d.along (after_acts (orders_acts start) t)

  whole_few : (d : DoesScript see start script t exit old new) → IsLast start script d.before (told_by d) d.asked d.last → Adds (Moment (acts_by d) t) (see old).clock (see new).clock → Adds HasFewLinks (see old).clock (see new).clock
  whole_few d is adds =
      adds_weaker (Moment (acts_by d) t) HasFewLinks (see old).clock (see new).clock adds
      (λ left moment. script_few start script t d.before d.first d.along d.lines d.asked d.asks d.last holds few left is moment)

  part_few : (d : DoesScript see start script t exit old new) → (d.last ≡ []) × KeepsStore start script d.before (told_by d) d.asked → DoesPart see (AreScriptActs start script t) t (acts_by d) old new → Adds HasFewLinks (see old).clock (see new).clock
  part_few d between part =
      adds_weaker (Moment (acts_by d ++ part.done) t) HasFewLinks (see old).clock (see new).clock (part.does.stops t rests)
      (λ left moment. elim (moment_parts (acts_by d) part.done t left moment) [
        | inl at ↦ script_few start script t d.before d.first d.along d.lines d.asked d.asks d.last holds few left (inl between.0) at
        | inr reading ↦ subst HasFewLinks (sym (part.still.moments left reading)) (script_few_done start script t d.before d.first d.along d.lines d.asked d.asks d.last holds few between.0 between.1)
      ])

  by_ending : (d : DoesScript see start script t exit old new) (ending : CallEnding) → IsLastBy start script d.before (told_by d) d.asked exit ending d.last
      → DoesFirst see (AreScriptActs start script t) t (acts_by d) ending old new → Adds HasFewLinks (see old).clock (see new).clock
  by_ending d answered ends does = whole_few d (inr (exit, ends.0, ends.1)) (does.stops t rests)
  by_ending d (faulted kind) ends does = whole_few d ends (does.stops t rests)
  by_ending d ending ends does = part_few d ends does

  pub takes_few_links : TakesScript see start script t exit old new → Adds HasFewLinks (see old).clock (see new).clock
  takes_few_links (inl none) = subst (λ x. Adds HasFewLinks (see old).clock (see x).clock) (sym none.1) (adds_none HasFewLinks (see old).clock)
  takes_few_links (inr d) = by_ending d (ending_of exit) d.ends d.does

-- ---- a run

-- what a crash at the run's start may leave, or files with few links
abbrev pub FewSince : Clock → Left → Type 0
FewSince clock left = LeftNow clock left ⊎ HasFewLinks left

opening_few : (clock : Clock) (here left : Left) → Opening clock here left → FewSince clock left
opening_few clock here left (inl now) = inl now
opening_few clock here left (inr formats) = inr formats.few

synced_few : (here left : Left) → HasFewLinks here → OpeningSynced here left → HasFewLinks left
synced_few here left few (inl same) = subst HasFewLinks (sym same) few
synced_few here left few (inr formats) = formats.few

opened_since : (a b : Clock) (here : Left) → Adds (Opening a here) a b → Always b a.now (FewSince a)
opened_since a b here adds left may = elim (adds.each a.now left (omega arith) may) [ inl was ↦ inl was | inr opening ↦ opening_few a here left opening ]

module _ {X : Type 0} (see : X → Seen) (start : Start) (script : List ℕ) (exit : Exit) (t : Told) (old new : X) (few : HasFewLinks t.here) where
  taken_few : (d : Opens see start script exit t old new) → Adds HasFewLinks (see d.mid).clock (see new).clock
  taken_few d = takes_few_links see start script d.there exit d.mid new d.rests d.holds (opened_few t d.there few d.makes) d.takes

  -- the files have few links from the point at which both were synced
  pub opened-few : (d : Opens see start script exit t old new) → Always (see new).clock (see d.syncs.synced).clock.now HasFewLinks
  opened-few d =
      let synced = (see d.syncs.synced).clock in
      always_goes_on HasFewLinks synced.now (see d.mid).clock (see new).clock
      (always_goes_on HasFewLinks synced.now synced (see d.mid).clock
      (always_at_rest HasFewLinks (with_calls both_syncs t) (see d.syncs.synced).told synced d.syncs.rests few) (omega arith)
      (adds_weaker (OpeningSynced t.here) HasFewLinks synced (see d.mid).clock d.syncs.since (λ left opening. synced_few t.here left few opening)))
      d.syncs.since.later (taken_few d)

  pub run-few : DoesRun see start script exit t old new → Always (see new).clock (see old).clock.now (FewSince (see old).clock)
  run-few (inl d) = opened_since (see old).clock (see new).clock t.here d.stops
  run-few (inr d) =
      always_goes_on (FewSince (see old).clock) (see old).clock.now (see d.mid).clock (see new).clock (opened_since (see old).clock (see d.mid).clock t.here d.stops) d.stops.later
      (adds_weaker HasFewLinks (FewSince (see old).clock) (see d.mid).clock (see new).clock (taken_few d) (λ left has. inr has))
