-- The acts of lines, one line after another: what they lead to, and that each line has acts.
use Rattle.std.proofs.Common.{◌≡◌, ℕ, Option, None, Some, List, [], ◌∷◌, ◌++◌, refl, ap, sym, ◌∙◌, subst, append_assoc, append-nil, inl, inr}
use Rattle.std.specs.List.{AllByRecursion, flat_map}
use Rattle.board_core.specs.Doing.{Act, Moment, after_acts}
use Rattle.board_core.specs.Stop.{Left}
use Rattle.board_core.specs.Told.{Told}
use Rattle.board_core.proofs.DoingLemmas.{after-append, moment_parts}
use Rattle.ras_events.specs.Described.{NumberedLine}
use Rattle.ras_run.specs.Sites.{Site, Start, first_site}
use Rattle.ras_run.specs.Places.{Place, places_from, site_after, site_along, site_at}
use Rattle.ras_daemon.specs.Script.{reads_of, places_taken}
use Rattle.ras_exit.specs.declared.exit.Exit.{Exit}
use Rattle.ras_run.specs.LineActs.{AreLineActs, HoldsAt, asking_acts}
use Rattle.ras_run.specs.Output.{output_at}
use Rattle.ras_run.specs.Status.{places_before_refusal, refusal_at}
use Rattle.ras_run.specs.Moments.{CourseMoment, course_at}
use Rattle.ras_run.specs.Taking.{IsAccepted, LineMoment}
use Rattle.ras_run.proofs.LineLawLemmas.{line_holds, line_moment, line_out, refused_rest}
use Rattle.ras_run.proofs.PlaceLemmas.{places-append, site-snoc}
use Rattle.ras_run.proofs.SomeActLemmas.{some_acts}
use Rattle.ras_daemon.specs.Steps.Doing.{AreLinesActs}
use Rattle.ras_daemon.specs.RunActs.{AreActsAlong, AreAlong, AreDoneAlong, IsDoneAt, refused_acts, script_asked}
use Rattle.ras_daemon.specs.Steps.Running.{AreAccepted, AreFirst, LinesMoment, outputs}
use Rattle.ras_daemon.proofs.FirstLinesLemmas.{first-before, others}
use Rattle.ras_daemon.proofs.PlaceLemmas.{accepted-snoc, line_refused, outputs-snoc, script-refused}

-- ---- lists of them

-- the model after acts that are `here` and then `rest`
acts-then : (acts here rest : List Act) (t : Told) → acts ≡ here ++ rest → after_acts acts t ≡ after_acts rest (after_acts here t)
acts-then acts here rest t is = ap (λ (zs : List Act). after_acts zs t) is ∙ after-append here rest t

pub along-append : (Are : Place → Told → List Act → Type 0) (ps qs : List Place) (t : Told) (xs ys : List Act) → AreAlong Are ps t xs → AreAlong Are qs (after_acts xs t) ys → AreAlong Are (ps ++ qs) t (xs ++ ys)
along-append Are [] qs t xs ys first second = rw first (subst (λ (zs : List Act). AreAlong Are qs (after_acts zs t) ys) first second)
along-append Are (p ∷ ps) qs t xs ys (here, rest, is, at, along) second = (
  here,
  rest ++ ys,
  ap (λ acts. acts ++ ys) is ∙ append_assoc here rest ys,
  at,
  along-append Are ps qs (after_acts here t) rest ys along (subst (λ (u : Told). AreAlong Are qs u ys) (acts-then xs here rest t is) second),
)

-- the acts of one more line
pub done-snoc : (site : Site) (before : List NumberedLine) (read : NumberedLine) (t : Told) (xs ys : List Act) → AreDoneAlong (places_from site before) t xs → IsDoneAt (site_along site before, read) (after_acts xs t) ys
    → AreDoneAlong (places_from site (before ++ read ∷ [])) t (xs ++ ys)
done-snoc site before read t xs ys along at =
    subst (λ (ps : List Place). AreDoneAlong ps t (xs ++ ys)) (sym (places-append site before (read ∷ [])))
    (along-append IsDoneAt (places_from site before) ((site_along site before, read) ∷ []) t xs ys along (ys, [], sym (append-nil ys), at, refl))

pub acts_along : (ps : List Place) (t : Told) (acts : List Act) → AreDoneAlong ps t acts → AreActsAlong ps t acts
acts_along [] t acts is = is
acts_along (p ∷ ps) t acts (here, rest, is, at, along) = (here, rest, is, at.1, acts_along ps (after_acts here t) rest along)

pub along_some : (ps : List Place) (t : Told) → (acts : List Act) × AreActsAlong ps t acts
along_some [] t = ([], refl)
along_some (p ∷ ps) t =
    let here = some_acts p t in
    let rest = along_some ps (after_acts here.0 t) in
    (here.0 ++ rest.0, (here.0, rest.0, refl, here.1, rest.1))

-- ---- what the acts lead to, if each line is accepted

-- Once these lines are done, the files contain their account, and their text is printed.
pub along_done : (site : Site) (reads : List NumberedLine) (t : Told) (acts : List Act) → AllByRecursion IsAccepted (places_from site reads) → HoldsAt site t
    → AreDoneAlong (places_from site reads) t acts → HoldsAt (site_along site reads) (after_acts acts t)
along_done site [] t acts all holds is = rw is holds
along_done site (read ∷ reads) t acts all holds (here, rest, is, at, along) =
    subst (HoldsAt (site_along site (read ∷ reads))) (sym (acts-then acts here rest t is))
    (along_done (site_after site read) reads (after_acts here t) rest all.1 (line_holds (site, read) t holds at.0 here at.1 all.0) along)

pub along_prints : (ps : List Place) (t : Told) (acts : List Act) → AllByRecursion IsAccepted ps → AreActsAlong ps t acts
    → (after_acts acts t).here.out ≡ t.here.out ++ flat_map output_at ps
along_prints [] t acts all is = ap (λ (zs : List Act). (after_acts zs t).here.out) is ∙ sym (append-nil t.here.out)
along_prints (p ∷ ps) t acts all (here, rest, is, at, along) =
    ap (λ (u : Told). u.here.out) (acts-then acts here rest t is)
    ∙ along_prints ps (after_acts here t) rest all.1 along
    ∙ ap (λ out. out ++ flat_map output_at ps) (line_out p t here all.0 at)
    ∙ append_assoc t.here.out (output_at p) (flat_map output_at ps)

-- ---- what a crash at a moment of the acts leaves

-- lines were done from a site on, and each was accepted
abbrev AreDoneFrom : Site → List NumberedLine → Told → List Act → Type 0
AreDoneFrom site reads t acts = AllByRecursion IsAccepted (places_from site reads) × HoldsAt site t × AreDoneAlong (places_from site reads) t acts

module _ (start : Start) (script out : List ℕ) where
  pub moment_in : (before rest : List NumberedLine) (read : NumberedLine) (t : Told) (left : Left) → before ++ read ∷ rest ≡ reads_of script → AreAccepted start before → t.here.out ≡ out ++ outputs start before
      → LineMoment (site_at start before, read) t.here left → LinesMoment start script out left
  moment_in before rest read t left splits accepted text moment = inr (record {
    before = before;
    read = read;
    rest = rest;
    splits = splits;
    accepted = accepted;
    course = subst (λ from. CourseMoment (IsAccepted (site_at start before, read)) (course_at (site_at start before, read)) from left) text moment;
  })

  moment_behind : (before reads rest : List NumberedLine) (t : Told) (acts : List Act) (left : Left) → before ++ (reads ++ rest) ≡ reads_of script → AreAccepted start before → t.here.out ≡ out ++ outputs start before
      → AreDoneFrom (site_at start before) reads t acts → Moment acts t left → LinesMoment start script out left
  moment_behind before [] rest t acts left splits accepted text done moment = absurd (subst (λ (zs : List Act). Moment zs t left) done.2 moment)
  moment_behind before (read ∷ reads) rest t acts left splits accepted text (all, holds, (here, more, is, at, along)) moment =
      let place : Place = (site_at start before, read) in
      elim (moment_parts here more t left (subst (λ (zs : List Act). Moment zs t left) is moment)) [
        | inl now ↦ moment_in before (reads ++ rest) read t left splits accepted text (line_moment place t holds at.0 here at.1 all.0 left now)
        | inr later ↦
            moment_behind (before ++ read ∷ []) reads rest (after_acts here t) more left
            (append_assoc before (read ∷ []) (reads ++ rest) ∙ splits) (accepted-snoc start before read accepted all.0)
            (line_out place t here all.0 at.1 ∙ ap (λ from. from ++ output_at place) text ∙ append_assoc out (outputs start before) (output_at place) ∙ ap (λ more. out ++ more) (sym (outputs-snoc start before read)))
            (subst (λ (site : Site). AreDoneFrom site reads (after_acts here t) more) (sym (site-snoc (first_site start) before read)) (all.1, line_holds place t holds at.0 here at.1 all.0, along)) later
      ]

  pub along_moment : (before : List NumberedLine) (t : Told) (acts : List Act) (left : Left) → AreFirst start script before → t.here.out ≡ out → HoldsAt (first_site start) t
      → AreDoneAlong (places_from (first_site start) before) t acts → Moment acts t left → LinesMoment start script out left
  along_moment before t acts left first text holds along moment =
      moment_behind [] before first.rest t acts left first.splits tt (text ∙ sym (append-nil out)) (first.accepted, holds, along) moment

-- ---- first lines among all

-- the acts of first lines are a beginning of the acts of all lines
pub along_begun : (start : Start) (script : List ℕ) (before : List NumberedLine) (t : Told) (xs : List Act) → AreFirst start script before → AreActsAlong (places_from (first_site start) before) t xs
    → (ys : List Act) × AreActsAlong (places_taken start script) t (xs ++ ys)
along_begun start script before t xs first along =
    let later : List Place = places_before_refusal (others start script before first) in
    let rest = along_some later (after_acts xs t) in
    (rest.0, rw (first-before start script before first) (along-append AreLineActs (places_from (first_site start) before) later t xs rest.0 along rest.1))

-- ---- the line after them

-- a line that is rejected only asks
pub asks_alone : (place : Place) (exit : Exit) (t : Told) (acts : List Act) → refusal_at place ≡ Some exit → AreLineActs place t acts → acts ≡ asking_acts place t
asks_alone place exit t acts refused are =
    are.is
    ∙ ap (λ rest. asking_acts place t ++ rest)
    (refused_rest place t acts are exit refused)
    ∙ append-nil (asking_acts place t)

-- A line of which the first acts were done is among the lines up to the first rejected one.
module _ (start : Start) (script : List ℕ) (t : Told) (before rest : List NumberedLine) (read : NumberedLine) (splits : before ++ read ∷ rest ≡ reads_of script) (accepted : AreAccepted start before)
    (acts : List Act) (along : AreActsAlong (places_from (first_site start) before) t acts) where
  abbrev place : Place
  place = (site_at start before, read)

  abbrev then : Told
  then = after_acts acts t

  pub line_begun : (line : List Act) → AreLineActs place then line → (done later : List Act) → done ++ later ≡ line → (more : List Act) × AreLinesActs start script t ((acts ++ done) ++ more)
  line_begun line are done later is = by (refusal_at place) refl
    where
      by : (refusal : Option Exit) → refusal_at place ≡ refusal → (more : List Act) × AreLinesActs start script t ((acts ++ done) ++ more)
      by None taken =
          let behind : List Place = places_before_refusal (places_from (site_after place.0 read) rest) in
          let more = along_some behind (after_acts line then) in
          let whole : AreActsAlong (place ∷ behind) then (line ++ more.0) = (line, more.0, refl, are, more.1) in
          let there : places_taken start script ≡ places_from (first_site start) before ++ place ∷ behind =
          first-before start script before (record { rest = read ∷ rest; splits = splits; accepted = accepted }) ∙ rw taken refl in
          let asked : List Act = script_asked start script (after_acts (acts ++ (line ++ more.0)) t) in (
            later ++ (more.0 ++ asked),
            record {
              along = acts ++ (line ++ more.0);
              lines = rw there (along-append AreLineActs (places_from (first_site start) before) (place ∷ behind) t acts (line ++ more.0) along whole);
              is = append_assoc acts done (later ++ (more.0 ++ asked))
                  ∙ ap (λ l. acts ++ l) (sym (append_assoc done later (more.0 ++ asked)) ∙ ap (λ l. l ++ (more.0 ++ asked)) is ∙ sym (append_assoc line more.0 asked))
                  ∙ sym (append_assoc acts (line ++ more.0) asked);
            },
          )
      by (Some exit) refused = (
        later,
        record {
          along = acts;
          lines = subst (λ (ps : List Place). AreActsAlong ps t acts) (sym (line_refused start script before rest read exit splits accepted refused).all) along;
          is = append_assoc acts done later
              ∙ ap (λ more. acts ++ more) (is ∙ asks_alone place exit then line refused are ∙ sym (ap (λ found. refused_acts found then) (script-refused start script before rest read exit splits accepted refused)));
        },
      )
