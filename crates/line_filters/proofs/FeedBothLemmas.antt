-- The steps of a filter's call over an input of any length, if source and board are modelled.
use Rattle.std.proofs.Common.{◌≡◌, ℕ, Bool, true, false, List, [], ◌++◌, Option, None, Some, IfErr, IsSomeAnd, Result, Ok, Err, refl, ap, sym, ◌∙◌, subst, append_assoc, append-nil, inl, inr}
use Rattle.std.specs.Prelude.{◌⊎◌, Contains}
use Rattle.std.specs.Option.{option_map}
use Rattle.board_core.specs.Cause.{Faults}
use Rattle.board_core.specs.Clock.{Clock, Leads, Passes}
use Rattle.board_core.specs.Doing.{Seen}
use Rattle.board_core.specs.Stop.{Appends, Begins, InOut}
use Rattle.board_core.specs.Told.{FailsPrint, Relates, Steps, Told, after_print}
use Rattle.board_core.specs.declared.source.Failed.{Failed}
use Rattle.ras_script.specs.declared.input.InputStep.{InputStep}
use Rattle.ras_script.specs.declared.input.InputStep.TheVariants.{Line, Long, Dropping, End}
use Rattle.ras_script.specs.InputBuffer.{InputBuffer, MovesInput}
use Rattle.ras_script.proofs.ReaderLemmas.{front_lacks, lacks_not_contains}
use Rattle.ras_exit.specs.declared.exit.Exit.{Exit}
use Rattle.ras_exit.specs.declared.exit.Exit.TheVariants.{NoMemory, PrintFault, SourceFault}
use Rattle.ras_exit.specs.Causes.{BoardCause, Causes, SourceCause}
use Rattle.ras_exit.proofs.PrintLemmas.{nothing_passes}
use Rattle.line_filters.specs.Feed.{Feed}
use Rattle.line_filters.specs.Feeds.{feed_output}
use Rattle.line_filters.specs.Steps.Feeding.{FedBoth, FeedEnds, FeedEndsBoth, IsFeedStop, PrintsNext, TakesStep, is_fault, no_inputs}
use Rattle.line_filters.specs.Steps.Filtering.{Printed, PrintsWaiting}
use Rattle.line_filters.proofs.FedLemmas.{ahead_more, fed_ends, fed_none, fed_printed, fed_source, fed_starved, fed_step, fed_stop, fed_unprinted}
use Rattle.line_filters.proofs.MomentLemmas.{leads_more, leads_none, stops_more}
use Rattle.line_filters.proofs.StepLemmas.{print-both}

-- ---- printing

-- printing no text changes nothing
printed_nothing : {X : Type 0} (see : X → Seen) (x : X) → Printed see [] x x
printed_nothing see x = record {
  told = by (see x).told;
  stops = nothing_passes [] (see x).clock refl;
  leads = leads_none (see x).clock;
}
  where
    by : (told : Option Told) → told ≡ option_map (after_print []) told
    by None = refl
    by (Some t) = ap (λ (out : List ℕ). Some (record t { here = record t.here { out = out } })) (sym (append-nil t.here.out))

-- the waiting texts were printed, since they may not wait
pub printed_all : {X : Type 0} (see : X → Seen) (Held : Type 0) (text rest : List ℕ) (x y : X) → (Held → ⊥) → PrintsWaiting see (Ok tt) Held text rest x y → Printed see text x y
printed_all see Held text rest x y never (inl (none, printed)) = printed
printed_all see Held text rest x y never (inr (same, stays, inl none)) = rw (none, stays) (printed_nothing see x)
printed_all see Held text rest x y never (inr (same, stays, inr held)) = absurd (never held)

-- ---- what a step came past

-- a modelled source stays modelled
stays_known : (result : Result InputStep Failed) (old new : InputBuffer) (left : List ℕ) → MovesInput result old new (Some left) None → ⊥
stays_known (Ok Line) old new left moves = absurd moves.0.taken
stays_known (Ok Long) old new left (part, moves, lacks, was, next) = absurd moves.taken
stays_known (Ok Dropping) old new left (part, moves, lacks, full, next) = absurd moves.taken
stays_known (Ok (End cut)) old new left moves = absurd moves.0.taken
stays_known (Err failed) old new left moves = absurd moves.0.taken

-- ---- at the start

pub fed_start : (whole : Feed) (script : List ℕ) (t : Told) (buffer : InputBuffer) (waiting : List ℕ) (left : Option (List ℕ)) (told : Option Told) (clock : Clock) → buffer ≡ no_inputs → whole.texts [] ≡ [] → waiting ≡ [] → left ≡ Some script → told ≡ Some t
    → FedBoth whole script t clock buffer whole waiting left told clock
fed_start whole script t buffer waiting left told clock fresh nothing none is tells = rw (is, tells, none, fresh) (fed_none whole script t clock nothing)

module _ (whole : Feed) (script : List ℕ) (before : Told) (a : Clock) (buffer : InputBuffer) (feed : Feed) where
  -- ---- the waiting texts are printed, or may wait

  module _ {X : Type 0} (see : X → Seen) (w text rest : List ℕ) (Held : Type 0) (x y : X) where
    pub wait_on : (left : Option (List ℕ)) → FedBoth whole script before a buffer feed (w ++ text) left (see x).told (see x).clock → PrintsWaiting see (Ok tt) Held w rest x y
        → FedBoth whole script before a buffer feed (rest ++ text) left (see y).told (see y).clock
    wait_on None fed printed = absurd fed
    wait_on (Some left) fed (inr (same, stays, free)) = rw (same, stays) fed
    wait_on (Some left) fed (inl (none, printed)) = by (see x).told fed printed.told
      where
        by : (told : Option Told) → FedBoth whole script before a buffer feed (w ++ text) (Some left) told (see x).clock → Steps (after_print w) told (see y).told
            → FedBoth whole script before a buffer feed (rest ++ text) (Some left) (see y).told (see y).clock
        by None never steps = absurd never
        by (Some t) there steps = rw (none, steps) (fed_printed whole script before a buffer feed left t (see x).clock w text (see y).clock there printed.stops printed.leads)

    pub unprinted_on : (exit : Exit) (other : Feed) (left : Option (List ℕ)) → FedBoth whole script before a buffer feed (w ++ text) left (see x).told (see x).clock → PrintsWaiting see (Err exit) Held w rest x y
        → FeedEndsBoth whole script before a (Err exit) other rest left (see y).told (see y).clock
    unprinted_on exit other None fed fails = absurd fed
    unprinted_on exit other (Some left) fed (is, fails) = by (see x).told (see y).told fed fails.told
      where
        by : (told now : Option Told) → FedBoth whole script before a buffer feed (w ++ text) (Some left) told (see x).clock → Relates (FailsPrint w) told now
            → IsSomeAnd now (λ n. FeedEnds whole script before a (Err exit) other rest left n (see y).clock)
        by None now never failed = absurd never
        by (Some t) None there failed = absurd failed
        by (Some t) (Some u) there (part, missing, splits, printed) =
            rw (is, printed) (fed_unprinted whole script before a buffer feed left t (see x).clock w text part missing other rest (see y).clock there splits fails.stops)

  -- nothing else waits
  pub with_nil : (waiting : List ℕ) (left : Option (List ℕ)) (told : Option Told) (b : Clock) → FedBoth whole script before a buffer feed waiting left told b → FedBoth whole script before a buffer feed (waiting ++ []) left told b
  with_nil waiting left told b fed = subst (λ (w : List ℕ). FedBoth whole script before a buffer feed w left told b) (sym (append-nil waiting)) fed

  pub without_nil : (waiting : List ℕ) (left : Option (List ℕ)) (told : Option Told) (b : Clock) → FedBoth whole script before a buffer feed (waiting ++ []) left told b → FedBoth whole script before a buffer feed waiting left told b
  without_nil waiting left told b fed = subst (λ (w : List ℕ). FedBoth whole script before a buffer feed w left told b) (append-nil waiting) fed

  -- ---- the reader goes on

  same_left : (left rest : List ℕ) → Some rest ≡ Some left → rest ≡ left
  same_left left rest is = cc

  module _ (waiting : List ℕ) (new : InputBuffer) (told : Option Told) (b : Clock) (nothing : feed.texts [] ≡ []) where
    pub step_on : (step : InputStep) (after : Feed) (text : List ℕ) (left later : Option (List ℕ)) → (waiting ≡ []) ⊎ Contains buffer.held 10 → ((cut : Bool) → step ≡ End cut → ⊥) → FedBoth whole script before a buffer feed waiting left told b
        → (Contains buffer.held 10 → later ≡ left) → MovesInput (Ok step) buffer new left later → TakesStep step new.line feed after text → FedBoth whole script before a new after (waiting ++ text) later told b
    step_on step after text None later free going fed first moves took = absurd fed
    step_on step after text (Some left) None free going fed first moves took = absurd (stays_known (Ok step) buffer new left moves)
    step_on step after text (Some left) (Some rest) free going fed first moves took = by told fed
      where
        by : (now : Option Told) → FedBoth whole script before a buffer feed waiting (Some left) now b → FedBoth whole script before a new after (waiting ++ text) (Some rest) now b
        by None never = absurd never
        by (Some t) there = fed_step whole script before a buffer feed left t b step (Contains buffer.held 10) waiting new rest after text going there nothing free (λ held. same_left left rest (first held)) moves took

    pub starved_on : (step : InputStep) (other : Feed) (left later : Option (List ℕ)) → (waiting ≡ []) ⊎ Contains buffer.held 10 → FedBoth whole script before a buffer feed waiting left told b → (Contains buffer.held 10 → later ≡ left)
        → MovesInput (Ok step) buffer new left later → FeedEndsBoth whole script before a (Err NoMemory) other waiting later told b
    starved_on step other None later free fed first moves = absurd fed
    starved_on step other (Some left) None free fed first moves = absurd (stays_known (Ok step) buffer new left moves)
    starved_on step other (Some left) (Some rest) free fed first moves = by told fed
      where
        by : (now : Option Told) → FedBoth whole script before a buffer feed waiting (Some left) now b → FeedEndsBoth whole script before a (Err NoMemory) other waiting (Some rest) now b
        by None never = absurd never
        by (Some t) there = fed_starved whole script before a buffer feed left t b step other (Contains buffer.held 10) waiting new rest there nothing free (λ held. same_left left rest (first held)) moves

    pub ends_on : (cut : Bool) (left later : Option (List ℕ)) → (waiting ≡ []) ⊎ Contains buffer.held 10 → FedBoth whole script before a buffer feed waiting left told b → (Contains buffer.held 10 → later ≡ left)
        → MovesInput (Ok (End cut)) buffer new left later → FeedEndsBoth whole script before a (Ok cut) feed waiting later told b
    ends_on cut None later free fed first moves = absurd fed
    ends_on cut (Some left) None free fed first moves = absurd (stays_known (Ok (End cut)) buffer new left moves)
    ends_on cut (Some left) (Some rest) free fed first moves = by told fed
      where
        by : (now : Option Told) → FedBoth whole script before a buffer feed waiting (Some left) now b → FeedEndsBoth whole script before a (Ok cut) feed waiting (Some rest) now b
        by None never = absurd never
        by (Some t) there = fed_ends whole script before a buffer feed left t b cut (Contains buffer.held 10) waiting new rest there nothing free (λ held. same_left left rest (first held)) moves

    -- the source failed, so the buffer had no line feed
    pub source_on : (failed : Failed) (other : Feed) (left later : Option (List ℕ)) → (waiting ≡ []) ⊎ Contains buffer.held 10 → FedBoth whole script before a buffer feed waiting left told b → MovesInput (Err failed) buffer new left later
        → FeedEndsBoth whole script before a (Err SourceFault) other waiting later told b
    source_on failed other None later free fed moves = absurd fed
    source_on failed other (Some left) None free fed moves = absurd (stays_known (Err failed) buffer new left moves)
    source_on failed other (Some left) (Some rest) free fed moves = by told fed
      where
        none : (waiting ≡ []) ⊎ Contains buffer.held 10 → waiting ≡ []
        none (inl is) = is
        none (inr held) = absurd (lacks_not_contains buffer.held (front_lacks buffer.held moves.0.bytes (rw moves.0.kept moves.1)) held)

        by : (now : Option Told) → FedBoth whole script before a buffer feed waiting (Some left) now b → FeedEndsBoth whole script before a (Err SourceFault) other waiting (Some rest) now b
        by None never = absurd never
        by (Some t) there = fed_source whole script before a buffer feed left t b other waiting new rest there nothing (none free) moves.0 moves.1 moves.2

  -- memory ran out, or the most inputs were taken
  pub stop_on : (other : Feed) (w text : List ℕ) (left : Option (List ℕ)) (told : Option Told) (b : Clock) → FedBoth whole script before a buffer feed (w ++ text) left told b → FeedEndsBoth whole script before a (Err NoMemory) other w left told b
  stop_on other w text None told b fed = absurd fed
  stop_on other w text (Some left) None b fed = absurd fed
  stop_on other w text (Some left) (Some t) b fed = fed_stop whole script before a buffer feed left t b other w text fed

-- the waiting texts were printed, or the source isn't read yet
pub free_of : {X : Type 0} (see : X → Seen) (Held : Type 0) (text rest : List ℕ) (x y : X) → PrintsWaiting see (Ok tt) Held text rest x y → (rest ≡ []) ⊎ Held
free_of see Held text rest x y (inl (none, printed)) = inl none
free_of see Held text rest x y (inr (same, stays, inl none)) = inl (same ∙ none)
free_of see Held text rest x y (inr (same, stays, inr held)) = inr held

-- ---- the end of the inputs

module _ (whole : Feed) (script : List ℕ) (before : Told) (a : Clock) (result : Result Bool Exit) (feed : Feed) (w left : List ℕ) (now : Told) (b : Clock) where
  ends_printed : (c : Clock) → FeedEnds whole script before a result feed w left now b → PrintsNext result → (result ≡ Err SourceFault → ⊥) → Passes (InOut (Begins w)) b c → Leads (InOut (Appends w)) b c
      → FeedEnds whole script before a result feed [] left (after_print w now) c
  ends_printed c ends going read passes leads =
      let goes = ends.goes going in
      let later : List ℕ = goes.0.0 in
      let out : ends.printed ++ (w ++ later) ≡ feed_output whole script = sym (append_assoc ends.printed w later) ∙ goes.0.1 in
      record {
        taken = ends.taken;
        splits = ends.splits;
        printed = ends.printed ++ w;
        is = ap (after_print w) ends.is ∙ print-both ends.printed w before;
        begins = goes.0;
        stops = stops_more (feed_output whole script) ends.printed w later a b c out ends.stops goes.1 passes;
        ahead = ahead_more whole ends.taken ends.printed w ends.ahead;
        goes = λ more. ((later, ap (λ (text : List ℕ). text ++ later) (append-nil (ends.printed ++ w)) ∙ goes.0.1), leads_more ends.printed w a b c goes.1 leads);
        done = λ cut is. (let done = ends.done cut is in (done.0 ∙ ap (λ (text : List ℕ). text ++ feed.last [] cut) (sym (append-nil (ends.printed ++ w))), done.1));
        read = λ is. absurd (read is);
      }

  ends_unprinted : (part missing : List ℕ) (other : Feed) (c : Clock) → FeedEnds whole script before a result feed w left now b → PrintsNext result → part ++ missing ≡ w → Passes (InOut (Begins w)) b c
      → FeedEnds whole script before a (Err PrintFault) other [] left (after_print part now) c
  ends_unprinted part missing other c ends going splits passes =
      let goes = ends.goes going in
      let later : List ℕ = goes.0.0 in
      let out : ends.printed ++ (w ++ later) ≡ feed_output whole script = sym (append_assoc ends.printed w later) ∙ goes.0.1 in
      record {
        taken = ends.taken;
        splits = ends.splits;
        printed = ends.printed ++ part;
        is = ap (after_print part) ends.is ∙ print-both ends.printed part before;
        begins = (
          missing ++ later,
          append_assoc ends.printed part (missing ++ later) ∙ ap (λ (text : List ℕ). ends.printed ++ text) (sym (append_assoc part missing later) ∙ ap (λ (text : List ℕ). text ++ later) splits) ∙ out,
        );
        stops = stops_more (feed_output whole script) ends.printed w later a b c out ends.stops goes.1 passes;
        ahead = ahead_more whole ends.taken ends.printed part ends.ahead;
        goes = λ never. absurd never;
        done = λ cut is. absurd cc;
        read = λ is. absurd cc;
      }

module _ {X : Type 0} (see : X → Seen) (whole : Feed) (script : List ℕ) (before : Told) (a : Clock) (result : Result Bool Exit) (feed : Feed) (w : List ℕ) (x y : X) where
  pub ends_printed_on : (left : Option (List ℕ)) → FeedEndsBoth whole script before a result feed w left (see x).told (see x).clock → PrintsNext result → (result ≡ Err SourceFault → ⊥) → Printed see w x y
      → FeedEndsBoth whole script before a result feed [] left (see y).told (see y).clock
  ends_printed_on None ends going read printed = absurd ends
  ends_printed_on (Some left) ends going read printed = by (see x).told ends printed.told
    where
      by : (told : Option Told) → FeedEndsBoth whole script before a result feed w (Some left) told (see x).clock → Steps (after_print w) told (see y).told → FeedEndsBoth whole script before a result feed [] (Some left) (see y).told (see y).clock
      by None never steps = absurd never
      by (Some t) there steps = rw steps (ends_printed whole script before a result feed w left t (see x).clock (see y).clock there going read printed.stops printed.leads)

  pub ends_unprinted_on : (fault : Exit) (Held : Type 0) (rest : List ℕ) (left : Option (List ℕ)) → FeedEndsBoth whole script before a result feed w left (see x).told (see x).clock → PrintsNext result → PrintsWaiting see (Err fault) Held w rest x y
      → FeedEndsBoth whole script before a (Err fault) feed [] left (see y).told (see y).clock
  ends_unprinted_on fault Held rest None ends going fails = absurd ends
  ends_unprinted_on fault Held rest (Some left) ends going (is, fails) = by (see x).told (see y).told ends fails.told
    where
      by : (told now : Option Told) → FeedEndsBoth whole script before a result feed w (Some left) told (see x).clock → Relates (FailsPrint w) told now → IsSomeAnd now (λ n. FeedEnds whole script before a (Err fault) feed [] left n (see y).clock)
      by None now never failed = absurd never
      by (Some t) None there failed = absurd failed
      by (Some t) (Some u) there (part, missing, splits, printed) =
          rw (is, printed) (ends_unprinted whole script before a result feed w left t (see x).clock part missing feed (see y).clock there going splits fails.stops)

-- ---- a call failed, or none did

not_printing : (exit : Exit) (whole : Feed) (script : List ℕ) (before : Told) (a : Clock) (feed : Feed) (w left : List ℕ) (now : Told) (b : Clock) → FeedEnds whole script before a (Err exit) feed w left now b → FeedEnds whole script before a (Err exit) feed [] left now b
not_printing exit whole script before a feed w left now b ends = record {
  taken = ends.taken;
  splits = ends.splits;
  printed = ends.printed;
  is = ends.is;
  begins = ends.begins;
  stops = ends.stops;
  ahead = ends.ahead;
  goes = λ going. ((ends.begins.0, ap (λ (text : List ℕ). text ++ ends.begins.0) (append-nil ends.printed) ∙ ends.begins.1), (ends.goes going).1);
  done = λ cut is. absurd cc;
  read = ends.read;
}

pub fault_on : (result : Result Bool Exit) (whole : Feed) (script : List ℕ) (before : Told) (a : Clock) (feed : Feed) (w : List ℕ) (left : Option (List ℕ)) (told : Option Told) (b : Clock) → is_fault result ≡ true
    → FeedEndsBoth whole script before a result feed w left told b → FeedEndsBoth whole script before a result feed [] left told b
fault_on (Ok cut) whole script before a feed w left told b is ends = absurd cc
fault_on (Err exit) whole script before a feed w None told b is ends = absurd ends
fault_on (Err exit) whole script before a feed w (Some left) None b is ends = absurd ends
fault_on (Err exit) whole script before a feed w (Some left) (Some t) b is ends = not_printing exit whole script before a feed w left t b ends

pub goes_on : (result : Result Bool Exit) → is_fault result ≡ false → PrintsNext result
goes_on (Ok cut) well = tt
goes_on (Err PrintFault) well = absurd cc
goes_on (Err exit) well = tt

pub not_source : (result : Result Bool Exit) → is_fault result ≡ false → result ≡ Err SourceFault → ⊥
not_source result well is = (let e : true ≡ false = sym (ap is_fault is) ∙ well in absurd cc)

-- neither the source nor the board had failed
pub nothing_failed : (result : Result Bool Exit) (count count' : ℕ) (before now : Faults) → is_fault result ≡ false → IfErr result IsFeedStop → Causes {C = ℕ} SourceCause result count count' × Causes {C = Faults} BoardCause result before now
    → (count' ≡ count) × (now ≡ before)
nothing_failed (Ok cut) count count' before now well stops causes = causes
nothing_failed (Err NoMemory) count count' before now well stops causes = causes
nothing_failed (Err SourceFault) count count' before now well stops causes = absurd cc
nothing_failed (Err PrintFault) count count' before now well stops causes = absurd cc
nothing_failed (Err exit) count count' before now well stops causes = absurd stops

pub false_not_true : false ≡ true → ⊥
false_not_true is = cc
