-- Inputs are taken one after another; their texts wait or are printed.
use Rattle.std.proofs.Common.{◌≡◌, ℕ, Bool, true, false, List, [], ◌∷◌, ◌++◌, length, Some, Result, Ok, Err, refl, ap, sym, ◌∙◌, subst, append_assoc, append-nil, length-append, arith, inl, inr}
use Rattle.std.specs.Prelude.{◌⊎◌}
use Rattle.std.proofs.lemmas.Grind.{flat_map-append}
use Rattle.board_core.specs.Clock.{Clock, Leads, Passes}
use Rattle.board_core.specs.Steps.ClockLemmas.{adds_none}
use Rattle.board_core.specs.Stop.{Appends, Begins, InOut}
use Rattle.board_core.specs.Told.{Told, after_print}
use Rattle.ras_script.specs.declared.input.InputStep.{InputStep}
use Rattle.ras_script.specs.declared.input.InputStep.TheVariants.{Line, Long, Dropping, End}
use Rattle.ras_script.specs.InputBuffer.{InputBuffer, MovesInput, MovesPast, inputs_to_come}
use Rattle.ras_script.specs.Inputs.{Input, Inputs, inputs_behind, inputs_of, line, long}
use Rattle.ras_script.specs.SplittingLaws.{Lacks}
use Rattle.ras_script.proofs.InputLemmas.{behind_end, behind_line, behind_long, behind_part, gives_input}
use Rattle.ras_exit.specs.declared.exit.Exit.{Exit}
use Rattle.ras_exit.specs.declared.exit.Exit.TheVariants.{NoMemory, PrintFault, SourceFault}
use Rattle.ras_exit.specs.Telling.{PrintMoment}
use Rattle.line_filters.specs.Feed.{Feed}
use Rattle.line_filters.specs.Feeds.{FeedsOn, feed_output}
use Rattle.line_filters.specs.Pieces.{texts_joined}
use Rattle.line_filters.specs.Steps.Feeding.{Fed, FeedEnds, TakesStep, later_text, no_inputs, with_inputs}
use Rattle.line_filters.proofs.MomentLemmas.{leads_more, leads_none, stops_more}
use Rattle.line_filters.proofs.StepLemmas.{print-both}

nothing_of : (xs : List ℕ) → length xs ≡ 0 → xs ≡ []
nothing_of [] none = refl
nothing_of (x ∷ xs) none = absurd (omega arith)

behind_nothing : (dropping : Bool) → (inputs_behind dropping []).whole ≡ []
behind_nothing true = refl
behind_nothing false = refl

behind_lacks : (buffer : InputBuffer) → Lacks 10 buffer.held → (inputs_behind buffer.dropping buffer.held).whole ≡ []
behind_lacks buffer lacks =
    ap (λ (text : List ℕ). (inputs_behind buffer.dropping text).whole) (sym (append-nil buffer.held)) ∙ ap (λ (i : Inputs). i.whole) (behind_end buffer lacks)

joined_one : (text : List ℕ) → texts_joined (text ∷ []) ≡ text
joined_one text = append-nil text

pub ahead_more : (feed : Feed) (taken printed part : List ℕ) → FeedsOn feed taken printed → FeedsOn feed taken (printed ++ part)
ahead_more feed taken printed part on = record {
  front = on.front;
  more = on.more ++ part;
  text = ap (λ (out : List ℕ). out ++ part) on.text ∙ append_assoc (texts_joined (feed.texts (inputs_of on.front).whole)) on.more part;
  rest = on.rest;
  splits = on.splits;
  few = on.few;
}

-- the start of a call
pub fed_none : (whole : Feed) (script : List ℕ) (t : Told) (clock : Clock) → whole.texts [] ≡ [] → Fed whole script t clock no_inputs whole [] script t clock
fed_none whole script t clock nothing = record {
  done = [];
  given = [];
  splits = refl;
  come = λ more. refl;
  texts = [];
  made = λ inputs. refl;
  last = λ inputs cut. refl;
  printed = [];
  all = refl;
  is = ap (λ (out : List ℕ). record t { here = record t.here { out = out } }) (sym (append-nil t.here.out));
  stops = adds_none (PrintMoment clock (feed_output whole script)) clock;
  leads = leads_none clock;
  ahead = record { front = []; more = []; text = sym (ap (λ (texts : List (List ℕ)). texts_joined texts ++ []) nothing); rest = []; splits = refl; few = omega arith };
}

module _ (whole : Feed) (script : List ℕ) (before : Told) (a : Clock) (buffer : InputBuffer) (feed : Feed) (left : List ℕ) (now : Told) (b : Clock) where
  abbrev later : List ℕ
  later = later_text feed buffer left

  abbrev whole_text : List ℕ
  whole_text = feed_output whole script

  output_of : (waiting : List ℕ) (fed : Fed whole script before a buffer feed waiting left now b) → whole_text ≡ (fed.printed ++ waiting) ++ later
  output_of waiting fed =
      let come : Inputs = inputs_to_come buffer left in
      let is : inputs_of script ≡ with_inputs fed.given come =
      ap inputs_of (sym fed.splits ∙ append_assoc fed.done buffer.held left) ∙ fed.come (buffer.held ++ left) in
      let last : List ℕ = feed.last come.whole come.cut in
      ap (λ (i : Inputs). texts_joined (whole.texts i.whole) ++ whole.last i.whole i.cut) is
      ∙ ap (λ (texts : List (List ℕ)). texts_joined texts ++ whole.last (fed.given ++ come.whole) come.cut) (fed.made come.whole)
      ∙ ap (λ (text : List ℕ). texts_joined (fed.texts ++ feed.texts come.whole) ++ text) (fed.last come.whole come.cut)
      ∙ ap (λ (text : List ℕ). text ++ last) (flat_map-append (λ (text : List ℕ). text) fed.texts (feed.texts come.whole))
      ∙ append_assoc (texts_joined fed.texts) (texts_joined (feed.texts come.whole)) last
      ∙ ap (λ (text : List ℕ). text ++ later) fed.all

  -- the whole text, with a part that waits and the text after this part
  parts_of : (w text : List ℕ) (fed : Fed whole script before a buffer feed (w ++ text) left now b) → fed.printed ++ (w ++ (text ++ later)) ≡ whole_text
  parts_of w text fed =
      ap (λ (out : List ℕ). fed.printed ++ out) (sym (append_assoc w text later)) ∙ sym (append_assoc fed.printed (w ++ text) later)
      ∙ sym (output_of (w ++ text) fed)

  -- the texts of the bytes that were read, the last of which end no input
  texts_read : (waiting more : List ℕ) (fed : Fed whole script before a buffer feed waiting left now b) → feed.texts [] ≡ [] → (inputs_behind buffer.dropping more).whole ≡ []
      → texts_joined (whole.texts (inputs_of (fed.done ++ more)).whole) ≡ fed.printed ++ waiting
  texts_read waiting more fed nothing none =
      ap (λ (i : Inputs). texts_joined (whole.texts i.whole)) (fed.come more)
      ∙ ap (λ (rest : List Input). texts_joined (whole.texts (fed.given ++ rest))) none
      ∙ ap (λ (texts : List (List ℕ)). texts_joined texts) (fed.made [])
      ∙ ap (λ (rest : List (List ℕ)). texts_joined (fed.texts ++ rest)) nothing
      ∙ ap (λ (texts : List (List ℕ)). texts_joined texts) (append-nil fed.texts)
      ∙ fed.all

  -- a part of the waiting texts was printed
  pub fed_printed : (w text : List ℕ) (c : Clock) → Fed whole script before a buffer feed (w ++ text) left now b → Passes (InOut (Begins w)) b c → Leads (InOut (Appends w)) b c
      → Fed whole script before a buffer feed text left (after_print w now) c
  fed_printed w text c fed passes leads = record {
    done = fed.done;
    given = fed.given;
    splits = fed.splits;
    come = fed.come;
    texts = fed.texts;
    made = fed.made;
    last = fed.last;
    printed = fed.printed ++ w;
    all = fed.all ∙ sym (append_assoc fed.printed w text);
    is = ap (after_print w) fed.is ∙ print-both fed.printed w before;
    stops = stops_more whole_text fed.printed w (text ++ later) a b c (parts_of w text fed) fed.stops fed.leads passes;
    leads = leads_more fed.printed w a b c fed.leads leads;
    ahead = ahead_more whole (fed.done ++ buffer.held) fed.printed w fed.ahead;
  }

  -- printing a part of the waiting texts failed
  pub fed_unprinted : (w text part missing : List ℕ) (other : Feed) (rest : List ℕ) (c : Clock) → Fed whole script before a buffer feed (w ++ text) left now b → part ++ missing ≡ w → Passes (InOut (Begins w)) b c
      → FeedEnds whole script before a (Err PrintFault) other rest left (after_print part now) c
  fed_unprinted w text part missing other rest c fed splits passes = record {
    taken = fed.done ++ buffer.held;
    splits = fed.splits;
    printed = fed.printed ++ part;
    is = ap (after_print part) fed.is ∙ print-both fed.printed part before;
    begins = (
      missing ++ (text ++ later),
      append_assoc fed.printed part (missing ++ (text ++ later))
          ∙ ap (λ (out : List ℕ). fed.printed ++ out) (sym (append_assoc part missing (text ++ later)) ∙ ap (λ (out : List ℕ). out ++ (text ++ later)) splits)
          ∙ parts_of w text fed,
    );
    stops = stops_more whole_text fed.printed w (text ++ later) a b c (parts_of w text fed) fed.stops fed.leads passes;
    ahead = ahead_more whole (fed.done ++ buffer.held) fed.printed part fed.ahead;
    goes = λ goes. absurd goes;
    done = λ cut is. absurd cc;
    read = λ is. absurd cc;
  }

  -- ---- the reader goes on

  took_text : (done given : List ℕ) (new : InputBuffer) (rest : List ℕ) (moves : MovesPast given buffer new (Some left) (Some rest)) → done ++ (buffer.held ++ moves.bytes) ≡ (done ++ given) ++ new.held
  took_text done given new rest moves = ap (λ (text : List ℕ). done ++ text) moves.kept ∙ sym (append_assoc done given new.held)

  splits_on : (waiting given : List ℕ) (new : InputBuffer) (rest : List ℕ) (fed : Fed whole script before a buffer feed waiting left now b) → MovesPast given buffer new (Some left) (Some rest)
      → ((fed.done ++ given) ++ new.held) ++ rest ≡ script
  splits_on waiting given new rest fed moves =
      let taken : left ≡ moves.bytes ++ rest = moves.taken in
      ap (λ (text : List ℕ). text ++ rest) (sym (took_text fed.done given new rest moves))
      ∙ append_assoc fed.done (buffer.held ++ moves.bytes) rest
      ∙ ap (λ (text : List ℕ). fed.done ++ text) (append_assoc buffer.held moves.bytes rest ∙ ap (λ (text : List ℕ). buffer.held ++ text) (sym taken))
      ∙ sym (append_assoc fed.done buffer.held left) ∙ fed.splits

  -- The reader was asked for an input while nothing waited, or while it had a line feed and so read nothing.
  pub ahead_next : (Held : Type 0) (waiting given : List ℕ) (new : InputBuffer) (rest : List ℕ) (fed : Fed whole script before a buffer feed waiting left now b) → feed.texts [] ≡ [] → (waiting ≡ []) ⊎ Held → (Held → rest ≡ left)
      → MovesPast given buffer new (Some left) (Some rest) → FeedsOn whole ((fed.done ++ given) ++ new.held) fed.printed
  ahead_next Held waiting given new rest fed nothing (inl none) same moves = record {
    front = fed.done;
    more = [];
    text = sym (
        append-nil (texts_joined (whole.texts (inputs_of fed.done).whole))
        ∙ ap (λ (text : List ℕ). texts_joined (whole.texts (inputs_of text).whole)) (sym (append-nil fed.done))
        ∙ texts_read waiting [] fed nothing (behind_nothing buffer.dropping)
        ∙ ap (λ (text : List ℕ). fed.printed ++ text) none ∙ append-nil fed.printed);
    rest = buffer.held ++ moves.bytes;
    splits = took_text fed.done given new rest moves;
    few = omega (arith, moves.ahead, length-append buffer.held moves.bytes);
  }
  ahead_next Held waiting given new rest fed nothing (inr held) same moves =
      let taken : left ≡ moves.bytes ++ rest = moves.taken in
      let none : moves.bytes ≡ [] = nothing_of moves.bytes (omega (arith, ap length taken, ap length (same held), length-append moves.bytes rest)) in
      let is : (fed.done ++ given) ++ new.held ≡ fed.done ++ buffer.held =
      sym (took_text fed.done given new rest moves) ∙ ap (λ (text : List ℕ). fed.done ++ (buffer.held ++ text)) none
      ∙ ap (λ (text : List ℕ). fed.done ++ text) (append-nil buffer.held) in
      subst (λ (text : List ℕ). FeedsOn whole text fed.printed) (sym is) fed.ahead

  -- inputs were read, and their texts wait
  fed_goes : (waiting given : List ℕ) (new : InputBuffer) (rest : List ℕ) (after : Feed) (inputs : List Input) (texts : List (List ℕ)) (text : List ℕ) (fed : Fed whole script before a buffer feed waiting left now b)
      → MovesPast given buffer new (Some left) (Some rest)
      → ((more : List ℕ) → inputs_behind buffer.dropping (given ++ more) ≡ with_inputs inputs (inputs_behind new.dropping more))
      → ((more : List Input) → feed.texts (inputs ++ more) ≡ texts ++ after.texts more)
      → ((more : List Input) (cut : Bool) → feed.last (inputs ++ more) cut ≡ after.last more cut)
      → texts_joined texts ≡ text → FeedsOn whole ((fed.done ++ given) ++ new.held) fed.printed
      → Fed whole script before a new after (waiting ++ text) rest now b
  fed_goes waiting given new rest after inputs texts text fed moves turns made last all ahead = record {
    done = fed.done ++ given;
    given = fed.given ++ inputs;
    splits = splits_on waiting given new rest fed moves;
    come = λ more. (
        ap inputs_of (append_assoc fed.done given more) ∙ fed.come (given ++ more) ∙ ap (with_inputs fed.given) (turns more)
        ∙ ap (λ (whole : List Input). record (inputs_behind new.dropping more) { whole = whole }) (sym (append_assoc fed.given inputs (inputs_behind new.dropping more).whole)));
    texts = fed.texts ++ texts;
    made = λ more. (
        ap whole.texts (append_assoc fed.given inputs more) ∙ fed.made (inputs ++ more) ∙ ap (λ (t : List (List ℕ)). fed.texts ++ t) (made more)
        ∙ sym (append_assoc fed.texts texts (after.texts more)));
    last = λ more cut. ap (λ (i : List Input). whole.last i cut) (append_assoc fed.given inputs more) ∙ fed.last (inputs ++ more) cut ∙ last more cut;
    printed = fed.printed;
    all =
        flat_map-append (λ (t : List ℕ). t) fed.texts texts ∙ ap (λ (t : List ℕ). texts_joined fed.texts ++ t) all
        ∙ ap (λ (t : List ℕ). t ++ text) fed.all ∙ append_assoc fed.printed waiting text;
    is = fed.is;
    stops = fed.stops;
    leads = fed.leads;
    ahead = ahead;
  }

  -- the next step was taken
  pub fed_step : (step : InputStep) (Held : Type 0) (waiting : List ℕ) (new : InputBuffer) (rest : List ℕ) (after : Feed) (text : List ℕ) → ((cut : Bool) → step ≡ End cut → ⊥) → Fed whole script before a buffer feed waiting left now b
      → feed.texts [] ≡ [] → (waiting ≡ []) ⊎ Held → (Held → rest ≡ left) → MovesInput (Ok step) buffer new (Some left) (Some rest) → TakesStep step new.line feed after text
      → Fed whole script before a new after (waiting ++ text) rest now b
  fed_step Line Held waiting new rest after text going fed nothing free same (moves, is, was, next) took =
      fed_goes waiting (new.line ++ 10 ∷ []) new rest after (line new.line ∷ []) (took.text ∷ []) text fed moves
      (λ more. ap (λ d. inputs_behind d ((new.line ++ 10 ∷ []) ++ more)) was ∙ ap (inputs_behind false) (append_assoc new.line (10 ∷ []) more) ∙ behind_line new.line more is.0 is.1 ∙ ap (λ d. with_inputs (line new.line ∷ []) (inputs_behind d more)) (sym next))
      took.texts took.last (joined_one took.text ∙ sym took.out)
      (ahead_next Held waiting (new.line ++ 10 ∷ []) new rest fed nothing free same moves)
  fed_step Long Held waiting new rest after text going fed nothing free same (part, moves, lacks, was, next) took =
      fed_goes waiting (part ++ 10 ∷ []) new rest after (long ∷ []) (took.text ∷ []) text fed moves
      (λ more. ap (λ d. inputs_behind d ((part ++ 10 ∷ []) ++ more)) was ∙ ap (inputs_behind true) (append_assoc part (10 ∷ []) more) ∙ behind_long part more lacks ∙ ap (λ d. with_inputs (long ∷ []) (inputs_behind d more)) (sym next))
      took.texts took.last (joined_one took.text ∙ sym took.out)
      (ahead_next Held waiting (part ++ 10 ∷ []) new rest fed nothing free same moves)
  fed_step Dropping Held waiting new rest after text going fed nothing free same (part, moves, lacks, full, next) (still, none) =
      fed_goes waiting part new rest after [] [] text fed moves
      (λ more. behind_part buffer.dropping part more lacks (omega (arith, full)) ∙ ap (λ d. inputs_behind d more) (sym next))
      (λ more. ap (λ (f : Feed). f.texts more) (sym still)) (λ more cut. ap (λ (f : Feed). f.last more cut) (sym still)) (sym none)
      (ahead_next Held waiting part new rest fed nothing free same moves)
  fed_step (End cut) Held waiting new rest after text going fed nothing free same moves took = absurd (going cut refl)

  -- ---- the call ends

  ends_at : (result : Result Bool Exit) (other : Feed) (w text taken rest : List ℕ) (fed : Fed whole script before a buffer feed (w ++ text) left now b) → taken ++ rest ≡ script → FeedsOn whole taken fed.printed
      → ((cut : Bool) → result ≡ Ok cut → (whole_text ≡ (fed.printed ++ w) ++ other.last [] cut) × (rest ≡ []))
      → (result ≡ Err SourceFault → fed.printed ≡ texts_joined (whole.texts (inputs_of taken).whole))
      → FeedEnds whole script before a result other w rest now b
  ends_at result other w text taken rest fed splits ahead done read = record {
    taken = taken;
    splits = splits;
    printed = fed.printed;
    is = fed.is;
    begins = (w ++ (text ++ later), parts_of w text fed);
    stops = fed.stops;
    ahead = ahead;
    goes = λ goes. ((text ++ later, append_assoc fed.printed w (text ++ later) ∙ parts_of w text fed), fed.leads);
    done = done;
    read = read;
  }

  fed_nil : (waiting : List ℕ) → Fed whole script before a buffer feed waiting left now b → Fed whole script before a buffer feed (waiting ++ []) left now b
  fed_nil waiting fed = subst (λ (w : List ℕ). Fed whole script before a buffer feed w left now b) (sym (append-nil waiting)) fed

  -- memory ran out, or the most inputs were taken
  pub fed_stop : (other : Feed) (w text : List ℕ) → Fed whole script before a buffer feed (w ++ text) left now b → FeedEnds whole script before a (Err NoMemory) other w left now b
  fed_stop other w text fed = ends_at (Err NoMemory) other w text (fed.done ++ buffer.held) left fed fed.splits fed.ahead (λ cut is. absurd cc) (λ is. absurd cc)

  moved_by : (step : InputStep) (new : InputBuffer) (rest : List ℕ) → MovesInput (Ok step) buffer new (Some left) (Some rest) → (given : List ℕ) × MovesPast given buffer new (Some left) (Some rest)
  moved_by Line new rest moves = (new.line ++ 10 ∷ [], moves.0)
  moved_by Long new rest (part, moves, lacks, was, next) = (part ++ 10 ∷ [], moves)
  moved_by Dropping new rest (part, moves, lacks, full, next) = (part, moves)
  moved_by (End cut) new rest moves = ([], moves.0)

  -- memory ran out at an input that was read
  pub fed_starved : (step : InputStep) (other : Feed) (Held : Type 0) (waiting : List ℕ) (new : InputBuffer) (rest : List ℕ) → Fed whole script before a buffer feed waiting left now b → feed.texts [] ≡ [] → (waiting ≡ []) ⊎ Held → (Held → rest ≡ left)
      → MovesInput (Ok step) buffer new (Some left) (Some rest) → FeedEnds whole script before a (Err NoMemory) other waiting rest now b
  fed_starved step other Held waiting new rest fed nothing free same moves = by (moved_by step new rest moves)
    where
      by : ((given : List ℕ) × MovesPast given buffer new (Some left) (Some rest)) → FeedEnds whole script before a (Err NoMemory) other waiting rest now b
      by (given, moved) =
          let ended : Fed whole script before a buffer feed (waiting ++ []) left now b = fed_nil waiting fed in
          let free_nil : (waiting ++ [] ≡ []) ⊎ Held = subst (λ (w : List ℕ). (w ≡ []) ⊎ Held) (sym (append-nil waiting)) free in
          ends_at (Err NoMemory) other waiting [] ((ended.done ++ given) ++ new.held) rest ended (splits_on (waiting ++ []) given new rest ended moved)
          (ahead_next Held (waiting ++ []) given new rest ended nothing free_nil same moved) (λ cut is. absurd cc) (λ is. absurd cc)

  -- the source failed while nothing waited
  pub fed_source : (other : Feed) (waiting : List ℕ) (new : InputBuffer) (rest : List ℕ) → Fed whole script before a buffer feed waiting left now b → feed.texts [] ≡ [] → waiting ≡ [] → MovesPast [] buffer new (Some left) (Some rest)
      → Lacks 10 new.held → new.dropping ≡ buffer.dropping → FeedEnds whole script before a (Err SourceFault) other waiting rest now b
  fed_source other waiting new rest fed nothing none moves lacks same =
      let ended : Fed whole script before a buffer feed (waiting ++ []) left now b = fed_nil waiting fed in
      let empty : waiting ++ [] ≡ [] = append-nil waiting ∙ none in
      let ends_none : (inputs_behind buffer.dropping new.held).whole ≡ [] = ap (λ d. (inputs_behind d new.held).whole) (sym same) ∙ behind_lacks new lacks in
      ends_at (Err SourceFault) other waiting [] ((ended.done ++ []) ++ new.held) rest ended (splits_on (waiting ++ []) [] new rest ended moves)
      (ahead_next ⊥ (waiting ++ []) [] new rest ended nothing (inl empty) (λ never. absurd never) moves)
      (λ cut is. absurd cc)
      (λ is. sym (
      ap (λ (text : List ℕ). texts_joined (whole.texts (inputs_of (text ++ new.held)).whole)) (append-nil ended.done)
      ∙ texts_read (waiting ++ []) new.held ended nothing ends_none
      ∙ ap (λ (text : List ℕ). ended.printed ++ text) empty ∙ append-nil ended.printed))

  -- the source ended
  pub fed_ends : (cut : Bool) (Held : Type 0) (waiting : List ℕ) (new : InputBuffer) (rest : List ℕ) → Fed whole script before a buffer feed waiting left now b → feed.texts [] ≡ [] → (waiting ≡ []) ⊎ Held → (Held → rest ≡ left)
      → MovesInput (Ok (End cut)) buffer new (Some left) (Some rest) → FeedEnds whole script before a (Ok cut) feed waiting rest now b
  fed_ends cut Held waiting new rest fed nothing free same moves =
      let ended : Fed whole script before a buffer feed (waiting ++ []) left now b = fed_nil waiting fed in
      let free_nil : (waiting ++ [] ≡ []) ⊎ Held = subst (λ (w : List ℕ). (w ≡ []) ⊎ Held) (sym (append-nil waiting)) free in
      let come : inputs_to_come buffer left ≡ record { whole = []; cut = cut } = gives_input (Ok (End cut)) buffer new (Some left) (Some rest) moves in
      let text : later ≡ feed.last [] cut =
      ap (λ (i : Inputs). texts_joined (feed.texts i.whole) ++ feed.last i.whole i.cut) come ∙ ap (λ (texts : List (List ℕ)). texts_joined texts ++ feed.last [] cut) nothing in
      let output : whole_text ≡ (ended.printed ++ waiting) ++ feed.last [] cut =
      output_of (waiting ++ []) ended ∙ ap (λ (w : List ℕ). (ended.printed ++ w) ++ later) (append-nil waiting) ∙ ap (λ (t : List ℕ). (ended.printed ++ waiting) ++ t) text in
      ends_at (Ok cut) feed waiting [] ((ended.done ++ []) ++ new.held) rest ended (splits_on (waiting ++ []) [] new rest ended moves.0)
      (ahead_next Held (waiting ++ []) [] new rest ended nothing free_nil same moves.0)
      (λ c is. (output ∙ ap (λ d. (ended.printed ++ waiting) ++ feed.last [] d) (let e : cut ≡ c = cc in e), moves.4))
      (λ is. absurd cc)
