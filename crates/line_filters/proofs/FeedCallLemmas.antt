-- A whole call of a filter over an input of any length.
use Rattle.std.proofs.Common.{◌≡◌, ℕ, Bool, List, [], ◌++◌, Option, None, Some, IsSomeAnd, Ok, Err, refl, ap, sym, ◌∙◌, subst, append_assoc, append-nil, arith, inl, inr}
use Rattle.board_core.specs.Clock.{Adds, Clock, Passes}
use Rattle.board_core.specs.Doing.{Seen}
use Rattle.board_core.specs.Stop.{Begins, InOut}
use Rattle.board_core.specs.Told.{FailsPrint, Relates, Told, after_print}
use Rattle.ras_base.specs.Prefix.{IsPrefixOf}
use Rattle.ras_script.specs.Inputs.{inputs_of}
use Rattle.ras_exit.specs.declared.exit.Exit.{Exit}
use Rattle.ras_exit.specs.declared.exit.Exit.TheVariants.{Done, NoMemory, PrintFault, SourceFault}
use Rattle.ras_exit.specs.Causes.{SourceCause}
use Rattle.ras_exit.specs.Endings.{OnAnswer}
use Rattle.ras_exit.specs.Telling.{PrintMoment}
use Rattle.line_filters.specs.Feed.{Feed}
use Rattle.line_filters.specs.Feeds.{Feeds, FeedsOn, IsFeedExit, StopsFeeding, feed_output}
use Rattle.line_filters.specs.Filters.{OfBoth}
use Rattle.line_filters.specs.Pieces.{texts_joined}
use Rattle.line_filters.specs.Steps.Feeding.{FeedEnds, FeedEndsBoth, IsFeedStop}
use Rattle.line_filters.specs.Steps.Filtering.{Says}
use Rattle.line_filters.proofs.MomentLemmas.{stops_more}
use Rattle.line_filters.proofs.FedLemmas.{ahead_more}
use Rattle.line_filters.proofs.StepLemmas.{print-both}

-- ---- the model

module _ (whole : Feed) (script : List ℕ) (before : Told) where
  abbrev output : List ℕ
  output = feed_output whole script

  feeds_made : (exit : Exit) (printed taken left : List ℕ) (now : Told) → now ≡ after_print printed before → IsPrefixOf printed output → OnAnswer exit (exit ≡ Done)
      → OnAnswer exit (before.here.out ++ printed ≡ before.here.out ++ output) → taken ++ left ≡ script → FeedsOn whole taken printed → (exit ≡ Done → left ≡ [])
      → (exit ≡ SourceFault → printed ≡ texts_joined (whole.texts (inputs_of taken).whole)) → Feeds whole exit script left before now
  feeds_made exit printed taken left now is begins answers all splits ahead none read = subst (λ (n : Told). Feeds whole exit script left before n) (sym is) (record {
    tells = record { answers = answers; begun = (printed, begins, refl); whole = all };
    only = refl;
    taken = taken;
    splits = splits;
    printed = printed;
    text = refl;
    ahead = ahead;
    all = none;
    read = read;
  })

  module _ (a : Clock) (feed : Feed) (left : List ℕ) (mid : Told) (b : Clock) where
    -- the inputs didn't end
    feeds_err : (exit : Exit) → IsFeedStop exit → FeedEnds whole script before a (Err exit) feed [] left mid b → Feeds whole exit script left before mid
    feeds_err SourceFault is ends = feeds_made SourceFault ends.printed ends.taken left mid ends.is ends.begins tt tt ends.splits ends.ahead (λ e. absurd cc) (λ e. ends.read refl)
    feeds_err PrintFault is ends = feeds_made PrintFault ends.printed ends.taken left mid ends.is ends.begins tt tt ends.splits ends.ahead (λ e. absurd cc) (λ e. absurd cc)
    feeds_err NoMemory is ends = feeds_made NoMemory ends.printed ends.taken left mid ends.is ends.begins tt tt ends.splits ends.ahead (λ e. absurd cc) (λ e. absurd cc)
    feeds_err exit is ends = absurd is

    -- the inputs ended, and the last text was printed or not
    last_output : (cut : Bool) (ends : FeedEnds whole script before a (Ok cut) feed [] left mid b) → output ≡ ends.printed ++ feed.last [] cut
    last_output cut ends = (ends.done cut refl).0 ∙ ap (λ (text : List ℕ). text ++ feed.last [] cut) (append-nil ends.printed)

    feeds_said : {X : Type 0} (see : X → Seen) (x y : X) (cut : Bool) (result : Exit) → FeedEnds whole script before a (Ok cut) feed [] left mid b → (see x).told ≡ Some mid → Says see Done result (feed.last [] cut) x y
        → IsSomeAnd (see y).told (Feeds whole result script left before)
    feeds_said see x y cut result ends tells (inl (is, says)) =
        let last : List ℕ = feed.last [] cut in
        let all : output ≡ ends.printed ++ last = last_output cut ends in
        rw (says.told, tells, is) (
        feeds_made Done (ends.printed ++ last) ends.taken left (after_print last mid) (ap (after_print last) ends.is ∙ print-both ends.printed last before)
        ([], append-nil (ends.printed ++ last) ∙ sym all) refl (ap (λ (out : List ℕ). before.here.out ++ out) (sym all)) ends.splits
        (ahead_more whole ends.taken ends.printed last ends.ahead) (λ e. (ends.done cut refl).1) (λ e. absurd cc))
    feeds_said see x y cut result ends tells (inr (inr (is, same))) =
        rw (same, tells, is) (feeds_made NoMemory ends.printed ends.taken left mid ends.is ends.begins tt tt ends.splits ends.ahead (λ e. absurd cc) (λ e. absurd cc))
    feeds_said see x y cut result ends tells (inr (inl (is, fails))) =
        rw is (by (see y).told (subst (λ told. Relates (FailsPrint (feed.last [] cut)) told (see y).told) tells fails.told))
      where
        by : (new : Option Told) → Relates (FailsPrint (feed.last [] cut)) (Some mid) new → IsSomeAnd new (Feeds whole PrintFault script left before)
        by None failed = absurd failed
        by (Some now) (part, missing, splits, printed) =
            rw printed (feeds_made PrintFault (ends.printed ++ part) ends.taken left (after_print part mid) (ap (after_print part) ends.is ∙ print-both ends.printed part before)
            (missing, append_assoc ends.printed part missing ∙ ap (λ (out : List ℕ). ends.printed ++ out) splits ∙ sym (last_output cut ends)) tt tt ends.splits
            (ahead_more whole ends.taken ends.printed part ends.ahead) (λ e. absurd cc) (λ e. absurd cc))

-- ---- what a crash leaves

module _ {X : Type 0} (see : X → Seen) (whole : Feed) (script : List ℕ) (before : Told) (a : Clock) (feed : Feed) (x y : X) (cut : Bool) where
  abbrev said_text : List ℕ
  said_text = feed_output whole script

  closes : (left : List ℕ) (mid : Told) → FeedEnds whole script before a (Ok cut) feed [] left mid (see x).clock → Passes (InOut (Begins (feed.last [] cut))) (see x).clock (see y).clock → Adds (PrintMoment a said_text) a (see y).clock
  closes left mid ends passes =
      let last : List ℕ = feed.last [] cut in
      let all : said_text ≡ ends.printed ++ last = last_output whole script before a feed left mid (see x).clock cut ends in
      stops_more said_text ends.printed last [] a (see x).clock (see y).clock (ap (λ (out : List ℕ). ends.printed ++ out) (append-nil last) ∙ sym all) ends.stops (ends.goes tt).1 passes

  stops_said : (result : Exit) (left : List ℕ) (mid : Told) → FeedEnds whole script before a (Ok cut) feed [] left mid (see x).clock → Says see Done result (feed.last [] cut) x y → Adds (PrintMoment a said_text) a (see y).clock
  stops_said result left mid ends (inl (is, says)) = closes left mid ends says.stops
  stops_said result left mid ends (inr (inl (is, fails))) = closes left mid ends fails.stops
  stops_said result left mid ends (inr (inr (is, same))) = subst (λ z. Adds (PrintMoment a said_text) a (see z).clock) (sym same) ends.stops

  -- ---- if source and board are modelled

  pub feeds_on : (result : Exit) (left : Option (List ℕ)) → FeedEndsBoth whole script before a (Ok cut) feed [] left (see x).told (see x).clock → Says see Done result (feed.last [] cut) x y
      → IsSomeAnd left (λ rest. IsSomeAnd (see y).told (Feeds whole result script rest before))
  feeds_on result None ends says = absurd ends
  feeds_on result (Some rest) ends says = by (see x).told refl ends
    where
      by : (told : Option Told) → (see x).told ≡ told → FeedEndsBoth whole script before a (Ok cut) feed [] (Some rest) told (see x).clock → IsSomeAnd (see y).told (Feeds whole result script rest before)
      by None tells never = absurd never
      by (Some t) tells there = feeds_said whole script before a feed rest t (see x).clock see x y cut result there tells says

  pub stops_on_said : (result : Exit) (left : Option (List ℕ)) → FeedEndsBoth whole script before a (Ok cut) feed [] left (see x).told (see x).clock → Says see Done result (feed.last [] cut) x y → Adds (PrintMoment a said_text) a (see y).clock
  stops_on_said result None ends says = absurd ends
  stops_on_said result (Some rest) ends says = by (see x).told ends
    where
      by : (told : Option Told) → FeedEndsBoth whole script before a (Ok cut) feed [] (Some rest) told (see x).clock → Adds (PrintMoment a said_text) a (see y).clock
      by None never = absurd never
      by (Some t) there = stops_said result rest t there says

module _ (whole : Feed) (script : List ℕ) (before : Told) (a : Clock) (feed : Feed) (exit : Exit) where
  pub feeds_err_on : (left : Option (List ℕ)) (told : Option Told) (b : Clock) → IsFeedStop exit → FeedEndsBoth whole script before a (Err exit) feed [] left told b → IsSomeAnd left (λ rest. IsSomeAnd told (Feeds whole exit script rest before))
  feeds_err_on None told b is ends = absurd ends
  feeds_err_on (Some rest) None b is ends = absurd ends
  feeds_err_on (Some rest) (Some t) b is ends = feeds_err whole script before a feed rest t b exit is ends

  pub stops_err_on : (left : Option (List ℕ)) (told : Option Told) (b : Clock) → FeedEndsBoth whole script before a (Err exit) feed [] left told b → Adds (PrintMoment a (feed_output whole script)) a b
  stops_err_on None told b ends = absurd ends
  stops_err_on (Some rest) None b ends = absurd ends
  stops_err_on (Some rest) (Some t) b ends = ends.stops

pub stops_feeding : (feed : Feed) (left : Option (List ℕ)) (told : Option Told) (a b : Clock) → ((script : List ℕ) (t : Told) → left ≡ Some script → told ≡ Some t → Adds (PrintMoment a (feed_output feed script)) a b)
    → StopsFeeding feed left told a b
stops_feeding feed None told a b holds = tt
stops_feeding feed (Some script) None a b holds = tt
stops_feeding feed (Some script) (Some t) a b holds = holds script t refl refl

-- a call that read and printed nothing
pub feeds_nothing : (whole : Feed) (left : Option (List ℕ)) (told : Option Told) → whole.texts [] ≡ [] → OfBoth (Feeds whole NoMemory) left left told told
feeds_nothing whole None told nothing = tt
feeds_nothing whole (Some script) None nothing = tt
feeds_nothing whole (Some script) (Some t) nothing =
    feeds_made whole script t NoMemory [] [] script t (ap (λ (out : List ℕ). record t { here = record t.here { out = out } }) (sym (append-nil t.here.out)))
    (feed_output whole script, refl) tt tt refl
    (record { front = []; more = []; text = sym (ap (λ (texts : List (List ℕ)). texts_joined texts ++ []) nothing); rest = []; splits = refl; few = omega arith })
    (λ e. absurd cc) (λ e. absurd cc)

-- ---- why the call ended

pub stop_is_exit : (exit : Exit) → IsFeedStop exit → IsFeedExit exit
stop_is_exit SourceFault is = tt
stop_is_exit PrintFault is = tt
stop_is_exit NoMemory is = tt
stop_is_exit exit is = absurd is

-- the last text was printed or not, and the source wasn't read
pub said_source : {X : Type 0} (see : X → Seen) (result : Exit) (text : List ℕ) (x y : X) (count count' : ℕ) → Says see Done result text x y → count' ≡ count → SourceCause result count count'
said_source see result text x y count count' (inl (is, says)) same = rw is same
said_source see result text x y count count' (inr (inl (is, fails))) same = rw is same
said_source see result text x y count count' (inr (inr (is, stays))) same = rw is same
