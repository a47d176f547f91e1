-- The steps of a filter's call, if source and board are modelled.
use Rattle.std.proofs.Common.{◌≡◌, ℕ, Bool, true, false, List, [], Option, None, Some, IfSome, IsSomeAnd, Result, Ok, Err, refl, ◌∙◌, subst, inl, inr}
use Rattle.std.specs.Prelude.{◌⊎◌, Contains}
use Rattle.board_core.specs.Cause.{Faults}
use Rattle.board_core.specs.Clock.{Clock}
use Rattle.board_core.specs.Doing.{Seen}
use Rattle.board_core.specs.Told.{FailsPrint, Relates, Steps, Told, after_print}
use Rattle.ras_script.specs.Lines.{script_ended}
use Rattle.ras_script.specs.Reader.{MovesLine, Reader, lines_to_come}
use Rattle.ras_script.specs.SplittingLaws.{Lacks}
use Rattle.ras_script.proofs.ReaderLemmas.{held_lacks, lacks_not_contains}
use Rattle.ras_exit.specs.declared.exit.Exit.{Exit}
use Rattle.ras_exit.specs.declared.exit.Exit.TheVariants.{BadLine, Done, NoMemory, PrintFault, SourceFault, TooLong}
use Rattle.ras_exit.specs.Causes.{BoardCause, SourceCause}
use Rattle.line_filters.specs.Filter.{Filter, Took}
use Rattle.line_filters.specs.Filters.{IsFilterExit}
use Rattle.line_filters.specs.Numbered.{Counts, GivesNumbered, IsNextExit, Numbered, no_lines}
use Rattle.line_filters.specs.Steps.Reading.{HasTaken}
use Rattle.line_filters.specs.Steps.Filtering.{Along, EndsBoth, Gathers, GathersBoth, IsTakeExit, LinesEnd, Printed, PrintsWaiting, StopsAt, Unprinted, Waits, has_failed}
use Rattle.line_filters.proofs.EndLemmas.{ends_here, failed_here, lines_failed, lines_printed, lines_unprinted, stops_here, unprinted_here}
use Rattle.line_filters.proofs.ReadingLemmas.{feeds_given, given_on, takes_on}
use Rattle.line_filters.proofs.StepLemmas.{ahead_next, along_line, along_none, along_printed}

abbrev pub AlongBoth : Filter → List ℕ → Told → Clock → Numbered → Filter → List ℕ → Option (List ℕ) → Option Told → Clock → Type 0
AlongBoth whole script before old lines filter waiting left told new =
    IsSomeAnd left (λ rest. IsSomeAnd told (λ now. Along whole script before old lines filter waiting rest now new))

-- what a call for a line returned
abbrev pub Gave : Result Bool Exit → Numbered → Numbered → Option (List ℕ) → Option (List ℕ) → Type 0
Gave result lines new left later = IfSome left (λ before. IfSome later (λ rest. GivesNumbered result (lines_to_come lines.reader before) lines.number new.reader rest))

-- what a call returned, in another form of its result
pub gave_as : (result found : Result Bool Exit) (lines new : Numbered) (left later : Option (List ℕ)) → result ≡ found → Gave result lines new left later → Gave found lines new left later
gave_as result found lines new left later is gave = subst (λ r. Gave r lines new left later) is gave

pub moved_as : (result found : Result Bool Exit) (old new : Reader) (before now : Option (List ℕ)) → result ≡ found → MovesLine result old new before now → MovesLine found old new before now
moved_as result found old new before now is moves = subst (λ r. MovesLine r old new before now) is moves

pub counts_as : (result found : Result Bool Exit) (lines new : Numbered) → result ≡ found → Counts result lines new → Counts found lines new
counts_as result found lines new is counts = subst (λ r. Counts r lines new) is counts

-- ---- how the lines end a call

pub next_not_done : (exit : Exit) → IsNextExit exit → exit ≡ Done → ⊥
next_not_done exit is done = subst IsNextExit done is

pub next_filters : (exit : Exit) → IsNextExit exit → IsFilterExit exit
next_filters (BadLine line reason) is = tt
next_filters SourceFault is = tt
next_filters TooLong is = tt
next_filters exit is = absurd is

pub next_board : (exit : Exit) (before now : Faults) → IsNextExit exit → now ≡ before → BoardCause exit before now
next_board (BadLine line reason) before now is same = same
next_board SourceFault before now is same = same
next_board TooLong before now is same = same
next_board exit before now is same = absurd is

pub take_not_done : (exit : Exit) → IsTakeExit exit → exit ≡ Done → ⊥
take_not_done exit is done = subst IsTakeExit done is

pub take_filters : (exit : Exit) → IsTakeExit exit → IsFilterExit exit
take_filters (BadLine line reason) is = tt
take_filters NoMemory is = tt
take_filters exit is = absurd is

pub take_causes : (exit : Exit) (count count' : ℕ) (before now : Faults) → IsTakeExit exit → count' ≡ count → now ≡ before → SourceCause exit count count' × BoardCause exit before now
take_causes (BadLine line reason) count count' before now is one two = (one, two)
take_causes NoMemory count count' before now is one two = (one, two)
take_causes exit count count' before now is one two = absurd is

-- ---- at the start

pub start_on : (whole : Filter) (script : List ℕ) (t : Told) (lines : Numbered) (waiting : List ℕ) (left : Option (List ℕ)) (told : Option Told) (clock : Clock) → lines ≡ no_lines → whole.answers [] ≡ [] → waiting ≡ [] → left ≡ Some script → told ≡ Some t
    → AlongBoth whole script t clock lines whole waiting left told clock
start_on whole script t lines waiting left told clock fresh nothing none is tells = rw (is, tells, none) (along_none whole script t lines clock fresh nothing)

-- ---- what waits is printed, or the source isn't read

pub free_of : {X : Type 0} (see : X → Seen) (Held : Type 0) (text rest : List ℕ) (x y : X) → PrintsWaiting see (Ok tt) Held text rest x y → (rest ≡ []) ⊎ Held
free_of see Held text rest x y (inl (none, printed)) = inl none
free_of see Held text rest x y (inr (same, stays, inl none)) = inl (same ∙ none)
free_of see Held text rest x y (inr (same, stays, inr held)) = inr held

module _ {X : Type 0} (see : X → Seen) (whole : Filter) (script : List ℕ) (before : Told) (a : Clock) (lines : Numbered) (filter : Filter) (waiting rest : List ℕ) (Held : Type 0) (x y : X) where
  pub wait_on : (left : Option (List ℕ)) → AlongBoth whole script before a lines filter waiting left (see x).told (see x).clock → PrintsWaiting see (Ok tt) Held waiting rest x y → AlongBoth whole script before a lines filter rest left (see y).told (see y).clock
  wait_on None along printed = absurd along
  wait_on (Some left) along (inr (same, stays, free)) = rw (same, stays) along
  wait_on (Some left) along (inl (none, printed)) = by (see x).told along printed.told
    where
      by : (told : Option Told) → AlongBoth whole script before a lines filter waiting (Some left) told (see x).clock → Steps (after_print waiting) told (see y).told → AlongBoth whole script before a lines filter rest (Some left) (see y).told (see y).clock
      by None never steps = absurd never
      by (Some t) there steps = rw (none, steps) (along_printed whole script before a lines filter waiting left t (see x).clock there (see y).clock printed.stops printed.leads)

  pub unprinted_on : (exit : Exit) (left : Option (List ℕ)) → AlongBoth whole script before a lines filter waiting left (see x).told (see x).clock → PrintsWaiting see (Err exit) Held waiting rest x y
      → GathersBoth whole script before a exit filter rest lines.reader left (see y).told (see y).clock
  unprinted_on exit None along fails = absurd along
  unprinted_on exit (Some left) along (is, fails) = by (see x).told (see y).told along fails.told
    where
      by : (told now : Option Told) → AlongBoth whole script before a lines filter waiting (Some left) told (see x).clock → Relates (FailsPrint waiting) told now → IsSomeAnd now (λ n. Gathers whole script before a exit filter rest lines.reader left n (see y).clock)
      by None now never failed = absurd never
      by (Some t) None there failed = absurd failed
      by (Some t) (Some u) there (part, missing, splits, printed) =
          rw (is, printed) (inr (refl, unprinted_here whole script before a lines filter waiting left t (see x).clock there part missing (see y).clock splits fails.stops))

-- ---- the next line

module _ (whole : Filter) (script : List ℕ) (before : Told) (a : Clock) (lines new : Numbered) (filter : Filter) (waiting : List ℕ) (b : Clock) (nothing : filter.answers [] ≡ []) (free : (waiting ≡ []) ⊎ Contains lines.reader.held 10) where
  abbrev Held : Type 0
  Held = Contains lines.reader.held 10

  same_left : (left rest : List ℕ) → Some rest ≡ Some left → rest ≡ left
  same_left left rest is = cc

  pub line_on : (after : Filter) (longer : List ℕ) (left later : Option (List ℕ)) (told : Option Told) → AlongBoth whole script before a lines filter waiting left told b → (Held → later ≡ left) → Gave (Ok true) lines new left later
      → MovesLine {E = Exit} (Ok true) lines.reader new.reader left later → IsSomeAnd later (HasTaken script new.reader) → Counts (Ok true) lines new → Took new.reader.line filter after waiting longer → AlongBoth whole script before a new after longer later told b
  line_on after longer None later told along first gave moves has counts took = absurd along
  line_on after longer (Some left) None told along first gave moves has counts took = absurd has
  line_on after longer (Some left) (Some rest) None along first gave moves has counts took = absurd along
  line_on after longer (Some left) (Some rest) (Some t) along first gave moves has counts took =
      let given = given_on script lines new left rest along.done along.given moves (counts.bytes.line refl) counts.number gave in
      along_line whole script before a lines filter waiting left t b along new rest after longer given counts.number gave took
      (ahead_next whole script before a lines filter waiting left t b along Held new rest given.took nothing free (λ held. same_left left rest (first held)) counts.bytes.ahead)

  pub stops_on : (exit : Exit) (after : Filter) (still : List ℕ) (left later : Option (List ℕ)) (told : Option Told) → AlongBoth whole script before a lines filter waiting left told b → (Held → later ≡ left) → Gave (Ok true) lines new left later
      → MovesLine {E = Exit} (Ok true) lines.reader new.reader left later → IsSomeAnd later (HasTaken script new.reader) → Counts (Ok true) lines new → IsTakeExit exit → StopsAt exit new.number new.reader.line filter after → still ≡ waiting
      → GathersBoth whole script before a exit after still new.reader later told b
  stops_on exit after still None later told along first gave moves has counts takes stops same = absurd along
  stops_on exit after still (Some left) None told along first gave moves has counts takes stops same = absurd has
  stops_on exit after still (Some left) (Some rest) None along first gave moves has counts takes stops same = absurd along
  stops_on exit after still (Some left) (Some rest) (Some t) along first gave moves has counts takes stops same =
      let given = given_on script lines new left rest along.done along.given moves (counts.bytes.line refl) counts.number gave in
      rw same (inl (
      stops_here whole script before a lines filter waiting left t b along exit new rest after given.took
      (ahead_next whole script before a lines filter waiting left t b along Held new rest given.took nothing free (λ held. same_left left rest (first held)) counts.bytes.ahead)
      counts.number gave takes stops))

  -- no line is returned
  pub none_on : (left later : Option (List ℕ)) (told : Option Told) → AlongBoth whole script before a lines filter waiting left told b → (Held → later ≡ left) → Gave (Ok false) lines new left later → MovesLine {E = Exit} (Ok false) lines.reader new.reader left later
      → IsSomeAnd later (HasTaken script new.reader) → Counts (Ok false) lines new → GathersBoth whole script before a Done filter waiting new.reader later told b
  none_on None later told along first gave moves has counts = absurd along
  none_on (Some left) None told along first gave moves has counts = absurd has
  none_on (Some left) (Some rest) None along first gave moves has counts = absurd along
  none_on (Some left) (Some rest) (Some t) along first gave moves has counts =
      let took = takes_on [] script lines.reader new.reader left rest moves.0 along.given.took in
      inl (
      ends_here whole script before a lines filter waiting left t b along script_ended Done new.reader rest took
      (ahead_next whole script before a lines filter waiting left t b along Held new rest took nothing free (λ held. same_left left rest (first held)) counts.bytes.ahead)
      nothing gave refl)

  -- the list of lines ends, and not with the script
  pub failed_on : (exit : Exit) (left later : Option (List ℕ)) (told : Option Told) → AlongBoth whole script before a lines filter waiting left told b → (Held → later ≡ left) → Gave (Err exit) lines new left later
      → MovesLine {E = Exit} (Err exit) lines.reader new.reader left later → IsSomeAnd later (HasTaken script new.reader) → Counts (Err exit) lines new → IsNextExit exit
      → GathersBoth whole script before a exit filter waiting new.reader later told b
  failed_on exit None later told along first gave moves has counts is = absurd along
  failed_on exit (Some left) None told along first gave moves has counts is = absurd has
  failed_on exit (Some left) (Some rest) None along first gave moves has counts is = absurd along
  failed_on exit (Some left) (Some rest) (Some t) along first gave moves has counts is = inl (by exit gave counts is)
    where
      took : HasTaken script new.reader rest
      took = takes_on [] script lines.reader new.reader left rest moves along.given.took

      -- a line was read, so the buffer had no line, and nothing waits
      nothing_waits : Lacks 10 new.reader.held → waiting ≡ []
      nothing_waits lacks = at free
        where
          at : (waiting ≡ []) ⊎ Held → waiting ≡ []
          at (inl none) = none
          at (inr held) = absurd (lacks_not_contains lines.reader.held (held_lacks lines.reader new.reader (Some left) (Some rest) moves lacks) held)

      by : (e : Exit) → GivesNumbered (Err e) (lines_to_come lines.reader left) lines.number new.reader rest → Counts (Err e) lines new → IsNextExit e → Waits whole script before a e filter waiting new.reader rest t b
      by SourceFault gave counts is =
          failed_here whole script before a lines filter waiting left t b along new.reader rest took nothing (nothing_waits (counts.bytes.none refl)) counts.bytes.ahead
          (feeds_given script lines new left rest along.done along.given moves (counts.bytes.none refl))
      by TooLong gave counts is =
          ends_here whole script before a lines filter waiting left t b along gave.0 TooLong new.reader rest took
          (ahead_next whole script before a lines filter waiting left t b along Held new rest took nothing free (λ held. same_left left rest (first held)) counts.bytes.ahead)
          nothing gave.1 gave.2
      by (BadLine line reason) gave counts is =
          ends_here whole script before a lines filter waiting left t b along gave.0 (BadLine line reason) new.reader rest took
          (ahead_next whole script before a lines filter waiting left t b along Held new rest took nothing free (λ held. same_left left rest (first held)) counts.bytes.ahead)
          nothing gave.1 gave.2
      by e gave counts is = absurd is

-- ---- the end of the lines

module _ (whole : Filter) (script : List ℕ) (before : Told) (a : Clock) (exit : Exit) (filter : Filter) (waiting : List ℕ) (reader : Reader) where
  pub failed_both : (left : Option (List ℕ)) (told : Option Told) (b : Clock) → has_failed exit ≡ true → GathersBoth whole script before a exit filter waiting reader left told b → EndsBoth whole script before a exit filter reader left told b
  failed_both None told b failed gathers = absurd gathers
  failed_both (Some left) None b failed gathers = absurd gathers
  failed_both (Some left) (Some t) b failed gathers = lines_failed whole script before a exit filter waiting reader left t b failed gathers

  pub printed_both : {X : Type 0} (see : X → Seen) (x y : X) (left : Option (List ℕ)) → has_failed exit ≡ false → GathersBoth whole script before a exit filter waiting reader left (see x).told (see x).clock → Printed see waiting x y
      → EndsBoth whole script before a exit filter reader left (see y).told (see y).clock
  printed_both see x y None well gathers printed = absurd gathers
  printed_both see x y (Some left) well gathers printed = by (see x).told gathers printed.told
    where
      by : (told : Option Told) → GathersBoth whole script before a exit filter waiting reader (Some left) told (see x).clock → Steps (after_print waiting) told (see y).told → EndsBoth whole script before a exit filter reader (Some left) (see y).told (see y).clock
      by None never steps = absurd never
      by (Some t) there steps = rw steps (lines_printed whole script before a exit filter waiting reader left t (see x).clock (see y).clock well there printed.stops printed.leads)

  pub unprinted_both : {X : Type 0} (see : X → Seen) (fault : Exit) (x y : X) (left : Option (List ℕ)) → has_failed exit ≡ false → GathersBoth whole script before a exit filter waiting reader left (see x).told (see x).clock → fault ≡ PrintFault
      → Unprinted see waiting x y → EndsBoth whole script before a fault filter reader left (see y).told (see y).clock
  unprinted_both see fault x y None well gathers is fails = absurd gathers
  unprinted_both see fault x y (Some left) well gathers is fails = by (see x).told (see y).told gathers fails.told
    where
      by : (told now : Option Told) → GathersBoth whole script before a exit filter waiting reader (Some left) told (see x).clock → Relates (FailsPrint waiting) told now → IsSomeAnd now (λ n. LinesEnd whole script before a fault filter reader left n (see y).clock)
      by None now never failed = absurd never
      by (Some t) None there failed = absurd failed
      by (Some t) (Some u) there (part, missing, splits, printed) =
          rw (is, printed) (lines_unprinted whole script before a exit filter waiting reader left t (see x).clock part missing (see y).clock well there splits fails.stops)
