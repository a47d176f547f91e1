-- What a function that does acts leaves, and which disk calls it makes.
use Rattle.std.proofs.Common.{List, [], Option, refl, sym, subst, append-nil}
use Rattle.board_core.specs.declared.board.DiskCall.{DiskCall}
use Rattle.board_core.specs.Clock.{Adds, Rests}
use Rattle.board_core.specs.Steps.ClockLemmas.{adds_none, adds_weaker}
use Rattle.board_core.specs.Doing.{Act, Does, Ended, FailsActs, IsMade, Moment, Seen, after_acts, broke, calls_of, gave_up, went_well}
use Rattle.board_core.specs.Stop.{Left}
use Rattle.board_core.specs.Told.{Relates, Steps, Told}
use Rattle.board_core.proofs.ActLemmas.{calls_by_acts, calls_by_fails}
use Rattle.ras_recover.specs.DiskCalls.{IsBeginning, Makes}
use Rattle.ras_recover.proofs.CallsLemmas.{relates_same, relates_steps, relates_weaker}

-- Whatever a crash leaves has a property, if each moment of the acts has it.
pub does_leaves : {X : Type 0} (see : X → Seen) (acts : List Act) (ended : Ended) (a b : X) (P : Left → Type 0) (t : Told) → Rests t (see a).told (see a).clock → Does see acts ended a b
    → (IsMade ended → (left : Left) → Moment acts t left → P left) → Adds P (see a).clock (see b).clock
does_leaves see acts went_well a b P t rests does leads = adds_weaker (Moment acts t) P (see a).clock (see b).clock (does.stops t rests) (leads tt)
does_leaves see acts (broke kind) a b P t rests does leads = adds_weaker (Moment acts t) P (see a).clock (see b).clock (does.stops t rests) (leads tt)
does_leaves see acts gave_up a b P t rests same leads = subst (λ x. Adds P (see a).clock (see x).clock) (sym same) (adds_none P (see a).clock)

-- If all calls succeeded, the disk calls made are the calls of all acts; otherwise they are a beginning of them.
pub does_whole : (Are : List DiskCall → Type 0) (acts : List Act) → Are (calls_of acts) → (a b : Option Told) → Steps (after_acts acts) a b → Relates (Makes Are) a b
does_whole Are acts are a b told = relates_steps (Makes Are) (after_acts acts) (λ t. record { made = calls_of acts; listed = calls_by_acts acts t; are = are }) a b told

pub does_begun : {X : Type 0} (see : X → Seen) (Are : List DiskCall → Type 0) (acts : List Act) (ended : Ended) → Are (calls_of acts) → (a b : X) → Does see acts ended a b → Relates (Makes (IsBeginning Are)) (see a).told (see b).told
does_begun see Are acts went_well are a b does =
    does_whole (IsBeginning Are) acts (record { whole = calls_of acts; are = are; begins = ([], append-nil (calls_of acts)) }) (see a).told (see b).told does.told
does_begun see Are acts (broke kind) are a b does =
    relates_weaker (FailsActs kind acts) (Makes (IsBeginning Are))
    (λ x y fails. (let listed = calls_by_fails kind acts x y fails in record { made = listed.made; listed = listed.listed; are = record { whole = calls_of acts; are = are; begins = listed.begins } }))
    (see a).told (see b).told does.told
does_begun see Are acts gave_up are a b same =
    subst (λ x. Relates (Makes (IsBeginning Are)) (see a).told (see x).told) (sym same)
    (relates_same (Makes (IsBeginning Are)) (λ t. record { made = []; listed = sym (append-nil t.disk_calls); are = record { whole = calls_of acts; are = are; begins = (calls_of acts, refl) } }) (see a).told)
