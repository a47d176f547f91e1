-- Acts one after another, and what functions that do them lead to.
use Rattle.std.proofs.Common.{ℕ, ◌≤◌, ◌≡◌, ◌∙◌, List, [], ◌∷◌, ◌++◌, Option, None, Some, Result, Ok, Err, refl, sym, ap, subst, inl, inr, ◌⊎◌}
use Rattle.std.specs.Option.{option_map}
use Rattle.erst_store.specs.Device.{Device}
use Rattle.erst_store.specs.Store.{Stored}
use Rattle.board_core.specs.declared.board.BoardPut.{BoardPut}
use Rattle.board_core.specs.declared.board.BoardPut.TheVariants.{Refused, Failed}
use Rattle.board_core.specs.Cause.{Faults, FailsAs, Kind, disk_call, device_call, print_call, count_of, put_failure, with_count}
use Rattle.board_core.specs.Clock.{After, Clock, Adds, LeftNow, Passes, Rests, StoreIsLeft}
use Rattle.board_core.specs.Steps.ClockLemmas.{adds_at_rest, adds_both, adds_none, adds_weaker, rests_listed, rests_on, rests_printed, rests_store, rests_stored}
use Rattle.board_core.specs.Stop.{Becomes, InStore, Left, Same}
use Rattle.board_core.specs.Told.{Told, Relates, Steps, StoreBy, after_put, after_reg_write, device_of}
use Rattle.board_core.specs.Doing.{Act, DeviceCall, Does, Ended, FailsAct, FailsActs, GoesWell, IsBad, IsMade, ActMade, Moment, PutMade, Raises, Seen, ActSettles, Tears, after_act, after_acts, after_device, broke, calls, device, gave_up, kind_of, one_end, prints, put, put_acts, range_read, range_write, reg_read, reg_write, through, went_well, writes}

-- ---- lists of acts

pub after-append : (xs ys : List Act) (t : Told) → after_acts (xs ++ ys) t ≡ after_acts ys (after_acts xs t)
after-append [] ys t = refl
after-append (x ∷ xs) ys t = after-append xs ys (after_act x t)

pub moment_first : (xs ys : List Act) (t : Told) (left : Left) → Moment xs t left → Moment (xs ++ ys) t left
moment_first [] ys t left m = absurd m
moment_first (x ∷ xs) ys t left (inl torn) = inl torn
moment_first (x ∷ xs) ys t left (inr later) = inr (moment_first xs ys (after_act x t) left later)

pub moment_then : (xs ys : List Act) (t : Told) (left : Left) → Moment ys (after_acts xs t) left → Moment (xs ++ ys) t left
moment_then [] ys t left m = m
moment_then (x ∷ xs) ys t left m = inr (moment_then xs ys (after_act x t) left m)

pub moment_parts : (xs ys : List Act) (t : Told) (left : Left) → Moment (xs ++ ys) t left → Moment xs t left ⊎ Moment ys (after_acts xs t) left
moment_parts [] ys t left m = inr m
moment_parts (x ∷ xs) ys t left (inl torn) = inl (inl torn)
moment_parts (x ∷ xs) ys t left (inr later) = elim (moment_parts xs ys (after_act x t) left later) [ inl a ↦ inl (inr a) | inr b ↦ inr b ]

pub fails_first : (kind : Kind) (xs ys : List Act) (old new : Told) → FailsActs kind xs old new → FailsActs kind (xs ++ ys) old new
fails_first kind [] ys old new f = absurd f
fails_first kind (x ∷ xs) ys old new (inl now) = inl now
fails_first kind (x ∷ xs) ys old new (inr later) = inr (fails_first kind xs ys (after_act x old) new later)

pub fails_then : (kind : Kind) (xs ys : List Act) (old new : Told) → FailsActs kind ys (after_acts xs old) new → FailsActs kind (xs ++ ys) old new
fails_then kind [] ys old new f = f
fails_then kind (x ∷ xs) ys old new f = inr (fails_then kind xs ys (after_act x old) new f)

pub fails_parts : (kind : Kind) (xs ys : List Act) (old new : Told) → FailsActs kind (xs ++ ys) old new → FailsActs kind xs old new ⊎ FailsActs kind ys (after_acts xs old) new
fails_parts kind [] ys old new f = inr f
fails_parts kind (x ∷ xs) ys old new (inl now) = inl (inl now)
fails_parts kind (x ∷ xs) ys old new (inr later) = elim (fails_parts kind xs ys (after_act x old) new later) [ inl a ↦ inl (inr a) | inr b ↦ inr b ]

-- ---- the law of sequence

pub steps_then : (f g : Told → Told) (a b c : Option Told) → Steps f a b → Steps g b c → Steps (λ t. g (f t)) a c
steps_then f g None b c first second = second ∙ ap (option_map g) first
steps_then f g (Some t) b c first second = second ∙ ap (option_map g) first

pub steps_as : (f g : Told → Told) → ((t : Told) → f t ≡ g t) → (a b : Option Told) → Steps f a b → Steps g a b
steps_as f g same None b steps = steps
steps_as f g same (Some t) b steps = steps ∙ ap Some (same t)

acts_then : (xs ys : List Act) (a b c : Option Told) → Steps (after_acts xs) a b → Steps (after_acts ys) b c → Steps (after_acts (xs ++ ys)) a c
acts_then xs ys a b c first second =
    steps_as (λ t. after_acts ys (after_acts xs t)) (after_acts (xs ++ ys)) (λ t. sym (after-append xs ys t)) a c
    (steps_then (after_acts xs) (after_acts ys) a b c first second)

fails_behind : (kind : Kind) (xs ys : List Act) (a b c : Option Told) → Steps (after_acts xs) a b → Relates (FailsActs kind ys) b c → Relates (FailsActs kind (xs ++ ys)) a c
fails_behind kind xs ys None b c first second = subst (λ (o : Option Told). Relates (FailsActs kind ys) o c) first second
fails_behind kind xs ys (Some t) b None first second = subst (λ (o : Option Told). Relates (FailsActs kind ys) o None) first second
fails_behind kind xs ys (Some t) b (Some u) first second = fails_then kind xs ys t u (subst (λ (o : Option Told). Relates (FailsActs kind ys) o (Some u)) first second)

fails_before : (kind : Kind) (xs ys : List Act) (a b : Option Told) → Relates (FailsActs kind xs) a b → Relates (FailsActs kind (xs ++ ys)) a b
fails_before kind xs ys None b f = f
fails_before kind xs ys (Some t) None f = f
fails_before kind xs ys (Some t) (Some u) f = fails_first kind xs ys t u f

stops_then : (xs ys : List Act) (a b : Seen) (c : Clock) → GoesWell xs a b → ((t : Told) → Rests t b.told b.clock → Adds (Moment ys t) b.clock c) → (t : Told) → Rests t a.told a.clock → Adds (Moment (xs ++ ys) t) a.clock c
stops_then xs ys a b c first second t rests = adds_both (Moment (xs ++ ys) t) a.clock b.clock c
    (adds_weaker (Moment xs t) (Moment (xs ++ ys) t) a.clock b.clock (first.stops t rests) (moment_first xs ys t))
    (adds_weaker (Moment ys (after_acts xs t)) (Moment (xs ++ ys) t) b.clock c (second (after_acts xs t) (first.rests t rests)) (moment_then xs ys t))

pub does_nothing : {X : Type 0} (see : X → Seen) (x : X) → Does see [] went_well x x
does_nothing see x = record {
  told = still (see x).told;
  stops = λ t rests. adds_none (Moment [] t) (see x).clock;
  rests = λ t rests. rests;
  faults = refl;
}
  where
    still : (a : Option Told) → Steps (after_acts []) a a
    still None = refl
    still (Some t) = refl

-- Acts that succeeded, and then others.
pub does_then : {X : Type 0} (see : X → Seen) (xs ys : List Act) (ended : Ended) (a b c : X) → Does see xs went_well a b → IsMade ended → Does see ys ended b c → Does see (xs ++ ys) ended a c
does_then see xs ys went_well a b c first made second = record {
  told = acts_then xs ys (see a).told (see b).told (see c).told first.told second.told;
  stops = stops_then xs ys (see a) (see b) (see c).clock first second.stops;
  rests = λ t rests. subst (λ (u : Told). Rests u (see c).told (see c).clock) (sym (after-append xs ys t)) (second.rests (after_acts xs t) (first.rests t rests));
  faults = second.faults ∙ first.faults;
}
does_then see xs ys (broke kind) a b c first made second = record {
  told = fails_behind kind xs ys (see a).told (see b).told (see c).told first.told second.told;
  stops = stops_then xs ys (see a) (see b) (see c).clock first second.stops;
  faults = subst (λ (f : Faults). Raises kind f (see c).faults) first.faults second.faults;
}
does_then see xs ys gave_up a b c first made second = absurd made

-- Acts whose first part didn't succeed.
pub does_first : {X : Type 0} (see : X → Seen) (xs ys : List Act) (ended : Ended) (a b : X) → IsBad ended → Does see xs ended a b → Does see (xs ++ ys) ended a b
does_first see xs ys went_well a b bad first = absurd bad
does_first see xs ys (broke kind) a b bad first = record {
  told = fails_before kind xs ys (see a).told (see b).told first.told;
  stops = λ t rests. adds_weaker (Moment xs t) (Moment (xs ++ ys) t) (see a).clock (see b).clock (first.stops t rests) (moment_first xs ys t);
  faults = first.faults;
}
does_first see xs ys gave_up a b bad first = first

-- ---- however a call ended

pub made_one : {T E : Type 0} (kind : Kind) (result : Result T E) → IsMade (one_end kind result)
made_one kind (Ok x) = tt
made_one kind (Err e) = tt

pub does_stops : {X : Type 0} (see : X → Seen) (acts : List Act) (ended : Ended) (a b : X) → Does see acts ended a b → (t : Told) → Rests t (see a).told (see a).clock → Adds (Moment acts t) (see a).clock (see b).clock
does_stops see acts went_well a b does t rests = does.stops t rests
does_stops see acts (broke kind) a b does t rests = does.stops t rests
does_stops see acts gave_up a b does t rests = subst (λ x. Adds (Moment acts t) (see a).clock (see x).clock) (sym does) (adds_none (Moment acts t) (see a).clock)

-- ---- one act

-- Whether a crash after this act leaves exactly what the model says, if a crash before it did: every act except a
-- write without its sync.
abbrev pub IsSafe : Act → Type 0
IsSafe (through file place bytes) = ⊥
IsSafe (writes file place bytes) = ⊥
IsSafe act = Unit {0}

pub same_count : (kind : Kind) (faults : Faults) → with_count kind (count_of kind faults) faults ≡ faults
same_count disk_call faults = refl
same_count device_call faults = refl
same_count print_call faults = refl

pub well_faults : {T E : Type 0} (kind : Kind) (a b : Faults) {x : T} → FailsAs {T = T} {E = E} kind a b (Ok x) → b ≡ a
well_faults kind a b cause = cause.others ∙ (ap (λ n. with_count kind n a) cause.own.same ∙ same_count kind a)

pub broke_faults : {T E : Type 0} (kind : Kind) (a b : Faults) {e : E} → FailsAs {T = T} {E = E} kind a b (Err e) → Raises kind a b
broke_faults kind a b cause = record { later = cause.own.later; own = cause.own.failed; others = cause.others }

one_fails : (act : Act) (a b : Option Told) → Relates (FailsAct act) a b → Relates (FailsActs (kind_of act) (act ∷ [])) a b
one_fails act None b f = f
one_fails act (Some t) None f = f
one_fails act (Some t) (Some u) f = inl (refl, f)

stops_one : {X : Type 0} (see : X → Seen) (act : Act) (a b : X) → Passes (Tears act (see a).told) (see a).clock (see b).clock
    → (t : Told) → Rests t (see a).told (see a).clock → Adds (Moment (act ∷ []) t) (see a).clock (see b).clock
stops_one see act a b passes t rests = adds_at_rest (Tears act (see a).told) (Moment (act ∷ []) t) t (see a).told (see a).clock (see b).clock rests passes
    (λ left torn. inl (subst (λ (o : Option Told). Tears act o t.here left) rests.is torn))

-- A device call that left the store unchanged.
rests_still : (call : DeviceCall) (t : Told) (a b : Seen) → (after_device call t).here ≡ t.here → Steps (after_device call) a.told b.told → Passes Same a.clock b.clock
    → Rests t a.told a.clock → Rests (after_device call t) b.told b.clock
rests_still call t a b still steps passes rests =
    rests_on (after_device call) Same t a.told b.told a.clock b.clock rests steps passes.ends (λ left is. is ∙ sym still)

-- A device call that may have changed the store, if a crash then leaves the model's store.
rests_changed : (call : DeviceCall) (step : Device → Device) (t : Told) (a b : Seen) → (after_device call t).here ≡ record t.here { store = (step (device_of t)).store }
    → Steps (after_device call) a.told b.told → Passes (InStore (StoreBy step a.told)) a.clock b.clock → (StoreIsLeft a.told a.clock → StoreIsLeft b.told b.clock)
    → Rests t a.told a.clock → Rests (after_device call t) b.told b.clock
rests_changed call step t a b frame steps passes stored rests =
    rests_stored (Becomes (step (device_of t)).store) t (after_device call t) a.told b.told a.clock b.clock rests there
    (subst (λ (o : Option Told). Passes (InStore (StoreBy step o)) a.clock b.clock) rests.is passes)
    (stored (rests_store t a.told a.clock rests) (after_device call t) there)
    (frame ∙ ap (λ (records : List Stored). record t.here { store = records }) (ap (λ (l : Left). l.store) (sym frame)))
  where
    there : b.told ≡ Some (after_device call t)
    there = steps ∙ ap (option_map (after_device call)) rests.is

-- If a crash before an act would have left exactly what the model says, so does a crash after the act.
rests_one : (act : Act) → IsSafe act → (t : Told) (a b : Seen) → Steps (after_act act) a.told b.told → Passes (Tears act a.told) a.clock b.clock → ActSettles act a b
    → Rests t a.told a.clock → Rests (after_act act t) b.told b.clock
rests_one (through file place bytes) safe t a b steps passes settles rests = absurd safe
rests_one (writes file place bytes) safe t a b steps passes settles rests = absurd safe
rests_one (prints bytes) safe t a b steps passes settles rests = rests_printed bytes t a.told b.told a.clock b.clock rests steps settles
rests_one (calls call) safe t a b steps passes settles rests = rests_listed call t a.told b.told a.clock b.clock rests steps passes
rests_one (device (reg_read reg)) safe t a b steps passes settles rests = rests_still (reg_read reg) t a b refl steps passes rests
rests_one (device (reg_write reg value)) safe t a b steps passes settles rests = rests_changed (reg_write reg value) (after_reg_write reg value) t a b refl steps passes settles rests
rests_one (device (range_read place count)) safe t a b steps passes settles rests = rests_still (range_read place count) t a b refl steps passes rests
rests_one (device (range_write place bytes)) safe t a b steps passes settles rests = rests_still (range_write place bytes) t a b refl steps passes rests
rests_one (device (put id bytes)) safe t a b steps passes settles rests = rests_changed (put id bytes) (after_put id bytes) t a b refl steps passes settles rests

-- a call of a board, as an act
pub does_made : {X T E : Type 0} (see : X → Seen) (act : Act) (result : Result T E) (a b : X) → IsSafe act → ActMade act result (see a) (see b) → Does see (act ∷ []) (one_end (kind_of act) result) a b
does_made see act (Ok x) a b safe made = record {
  told = made.told;
  stops = stops_one see act a b made.stops;
  rests = λ t rests. rests_one act safe t (see a) (see b) made.told made.stops made.settles rests;
  faults = well_faults (kind_of act) (see a).faults (see b).faults made.cause;
}
does_made see act (Err e) a b safe made = record {
  told = one_fails act (see a).told (see b).told made.failed;
  stops = stops_one see act a b made.stops;
  faults = broke_faults (kind_of act) (see a).faults (see b).faults made.cause;
}

-- A put, which the store refuses, or which fails, or which puts the record.
pub does_put : {X : Type 0} (see : X → Seen) (id : ℕ) (bytes : List ℕ) (result : Result (Unit {0}) BoardPut) (a b : X) → PutMade id bytes result (see a) (see b)
    → ((s t : ℕ) (left : Left) → s ≤ t → (see a).clock.may_leave_since t left → (see a).clock.may_leave_since s left)
    → Does see (put_acts id bytes result) (one_end device_call (put_failure result)) a b
does_put see id bytes (Ok done) a b made earlier =
    let done : Result (Unit {0}) BoardPut = Ok tt in does_made see (device (put id bytes)) done a b tt made
does_put see id bytes (Err Failed) a b made earlier =
    let broken : Result (Unit {0}) BoardPut = Err Failed in does_made see (device (put id bytes)) broken a b tt made
does_put see id bytes (Err (Refused why)) a b made earlier = record {
  told = steps;
  stops = λ t rests. record {
    later = made.stops.later;
    each = λ s left within may. elim (made.stops.each s left within may) [ inl before ↦ inl before | inr after ↦ inl (was s left within after) ];
  };
  rests = λ t rests. rests_on (λ u. u) Same t (see a).told (see b).told (see a).clock (see b).clock rests steps made.stops.ends (λ left is. is);
  faults = made.faults;
}
  where
    same : (o : Option Told) → Steps (λ u. u) o o
    same None = refl
    same (Some t) = refl

    steps : Steps (λ u. u) (see a).told (see b).told
    steps = subst (λ (o : Option Told). Steps (λ u. u) (see a).told o) (sym made.told) (same (see a).told)

    was : (s : ℕ) (left : Left) → s ≤ (see a).clock.now → After (see a).clock Same left → (see a).clock.may_leave_since s left
    was s left within after = earlier s (see a).clock.now left within (subst (λ (l : Left). LeftNow (see a).clock l) (sym after.by) after.was)
