-- Calls of the device one after another, each with what becomes of the model, what a crash leaves and
-- which counts rose.
use Rattle.std.proofs.Common.{◌≡◌, ◌∙◌, ℕ, List, [], ◌∷◌, ◌++◌, Option, Some, None, refl, sym, ap, subst, inl, inr}
use Rattle.std.specs.Prelude.{IfSome, Result, Ok, Err}
use Rattle.std.specs.Option.{option_map}
use Rattle.erst_store.specs.Device.{Device}
use Rattle.erst_store.specs.Store.{Stored}
use Rattle.board_core.specs.declared.board.Reg.{Reg}
use Rattle.board_core.specs.Cause.{device_call}
use Rattle.board_core.specs.Clock.{After, Clock, Passes, StoreIsLeft}
use Rattle.board_core.specs.Doing.{Act, DeviceCall, ActMade, Moment, Seen, ActSettles, Tears, after_acts, after_device, device, put, range_read, range_write, reg_read, reg_write}
use Rattle.board_core.specs.Stop.{Becomes, InStore, Left, Same}
use Rattle.board_core.specs.Steps.ClockLemmas.{not_told}
use Rattle.board_core.specs.Told.{Steps, StoreBy, Told, after_put, after_reg_write, device_of, register_in}
use Rattle.board_core.proofs.DoingLemmas.{broke_faults, moment_first, moment_then, steps_as, steps_then, well_faults}
use Rattle.erst_interp.specs.Run.{IsCutShort, acts_of}
use Rattle.erst_interp.specs.Steps.Running.{Cut, Fails, GoesWell, Made, Stays, StoreIn}
use Rattle.erst_interp.proofs.BreakLemmas.{acts_both, after_both, here_after, off_after, off_more, one_fails}
use Rattle.erst_interp.proofs.SlowLemmas.{call_keeps, call_fails_keeps}
use Rattle.erst_interp.proofs.TouchLemmas.{fails_more, none_made, passes_more, well_both, well_fails, well_more}

-- ---- the record store

pub stays_in : (calls : List DeviceCall) (told : Option Told) (x : List Stored) → StoreIn calls told x x
stays_in calls None x = tt
stays_in calls (Some t) x = inl refl

first_in : (xs ys : List DeviceCall) (told : Option Told) (x y : List Stored) → StoreIn xs told x y → StoreIn (xs ++ ys) told x y
first_in xs ys None x y is = tt
first_in xs ys (Some t) x y is = elim is [
  | inl same ↦ inl same
  | inr torn ↦ inr (subst (λ (acts : List Act). Moment acts t (record t.here { store = y })) (sym (acts_both xs ys)) (moment_first (acts_of xs) (acts_of ys) t (record t.here { store = y }) torn))
]

then_in : (xs ys : List DeviceCall) (old mid : Option Told) → mid ≡ option_map (λ t. after_acts (acts_of xs) t) old → (x y z : List Stored) → StoreIn xs old x y → StoreIn ys mid y z → StoreIn (xs ++ ys) old x z
then_in xs ys None mid is x y z first second = tt
then_in xs ys (Some t) mid is x y z first second = by (subst (λ (o : Option Told). StoreIn ys o y z) is second)
  where
    here : (record (after_acts (acts_of xs) t).here { store = z }) ≡ (record t.here { store = z })
    here = ap (λ (left : Left). record left { store = z }) (here_after xs t)

    by : StoreIn ys (Some (after_acts (acts_of xs) t)) y z → StoreIn (xs ++ ys) (Some t) x z
    by (inl same) = first_in xs ys (Some t) x z (subst (λ (s : List Stored). StoreIn xs (Some t) x s) (sym same) first)
    by (inr torn) = inr (subst (λ (acts : List Act). Moment acts t (record t.here { store = z })) (sym (acts_both xs ys))
        (moment_then (acts_of xs) (acts_of ys) t (record t.here { store = z }) (subst (λ (left : Left). Moment (acts_of ys) (after_acts (acts_of xs) t) left) here torn)))

passes_same : (S : List Stored → List Stored → Type 0) → ((x : List Stored) → S x x) → (a b : Clock) → Passes Same a b → Passes (InStore S) a b
passes_same S same a b passes = record {
  later = passes.later;
  kept = passes.kept;
  each = λ t left within may. elim (passes.each t left within may) [ inl before ↦ inl before | inr after ↦ inr (stays left after) ];
  ends = λ left now. stays left (passes.ends left now);
}
  where
    stays : (left : Left) → After a Same left → After a (InStore S) left
    stays left after = record { from = after.from; was = after.was; by = record { store = after.from.store; step = same after.from.store; rest = after.by } }

-- ---- one call

-- what a crash during a call leaves of the store, as a moment of the call
torn_in : (call : DeviceCall) (step : Device → Device) (told : Option Told) → ((t : Told) (y : List Stored) → InStore (Becomes (step (device_of t)).store) t.here (record t.here { store = y }) → Tears (device call) (Some t) t.here (record t.here { store = y }))
    → (x y : List Stored) → StoreBy step told x y → StoreIn (call ∷ []) told x y
torn_in call step None tears x y is = tt
torn_in call step (Some t) tears x y is = elim is [ inl same ↦ inl same | inr new ↦ inr (inl (tears t y (record { store = y; step = inr new; rest = refl }))) ]

stops_in : (call : DeviceCall) (a b : Seen) → Passes (Tears (device call) a.told) a.clock b.clock → Passes (InStore (StoreIn (call ∷ []) a.told)) a.clock b.clock
stops_in (reg_read reg) a b stops = passes_same (StoreIn (reg_read reg ∷ []) a.told) (stays_in (reg_read reg ∷ []) a.told) a.clock b.clock stops
stops_in (reg_write reg n) a b stops = passes_more (StoreBy (after_reg_write reg n) a.told) (StoreIn (reg_write reg n ∷ []) a.told) (torn_in (reg_write reg n) (after_reg_write reg n) a.told (λ t y torn. torn)) a.clock b.clock stops
stops_in (range_read place count) a b stops = passes_same (StoreIn (range_read place count ∷ []) a.told) (stays_in (range_read place count ∷ []) a.told) a.clock b.clock stops
stops_in (range_write place bytes) a b stops = passes_same (StoreIn (range_write place bytes ∷ []) a.told) (stays_in (range_write place bytes ∷ []) a.told) a.clock b.clock stops
stops_in (put id bytes) a b stops = passes_more (StoreBy (after_put id bytes) a.told) (StoreIn (put id bytes ∷ []) a.told) (torn_in (put id bytes) (after_put id bytes) a.told (λ t y torn. torn)) a.clock b.clock stops

-- A call that doesn't change the store: if a crash before it leaves the model's store, so does a crash after it.
stored_still : (call : DeviceCall) → ((t : Told) → (after_device call t).here ≡ t.here) → (a b : Seen) → Passes Same a.clock b.clock → Steps (λ t. after_device call t) a.told b.told
    → StoreIsLeft a.told a.clock → StoreIsLeft b.told b.clock
stored_still call here a b stops told before u is left now = by a.told refl told
  where
    from : After a.clock Same left
    from = stops.ends left now

    some : (x y : Told) → Some x ≡ Some y → x ≡ y
    some x y e = cc

    by : (o : Option Told) → a.told ≡ o → Steps (λ t. after_device call t) o b.told → left.store ≡ u.here.store
    by None at steps = absurd (not_told u (sym steps ∙ is))
    by (Some t) at steps =
        ap (λ (l : Left). l.store) from.by ∙ before t at from.from from.was
        ∙ ap (λ (l : Left). l.store) (sym (here t)) ∙ ap (λ (v : Told). v.here.store) (some (after_device call t) u (sym steps ∙ is))

stored_in : (call : DeviceCall) (a b : Seen) → Steps (λ t. after_device call t) a.told b.told → Passes (Tears (device call) a.told) a.clock b.clock → ActSettles (device call) a b → StoreIsLeft a.told a.clock → StoreIsLeft b.told b.clock
stored_in (reg_read reg) a b told stops settles = stored_still (reg_read reg) (λ t. refl) a b stops told
stored_in (reg_write reg n) a b told stops settles = settles
stored_in (range_read place count) a b told stops settles = stored_still (range_read place count) (λ t. refl) a b stops told
stored_in (range_write place bytes) a b told stops settles = stored_still (range_write place bytes) (λ t. refl) a b stops told
stored_in (put id bytes) a b told stops settles = settles

pub one_made : {T E : Type 0} {x : T} (call : DeviceCall) (a b : Seen) → ActMade {T = T} {E = E} (device call) (Ok x) a b → Made (call ∷ []) a b
one_made call a b made = record {
  told = made.told;
  well = record {
    kept = call_keeps call a.told b.told made.told;
    stops = stops_in call a b made.stops;
    stored = stored_in call a b made.told made.stops made.settles;
    faults = well_faults device_call a.faults b.faults made.cause;
  };
}

pub one_cut : {T E : Type 0} {e : E} (call : DeviceCall) (a b : Seen) → ActMade {T = T} {E = E} (device call) (Err e) a b → Cut (call ∷ []) a b
one_cut call a b made = record {
  told = one_fails call a.told b.told made.failed;
  fails = record {
    kept = call_fails_keeps call a.told b.told made.failed;
    stops = stops_in call a b made.stops;
    raises = broke_faults device_call a.faults b.faults made.cause;
  };
}

-- ---- calls that leave the store

pub quiet_well : {T E : Type 0} {x : T} (call : DeviceCall) (a b : Seen) → ((t : Told) → (after_device call t).here ≡ t.here) → Passes Same a.clock b.clock → ActMade {T = T} {E = E} (device call) (Ok x) a b → GoesWell Stays a b
quiet_well call a b here stops made = record {
  kept = call_keeps call a.told b.told made.told;
  stops = passes_same Stays (λ x. refl) a.clock b.clock stops;
  stored = stored_still call here a b stops made.told;
  faults = well_faults device_call a.faults b.faults made.cause;
}

pub quiet_fails : {T E : Type 0} {e : E} (call : DeviceCall) (a b : Seen) → Passes Same a.clock b.clock → ActMade {T = T} {E = E} (device call) (Err e) a b → Fails Stays a b
quiet_fails call a b stops made = record {
  kept = call_fails_keeps call a.told b.told made.failed;
  stops = passes_same Stays (λ x. refl) a.clock b.clock stops;
  raises = broke_faults device_call a.faults b.faults made.cause;
}

-- A read of this many bytes.
pub read_of : {T E : Type 0} (result : Result T E) (place count n : ℕ) (a b : Seen) → count ≡ n → ActMade (device (range_read place count)) result a b → ActMade (device (range_read place n)) result a b
read_of result place count n a b is made = subst (λ (k : ℕ). ActMade (device (range_read place k)) result a b) is made

-- A register was read.
abbrev pub IsRead : Reg → ℕ → Option Told → Type 0
IsRead reg n told = IfSome told (λ t. n ≡ register_in reg (device_of t))

-- ---- none, and one after another

pub nothing_made : (a : Seen) → Made [] a a
nothing_made a = record { told = same a.told; well = none_made (StoreIn [] a.told) (stays_in [] a.told) a }
  where
    same : (told : Option Told) → told ≡ option_map (λ t. t) told
    same None = refl
    same (Some t) = refl

module _ (xs ys : List DeviceCall) (a b c : Seen) (first : Made xs a b) where
  pub both_made : Made ys b c → Made (xs ++ ys) a c
  both_made second = record {
    told = steps_as (λ t. after_acts (acts_of ys) (after_acts (acts_of xs) t)) (λ t. after_acts (acts_of (xs ++ ys)) t) (λ t. sym (after_both xs ys t)) a.told c.told
        (steps_then (λ t. after_acts (acts_of xs) t) (λ t. after_acts (acts_of ys) t) a.told b.told c.told first.told second.told);
    well = well_both (StoreIn xs a.told) (StoreIn (xs ++ ys) a.told) (first_in xs ys a.told) (StoreIn ys b.told) (then_in xs ys a.told b.told first.told) a b c first.well second.well;
  }

  cut_after : (old mid : Option Told) → mid ≡ option_map (λ t. after_acts (acts_of xs) t) old → IfSome mid (λ t. IsCutShort ys t c.told) → IfSome old (λ t. IsCutShort (xs ++ ys) t c.told)
  cut_after None mid is cut = tt
  cut_after (Some t) mid is cut =
      off_after xs ys t (after_acts (acts_of xs) t) c.told refl (subst (λ (o : Option Told). IfSome o (λ u. IsCutShort ys u c.told)) is cut)

  pub both_cut : Cut ys b c → Cut (xs ++ ys) a c
  both_cut second = record {
    told = cut_after a.told b.told first.told second.told;
    fails = well_fails (StoreIn xs a.told) (StoreIn (xs ++ ys) a.told) (first_in xs ys a.told) (StoreIn ys b.told) (then_in xs ys a.told b.told first.told) a b c first.well second.fails;
  }

-- Other calls would have followed them.
pub more_cut : (xs ys : List DeviceCall) (a b : Seen) → Cut xs a b → Cut (xs ++ ys) a b
more_cut xs ys a b cut = record { told = by a.told cut.told; fails = fails_more (StoreIn xs a.told) (StoreIn (xs ++ ys) a.told) (first_in xs ys a.told) a b cut.fails }
  where
    by : (told : Option Told) → IfSome told (λ t. IsCutShort xs t b.told) → IfSome told (λ t. IsCutShort (xs ++ ys) t b.told)
    by None is = tt
    by (Some t) is = off_more xs ys t b.told is

-- ---- calls that depend on what is told

module _ (xs : List DeviceCall) (calls : Option Told → List DeviceCall) (a b : Seen) where
  pub made_for : ((t : Told) → a.told ≡ Some t → xs ≡ calls (Some t)) → Made xs a b → Made (calls a.told) a b
  made_for same made = by a.told refl
    where
      by : (told : Option Told) → a.told ≡ told → Made (calls told) a b
      by (Some t) is = subst (λ (l : List DeviceCall). Made l a b) (same t is) made
      by None is = record {
        told = made.told ∙ (ap (λ (o : Option Told). option_map (λ t. after_acts (acts_of xs) t) o) is ∙ sym (ap (λ (o : Option Told). option_map (λ t. after_acts (acts_of (calls None)) t) o) is));
        well = well_more (StoreIn xs a.told) (StoreIn (calls None) a.told) (λ x y step. subst (λ (o : Option Told). StoreIn (calls None) o x y) (sym is) tt) a b made.well;
      }

  -- Calls of which these are the first.
  pub cut_for : ((t : Told) → a.told ≡ Some t → (more : List DeviceCall) × (calls (Some t) ≡ xs ++ more)) → Cut xs a b → Cut (calls a.told) a b
  cut_for begins cut = by a.told refl
    where
      by : (told : Option Told) → a.told ≡ told → Cut (calls told) a b
      by (Some t) is = (let more = begins t is in subst (λ (l : List DeviceCall). Cut l a b) (sym more.1) (more_cut xs more.0 a b cut))
      by None is = record {
        told = subst (λ (o : Option Told). IfSome o (λ t. IsCutShort (calls None) t b.told)) (sym is) tt;
        fails = fails_more (StoreIn xs a.told) (StoreIn (calls None) a.told) (λ x y step. subst (λ (o : Option Told). StoreIn (calls None) o x y) (sym is) tt) a b cut.fails;
      }
