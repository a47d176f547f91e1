-- Calls of a board one after another, of which at most one changes the record store.
use Rattle.std.proofs.Common.{◌≡◌, ◌∙◌, ◌≤◌, List, Option, Some, None, refl, ap, subst, inl, inr, arith}
use Rattle.erst_store.specs.Store.{Stored}
use Rattle.board_core.specs.Cause.{Faults, device_call}
use Rattle.board_core.specs.Clock.{Clock, After, Passes}
use Rattle.board_core.specs.Stop.{Left, InStore}
use Rattle.board_core.specs.Told.{Told, Relates}
use Rattle.erst_interp.specs.Run.{KeepsButDevice}
use Rattle.board_core.specs.Doing.{Raises, Seen}
use Rattle.erst_interp.specs.Steps.Running.{GoesWell, Fails}

-- ---- what is told

keeps_both : (a b c : Told) → KeepsButDevice a b → KeepsButDevice b c → KeepsButDevice a c
keeps_both a b c first second = record {
  here = second.here ∙ ap (λ (left : Left). record left { store = c.here.store }) first.here;
  disk_calls = second.disk_calls ∙ first.disk_calls;
  slow = second.slow ∙ first.slow;
}

kept_both : (a b c : Option Told) → Relates KeepsButDevice a b → Relates KeepsButDevice b c → Relates KeepsButDevice a c
kept_both None b c first second = (let is : b ≡ None = first in subst (λ (told : Option Told). Relates KeepsButDevice told c) is second)
kept_both (Some a) None c first second = absurd first
kept_both (Some a) (Some b) None first second = absurd second
kept_both (Some a) (Some b) (Some c) first second = keeps_both a b c first second

kept_none : (a : Option Told) → Relates KeepsButDevice a a
kept_none None = refl
kept_none (Some a) = record { here = refl; disk_calls = refl; slow = refl }

-- ---- what stops leave

module _ (S1 S : List Stored → List Stored → Type 0) (more : (x y : List Stored) → S1 x y → S x y) where
  after_more : (a : Clock) (left : Left) → After a (InStore S1) left → After a (InStore S) left
  after_more a left after = record {
    from = after.from;
    was = after.was;
    by = record { store = after.by.store; step = more _ _ after.by.step; rest = after.by.rest };
  }

  pub passes_more : (a b : Clock) → Passes (InStore S1) a b → Passes (InStore S) a b
  passes_more a b passes = record {
    later = passes.later;
    kept = passes.kept;
    each = λ t left within may. elim (passes.each t left within may) [ inl before ↦ inl before | inr after ↦ inr (after_more a left after) ];
    ends = λ left now. after_more a left (passes.ends left now);
  }

  pub well_more : (a b : Seen) → GoesWell S1 a b → GoesWell S a b
  well_more a b well = record { kept = well.kept; stops = passes_more a.clock b.clock well.stops; stored = well.stored; faults = well.faults }

  pub fails_more : (a b : Seen) → Fails S1 a b → Fails S a b
  fails_more a b fails = record { kept = fails.kept; stops = passes_more a.clock b.clock fails.stops; raises = fails.raises }

  module _ (S2 : List Stored → List Stored → Type 0) (both : (x y z : List Stored) → S1 x y → S2 y z → S x z) where
    after_both : (a b : Clock) (left : Left) → Passes (InStore S1) a b → After b (InStore S2) left → After a (InStore S) left
    after_both a b left passes after =
        let mid : After a (InStore S1) after.from = passes.ends after.from after.was in
        let one : InStore S1 mid.from after.from = mid.by in
        let two : InStore S2 after.from left = after.by in
        let step : S2 one.store two.store = subst (λ (x : List Stored). S2 x two.store) (ap (λ (l : Left). l.store) one.rest) two.step in
        record {
          from = mid.from;
          was = mid.was;
          by = record {
            store = two.store;
            step = both _ _ _ one.step step;
            rest = two.rest ∙ ap (λ (l : Left). record l { store = two.store }) one.rest;
          };
        }

    passes_both : (a b c : Clock) → Passes (InStore S1) a b → Passes (InStore S2) b c → Passes (InStore S) a c
    passes_both a b c first second = record {
      later = (let x : a.now ≤ b.now = first.later in let y : b.now ≤ c.now = second.later in omega arith);
      kept = λ t left within may. (let x : a.now ≤ b.now = first.later in second.kept t left (omega arith) (first.kept t left within may));
      each = λ t left within may.
          (let x : a.now ≤ b.now = first.later in
          elim (second.each t left (omega arith) may) [
            | inl before ↦ elim (first.each t left within before) [ inl earlier ↦ inl earlier | inr after ↦ inr (after_more a left after) ]
            | inr after ↦ inr (after_both a b left first after)
          ]);
      ends = λ left now. after_both a b left first (second.ends left now);
    }

    pub well_both : (a b c : Seen) → GoesWell S1 a b → GoesWell S2 b c → GoesWell S a c
    well_both a b c first second = record {
      kept = kept_both a.told b.told c.told first.kept second.kept;
      stops = passes_both a.clock b.clock c.clock first.stops second.stops;
      stored = λ before. second.stored (first.stored before);
      faults = second.faults ∙ first.faults;
    }

    pub well_fails : (a b c : Seen) → GoesWell S1 a b → Fails S2 b c → Fails S a c
    well_fails a b c first second = record {
      kept = kept_both a.told b.told c.told first.kept second.kept;
      stops = passes_both a.clock b.clock c.clock first.stops second.stops;
      raises = subst (λ (faults : Faults). Raises device_call faults c.faults) first.faults second.raises;
    }

-- No call at all.
pub none_made : (S : List Stored → List Stored → Type 0) → ((x : List Stored) → S x x) → (a : Seen) → GoesWell S a a
none_made S same a = record {
  kept = kept_none a.told;
  stops = record {
    later = omega arith;
    kept = λ t left within may. may;
    each = λ t left within may. inl may;
    ends = λ left now. record { from = left; was = now; by = record { store = left.store; step = same left.store; rest = refl } };
  };
  stored = λ before. before;
  faults = refl;
}
