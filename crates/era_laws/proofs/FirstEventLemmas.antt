-- The first events of a run, line by line.
use Rattle.std.proofs.Common.{◌≡◌, ℕ, suc, ◌≤◌, Bool, true, false, if◌then◌else◌, List, [], ◌∷◌, ◌++◌, length, take, Option, None, Some, refl, sym, ap, inl, inr, arith}
use Rattle.std.specs.Prelude.{◌⊎◌, filter}
use Rattle.std.specs.List.{flat_map}
use Rattle.ras_events.specs.Described.{NumberedLine}
use Rattle.ras_exit.specs.declared.exit.Exit.{Exit}
use Rattle.ras_run.specs.Places.{Place, places_from, site_after}
use Rattle.ras_run.specs.Sites.{Site}
use Rattle.ras_run.specs.Status.{places_before_refusal, refusal_at}
use Rattle.ras_script.specs.Line.{is_asking}
use Rattle.ras_daemon.specs.Script.{is_event}

-- a line is accepted, or there is a reason why it is rejected
pub taken-or : (p : Place) → (refusal_at p ≡ None) ⊎ ((exit : Exit) × (refusal_at p ≡ Some exit))
taken-or p = by (refusal_at p) refl
  where
    by : (o : Option Exit) → refusal_at p ≡ o → (refusal_at p ≡ None) ⊎ ((exit : Exit) × (refusal_at p ≡ Some exit))
    by None is = inl is
    by (Some exit) is = inr (exit, is)

-- the events of lines from a site on, and the first n of them
abbrev pub events : Site → List NumberedLine → List Place
events site reads = filter is_event (places_before_refusal (places_from site reads))

abbrev pub first_events : ℕ → Site → List NumberedLine → List Place
first_events n site reads = take n (events site reads)

-- how many of n + 1 events come after a line
abbrev pub left : Bool → ℕ → ℕ
left event n = if event then n else suc n

module _ (n : ℕ) (site : Site) (read : NumberedLine) (reads : List NumberedLine) where
  abbrev event : Bool
  event = is_asking read.1

  abbrev later : List Place
  later = events (site_after site read) reads

  -- what the first n + 1 events give is what the first line and the events after it give, if only events give
  -- something
  pub events-cut : {Y : Type 0} (f : Place → List Y) → ((p : Place) → is_event p ≡ false → f p ≡ []) → refusal_at (site, read) ≡ None
      → flat_map f (first_events (suc n) site (read ∷ reads)) ≡ f (site, read) ++ flat_map f (take (left event n) later)
  events-cut {Y} f none taken = rw taken (by event refl)
    where
      by : (b : Bool) → event ≡ b → flat_map f (take (suc n) (if b then (site, read) ∷ later else later)) ≡ f (site, read) ++ flat_map f (take (left b n) later)
      by true asks = refl
      by false silent = sym (ap (λ (ys : List Y). ys ++ flat_map f (take (suc n) later)) (none (site, read) silent))

  -- if there are n + 1 events, the first line is accepted
  pub events-some : suc n ≤ length (events site (read ∷ reads)) → (refusal_at (site, read) ≡ None) × (left event n ≤ length later)
  events-some few = elim (taken-or (site, read)) [
    | inl taken ↦ (taken, some event (rw taken at few))
    | inr refused ↦ absurd (let none : suc n ≤ 0 = rw refused.1 at few in omega arith)
  ]
    where
      some : (b : Bool) → suc n ≤ length (if b then (site, read) ∷ later else later) → left b n ≤ length later
      some true few = omega arith
      some false few = few
