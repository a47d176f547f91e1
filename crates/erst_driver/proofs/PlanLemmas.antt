-- Actions one after another.
use Rattle.std.proofs.Common.{◌≡◌, ◌∙◌, ℕ, zero, suc, ◌+◌, ◌<◌, ◌≤◌, List, [], ◌∷◌, ◌++◌, length, take, drop, get_or, Option, Some, None, refl, sym, ap, subst, inl, inr, arith, append_assoc, append-nil}
use Rattle.std.proofs.lemmas.List.{take-append-drop}
use Rattle.std.specs.Prelude.{◌⊎◌, Result, Err}
use Rattle.erst_store.specs.Store.{Stored}
use Rattle.erst_store.specs.Device.{Device}
use Rattle.erst_store.specs.DeviceLaws.{IsDevice}
use Rattle.board_core.specs.Told.{Told, device_of}
use Rattle.board_core.specs.Doing.{DeviceCall, after_acts}
use Rattle.erst_interp.specs.declared.entries.InstructionEntry.{InstructionEntry}
use Rattle.erst_interp.specs.Run.{IsCutShort, acts_of}
use Rattle.erst_interp.specs.Table.{list_of}
use Rattle.board_core.specs.Doing.{Seen}
use Rattle.erst_interp.specs.Steps.Running.{GoesWell}
use Rattle.erst_interp.proofs.BreakLemmas.{off_as, off_more, off_after}
use Rattle.erst_interp.proofs.BreakLemmas.{after_both as after_runs}
use Rattle.erst_interp.proofs.RunLemmas.{end_device}
use Rattle.erst_interp.proofs.TouchLemmas.{well_both, well_fails, well_more, fails_more, none_made}
use Rattle.erst_driver.specs.declared.refusals.DriverRefused.{DriverRefused}
use Rattle.erst_driver.specs.declared.refusals.DriverRefused.TheVariants.{Register, Busy, Status, NoMemory}
use Rattle.erst_driver.specs.declared.step.Step.{Step}
use Rattle.erst_driver.specs.Operations.{after_step, after_steps, device_calls, end_by, told_by_step, told_by}
use Rattle.erst_driver.specs.Steps.Operating.{Begins, HasCall, Over, Plan, ComesThrough, StoreIn, Tells, Done, CutIn, FailsIn, IsBeginning, Acted, Acts, Runs, Operates}

-- a plan, followed by another over the device after it
abbrev pub both_plans : Plan → Plan → Plan
both_plans p q = λ d. p d ++ q (after_steps (p d) d)

pub after_both : (one two : List Step) (d : Device) → after_steps (one ++ two) d ≡ after_steps two (after_steps one d)
unfolding after_steps
after_both [] two d = refl
after_both (s ∷ one) two d = after_both one two (after_step s d)

-- The model and the calls of one action and then others.
pub told_step : (lists : List (List InstructionEntry)) (s : Step) (steps : List Step) (t : Told) → told_by lists (s ∷ steps) t ≡ told_by lists steps (told_by_step lists s t)
unfolding device_calls
told_step lists s steps t =
    let end = end_by lists s (device_of t) in
    after_runs end.state.calls (device_calls lists steps end.state.device) t
    ∙ ap (λ (d : Device). after_acts (acts_of (device_calls lists steps d)) (told_by_step lists s t)) (sym (end_device (list_of s.action lists) s.input t))

pub told_both : (lists : List (List InstructionEntry)) (one two : List Step) (t : Told) → told_by lists (one ++ two) t ≡ told_by lists two (told_by lists one t)
unfolding device_calls
told_both lists [] two t = refl
told_both lists (s ∷ one) two t =
    told_step lists s (one ++ two) t ∙ told_both lists one two (told_by_step lists s t) ∙ ap (λ (u : Told). told_by lists two u) (sym (told_step lists s one t))

pub calls_both : (lists : List (List InstructionEntry)) (one two : List Step) (t : Told)
    → device_calls lists (one ++ two) (device_of t) ≡ device_calls lists one (device_of t) ++ device_calls lists two (device_of (told_by lists one t))
unfolding device_calls
calls_both lists [] two t = refl
calls_both lists (s ∷ one) two t =
    let end = end_by lists s (device_of t) in
    let own = end.state.calls in
    let u = told_by_step lists s t in
    let same : device_of u ≡ end.state.device = end_device (list_of s.action lists) s.input t in
    ap (λ (d : Device). own ++ device_calls lists (one ++ two) d) (sym same)
    ∙ ap (λ (calls : List DeviceCall). own ++ calls) (calls_both lists one two u)
    ∙ sym (append_assoc own (device_calls lists one (device_of u)) (device_calls lists two (device_of (told_by lists one u))))
    ∙ ap (λ (d : Device). (own ++ device_calls lists one d) ++ device_calls lists two (device_of (told_by lists one u))) same
    ∙ ap (λ (v : Told). (own ++ device_calls lists one end.state.device) ++ device_calls lists two (device_of v)) (sym (told_step lists s one t))

-- ---- the stores that a device comes through

pub through_here : (steps : List Step) (d : Device) (store : List Stored) → store ≡ d.store → ComesThrough steps d store
unfolding ComesThrough
through_here [] d store is = is
through_here (s ∷ steps) d store is = inl is

pub through_first : (one two : List Step) (d : Device) (store : List Stored) → ComesThrough one d store → ComesThrough (one ++ two) d store
unfolding ComesThrough
through_first [] two d store is = through_here two d store is
through_first (s ∷ one) two d store is = elim is [ inl here ↦ inl here | inr later ↦ inr (through_first one two (after_step s d) store later) ]

through_second : (one two : List Step) (d : Device) (store : List Stored) → ComesThrough two (after_steps one d) store → ComesThrough (one ++ two) d store
unfolding ComesThrough after_steps
through_second [] two d store is = is
through_second (s ∷ one) two d store is = inr (through_second one two (after_step s d) store is)

pub through_beginning : (some all : List Step) (d : Device) (store : List Stored) → IsBeginning some all → ComesThrough some d store → ComesThrough all d store
through_beginning some all d store begins through =
    subst (λ (steps : List Step). ComesThrough steps d store) begins.1 (through_first some begins.0 d store through)

-- ---- what is told

pub over_at : (P : Told → Type 0) (told : Option Told) (t : Told) → Over P told → told ≡ Some t → IsDevice (device_of t) → P t
over_at P told t over is device = subst (λ (o : Option Told). Over P o) is over device

tells_both : (lists : List (List InstructionEntry)) (one : List Step) (q : Plan) (t : Told) (mid new : Option Told) → Tells lists one t mid → Over (λ u. Tells lists (q (device_of u)) u new) mid
    → Tells lists (one ++ q (after_steps one (device_of t))) t new
tells_both lists one q t mid new first over =
    let u = told_by lists one t in
    let two = q (after_steps one (device_of t)) in
    let device : IsDevice (device_of u) = subst IsDevice (sym first.device) first.is in
    let second : Tells lists two u new =
    subst (λ (d : Device). Tells lists (q d) u new) first.device
    (over_at (λ v. Tells lists (q (device_of v)) v new) mid u over first.told device) in
    let told_is : told_by lists (one ++ two) t ≡ told_by lists two u = told_both lists one two t in
    let device_is : after_steps two (device_of u) ≡ after_steps (one ++ two) (device_of t) =
    ap (after_steps two) first.device ∙ sym (after_both one two (device_of t)) in
    record {
      told = second.told ∙ ap (λ (v : Told). Some v) (sym told_is);
      device = ap (λ (v : Told). device_of v) told_is ∙ second.device ∙ device_is;
      is = subst IsDevice device_is second.is;
    }

-- A joined plan in which a call failed.
cut_both : (lists : List (List InstructionEntry)) (one : List Step) (q : Plan) (t : Told) (mid new : Option Told) → Tells lists one t mid → CutIn lists q mid new
    → IsCutShort (device_calls lists (one ++ q (after_steps one (device_of t))) (device_of t)) t new
cut_both lists one q t mid new first over =
    let u = told_by lists one t in
    let two = q (after_steps one (device_of t)) in
    let device : IsDevice (device_of u) = subst IsDevice (sym first.device) first.is in
    let second : IsCutShort (device_calls lists two (device_of u)) u new =
    subst (λ (d : Device). IsCutShort (device_calls lists (q d) (device_of u)) u new) first.device
    (over_at (λ v. IsCutShort (device_calls lists (q (device_of v)) (device_of v)) v new) mid u over first.told device) in
    off_as (device_calls lists one (device_of t) ++ device_calls lists two (device_of u)) (device_calls lists (one ++ two) (device_of t)) t new (sym (calls_both lists one two t))
    (off_after (device_calls lists one (device_of t)) (device_calls lists two (device_of u)) t u new refl second)

cut_more : (lists : List (List InstructionEntry)) (some all : List Step) (t : Told) (new : Option Told) → IsBeginning some all → IsCutShort (device_calls lists some (device_of t)) t new
    → IsCutShort (device_calls lists all (device_of t)) t new
cut_more lists some all t new begins cut =
    let later = device_calls lists begins.0 (device_of (told_by lists some t)) in
    off_as (device_calls lists some (device_of t) ++ later) (device_calls lists all (device_of t)) t new
    (sym (calls_both lists some begins.0 t) ∙ ap (λ (steps : List Step). device_calls lists steps (device_of t)) begins.1)
    (off_more (device_calls lists some (device_of t)) later t new cut)

-- Some actions of a list were done.
begun_some : (lists : List (List InstructionEntry)) (some all : List Step) (t : Told) (new : Option Told) → IsBeginning some all → HasCall (device_calls lists some (device_of t)) → new ≡ Some (told_by lists some t)
    → Begins (device_calls lists all (device_of t)) t new
begun_some lists some all t new begins has is = record {
  done = device_calls lists some (device_of t);
  later = device_calls lists begins.0 (device_of (told_by lists some t));
  splits = sym (calls_both lists some begins.0 t) ∙ ap (λ (steps : List Step). device_calls lists steps (device_of t)) begins.1;
  some = has;
  told = is;
}

later_calls : (one two : List DeviceCall) → HasCall two → HasCall (one ++ two)
later_calls [] two has = has
later_calls (call ∷ one) two has = tt

begun_after : (first calls : List DeviceCall) (t u : Told) (new : Option Told) → u ≡ after_acts (acts_of first) t → Begins calls u new → Begins (first ++ calls) t new
begun_after first calls t u new is begun = record {
  done = first ++ begun.done;
  later = begun.later;
  splits = append_assoc first begun.done begun.later ∙ ap (λ (l : List DeviceCall). first ++ l) begun.splits;
  some = later_calls first begun.done begun.some;
  told = begun.told ∙ ap (λ (v : Told). Some (after_acts (acts_of begun.done) v)) is ∙ ap (λ (v : Told). Some v) (sym (after_runs first begun.done t));
}

-- ---- two plans

module _ (lists : List (List InstructionEntry)) (p q : Plan) (told mid : Option Told) (first : Over (λ t. Tells lists (p (device_of t)) t mid) told) where
  store_first : (x y : List Stored) → StoreIn p told x y → StoreIn (both_plans p q) told x y
  store_first x y is = by told is
    where
      by : (o : Option Told) → StoreIn p o x y → StoreIn (both_plans p q) o x y
      by None is = tt
      by (Some t) is = λ device. elim (is device) [ inl same ↦ inl same | inr through ↦ inr (through_first (p (device_of t)) _ (device_of t) y through) ]

  store_both : (x y z : List Stored) → StoreIn p told x y → StoreIn q mid y z → StoreIn (both_plans p q) told x z
  store_both x y z one two = by told first one
    where
      by : (o : Option Told) → Over (λ t. Tells lists (p (device_of t)) t mid) o → StoreIn p o x y → StoreIn (both_plans p q) o x z
      by None first one = tt
      by (Some t) first one = λ device.
          (let tells : Tells lists (p (device_of t)) t mid = first device in
          let there : IsDevice (device_of (told_by lists (p (device_of t)) t)) = subst IsDevice (sym tells.device) tells.is in
          let next = subst (λ (o : Option Told). StoreIn q o y z) tells.told two in
          elim (next there) [
            | inl same ↦ subst (λ (u : List Stored). (u ≡ x) ⊎ ComesThrough (both_plans p q (device_of t)) (device_of t) u) (sym same)
                (elim (one device) [ inl old ↦ inl old | inr through ↦ inr (through_first (p (device_of t)) _ (device_of t) y through) ])
            | inr through ↦ inr (through_second (p (device_of t)) _ (device_of t) z
                (subst (λ (d : Device). ComesThrough (q d) d z) tells.device through))
          ])

module _ (lists : List (List InstructionEntry)) (p q : Plan) (a b c : Seen) (one : Done lists p a b) where
  pub well_then : GoesWell (StoreIn q b.told) b c → GoesWell (StoreIn (both_plans p q) a.told) a c
  well_then two = well_both (StoreIn p a.told) (StoreIn (both_plans p q) a.told) (store_first lists p q a.told b.told one.tells)
      (StoreIn q b.told) (store_both lists p q a.told b.told one.tells) a b c one.well two

  pub cut_then : (told : Option Told) → CutIn lists q b.told told → CutIn lists (both_plans p q) a.told told
  cut_then told cut = by a.told one.tells
    where
      by : (o : Option Told) → Over (λ t. Tells lists (p (device_of t)) t b.told) o → CutIn lists (both_plans p q) o told
      by None first = tt
      by (Some t) first = λ device. cut_both lists (p (device_of t)) q t b.told told (first device) cut

  pub begun_then : (told : Option Told) → Over (λ t. Begins (device_calls lists (q (device_of t)) (device_of t)) t told) b.told
      → Over (λ t. Begins (device_calls lists (both_plans p q (device_of t)) (device_of t)) t told) a.told
  begun_then told begun = by a.told one.tells
    where
      by : (o : Option Told) → Over (λ t. Tells lists (p (device_of t)) t b.told) o → Over (λ t. Begins (device_calls lists (both_plans p q (device_of t)) (device_of t)) t told) o
      by None first = tt
      by (Some t) first = λ device.
          (let tells : Tells lists (p (device_of t)) t b.told = first device in
          let here = p (device_of t) in
          let u = told_by lists here t in
          let two = q (after_steps here (device_of t)) in
          let there : IsDevice (device_of u) = subst IsDevice (sym tells.device) tells.is in
          let second : Begins (device_calls lists two (device_of u)) u told =
          subst (λ (d : Device). Begins (device_calls lists (q d) (device_of u)) u told) tells.device
          (over_at (λ v. Begins (device_calls lists (q (device_of v)) (device_of v)) v told) b.told u begun tells.told there) in
          subst (λ (calls : List DeviceCall). Begins calls t told) (sym (calls_both lists here two t))
          (begun_after (device_calls lists here (device_of t)) (device_calls lists two (device_of u)) t u told refl second))

  pub fails_then : FailsIn lists q b c → FailsIn lists (both_plans p q) a c
  fails_then two = record {
    fails = well_fails (StoreIn p a.told) (StoreIn (both_plans p q) a.told) (store_first lists p q a.told b.told one.tells)
        (StoreIn q b.told) (store_both lists p q a.told b.told one.tells) a b c one.well two.fails;
    cut = cut_then c.told two.cut;
  }

  pub done_then : Done lists q b c → Done lists (both_plans p q) a c
  done_then two = record { well = well_then two.well; tells = by a.told one.tells }
    where
      by : (o : Option Told) → Over (λ t. Tells lists (p (device_of t)) t b.told) o → Over (λ t. Tells lists (both_plans p q (device_of t)) t c.told) o
      by None first = tt
      by (Some t) first = λ device. tells_both lists (p (device_of t)) q t b.told c.told (first device) two.tells

-- ---- the same of another plan

pub cut_as : (lists : List (List InstructionEntry)) (p q : Plan) (old new : Option Told) → Over (λ t. IsBeginning (p (device_of t)) (q (device_of t))) old → CutIn lists p old new → CutIn lists q old new
cut_as lists p q None new begins cut = tt
cut_as lists p q (Some t) new begins cut = λ device. cut_more lists (p (device_of t)) (q (device_of t)) t new (begins device) (cut device)

module _ (lists : List (List InstructionEntry)) (p q : Plan) (a b : Seen) where
  module _ (begins : Over (λ t. IsBeginning (p (device_of t)) (q (device_of t))) a.told) where
    store_more : (x y : List Stored) → StoreIn p a.told x y → StoreIn q a.told x y
    store_more x y is = by a.told begins is
      where
        by : (o : Option Told) → Over (λ t. IsBeginning (p (device_of t)) (q (device_of t))) o → StoreIn p o x y → StoreIn q o x y
        by None begins is = tt
        by (Some t) begins is = λ device. elim (is device) [
          | inl same ↦ inl same
          | inr through ↦ inr (through_beginning (p (device_of t)) (q (device_of t)) (device_of t) y (begins device) through)
        ]

    pub fails_as : FailsIn lists p a b → FailsIn lists q a b
    fails_as fails = record {
      fails = fails_more (StoreIn p a.told) (StoreIn q a.told) store_more a b fails.fails;
      cut = cut_as lists p q a.told b.told begins fails.cut;
    }

  pub done_as : Over (λ t. p (device_of t) ≡ q (device_of t)) a.told → Done lists p a b → Done lists q a b
  done_as same done = record {
    well = well_more (StoreIn p a.told) (StoreIn q a.told) (store_more (begins a.told same)) a b done.well;
    tells = by a.told same done.tells;
  }
    where
      begins : (o : Option Told) → Over (λ t. p (device_of t) ≡ q (device_of t)) o → Over (λ t. IsBeginning (p (device_of t)) (q (device_of t))) o
      begins None same = tt
      begins (Some t) same = λ device. ([], append-nil (p (device_of t)) ∙ same device)

      by : (o : Option Told) → Over (λ t. p (device_of t) ≡ q (device_of t)) o → Over (λ t. Tells lists (p (device_of t)) t b.told) o
          → Over (λ t. Tells lists (q (device_of t)) t b.told) o
      by None same tells = tt
      by (Some t) same tells = λ device. subst (λ (steps : List Step). Tells lists steps t b.told) (same device) (tells device)

-- No action at all.
pub nothing_done : (lists : List (List InstructionEntry)) (a : Seen) → Done lists (λ d. []) a a
unfolding device_calls after_steps
nothing_done lists a = record { well = none_made (StoreIn (λ d. []) a.told) (λ x. same a.told x) a; tells = by a.told refl }
  where
    same : (o : Option Told) (x : List Stored) → StoreIn (λ d. []) o x x
    same None x = tt
    same (Some t) x = λ device. inl refl

    by : (o : Option Told) → a.told ≡ o → Over (λ t. Tells lists [] t a.told) o
    by None is = tt
    by (Some t) is = λ device. record { told = is; device = refl; is = device }

-- ---- what holds over a board that tells a device

pub everywhere : (P : Told → Type 0) (o : Option Told) → ((t : Told) → P t) → Over P o
everywhere P None holds = tt
everywhere P (Some t) holds = λ device. holds t

pub over_both : (P Q R : Told → Type 0) (o : Option Told) → Over P o → Over Q o → ((t : Told) → P t → Q t → R t) → Over R o
over_both P Q R None p q both = tt
over_both P Q R (Some t) p q both = λ device. both t (p device) (q device)

pub over_more : (P R : Told → Type 0) (o : Option Told) → Over P o → ((t : Told) → P t → R t) → Over R o
over_more P R None p more = tt
over_more P R (Some t) p more = λ device. more t (p device)

pub over_device : (P R : Told → Type 0) (o : Option Told) → Over P o → ((t : Told) → IsDevice (device_of t) → P t → R t) → Over R o
over_device P R None p more = tt
over_device P R (Some t) p more = λ device. more t device (p device)

pub over_both_device : (P Q R : Told → Type 0) (o : Option Told) → Over P o → Over Q o → ((t : Told) → IsDevice (device_of t) → P t → Q t → R t) → Over R o
over_both_device P Q R None p q both = tt
over_both_device P Q R (Some t) p q both = λ device. both t device (p device) (q device)

-- A plan was done that is a beginning of another.
pub begun_of : (lists : List (List InstructionEntry)) (p q : Plan) (a b : Seen) → Over (λ t. IsBeginning (p (device_of t)) (q (device_of t))) a.told
    → ((d : Device) → HasCall (device_calls lists (p d) d)) → Done lists p a b → Over (λ t. Begins (device_calls lists (q (device_of t)) (device_of t)) t b.told) a.told
begun_of lists p q a b begins has done = over_both (λ t. IsBeginning (p (device_of t)) (q (device_of t))) (λ t. Tells lists (p (device_of t)) t b.told) _ a.told begins done.tells
    (λ t begins tells. begun_some lists (p (device_of t)) (q (device_of t)) t b.told begins (has (device_of t)) tells.told)

-- A property of the device after a plan.
pub over_after : (lists : List (List InstructionEntry)) (p : Plan) (a b : Seen) → Done lists p a b → (Q : Device → Type 0) → Over (λ t. Q (device_of t)) b.told
    → Over (λ t. Q (after_steps (p (device_of t)) (device_of t))) a.told
over_after lists p a b one Q over = by a.told one.tells
  where
    by : (o : Option Told) → Over (λ t. Tells lists (p (device_of t)) t b.told) o → Over (λ t. Q (after_steps (p (device_of t)) (device_of t))) o
    by None tells = tt
    by (Some t) tells = λ device.
        (let is : Tells lists (p (device_of t)) t b.told = tells device in
        subst Q is.device (over_at (λ u. Q (device_of u)) b.told (told_by lists (p (device_of t)) t) over is.told (subst IsDevice (sym is.device) is.is)))

-- ---- one action more, which is refused

module _ (lists : List (List InstructionEntry)) (p q : Plan) (s : Step) (a b c : Seen) (one : Done lists p a b)
    (begins : Over (λ t. IsBeginning (p (device_of t) ++ s ∷ []) (q (device_of t))) a.told) where
  fails_more_so : FailsIn lists (λ d. s ∷ []) b c → FailsIn lists q a c
  fails_more_so fails = fails_as lists (both_plans p (λ d. s ∷ [])) q a c begins (fails_then lists p (λ d. s ∷ []) a b c one fails)

  pub refused_in_run : (e : DriverRefused) → Acts lists s (Err e) b c → Runs lists q (Err e) a c
  refused_in_run Register acts = fails_more_so acts
  refused_in_run Busy acts = absurd acts
  refused_in_run (Status code) acts = absurd acts
  refused_in_run NoMemory acts = absurd acts

  pub refused_in_operation : (answer : Device → Result (Unit {0}) DriverRefused) (e : DriverRefused) → Acts lists s (Err e) b c → Operates lists q answer (Err e) a c
  refused_in_operation answer Register acts = fails_more_so acts
  refused_in_operation answer Busy acts = absurd acts
  refused_in_operation answer (Status code) acts = absurd acts
  refused_in_operation answer NoMemory acts = absurd acts

-- ---- lists of steps

take_one : (i : ℕ) (z : Step) (steps : List Step) → i < length steps → take i steps ++ get_or steps i z ∷ [] ≡ take (suc i) steps
take_one i z [] inside = absurd (omega (arith, inside))
take_one zero z (x ∷ xs) inside = refl
take_one (suc i) z (x ∷ xs) inside = ap (λ (ys : List Step). x ∷ ys) (take_one i z xs (omega (arith, inside)))

part_begins : (i : ℕ) (z : Step) (steps : List Step) → i < length steps → IsBeginning (take i steps ++ get_or steps i z ∷ []) steps
part_begins i z steps inside = (
  drop (suc i) steps,
  ap (λ (some : List Step). some ++ drop (suc i) steps) (take_one i z steps inside) ∙ take-append-drop (suc i) steps,
)

module _ (lists : List (List InstructionEntry)) (steps : List Step) (i : ℕ) (z : Step) (a b c : Seen) (inside : i < length steps)
    (one : Done lists (λ d. take i steps) a b) where
  pub one_more : (value : ℕ) → Acted lists (get_or steps i z) value b c → Done lists (λ d. take (i + 1) steps) a c
  one_more value acted = let next : suc i ≡ i + 1 = omega arith in done_as lists (λ d. take i steps ++ get_or steps i z ∷ []) (λ d. take (i + 1) steps) a c
      (everywhere _ a.told (λ t. take_one i z steps inside ∙ ap (λ (n : ℕ). take n steps) next))
      (done_then lists (λ d. take i steps) (λ d. get_or steps i z ∷ []) a b c one acted.done)

  pub one_refused : (e : DriverRefused) → Acts lists (get_or steps i z) (Err e) b c → Runs lists (λ d. steps) (Err e) a c
  one_refused e acts = refused_in_run lists (λ d. take i steps) (λ d. steps) (get_or steps i z) a b c one
      (everywhere _ a.told (λ t. part_begins i z steps inside)) e acts

-- The steps so far are all steps.
take_past : (steps : List Step) (i : ℕ) → length steps ≤ i → take i steps ≡ steps
take_past [] zero past = refl
take_past [] (suc i) past = refl
take_past (s ∷ steps) zero past = absurd (omega (arith, past))
take_past (s ∷ steps) (suc i) past = ap (λ (rest : List Step). s ∷ rest) (take_past steps i (omega (arith, past)))

pub all_steps : (lists : List (List InstructionEntry)) (steps : List Step) (i : ℕ) (a b : Seen) → length steps ≤ i → Done lists (λ d. take i steps) a b → Done lists (λ d. steps) a b
all_steps lists steps i a b past done = subst (λ (some : List Step). Done lists (λ d. some) a b) (take_past steps i past) done
