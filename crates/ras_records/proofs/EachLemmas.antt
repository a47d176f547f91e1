-- Operations on several records, as a loop does them.
use Rattle.std.proofs.Common.{◌⊎◌, inl, inr, ◌≡◌, ◌∙◌, ℕ, ◌+◌, ◌<◌, Bool, List, [], ◌++◌, length, drop, get_or, Some, Ok, Err, refl, sym, ap, subst, append_assoc, append-nil, if◌then◌else◌}
use Rattle.std.specs.Prelude.{IfSome}
use Rattle.std.specs.Result.{is_ok}
use Rattle.std.specs.Option.{option_map}
use Rattle.std.proofs.lemmas.List.{at_drop_more}
use Rattle.board_core.specs.Cause.{device_call}
use Rattle.board_core.specs.Doing.{Act, DeviceCall, Does, Ended, IsMade, Seen, broke, went_well}
use Rattle.board_core.specs.Told.{Told, device_of}
use Rattle.board_core.proofs.DoingLemmas.{does_first, does_nothing, does_then}
use Rattle.erst_interp.specs.Run.{acts_of}
use Rattle.erst_interp.proofs.BreakLemmas.{acts_both, after_both}
use Rattle.erst_driver.specs.declared.refusals.DriverRefused.{DriverRefused}
use Rattle.erst_driver.specs.declared.refusals.DriverRefused.TheVariants.{Register, Busy, NoMemory, Status as EndedWith}
use Rattle.erst_driver.specs.Answers.{Answer, AnswersAs, IsAnswered, answer_on_found, driver_end}
use Rattle.erst_driver.proofs.DoesLemmas.{at_told, over_each}
use Rattle.ras_records.specs.Each.{Operation, after_calls, each_answer, each_calls, after_answer}

-- Operations on these records, the first of which are done.
pub record DoneTo {X : Type 0} (see : X → Seen) (operation : Operation) (ids : List ℕ) (count : ℕ) (t : Told) (old new : X) : Type 0 where
  pub done : List DeviceCall
  pub does : Does see (acts_of done) went_well old new
  pub calls : each_calls operation ids t ≡ done ++ each_calls operation (drop count ids) (after_calls done t)
  pub answer : each_answer operation ids t ≡ each_answer operation (drop count ids) (after_calls done t)

module _ {X : Type 0} (see : X → Seen) (operation : Operation) (ids : List ℕ) (t : Told) where
  pub done_none : (a : X) → DoneTo see operation ids 0 t a a
  done_none a = record { done = []; does = does_nothing see a; calls = refl; answer = refl }

  pub told_now : (count : ℕ) (a b : X) → (see a).told ≡ Some t → (so_far : DoneTo see operation ids count t a b) → (see b).told ≡ Some (after_calls so_far.done t)
  told_now count a b is so_far = so_far.does.told ∙ ap (option_map (after_calls so_far.done)) is

  module _ (count : ℕ) (a b c : X) (is : (see a).told ≡ Some t) (within : count < length ids) (d : ℕ) (so_far : DoneTo see operation ids count t a b) where
    abbrev pub id : ℕ
    id = get_or ids count d

    abbrev pub now : Told
    now = after_calls so_far.done t

    abbrev pub own : List DeviceCall
    own = operation id (device_of now)

    abbrev pub rest : List DeviceCall
    rest = each_calls operation (drop (count + 1) ids) (after_calls own now)

    abbrev pub rest_if : Bool → List DeviceCall
    rest_if ok = if ok then rest else []

    calls_now : each_calls operation ids t ≡ so_far.done ++ (own ++ rest_if (is_ok (answer_on_found id (device_of now))))
    calls_now = so_far.calls ∙ ap (λ (l : List DeviceCall). so_far.done ++ l) (at_drop_more (λ (xs : List ℕ). each_calls operation xs now) ids count d within)

    answer_now : each_answer operation ids t ≡ after_answer (answer_on_found id (device_of now)) (each_answer operation (drop (count + 1) ids) (after_calls own now))
    answer_now = so_far.answer ∙ at_drop_more (λ (xs : List ℕ). each_answer operation xs now) ids count d within

    both : so_far.done ++ (own ++ rest) ≡ (so_far.done ++ own) ++ each_calls operation (drop (count + 1) ids) (after_calls (so_far.done ++ own) t)
    both = sym (append_assoc so_far.done own rest) ∙ ap (λ (u : Told). (so_far.done ++ own) ++ each_calls operation (drop (count + 1) ids) u) (sym (after_both so_far.done own t))

    -- One more operation is done.
    pub done_more : Does see (acts_of own) went_well b c → answer_on_found id (device_of now) ≡ Ok tt → DoneTo see operation ids (count + 1) t a c
    done_more does ok = record {
      done = so_far.done ++ own;
      does = subst (λ (acts : List Act). Does see acts went_well a c) (sym (acts_both so_far.done own)) (does_then see (acts_of so_far.done) (acts_of own) went_well a b c so_far.does tt does);
      calls = calls_now ∙ (ap (λ (answer : Answer). so_far.done ++ (own ++ rest_if (is_ok answer))) ok ∙ both);
      answer = answer_now ∙ (ap (λ (answer : Answer). after_answer answer (each_answer operation (drop (count + 1) ids) (after_calls own now))) ok
          ∙ ap (λ (u : Told). each_answer operation (drop (count + 1) ids) u) (sym (after_both so_far.done own t)));
    }

    -- An operation was refused, or one of its calls failed.
    last_done : (ended : Ended) (why : DriverRefused) → Does see (acts_of own) ended b c → IsMade ended → answer_on_found id (device_of now) ≡ Err why → Does see (acts_of (each_calls operation ids t)) ended a c
    last_done ended why does made refused =
        subst (λ (calls : List DeviceCall). Does see (acts_of calls) ended a c)
        (ap (λ (l : List DeviceCall). so_far.done ++ l) (sym (append-nil own)) ∙ sym (calls_now ∙ ap (λ (answer : Answer). so_far.done ++ (own ++ rest_if (is_ok answer))) refused))
        (subst (λ (acts : List Act). Does see acts ended a c) (sym (acts_both so_far.done own)) (does_then see (acts_of so_far.done) (acts_of own) ended a b c so_far.does made does))

    last_broke : Does see (acts_of own) (broke device_call) b c → Does see (acts_of (each_calls operation ids t)) (broke device_call) a c
    last_broke does =
        let more = rest_if (is_ok (answer_on_found id (device_of now))) in
        subst (λ (acts : List Act). Does see acts (broke device_call) a c)
        (ap (λ (acts : List Act). acts_of so_far.done ++ acts) (sym (acts_both own more)) ∙ (sym (acts_both so_far.done (own ++ more)) ∙ ap acts_of (sym calls_now)))
        (does_then see (acts_of so_far.done) (acts_of own ++ acts_of more) (broke device_call) a b c so_far.does tt (does_first see (acts_of own) (acts_of more) (broke device_call) b c tt does))

    pub does_refused : (why : DriverRefused) → Does see (acts_of own) (driver_end why) b c → AnswersAs (Err why) (answer_on_found id (device_of now)) → IsAnswered {T = Unit {0}} (Err why)
        → Does see (acts_of (each_calls operation ids t)) (driver_end why) a c
    does_refused Register does gives answered = last_broke does
    does_refused Busy does gives answered = last_done went_well Busy does tt (sym gives)
    does_refused (EndedWith code) does gives answered = last_done went_well (EndedWith code) does tt (sym gives)
    does_refused NoMemory does gives answered = absurd answered

-- ---- over a board, whatever it tells

module _ {X : Type 0} (see : X → Seen) (operation : Operation) (ids : List ℕ) (count : ℕ) (a b c : X) (within : count < length ids) (d : ℕ)
    (so_far : IfSome (see a).told (λ t. DoneTo see operation ids count t a b)) where
  module _ (t : Told) (is : (see a).told ≡ Some t) where
    abbrev here : DoneTo see operation ids count t a b
    here = at_told (λ u. DoneTo see operation ids count u a b) (see a).told t so_far is

    abbrev there : (P : Told → Type 0) → IfSome (see b).told P → P (after_calls here.done t)
    there P holds = at_told P (see b).told (after_calls here.done t) holds (told_now see operation ids t count a b is here)

  pub each_more : IfSome (see b).told (λ u. Does see (acts_of (operation (get_or ids count d) (device_of u))) went_well b c) → IfSome (see b).told (λ u. AnswersAs (Ok tt) (answer_on_found (get_or ids count d) (device_of u)))
      → IfSome (see a).told (λ t. DoneTo see operation ids (count + 1) t a c)
  each_more does answers = over_each _ (see a).told (λ t is.
      (done_more see operation ids t count a b c is within d (here t is) (there t is _ does) (sym (there t is _ answers))))

  pub each_refused : (why : DriverRefused) → IfSome (see b).told (λ u. Does see (acts_of (operation (get_or ids count d) (device_of u))) (driver_end why) b c)
      → IfSome (see b).told (λ u. AnswersAs (Err why) (answer_on_found (get_or ids count d) (device_of u))) → IsAnswered {T = Unit {0}} (Err why)
      → IfSome (see a).told (λ t. Does see (acts_of (each_calls operation ids t)) (driver_end why) a c)
  each_refused why does answers answered = over_each _ (see a).told (λ t is.
      (does_refused see operation ids t count a b c is within d (here t is) why (there t is _ does) (there t is _ answers) answered))

-- A property of a board at a first call held at the start.
pub called_once : {X : Type 0} {Before : Type 0} (P : X → Type 0) (a b : X) → (Before × (b ≡ a)) ⊎ P a → P b → P a
called_once P a b (inl none) holds = subst P none.1 holds
called_once P a b (inr some) holds = some
