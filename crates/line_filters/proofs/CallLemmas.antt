-- A whole call of a filter.
use Rattle.std.proofs.Common.{◌≡◌, ℕ, true, false, List, [], ◌++◌, Option, None, Some, IfSome, IsSomeAnd, Result, Ok, Err, refl, ap, sym, ◌∙◌, subst, append_assoc, append-nil, arith, inl, inr}
use Rattle.board_core.specs.Cause.{Faults, print_call}
use Rattle.board_core.specs.Clock.{Adds, Clock, Leads, Passes}
use Rattle.board_core.specs.Doing.{Raises, Seen}
use Rattle.board_core.specs.Stop.{Appends, Begins, InOut}
use Rattle.board_core.specs.Told.{FailsPrint, Relates, Told, after_print}
use Rattle.ras_base.specs.Prefix.{IsPrefixOf}
use Rattle.ras_script.specs.Lines.{script_lines}
use Rattle.ras_script.specs.Reader.{Reader}
use Rattle.ras_exit.specs.declared.exit.Exit.{Exit}
use Rattle.ras_exit.specs.declared.exit.Exit.TheVariants.{BadLine, Done, PrintFault, NoMemory, SourceFault, TooLong}
use Rattle.ras_exit.specs.Endings.{CallEnding, IfAnswered, IsAnswer, OnAnswer, answered, ending_of, is_answered}
use Rattle.ras_exit.specs.Causes.{BoardCause, Causes, SourceCause}
use Rattle.ras_exit.specs.Telling.{PrintMoment}
use Rattle.ras_exit.proofs.EndingLemmas.{on_answer, on_cut}
use Rattle.line_filters.specs.Filter.{Filter}
use Rattle.line_filters.specs.Filters.{Filters, IsFilterExit, OfBoth, StopsFiltering, TakesOf, closing_text, exit_of, filter_exit, filter_output}
use Rattle.line_filters.specs.Steps.Filtering.{Ends, EndsBoth, LinesEnd, has_failed}
use Rattle.line_filters.proofs.MomentLemmas.{stops_more}
use Rattle.line_filters.proofs.StepLemmas.{on_more}

-- a statement about answers holds at an answer
answer_holds : (exit : Exit) (P : Type 0) → IsAnswer exit → OnAnswer exit P → P
answer_holds exit P answer holds = by (ending_of exit) answer holds
  where
    by : (ending : CallEnding) → is_answered ending ≡ true → IfAnswered ending P → P
    by answered answer holds = holds
    by ending answer holds = absurd cc

-- ---- the model

module _ (whole : Filter) (script : List ℕ) (before : Told) (exit : Exit) (filter : Filter) (reader : Reader) (rest : List ℕ) (mid : Told) (a b : Clock)
    (ends : LinesEnd whole script before a exit filter reader rest mid b) where
  -- what is known if the lines end with an answer
  abbrev AtAnswer : Type 0
  AtAnswer = (exit ≡ filter_exit whole script) × (filter_output whole script ≡ ends.printed ++ closing_text filter [] exit) × Leads (InOut (Appends ends.printed)) a b

  answered_so : IsAnswer exit → AtAnswer
  answered_so answer = answer_holds exit AtAnswer answer ends.answers

  filters_made : (result : Exit) (part : List ℕ) → (result ≡ SourceFault → exit ≡ SourceFault) → IsPrefixOf (ends.printed ++ part) (filter_output whole script) → OnAnswer result (result ≡ filter_exit whole script)
      → OnAnswer result (before.here.out ++ (ends.printed ++ part) ≡ before.here.out ++ filter_output whole script) → Filters whole result script rest before (after_print part mid)
  filters_made result part fault begins answers all =
      let text : mid.here.out ++ part ≡ before.here.out ++ (ends.printed ++ part) = ap (λ (t : Told). t.here.out ++ part) ends.is ∙ append_assoc before.here.out ends.printed part in
      record {
        tells = record {
          answers = answers;
          begun = (ends.printed ++ part, begins, text);
          whole = subst (λ out. OnAnswer result (out ≡ before.here.out ++ filter_output whole script)) (sym text) all;
        };
        only = ap (λ (t : Told). record t { here = record t.here { out = mid.here.out ++ part } }) ends.is;
        taken = ends.took.taken;
        splits = ends.took.splits;
        printed = ends.printed ++ part;
        text = text;
        ahead = on_more (exit ≡ SourceFault) (result ≡ SourceFault) whole script ends.took.taken ends.printed part fault ends.ahead;
      }

  filters_same : (result : Exit) → (result ≡ SourceFault → exit ≡ SourceFault) → OnAnswer result (result ≡ filter_exit whole script) → OnAnswer result (before.here.out ++ (ends.printed ++ []) ≡ before.here.out ++ filter_output whole script)
      → Filters whole result script rest before mid
  filters_same result fault answers all =
      subst (λ now. Filters whole result script rest before now) (ap (λ out. record mid { here = record mid.here { out = out } }) (append-nil mid.here.out))
      (filters_made result [] fault (subst (λ p. IsPrefixOf p (filter_output whole script)) (sym (append-nil ends.printed)) ends.begins) answers all)

  -- ---- the last text

  filters_end : {X : Type 0} (see : X → Seen) (x y : X) (result : Exit) → (see x).told ≡ Some mid → Ends see exit result (closing_text filter [] exit) x y → IsSomeAnd (see y).told (Filters whole result script rest before)
  filters_end see x y result tells (inr (cut, is, same)) =
      rw (same, tells, is) (filters_same exit (λ fault. fault) (on_cut exit (exit ≡ filter_exit whole script) cut) (on_cut exit (before.here.out ++ (ends.printed ++ []) ≡ before.here.out ++ filter_output whole script) cut))
  filters_end see x y result tells (inl (answer, inr (inr (is, same)))) = rw (same, tells, is) (filters_same NoMemory (λ fault. absurd cc) tt tt)
  filters_end see x y result tells (inl (answer, inl (is, says))) =
      let closing : List ℕ = closing_text filter [] exit in
      let holds : AtAnswer = answered_so answer in
      rw (says.told, tells, is) (filters_made exit closing (λ fault. fault) ([], append-nil (ends.printed ++ closing) ∙ sym holds.1) (on_answer exit (exit ≡ filter_exit whole script) holds.0)
      (on_answer exit (before.here.out ++ (ends.printed ++ closing) ≡ before.here.out ++ filter_output whole script) (ap (λ out. before.here.out ++ out) (sym holds.1))))
  filters_end see x y result tells (inl (answer, inr (inl (is, fails)))) =
      rw is (by (see y).told (subst (λ told. Relates (FailsPrint (closing_text filter [] exit)) told (see y).told) tells fails.told))
    where
      by : (new : Option Told) → Relates (FailsPrint (closing_text filter [] exit)) (Some mid) new → IsSomeAnd new (Filters whole PrintFault script rest before)
      by None failed = absurd failed
      by (Some now) (part, missing, splits, printed) =
          let holds : AtAnswer = answered_so answer in
          rw printed (filters_made PrintFault part (λ fault. absurd cc) (missing, append_assoc ends.printed part missing ∙ ap (λ out. ends.printed ++ out) splits ∙ sym holds.1) tt tt)

pub filters_on : {X : Type 0} (see : X → Seen) (whole : Filter) (script : List ℕ) (before : Told) (a : Clock) (exit result : Exit) (filter : Filter) (reader : Reader) (left : Option (List ℕ)) (x y : X)
    → EndsBoth whole script before a exit filter reader left (see x).told (see x).clock → Ends see exit result (closing_text filter [] exit) x y → IsSomeAnd left (λ rest. IsSomeAnd (see y).told (Filters whole result script rest before))
filters_on see whole script before a exit result filter reader None x y ends says = absurd ends
filters_on see whole script before a exit result filter reader (Some rest) x y ends says = by (see x).told refl ends
  where
    by : (told : Option Told) → (see x).told ≡ told → EndsBoth whole script before a exit filter reader (Some rest) told (see x).clock → IsSomeAnd (see y).told (Filters whole result script rest before)
    by None tells never = absurd never
    by (Some t) tells there = filters_end whole script before exit filter reader rest t a (see x).clock there see x y result tells says

-- ---- what crashes leave

module _ {X : Type 0} (see : X → Seen) (whole : Filter) (script : List ℕ) (before : Told) (a : Clock) (exit result : Exit) (filter : Filter) (reader : Reader) (rest : List ℕ) (now : Told) (x y : X) (ends : LinesEnd whole script before a exit filter reader rest now (see x).clock) where
  abbrev whole_text : List ℕ
  whole_text = filter_output whole script

  unmoved : y ≡ x → Adds (PrintMoment a whole_text) a (see y).clock
  unmoved same = subst (λ z. Adds (PrintMoment a whole_text) a (see z).clock) (sym same) ends.stops

  closes : IsAnswer exit → Passes (InOut (Begins (closing_text filter [] exit))) (see x).clock (see y).clock → Adds (PrintMoment a whole_text) a (see y).clock
  closes answer passes =
      let closing : List ℕ = closing_text filter [] exit in
      let holds = answer_holds exit ((exit ≡ filter_exit whole script) × (whole_text ≡ ends.printed ++ closing) × Leads (InOut (Appends ends.printed)) a (see x).clock) answer ends.answers in
      stops_more whole_text ends.printed closing [] a (see x).clock (see y).clock (ap (λ out. ends.printed ++ out) (append-nil closing) ∙ sym holds.1) ends.stops holds.2 passes

  stops_end : Ends see exit result (closing_text filter [] exit) x y → Adds (PrintMoment a whole_text) a (see y).clock
  stops_end (inr (cut, is, same)) = unmoved same
  stops_end (inl (answer, inr (inr (is, same)))) = unmoved same
  stops_end (inl (answer, inl (is, says))) = closes answer says.stops
  stops_end (inl (answer, inr (inl (is, fails)))) = closes answer fails.stops

pub filters_stop : {X : Type 0} (see : X → Seen) (whole : Filter) (script : List ℕ) (before : Told) (a : Clock) (exit result : Exit) (filter : Filter) (reader : Reader) (left : Option (List ℕ)) (x y : X)
    → EndsBoth whole script before a exit filter reader left (see x).told (see x).clock → Ends see exit result (closing_text filter [] exit) x y → Adds (PrintMoment a (filter_output whole script)) a (see y).clock
filters_stop see whole script before a exit result filter reader None x y ends says = absurd ends
filters_stop see whole script before a exit result filter reader (Some rest) x y ends says = by (see x).told ends
  where
    by : (told : Option Told) → EndsBoth whole script before a exit filter reader (Some rest) told (see x).clock → Adds (PrintMoment a (filter_output whole script)) a (see y).clock
    by None never = absurd never
    by (Some t) there = stops_end see whole script before a exit result filter reader rest t x y there says

pub stops_both : (filter : Filter) (left : Option (List ℕ)) (told : Option Told) (a b : Clock) → ((script : List ℕ) (t : Told) → left ≡ Some script → told ≡ Some t → Adds (PrintMoment a (filter_output filter script)) a b)
    → StopsFiltering filter left told a b
stops_both filter None told a b holds = tt
stops_both filter (Some script) None a b holds = tt
stops_both filter (Some script) (Some t) a b holds = holds script t refl refl

pub of_both : (P : List ℕ → List ℕ → Told → Told → Type 0) (left later : Option (List ℕ)) (told now : Option Told)
    → ((script : List ℕ) (t : Told) → left ≡ Some script → told ≡ Some t → IsSomeAnd later (λ rest. IsSomeAnd now (P script rest t))) → OfBoth P left later told now
of_both P None later told now holds = tt
of_both P (Some script) later None now holds = tt
of_both P (Some script) later (Some t) now holds = holds script t refl refl

-- a call that read and printed nothing
pub filters_nothing : (whole : Filter) (left : Option (List ℕ)) (told : Option Told) → whole.answers [] ≡ [] → OfBoth (Filters whole NoMemory) left left told told
filters_nothing whole None told nothing = tt
filters_nothing whole (Some script) None nothing = tt
filters_nothing whole (Some script) (Some t) nothing = record {
  tells = record { answers = tt; begun = ([], (filter_output whole script, refl), sym (append-nil t.here.out)); whole = tt };
  only = refl;
  taken = [];
  splits = refl;
  printed = [];
  text = sym (append-nil t.here.out);
  ahead = record {
    lines = [];
    first = ((script_lines script).whole, refl);
    texts = [];
    made = nothing;
    more = [];
    text = refl;
    ahead = omega arith;
    all = λ fault. absurd cc;
  };
}

-- ---- what is taken

done_before : {X : Type 0} (see : X → Seen) (exit result : Exit) (text : List ℕ) (x y : X) → Ends see exit result text x y → result ≡ Done → exit ≡ Done
done_before see exit result text x y (inr cut) done = sym cut.1 ∙ done
done_before see exit result text x y (inl (answer, inl said)) done = sym said.0 ∙ done
done_before see exit result text x y (inl (answer, inr (inl failed))) done = let e = sym failed.0 ∙ done in absurd cc
done_before see exit result text x y (inl (answer, inr (inr short))) done = let e = sym short.0 ∙ done in absurd cc

pub takes_at : {X : Type 0} (see : X → Seen) (exit result : Exit) (text : List ℕ) (x y : X) (first left : Option (List ℕ)) → Ends see exit result text x y → IfSome first (λ script. IsSomeAnd left (TakesOf exit script))
    → IfSome first (λ script. IsSomeAnd left (TakesOf result script))
takes_at see exit result text x y None left ends takes = tt
takes_at see exit result text x y (Some script) None ends takes = absurd takes
takes_at see exit result text x y (Some script) (Some rest) ends takes = record {
  taken = takes.taken;
  splits = takes.splits;
  few = takes.few;
  all = λ done. takes.all (done_before see exit result text x y ends done);
}

-- a print that failed took no more of the source
pub takes_fault : (fault found : Exit) (first left : Option (List ℕ)) → fault ≡ PrintFault → IfSome first (λ script. IsSomeAnd left (TakesOf found script)) → IfSome first (λ script. IsSomeAnd left (TakesOf fault script))
takes_fault fault found None left is takes = tt
takes_fault fault found (Some script) None is takes = absurd takes
takes_fault fault found (Some script) (Some rest) is takes = record {
  taken = takes.taken;
  splits = takes.splits;
  few = takes.few;
  all = λ done. (let e = sym is ∙ done in absurd cc);
}

-- ---- why the lines ended

pub causes_of : (ended : Result (Unit {0}) Exit) (count count' : ℕ) (before now : Faults) → Causes {C = ℕ} SourceCause ended count count' × Causes {C = Faults} BoardCause ended before now
    → SourceCause (exit_of ended) count count' × BoardCause (exit_of ended) before now
causes_of (Ok done) count count' before now causes = causes
causes_of (Err exit) count count' before now causes = causes

pub causes_printed : (ended : Result (Unit {0}) Exit) (count count' : ℕ) (before now later : Faults) → Causes {C = ℕ} SourceCause ended count count' × Causes {C = Faults} BoardCause ended before now → later ≡ now
    → SourceCause (exit_of ended) count count' × BoardCause (exit_of ended) before later
causes_printed ended count count' before now later causes same = rw same (causes_of ended count count' before now causes)

-- no call had failed before the print failed
pub causes_unprinted : (ended : Result (Unit {0}) Exit) (count count' : ℕ) (before now later : Faults) → has_failed (exit_of ended) ≡ false → IsFilterExit (exit_of ended) → Causes {C = ℕ} SourceCause ended count count' × Causes {C = Faults} BoardCause ended before now
    → Raises print_call now later → SourceCause PrintFault count count' × BoardCause PrintFault before later
causes_unprinted (Ok done) count count' before now later well filters causes raises = (causes.0, subst (λ f. Raises print_call f later) causes.1 raises)
causes_unprinted (Err exit) count count' before now later well filters causes raises = by exit well filters causes
  where
    by : (e : Exit) → has_failed e ≡ false → IsFilterExit e → SourceCause e count count' × BoardCause e before now → SourceCause PrintFault count count' × BoardCause PrintFault before later
    by Done well filters causes = (causes.0, subst (λ f. Raises print_call f later) causes.1 raises)
    by (BadLine line reason) well filters causes = (causes.0, subst (λ f. Raises print_call f later) causes.1 raises)
    by NoMemory well filters causes = (causes.0, subst (λ f. Raises print_call f later) causes.1 raises)
    by TooLong well filters causes = (causes.0, subst (λ f. Raises print_call f later) causes.1 raises)
    by SourceFault well filters causes = absurd cc
    by PrintFault well filters causes = absurd cc
    by e well filters causes = absurd filters
