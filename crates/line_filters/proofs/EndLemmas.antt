-- How the lines end.
use Rattle.std.proofs.Common.{◌≡◌, ℕ, suc, ◌+◌, ◌-◌, ◌≤◌, true, false, List, [], ◌∷◌, ◌++◌, length, take, ap, sym, ◌∙◌, subst, append_assoc, arith, inl, inr}
use Rattle.std.specs.List.{flat_map}
use Rattle.board_core.specs.Clock.{Clock, Leads, Passes}
use Rattle.board_core.specs.Stop.{Appends, Begins, InOut}
use Rattle.board_core.specs.Told.{Told, after_print}
use Rattle.ras_script.specs.declared.reader.TheConstants.{LONGEST_LINE}
use Rattle.ras_script.specs.Lines.{Ending, Lines, line_too_long, no_line, script_ended, script_too_long, with_line}
use Rattle.ras_script.specs.Reader.{Reader, lines_to_come}
use Rattle.ras_exit.specs.declared.exit.Exit.{Exit}
use Rattle.ras_exit.specs.declared.exit.Exit.TheVariants.{SourceFault, PrintFault, NoMemory}
use Rattle.ras_exit.specs.Endings.{CallEnding, IfAnswered, OnAnswer, answered, ending_of, unread_exit}
use Rattle.ras_exit.specs.ScriptEnd.{ending_exit}
use Rattle.ras_exit.proofs.EndingLemmas.{on_answer}
use Rattle.line_filters.specs.Filter.{Filter}
use Rattle.line_filters.specs.Filters.{PrintsOn, closing_text, exit_among, exit_unless, filter_exit, filter_output, line_feeds, output_among, refusal_in, texts_in}
use Rattle.line_filters.specs.Numbered.{Numbered}
use Rattle.line_filters.specs.Steps.Reading.{HasTaken}
use Rattle.line_filters.specs.Steps.Filtering.{Along, Gathers, IsTakeExit, LinesEnd, StopsAt, Waits, has_failed}
use Rattle.line_filters.proofs.MomentLemmas.{stops_more}
use Rattle.line_filters.proofs.StepLemmas.{on_as, on_more, printed_all, said_more}

-- neither the list of the lines nor a line ends with a fault of the source
not_fault : (count : ℕ) (ending : Ending) → ending_exit count ending ≡ SourceFault → ⊥
not_fault count script_ended is = absurd cc
not_fault count line_too_long is = absurd cc
not_fault count script_too_long is = absurd cc

take_not_fault : (exit : Exit) → IsTakeExit exit → exit ≡ SourceFault → ⊥
take_not_fault exit takes is = subst IsTakeExit is takes

module _ (whole : Filter) (script : List ℕ) (before : Told) (a : Clock) (lines : Numbered) (filter : Filter) (waiting left : List ℕ) (now : Told) (b : Clock) (along : Along whole script before a lines filter waiting left now b) where
  abbrev AtAnswer : Exit → Type 0
  AtAnswer exit = (exit ≡ filter_exit whole script) × (filter_output whole script ≡ (along.printed ++ waiting) ++ closing_text filter [] exit)

  -- the call ends after the lines, or before a line that isn't returned
  pub ends_here : (ending : Ending) (exit : Exit) (reader : Reader) (rest : List ℕ) (took : HasTaken script reader rest) → PrintsOn ⊥ whole script took.taken along.printed → filter.answers [] ≡ []
      → lines_to_come lines.reader left ≡ no_line ending → exit ≡ ending_exit lines.number ending → Waits whole script before a exit filter waiting reader rest now b
  ends_here ending exit reader rest took ahead nothing none is =
      let count : ℕ = lines.number in
      let same : exit_among count filter (no_line ending) ≡ exit =
      ap (λ answers. exit_unless (refusal_in answers) (count + length (texts_in answers) + 1) (ending_exit (count + 0) ending)) nothing
      ∙ ap (λ n. ending_exit n ending) (let e : count + 0 ≡ count = omega arith in e) ∙ sym is in
      let text : output_among count filter (no_line ending) ≡ closing_text filter [] exit =
      ap (λ answers. flat_map (λ text. text) (texts_in answers) ++ closing_text filter (take (length (texts_in answers)) []) (exit_among count filter (no_line ending))) nothing
      ∙ ap (closing_text filter []) same in
      record {
        printed = along.printed;
        said = along.said;
        took = took;
        ahead = on_as ⊥ (exit ≡ SourceFault) whole script took.taken along.printed (λ fault. not_fault count ending (sym is ∙ fault)) ahead;
        answers = on_answer exit (AtAnswer exit) (
          sym (along.exit ∙ ap (exit_among count filter) none ∙ same),
          along.output ∙ ap (λ come. (along.printed ++ waiting) ++ output_among count filter come) none ∙ ap (λ out. (along.printed ++ waiting) ++ out) text,
        );
      }

  -- the source failed while nothing waited
  pub failed_here : (reader : Reader) (rest : List ℕ) (took : HasTaken script reader rest) → filter.answers [] ≡ [] → waiting ≡ [] → length lines.reader.held + (reader.taken - lines.reader.taken) ≤ LONGEST_LINE + 1 → line_feeds took.taken ≤ length along.done
      → Waits whole script before a SourceFault filter waiting reader rest now b
  failed_here reader rest took nothing none few feeds = record {
    printed = along.printed;
    said = along.said;
    took = took;
    ahead = printed_all whole script before a lines filter waiting left now b along (SourceFault ≡ SourceFault) nothing none took.taken (let count = took.count in omega arith) (λ fault. feeds);
    answers = tt;
  }

  -- the call ends at a line
  pub stops_here : (exit : Exit) (new : Numbered) (rest : List ℕ) (after : Filter) (took : HasTaken script new.reader rest) → PrintsOn ⊥ whole script took.taken along.printed → new.number ≡ lines.number + 1
      → lines_to_come lines.reader left ≡ with_line new.reader.line (lines_to_come new.reader rest) → IsTakeExit exit → StopsAt exit new.number new.reader.line filter after
      → Waits whole script before a exit after waiting new.reader rest now b
  stops_here exit new rest after took ahead number gives takes (inr is) = rw is (record {
    printed = along.printed;
    said = along.said;
    took = took;
    ahead = on_as ⊥ (NoMemory ≡ SourceFault) whole script took.taken along.printed (λ fault. absurd cc) ahead;
    answers = tt;
  })
  stops_here exit new rest after took ahead number gives takes (inl (why, is, refused, still)) =
      let count : ℕ = lines.number in
      let line : List ℕ = new.reader.line in
      let come : Lines = lines_to_come new.reader rest in
      let same : exit_among count filter (with_line line come) ≡ exit =
      ap (λ answers. exit_unless (refusal_in answers) (count + length (texts_in answers) + 1) (ending_exit (count + suc (length come.whole)) come.ending)) (refused come.whole)
      ∙ ap (λ n. unread_exit n why) (let e : count + 0 + 1 ≡ new.number = omega (arith, number) in e) ∙ sym is in
      let text : output_among count filter (with_line line come) ≡ closing_text filter [] exit =
      ap (λ answers. flat_map (λ text. text) (texts_in answers) ++ closing_text filter (take (length (texts_in answers)) (line ∷ come.whole)) (exit_among count filter (with_line line come))) (refused come.whole)
      ∙ ap (closing_text filter []) same in
      rw still (record {
        printed = along.printed;
        said = along.said;
        took = took;
        ahead = on_as ⊥ (exit ≡ SourceFault) whole script took.taken along.printed (take_not_fault exit takes) ahead;
        answers = on_answer exit (AtAnswer exit) (
          sym (along.exit ∙ ap (exit_among count filter) gives ∙ same),
          along.output ∙ ap (λ lines_left. (along.printed ++ waiting) ++ output_among count filter lines_left) gives ∙ ap (λ out. (along.printed ++ waiting) ++ out) text,
        );
      })

  -- the waiting texts couldn't be printed
  pub unprinted_here : (part missing : List ℕ) (c : Clock) → part ++ missing ≡ waiting → Passes (InOut (Begins waiting)) b c → LinesEnd whole script before a PrintFault filter lines.reader left (after_print part now) c
  unprinted_here part missing c splits passes =
      let later : List ℕ = along.said.begins.0 in
      let out : along.printed ++ (waiting ++ later) ≡ filter_output whole script = sym (append_assoc along.printed waiting later) ∙ along.said.begins.1 in
      record {
        printed = along.printed ++ part;
        is = ap (after_print part) along.said.is ∙ ap (λ out. record before { here = record before.here { out = out } }) (append_assoc before.here.out along.printed part);
        begins = (
          missing ++ later,
          append_assoc along.printed part (missing ++ later) ∙ ap (λ out. along.printed ++ out) (sym (append_assoc part missing later) ∙ ap (λ text. text ++ later) splits) ∙ out,
        );
        took = along.given.took;
        ahead = on_more ⊥ (PrintFault ≡ SourceFault) whole script along.given.took.taken along.printed part (λ fault. absurd cc) along.ahead;
        stops = stops_more (filter_output whole script) along.printed waiting later a b c out along.said.stops along.said.leads passes;
        answers = tt;
      }

-- ---- what waits is printed

module _ (whole : Filter) (script : List ℕ) (before : Told) (a : Clock) (exit : Exit) (filter : Filter) (waiting : List ℕ) (reader : Reader) (left : List ℕ) (now : Told) (b : Clock) where
  waits_failed : has_failed exit ≡ true → Waits whole script before a exit filter waiting reader left now b → LinesEnd whole script before a exit filter reader left now b
  waits_failed failed waits = record {
    printed = waits.printed;
    is = waits.said.is;
    begins = (waiting ++ waits.said.begins.0, sym (append_assoc waits.printed waiting waits.said.begins.0) ∙ waits.said.begins.1);
    took = waits.took;
    ahead = waits.ahead;
    stops = waits.said.stops;
    answers = by exit failed;
  }
    where
      by : (e : Exit) → has_failed e ≡ true → OnAnswer e ((e ≡ filter_exit whole script) × (filter_output whole script ≡ waits.printed ++ closing_text filter [] e) × Leads (InOut (Appends waits.printed)) a b)
      by SourceFault failed = tt
      by PrintFault failed = tt
      by e failed = absurd cc

  -- a call failed
  pub lines_failed : has_failed exit ≡ true → Gathers whole script before a exit filter waiting reader left now b → LinesEnd whole script before a exit filter reader left now b
  lines_failed failed (inl waits) = waits_failed failed waits
  lines_failed failed (inr (is, ends)) = ends

  print_failed : exit ≡ PrintFault → has_failed exit ≡ false → ⊥
  print_failed is well = (let e : true ≡ false = sym (ap has_failed is) ∙ well in absurd cc)

  pub lines_printed : (c : Clock) → has_failed exit ≡ false → Gathers whole script before a exit filter waiting reader left now b → Passes (InOut (Begins waiting)) b c → Leads (InOut (Appends waiting)) b c
      → LinesEnd whole script before a exit filter reader left (after_print waiting now) c
  lines_printed c well (inr (is, ends)) passes leads = absurd (print_failed is well)
  lines_printed c well (inl waits) passes leads =
      let said = said_more (filter_output whole script) before a waits.printed waiting now b c waits.said passes leads in
      record {
        printed = waits.printed ++ waiting;
        is = said.is;
        begins = waits.said.begins;
        took = waits.took;
        ahead = on_more (exit ≡ SourceFault) (exit ≡ SourceFault) whole script waits.took.taken waits.printed waiting (λ fault. fault) waits.ahead;
        stops = said.stops;
        answers = more_holds exit waits.answers said.leads;
      }
    where
      more_holds : (e : Exit) → OnAnswer e ((e ≡ filter_exit whole script) × (filter_output whole script ≡ (waits.printed ++ waiting) ++ closing_text filter [] e)) → Leads (InOut (Appends (waits.printed ++ waiting))) a c
          → OnAnswer e ((e ≡ filter_exit whole script) × (filter_output whole script ≡ (waits.printed ++ waiting) ++ closing_text filter [] e) × Leads (InOut (Appends (waits.printed ++ waiting))) a c)
      more_holds e holds leads = by (ending_of e) holds
        where
          by : (ending : CallEnding) → IfAnswered ending ((e ≡ filter_exit whole script) × (filter_output whole script ≡ (waits.printed ++ waiting) ++ closing_text filter [] e))
              → IfAnswered ending ((e ≡ filter_exit whole script) × (filter_output whole script ≡ (waits.printed ++ waiting) ++ closing_text filter [] e) × Leads (InOut (Appends (waits.printed ++ waiting))) a c)
          by answered holds = (holds.0, holds.1, leads)
          by ending holds = tt

  pub lines_unprinted : (part missing : List ℕ) (c : Clock) → has_failed exit ≡ false → Gathers whole script before a exit filter waiting reader left now b → part ++ missing ≡ waiting → Passes (InOut (Begins waiting)) b c
      → LinesEnd whole script before a PrintFault filter reader left (after_print part now) c
  lines_unprinted part missing c well (inr (is, ends)) splits passes = absurd (print_failed is well)
  lines_unprinted part missing c well (inl waits) splits passes =
      let later : List ℕ = waits.said.begins.0 in
      let out : waits.printed ++ (waiting ++ later) ≡ filter_output whole script = sym (append_assoc waits.printed waiting later) ∙ waits.said.begins.1 in
      record {
        printed = waits.printed ++ part;
        is = ap (after_print part) waits.said.is ∙ ap (λ out. record before { here = record before.here { out = out } }) (append_assoc before.here.out waits.printed part);
        begins = (
          missing ++ later,
          append_assoc waits.printed part (missing ++ later) ∙ ap (λ out. waits.printed ++ out) (sym (append_assoc part missing later) ∙ ap (λ text. text ++ later) splits) ∙ out,
        );
        took = waits.took;
        ahead = on_more (exit ≡ SourceFault) (PrintFault ≡ SourceFault) whole script waits.took.taken waits.printed part (λ fault. absurd cc) waits.ahead;
        stops = stops_more (filter_output whole script) waits.printed waiting later a b c out waits.said.stops waits.said.leads passes;
        answers = tt;
      }
