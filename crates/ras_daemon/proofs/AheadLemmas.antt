-- How far a whole run reads its source ahead.
use Rattle.std.proofs.Common.{◌≡◌, ℕ, suc, ◌+◌, ◌-◌, ◌≤◌, ◌==◌, ◌&&◌, Bool, true, false, List, [], ◌∷◌, ◌++◌, length, Option, None, Some, IfSome, IsSomeAnd, map, refl, ap, ◌∙◌, append_assoc, length-append, arith, inl, inr, cond, sym}
use Rattle.std.specs.List.{enumerate_from}
use Rattle.std.specs.Prelude.{◌⊎◌}
use Rattle.std.specs.Option.{option_map}
use Rattle.std.proofs.lemmas.Bool.Decides.{nat_tests}
use Rattle.board_core.specs.Doing.{Seen}
use Rattle.board_core.specs.Told.{Relates, Told}
use Rattle.ras_account.specs.Accounts.{IsAccount}
use Rattle.ras_run.specs.Sites.{Site, Start, first_site}
use Rattle.ras_run.specs.Places.{places_from, site_after}
use Rattle.ras_daemon.specs.Script.{reads_in}
use Rattle.ras_script.specs.declared.reader.TheConstants.{LONGEST_LINE}
use Rattle.ras_script.specs.Line.{line_of}
use Rattle.ras_script.specs.Splitting.{lines_of}
use Rattle.ras_script.specs.SplittingLaws.{script_of}
use Rattle.ras_texts.specs.Orders.{standing_lines}
use Rattle.ras_events.specs.DoneLines.{done_count}
use Rattle.ras_exit.specs.declared.exit.Exit.{Exit}
use Rattle.ras_exit.specs.declared.exit.Exit.TheVariants.{SourceFault}
use Rattle.ras_daemon.specs.Ahead.{TakesAhead, end_of_event, events_in, is_event_line}
use Rattle.ras_exit.specs.Telling.{PrintsPart}
use Rattle.ras_daemon.specs.Steps.Doing.{Ends}
use Rattle.ras_daemon.specs.RunOutput.{run_output}
use Rattle.ras_daemon.specs.Steps.Running.{EndsAhead, ReadAhead, first_size, lines_from, outputs}
use Rattle.ras_daemon.proofs.SaidLemmas.{Printed}
use Rattle.ras_daemon.proofs.CountLemmas.{count-first, events_among}

-- ---- the last line

-- more text was printed
ahead_more : (Fault Later : Type 0) → (Later → Fault) → (start : Start) (script from rest : List ℕ) (u now : Told) (part : List ℕ) → now.here.out ≡ u.here.out ++ part → ReadAhead Fault start script from rest u → ReadAhead Later start script from rest now
ahead_more Fault Later back start script from rest u now part is ahead = record {
  done = ahead.done;
  more = ahead.more;
  lines = ahead.lines;
  first = ahead.first;
  text = (ahead.text.0 ++ part, is ∙ ap (λ out. out ++ part) ahead.text.1 ∙ append_assoc (from ++ outputs start (reads_in ahead.done)) ahead.text.0 part);
  bound = ahead.bound;
  taken = ahead.taken;
  splits = ahead.splits;
  whole = λ later. ahead.whole (back later);
}

module _ (Fault Later : Type 0) (back : Later → Fault) (start : Start) (script from rest : List ℕ) where
  -- a last line was printed after lines were taken
  ahead_line : (exit result : Exit) (line : List ℕ) (old new : Option Told) → Relates (Printed exit result line) old new → IsSomeAnd old (ReadAhead Fault start script from rest) → IsSomeAnd new (ReadAhead Later start script from rest)
  ahead_line exit result line None new printed ahead = absurd ahead
  ahead_line exit result line (Some u) None printed ahead = absurd printed
  ahead_line exit result line (Some u) (Some now) printed ahead = ahead_more Fault Later back start script from rest u now printed.part (ap (λ (t : Told). t.here.out) printed.is) ahead

pub ahead_end : (Fault Later : Type 0) → (Later → Fault) → (start : Start) (script from : List ℕ) (left : Option (List ℕ)) (exit result : Exit) (line : List ℕ) (old new : Option Told) → Relates (Printed exit result line) old new
    → EndsAhead Fault start script from left old → EndsAhead Later start script from left new
ahead_end Fault Later back start script from None exit result line old new printed ahead = absurd ahead
ahead_end Fault Later back start script from (Some rest) exit result line old new printed ahead = ahead_line Fault Later back start script from rest exit result line old new printed ahead

-- a run ends with a fault of its source only if its lines did
pub fault_before : {X : Type 0} (see : X → Seen) (exit result : Exit) (line : List ℕ) (a b : X) → Ends see exit result line a b → result ≡ SourceFault → exit ≡ SourceFault
fault_before see exit result line a b (inr cut) fault = sym cut.1 ∙ fault
fault_before see exit result line a b (inl (answer, inl said)) fault = sym said.0 ∙ fault
fault_before see exit result line a b (inl (answer, inr (inl failed))) fault = let e = sym failed.0 ∙ fault in absurd cc
fault_before see exit result line a b (inl (answer, inr (inr short))) fault = let e = sym short.0 ∙ fault in absurd cc

-- ---- which event isn't done

-- how many lines are events, as lines and at their places
events-places : (site : Site) (n : ℕ) (lines : List (List ℕ)) → events_among (places_from site (enumerate_from n (map line_of lines))) ≡ events_in lines
events-places site n [] = refl
events-places site n (line ∷ lines) = by (is_event_line line) refl (events-places (site_after site (n, line_of line)) (n + 1) lines)
  where
    by : (t : Bool) → is_event_line line ≡ t → events_among (places_from (site_after site (n, line_of line)) (enumerate_from (n + 1) (map line_of lines))) ≡ events_in lines
        → events_among (places_from site (enumerate_from n (map line_of (line ∷ lines)))) ≡ events_in (line ∷ lines)
    by true is rest = rw is (ap suc rest)
    by false is rest = rw is rest

if_mapped : (o : Option ℕ) (size least : ℕ) → IfSome o (λ end. least ≤ end) → IfSome (option_map (λ end. size + end) o) (λ end. size + least ≤ end)
if_mapped None size least holds = tt
if_mapped (Some end) size least holds = omega arith

if_least : (o : Option ℕ) (least more : ℕ) → more ≤ least → IfSome o (λ end. least ≤ end) → IfSome o (λ end. more ≤ end)
if_least None least more less holds = tt
if_least (Some end) least more less holds = omega arith

zero_least : (o : Option ℕ) → IfSome o (λ end. 0 ≤ end)
zero_least None = tt
zero_least (Some end) = omega arith

end_behind : (line : List ℕ) (done more : List (List ℕ)) (m : ℕ) → IfSome (end_of_event m (done ++ more)) (λ end. length (script_of done) + first_size more ≤ end)
    → IfSome (option_map (λ end. length line + 1 + end) (end_of_event m (done ++ more))) (λ end. length (script_of (line ∷ done)) + first_size more ≤ end)
end_behind line done more m least =
    let size : length (script_of (line ∷ done)) ≡ length line + 1 + length (script_of done) = length-append (line ++ 10 ∷ []) (script_of done) ∙ ap (λ k. k + length (script_of done)) (length-append line (10 ∷ [])) in
    if_least (option_map (λ end. length line + 1 + end) (end_of_event m (done ++ more))) (length line + 1 + (length (script_of done) + first_size more)) (length (script_of (line ∷ done)) + first_size more)
    (omega arith) (if_mapped (end_of_event m (done ++ more)) (length line + 1) (length (script_of done) + first_size more) least)

-- the end of the next event is after the lines that are done and the line after them
end_after : (done more : List (List ℕ)) (n : ℕ) → events_in done ≤ n → IfSome (end_of_event n (done ++ more)) (λ end. length (script_of done) + first_size more ≤ end)
end_after [] [] n few = tt
end_after [] (line ∷ lines) n few = by (is_event_line line && (n == 0))
  where
    by : (t : Bool) → IfSome (cond t (Some (length line + 1)) (option_map (λ end. length line + 1 + end) (end_of_event (cond (is_event_line line) (n - 1) n) lines))) (λ end. 0 + (length line + 1) ≤ end)
    by true = omega arith
    by false = if_least (option_map (λ end. length line + 1 + end) (end_of_event (cond (is_event_line line) (n - 1) n) lines)) (length line + 1 + 0) (0 + (length line + 1)) (omega arith)
        (if_mapped (end_of_event (cond (is_event_line line) (n - 1) n) lines) (length line + 1) 0 (zero_least (end_of_event (cond (is_event_line line) (n - 1) n) lines)))
end_after (line ∷ done) more n few = by (is_event_line line) refl (λ m less. end_after done more m less)
  where
    by : (t : Bool) → is_event_line line ≡ t → ((m : ℕ) → events_in done ≤ m → IfSome (end_of_event m (done ++ more)) (λ end. length (script_of done) + first_size more ≤ end))
        → IfSome (end_of_event n ((line ∷ done) ++ more)) (λ end. length (script_of (line ∷ done)) + first_size more ≤ end)
    by true is rest =
        let least : suc (events_in done) ≤ n = rw is at few in
        let some : (n == 0) ≡ false = grind (arith, nat_tests, least) in
        rw (is, some) (end_behind line done more (n - 1) (rest (n - 1) (omega arith)))
    by false is rest =
        let least : events_in done ≤ n = rw is at few in
        rw is (end_behind line done more n (rest n least))

-- ---- the clause

-- what was read ahead if lines were taken
takes_ahead : (exit : Exit) (start : Start) (script left : List ℕ) (t now : Told) → IsAccount start.account → ReadAhead (exit ≡ SourceFault) start script (lines_from start t.here.out) left now → TakesAhead exit script left t now
takes_ahead exit start script left t now account ahead =
    let orders : List ℕ = standing_lines start.account in
    let lines : List ℕ = outputs start (reads_in ahead.done) in
    let part : List ℕ = ahead.text.0 in
    let counts : done_count ((orders ++ lines) ++ part) ≡ events_among (places_from (first_site start) (reads_in ahead.done)) + done_count part = count-first start script (reads_in ahead.done) ahead.first account part in
    let same : events_among (places_from (first_site start) (reads_in ahead.done)) ≡ events_in ahead.done = events-places (first_site start) 1 ahead.done in
    let few : events_in ahead.done ≤ done_count ((orders ++ lines) ++ part) = omega arith in
    let least : IfSome (end_of_event (done_count ((orders ++ lines) ++ part)) (ahead.done ++ ahead.more)) (λ end. length (script_of ahead.done) + first_size ahead.more ≤ end) = end_after ahead.done ahead.more (done_count ((orders ++ lines) ++ part)) few in
    record {
      printed = (orders ++ lines) ++ part;
      text =
          ahead.text.1
          ∙ ap (λ out. out ++ part) (append_assoc t.here.out orders lines)
          ∙ append_assoc t.here.out (orders ++ lines) part;
      bound = rw ahead.lines (within (end_of_event (done_count ((orders ++ lines) ++ part)) (ahead.done ++ ahead.more)) least);
      taken = ahead.taken;
      splits = ahead.splits;
      done = λ fault. (let whole = ahead.whole fault in omega arith);
    }
  where
    within : (o : Option ℕ) → IfSome o (λ end. length (script_of ahead.done) + first_size ahead.more ≤ end) → IfSome o (λ end. length ahead.taken ≤ end + (LONGEST_LINE + 1))
    within None least = tt
    within (Some end) least =
        let bound = ahead.bound in
        let sizes : length ahead.taken + length left ≡ length script = sym (length-append ahead.taken left) ∙ ap length ahead.splits in
        omega arith

-- what was read ahead if nothing was taken
takes_none : (exit : Exit) (script : List ℕ) (t now : Told) (output : List ℕ) → PrintsPart output t.here.out now.here.out → TakesAhead exit script script t now
takes_none exit script t now output part = record {
  printed = part.0;
  text = part.2;
  bound = all (end_of_event (done_count part.0) (lines_of script));
  taken = [];
  splits = refl;
  done = λ fault. omega arith;
}
  where
    all : (o : Option ℕ) → IfSome o (λ end. 0 ≤ end + (LONGEST_LINE + 1))
    all None = tt
    all (Some end) = omega arith

pub ahead_told : (exit : Exit) (Same : Type 0) (start : Start) (script : List ℕ) (t : Told) (left : Option (List ℕ)) (now : Option Told) → (Same → left ≡ Some script)
    → Same ⊎ (IsAccount start.account × EndsAhead (exit ≡ SourceFault) start script (lines_from start t.here.out) left now)
    → IsSomeAnd now (λ n. PrintsPart (run_output start script) t.here.out n.here.out) → IsSomeAnd left (λ rest. IsSomeAnd now (TakesAhead exit script rest t))
ahead_told exit Same start script t left None back reads printed = absurd printed
ahead_told exit Same start script t left (Some n) back (inl same) printed = rw (back same) (takes_none exit script t n (run_output start script) printed)
ahead_told exit Same start script t None (Some n) back (inr ahead) printed = absurd ahead.1
ahead_told exit Same start script t (Some rest) (Some n) back (inr ahead) printed = takes_ahead exit start script rest t n ahead.0 ahead.1
