-- Lines at their places: which is the first rejected one, and how a script ends without one.
use Rattle.std.proofs.Common.{◌≡◌, ℕ, ◌+◌, List, [], ◌∷◌, ◌++◌, length, None, Some, map, refl, ap, sym, ◌∙◌, subst, append_assoc, append-nil, arith}
use Rattle.std.specs.List.{AllByRecursion, enumerate_from, flat_map}
use Rattle.std.specs.Option.{option_map_or}
use Rattle.std.proofs.lemmas.List.{map-append, length-map}
use Rattle.std.proofs.lemmas.Grind.{flat_map-append}
use Rattle.ras_events.specs.Described.{NumberedLine}
use Rattle.ras_run.specs.Sites.{Start, first_site}
use Rattle.ras_run.specs.Places.{Place, places_from, site_at}
use Rattle.ras_daemon.specs.Script.{reads_in, reads_of}
use Rattle.ras_script.specs.Line.{line_of}
use Rattle.ras_script.specs.Lines.{Ending, Lines, script_lines}
use Rattle.ras_exit.specs.declared.exit.Exit.{Exit}
use Rattle.ras_run.specs.Output.{output_at}
use Rattle.ras_run.specs.Status.{refusal_at}
use Rattle.ras_run.specs.Taking.{IsAccepted}
use Rattle.ras_run.proofs.PlaceLemmas.{places-append}
use Rattle.ras_daemon.specs.RunStatus.{script_refused}
use Rattle.ras_daemon.specs.Steps.Running.{AreAccepted, AreAll, AreFirst, outputs}
use Rattle.ras_exit.specs.ScriptEnd.{ending_exit, script_exit}
use Rattle.ras_daemon.proofs.FirstLinesLemmas.{first-before, first-refused}

-- ---- numbered lines

pub enumerate-append : {X : Type 0} (n : ℕ) (xs ys : List X) → enumerate_from n (xs ++ ys) ≡ enumerate_from n xs ++ enumerate_from (n + length xs) ys
enumerate-append n [] ys = let e : n + 0 ≡ n = omega arith in rw e refl
enumerate-append n (x ∷ xs) ys =
    let e : n + 1 + length xs ≡ n + length (x ∷ xs) = omega arith in
    let rest = enumerate-append (n + 1) xs ys in
    ap (λ tail. (n, x) ∷ tail) (rw e at rest)

-- the numbered lines after these
abbrev pub reads_behind : List (List ℕ) → List (List ℕ) → List NumberedLine
reads_behind done more = enumerate_from (1 + length done) (map line_of more)

pub reads-append : (done more : List (List ℕ)) → reads_in (done ++ more) ≡ reads_in done ++ reads_behind done more
reads-append done more =
    ap (enumerate_from 1) (map-append line_of done more)
    ∙ enumerate-append 1 (map line_of done) (map line_of more)
    ∙ ap (λ n. reads_in done ++ enumerate_from (1 + n) (map line_of more)) (length-map done line_of)

-- ---- lines that are accepted

all-snoc : {X : Type 0} (P : X → Type 0) (xs : List X) (x : X) → AllByRecursion P xs → P x → AllByRecursion P (xs ++ x ∷ [])
all-snoc P [] x all last = (last, tt)
all-snoc P (y ∷ ys) x all last = (all.0, all-snoc P ys x all.1 last)

pub accepted-snoc : (start : Start) (before : List NumberedLine) (read : NumberedLine) → AreAccepted start before → IsAccepted (site_at start before, read) → AreAccepted start (before ++ read ∷ [])
accepted-snoc start before read accepted last =
    subst (AllByRecursion IsAccepted) (sym (places-append (first_site start) before (read ∷ [])))
    (all-snoc IsAccepted (places_from (first_site start) before) (site_at start before, read) accepted last)

pub outputs-snoc : (start : Start) (before : List NumberedLine) (read : NumberedLine) → outputs start (before ++ read ∷ []) ≡ outputs start before ++ output_at (site_at start before, read)
outputs-snoc start before read =
    ap (flat_map output_at) (places-append (first_site start) before (read ∷ []))
    ∙ flat_map-append output_at (places_from (first_site start) before) ((site_at start before, read) ∷ [])
    ∙ ap (λ text. outputs start before ++ text) (append-nil (output_at (site_at start before, read)))

-- A script that ends after these lines.
module _ (start : Start) (script : List ℕ) (done : List (List ℕ)) (ending : Ending) (is : script_lines script ≡ record { whole = done; ending = ending }) (accepted : AreAccepted start (reads_in done)) where
  abbrev first_read : AreFirst start script (reads_in done)
  first_read = record { rest = []; splits = append-nil (reads_in done) ∙ ap (λ (lines : Lines). reads_in lines.whole) (sym is); accepted = accepted }

  pub none_refused : script_refused start script ≡ None
  none_refused = first-refused start script (reads_in done) first_read

  pub all_read : AreAll start script (ending_exit (length done) ending) (reads_in done)
  all_read = record {
    first = first_read;
    all = first-before start script (reads_in done) first_read ∙ append-nil (places_from (first_site start) (reads_in done));
    exit_is =
        ap (λ refused. option_map_or (λ (r : Place × Exit). r.1) refused (script_exit script)) none_refused
        ∙ ap (λ (lines : Lines). ending_exit (length lines.whole) lines.ending) is;
  }

-- A script with a rejected line.
module _ (start : Start) (script : List ℕ) (before rest : List NumberedLine) (read : NumberedLine) (exit : Exit) (splits : before ++ read ∷ rest ≡ reads_of script) (accepted : AreAccepted start before)
    (refused : refusal_at (site_at start before, read) ≡ Some exit) where
  abbrev first_taken : AreFirst start script before
  first_taken = record { rest = read ∷ rest; splits = splits; accepted = accepted }

  pub script-refused : script_refused start script ≡ Some ((site_at start before, read), exit)
  script-refused = first-refused start script before first_taken ∙ rw refused refl

  pub line_refused : AreAll start script exit before
  line_refused = record {
    first = first_taken;
    all = first-before start script before first_taken ∙ rw refused (append-nil (places_from (first_site start) before));
    exit_is = ap (λ found. option_map_or (λ (r : Place × Exit). r.1) found (script_exit script)) script-refused;
  }

-- the first lines, and one more
pub first_more : (start : Start) (script : List ℕ) (before rest : List NumberedLine) (read : NumberedLine) → before ++ read ∷ rest ≡ reads_of script
    → AreAccepted start before → IsAccepted (site_at start before, read) → AreFirst start script (before ++ read ∷ [])
first_more start script before rest read splits accepted last = record {
  rest = rest;
  splits = append_assoc before (read ∷ []) rest ∙ splits;
  accepted = accepted-snoc start before read accepted last;
}
