-- What `lines` prints for its input.
use Rattle.std.proofs.Common.{◌≡◌, ℕ, suc, ◌+◌, ◌^◌, ◌<◌, ◌≤◌, Bool, true, false, List, [], ◌∷◌, ◌++◌, length, take, refl, sym, ap, ◌∙◌, arith, append_assoc, length-take, None, if◌then◌else◌}
use Rattle.std.specs.Prelude.{not, nat_lt, take_while}
use Rattle.std.proofs.Math.Seq.{take-length}
use Rattle.std.specs.List.{flat_map, list_any, prefix_len}
use Rattle.line_filters.specs.Filter.{Filter}
use Rattle.line_filters.specs.Filters.{closing_text, exit_unless, filter_exit, filter_output, refusal_in, texts_in}
use Rattle.ras_exit.specs.ScriptEnd.{ending_exit, script_exit}
use Rattle.ras_exit.specs.StopLine.{stop_line}
use Rattle.ras_exit.specs.declared.exit.Exit.{Exit}
use Rattle.ras_script.proofs.LineAndWordLemmas.{few_lines}
use Rattle.ras_script.specs.Lines.{Ending, Lines, is_too_long, line_too_long, lines_within, script_ended, script_lines, script_too_long, without_last}
use Rattle.ras_script.specs.Splitting.{lines_of}
use Rattle.bank_lines.specs.Counts.{KeyCounts, counts_after, named_found}
use Rattle.bank_lines.specs.Filter.{answers_from, founds_from, trace_filter, trace_founds}
use Rattle.bank_lines.specs.LogFilter.{log_answers, log_answers_after, log_filter, log_rest, log_script}
use Rattle.bank_lines.specs.Texts.{found_text, printed}
use Rattle.bank_lines.specs.Trace.{trace_found}

-- ---- a script has few lines

without-few : {X : Type 0} (xs : List X) → length (without_last xs) ≤ length xs
without-few [] = omega arith
without-few (x ∷ []) = omega arith
without-few (x ∷ y ∷ xs) = omega (arith, without-few (y ∷ xs))

taken-few : {X : Type 0} (p : X → Bool) (xs : List X) → length (take_while p xs) ≤ length xs
taken-few p xs = omega (arith, length-take (prefix_len p xs) xs)

whole-few : (most : ℕ) (text : List ℕ) → length (lines_within most text).whole ≤ most + 1
unfolding lines_within
whole-few most text = by (list_any is_too_long lines) (nat_lt most (length text))
  where
    lines : List (List ℕ)
    lines = lines_of (take (most + 1) text)

    all : length lines ≤ most + 1
    all = omega (arith, few_lines (take (most + 1) text), length-take (most + 1) text)

    by : (long many : Bool)
        → length (if◌then◌else◌ {A = Lines} long (record { whole = take_while (λ line. not (is_too_long line)) lines; ending = line_too_long })
        (if◌then◌else◌ {A = Lines} many (record { whole = without_last lines; ending = script_too_long }) (record { whole = lines; ending = script_ended }))).whole ≤ most + 1
    by true many = omega (arith, all, taken-few (λ line. not (is_too_long line)) lines)
    by false true = omega (arith, all, without-few lines)
    by false false = all

pub lines-few : (input : List ℕ) → length (script_lines input).whole < 2 ^ 63
lines-few input =
    let few : length (script_lines input).whole ≤ 67108864 + 1 = whole-few 67108864 input in
    omega (arith, few)

-- ---- what a filter prints that refuses no line

abbrev joined : List (List ℕ) → List ℕ
joined texts = flat_map (λ (text : List ℕ). text) texts

closing-is : (f : Filter) (lines : List (List ℕ)) (count : ℕ) (ending : Ending) → f.last lines ≡ []
    → closing_text f lines (ending_exit count ending) ≡ f.rest lines ++ stop_line (ending_exit count ending)
closing-is f lines count script_ended last = ap (λ (text : List ℕ). f.rest lines ++ text) last
closing-is f lines count line_too_long last = refl
closing-is f lines count script_too_long last = refl

module _ (f : Filter) (script : List ℕ) where
  abbrev lines : List (List ℕ)
  lines = (script_lines script).whole

  exit-is : refusal_in (f.answers lines) ≡ None → filter_exit f script ≡ script_exit script
  exit-is none =
      ap (λ refusal. exit_unless refusal (0 + length (texts_in (f.answers lines)) + 1) (ending_exit (0 + length lines) (script_lines script).ending)) none
      ∙ ap (λ (count : ℕ). ending_exit count (script_lines script).ending) (omega arith)

  output-is : refusal_in (f.answers lines) ≡ None → length (texts_in (f.answers lines)) ≡ length lines → f.last lines ≡ []
      → filter_output f script ≡ joined (texts_in (f.answers lines)) ++ (f.rest lines ++ stop_line (script_exit script))
  output-is none each last =
      let texts : List (List ℕ) = texts_in (f.answers lines) in
      let taken : take (length texts) lines ≡ lines = ap (λ (n : ℕ). take n lines) each ∙ take-length lines in
      ap (λ (some : List (List ℕ)). joined texts ++ closing_text f some (filter_exit f script)) taken
      ∙ ap (λ (exit : Exit). joined texts ++ closing_text f lines exit) (exit-is none)
      ∙ ap (λ (text : List ℕ). joined texts ++ text) (closing-is f lines (length lines) (script_lines script).ending last)

-- ---- of a trace

module _ (boot : ℕ) where
  none-refused : (counts : KeyCounts) (number : ℕ) (lines : List (List ℕ)) → refusal_in (answers_from boot counts number lines) ≡ None
  none-refused counts number [] = refl
  none-refused counts number (line ∷ lines) = none-refused (counts_after counts (trace_found boot line)) (number + 1) lines

  each-answered : (counts : KeyCounts) (number : ℕ) (lines : List (List ℕ)) → length (texts_in (answers_from boot counts number lines)) ≡ length lines
  each-answered counts number [] = refl
  each-answered counts number (line ∷ lines) = ap suc (each-answered (counts_after counts (trace_found boot line)) (number + 1) lines)

  texts-are : (counts : KeyCounts) (number : ℕ) (lines : List (List ℕ)) → joined (texts_in (answers_from boot counts number lines)) ≡ printed (founds_from boot counts number lines)
  texts-are counts number [] = refl
  texts-are counts number (line ∷ lines) =
      ap (λ (text : List ℕ). found_text number (named_found counts (trace_found boot line)) ++ text) (texts-are (counts_after counts (trace_found boot line)) (number + 1) lines)

  pub trace-is : (input : List ℕ) → filter_output (trace_filter boot) input ≡ printed (trace_founds boot (script_lines input).whole) ++ stop_line (script_exit input)
  trace-is input =
      let whole : List (List ℕ) = (script_lines input).whole in
      output-is (trace_filter boot) input (none-refused [] 1 whole) (each-answered [] 1 whole) refl
      ∙ ap (λ (text : List ℕ). text ++ stop_line (script_exit input)) (texts-are [] 1 whole)

-- ---- of a log

module _ (boot cap : ℕ) where
  no-line-refused : (before lines : List (List ℕ)) → refusal_in (log_answers_after boot cap before lines) ≡ None
  no-line-refused before [] = refl
  no-line-refused before (line ∷ lines) = no-line-refused (before ++ line ∷ []) lines

  all-answered : (before lines : List (List ℕ)) → length (texts_in (log_answers_after boot cap before lines)) ≡ length lines
  all-answered before [] = refl
  all-answered before (line ∷ lines) = ap suc (all-answered (before ++ line ∷ []) lines)

  pub log-is : (input : List ℕ) → filter_output (log_filter boot cap) input ≡ log_script boot cap (script_lines input).whole ++ stop_line (script_exit input)
  log-is input =
      let whole : List (List ℕ) = (script_lines input).whole in
      output-is (log_filter boot cap) input (no-line-refused [] whole) (all-answered [] whole) refl
      ∙ sym (append_assoc (joined (texts_in (log_answers boot cap whole))) (log_rest boot cap whole) (stop_line (script_exit input)))
