-- The filter prints the texts of the groups.
use Rattle.std.proofs.Common.{◌≡◌, ℕ, suc, ◌+◌, List, [], ◌∷◌, ◌++◌, length, take, refl, sym, ap, ◌∙◌, append_assoc, None}
use Rattle.std.proofs.Math.Seq.{take-length}
use Rattle.std.proofs.lemmas.List.{append-nil}
use Rattle.std.specs.List.{flat_map}
use Rattle.ras_script.specs.Lines.{Lines, script_lines}
use Rattle.ras_exit.specs.declared.exit.Exit.{Exit}
use Rattle.ras_exit.specs.declared.exit.Exit.TheVariants.{Done}
use Rattle.ras_exit.specs.ScriptEnd.{ending_exit, script_exit}
use Rattle.line_filters.specs.Filters.{closing_text, exit_unless, filter_exit, filter_output, refusal_in, texts_in}
use Rattle.ras_klog.specs.Klog.{added, answers_after, early_text, klog_answers, klog_filter, klog_rest, klog_text}
use Rattle.ras_klog.specs.Output.{klog_ending, klog_output}
use Rattle.ras_klog.proofs.FilterLemmas.{added_is, early-push, from_zero, rest_is, text_ends}

-- the texts, one after another
abbrev joined : List (List ℕ) → List ℕ
joined texts = flat_map (λ (text : List ℕ). text) texts

-- what a call prints after the texts of its lines
closing_is : (boot cap : ℕ) (lines : List (List ℕ)) (exit : Exit)
    → closing_text (klog_filter boot cap) lines exit ≡ klog_rest boot cap lines ++ klog_ending boot cap lines exit
closing_is boot cap lines Done = refl
closing_is boot cap lines exit = refl

module _ (boot cap : ℕ) where
  -- a line adds its text to the groups' text
  adds : (before : List (List ℕ)) (line : List ℕ)
      → early_text boot cap before ++ added (early_text boot cap before) (early_text boot cap (before ++ line ∷ []))
      ≡ early_text boot cap (before ++ line ∷ [])
  adds before line =
      ap (λ (text : List ℕ). early_text boot cap before ++ text) (added_is (early_text boot cap before) _ _ (early-push boot cap before line))
      ∙ sym (early-push boot cap before line)

  texts_after : (before lines : List (List ℕ))
      → early_text boot cap before ++ joined (texts_in (answers_after boot cap before lines)) ≡ early_text boot cap (before ++ lines)
  texts_after before [] = append-nil (early_text boot cap before) ∙ ap (early_text boot cap) (sym (append-nil before))
  texts_after before (line ∷ lines) = by (texts_after (before ++ line ∷ []) lines)
    where
      by : early_text boot cap (before ++ line ∷ []) ++ joined (texts_in (answers_after boot cap (before ++ line ∷ []) lines)) ≡ early_text boot cap (before ++ line ∷ [] ++ lines)
          → early_text boot cap before ++ joined (texts_in (answers_after boot cap before (line ∷ lines))) ≡ early_text boot cap (before ++ line ∷ lines)
      by ih =
          sym (append_assoc (early_text boot cap before) _ _)
          ∙ ap (λ (text : List ℕ). text ++ joined (texts_in (answers_after boot cap (before ++ line ∷ []) lines))) (adds before line)
          ∙ ih
          ∙ ap (early_text boot cap) (append_assoc before (line ∷ []) lines)

  none_refused : (before lines : List (List ℕ)) → refusal_in (answers_after boot cap before lines) ≡ None
  none_refused before [] = refl
  none_refused before (line ∷ lines) = none_refused (before ++ line ∷ []) lines

  each_answered : (before lines : List (List ℕ)) → length (texts_in (answers_after boot cap before lines)) ≡ length lines
  each_answered before [] = refl
  each_answered before (line ∷ lines) = ap suc (each_answered (before ++ line ∷ []) lines)

  pub early_is_told : (lines : List (List ℕ)) → joined (texts_in (klog_answers boot cap lines)) ≡ early_text boot cap lines
  early_is_told lines = texts_after [] lines

  pub whole_is_told : (lines : List (List ℕ)) → early_text boot cap lines ++ klog_rest boot cap lines ≡ klog_text boot cap lines
  whole_is_told lines =
      ap (λ (text : List ℕ). early_text boot cap lines ++ text) (sym (rest_is boot cap lines))
      ∙ sym (text_ends boot cap lines)

  pub exit_is : (script : List ℕ) → filter_exit (klog_filter boot cap) script ≡ script_exit script
  exit_is script =
      let lines : Lines = script_lines script in
      ap (λ refusal. exit_unless refusal (0 + length (texts_in (klog_answers boot cap lines.whole)) + 1) (ending_exit (0 + length lines.whole) lines.ending)) (none_refused [] lines.whole)
      ∙ ap (λ (count : ℕ). ending_exit count lines.ending) (from_zero (length lines.whole))

  pub output_is : (script : List ℕ) → filter_output (klog_filter boot cap) script ≡ klog_output boot cap script
  output_is script =
      let lines : List (List ℕ) = (script_lines script).whole in
      let texts : List (List ℕ) = texts_in (klog_answers boot cap lines) in
      let taken : take (length texts) lines ≡ lines = ap (λ (n : ℕ). take n lines) (each_answered [] lines) ∙ take-length lines in
      ap (λ (some : List (List ℕ)). joined texts ++ closing_text (klog_filter boot cap) some (filter_exit (klog_filter boot cap) script)) taken
      ∙ ap (λ (exit : Exit). joined texts ++ closing_text (klog_filter boot cap) lines exit) (exit_is script)
      ∙ ap (λ (text : List ℕ). joined texts ++ text) (closing_is boot cap lines (script_exit script))
      ∙ sym (append_assoc (joined texts) (klog_rest boot cap lines) (klog_ending boot cap lines (script_exit script)))
      ∙ ap (λ (text : List ℕ). text ++ klog_rest boot cap lines ++ klog_ending boot cap lines (script_exit script)) (early_is_told lines)
      ∙ ap (λ (text : List ℕ). text ++ klog_ending boot cap lines (script_exit script)) (whole_is_told lines)
