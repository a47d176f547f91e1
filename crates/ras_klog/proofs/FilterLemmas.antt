-- The filter, which reads line by line, prints the text of the lines' groups.
use Rattle.std.proofs.Common.{◌≡◌, ℕ, ◌+◌, List, [], ◌∷◌, ◌++◌, count_by, length, map, drop, refl, sym, ap, ◌∙◌, arith, append_assoc, Ok}
use Rattle.std.proofs.Math.Path.{fun_ext}
use Rattle.std.proofs.lemmas.List.{append-nil, drop_at}
use Rattle.std.proofs.lemmas.Grind.{flat_map-append}
use Rattle.std.specs.List.{flat_map}
use Rattle.ras_klog.specs.declared.state.KlogOut.{KlogOut}
use Rattle.ras_klog.specs.declared.state.KlogOut.TheVariants.{Nothing, Whole, Partial}
use Rattle.ras_klog.specs.declared.state.Stage.{Stage}
use Rattle.ras_klog.specs.Along.{answers_along, last_along, rest_along, stage_over}
use Rattle.ras_klog.specs.Klog.{added, answers_after, early_text, klog_answers, klog_filter, klog_last, klog_rest, klog_text}
use Rattle.ras_klog.specs.Reading.{klog_line_of}
use Rattle.ras_klog.specs.Stages.{at_start, out_at, out_at_end, outs_along, outs_to_end, some_out, stage_after}
use Rattle.ras_klog.specs.Texts.{klog_counts_line, klog_end_line, is_logged, is_partial, out_text}
use Rattle.ras_klog.proofs.GroupLemmas.{at_once, to_end}

-- what a text adds to its beginning
pub added_is : (begun more text : List ℕ) → text ≡ begun ++ more → added begun text ≡ more
added_is begun more text is = ap (drop (length begun)) is ∙ drop_at begun more (length begun) refl

-- the text of an output, also of `Nothing`
one_text : (out : KlogOut) → flat_map out_text (some_out out) ≡ out_text out
one_text Nothing = refl
one_text (Whole bank) = append-nil (out_text (Whole bank))
one_text (Partial cpu bank) = append-nil (out_text (Partial cpu bank))

pub from_zero : (n : ℕ) → 0 + n ≡ n
from_zero n = omega arith

module _ (boot cap : ℕ) where
  -- the outputs of lines and of one more line
  outs-push : (stage : Stage) (before : List (List ℕ)) (line : List ℕ)
      → outs_along boot cap stage (map klog_line_of (before ++ line ∷ []))
      ≡ outs_along boot cap stage (map klog_line_of before) ++ some_out (out_at boot cap (stage_over stage before) (klog_line_of line))
  outs-push stage [] line = append-nil (some_out (out_at boot cap stage (klog_line_of line)))
  outs-push stage (b ∷ before) line =
      let out : List KlogOut = some_out (out_at boot cap stage (klog_line_of b)) in
      ap (λ (outs : List KlogOut). out ++ outs) (outs-push (stage_after stage (klog_line_of b)) before line)
      ∙ sym (append_assoc out _ _)

  stage-push : (stage : Stage) (before : List (List ℕ)) (line : List ℕ)
      → stage_over stage (before ++ line ∷ []) ≡ stage_after (stage_over stage before) (klog_line_of line)
  stage-push stage [] line = refl
  stage-push stage (b ∷ before) line = stage-push (stage_after stage (klog_line_of b)) before line

  -- the outputs of lines and of the log's end
  outs-end : (stage : Stage) (lines : List (List ℕ))
      → outs_to_end boot cap stage (map klog_line_of lines)
      ≡ outs_along boot cap stage (map klog_line_of lines) ++ some_out (out_at_end (stage_over stage lines))
  outs-end stage [] = refl
  outs-end stage (line ∷ lines) =
      let out : List KlogOut = some_out (out_at boot cap stage (klog_line_of line)) in
      ap (λ (outs : List KlogOut). out ++ outs) (outs-end (stage_after stage (klog_line_of line)) lines)
      ∙ sym (append_assoc out _ _)

  -- the text that the steps print for lines
  early_is : (lines : List (List ℕ)) → early_text boot cap lines ≡ flat_map out_text (outs_along boot cap at_start (map klog_line_of lines))
  early_is lines = ap (flat_map out_text) (sym (at_once boot cap at_start (map klog_line_of lines)))

  text_is : (lines : List (List ℕ)) → klog_text boot cap lines ≡ flat_map out_text (outs_to_end boot cap at_start (map klog_line_of lines))
  text_is lines = ap (flat_map out_text) (sym (to_end boot cap at_start (map klog_line_of lines)))

  -- one more line adds the text of its output
  pub early-push : (before : List (List ℕ)) (line : List ℕ)
      → early_text boot cap (before ++ line ∷ [])
      ≡ early_text boot cap before ++ out_text (out_at boot cap (stage_over at_start before) (klog_line_of line))
  early-push before line =
      early_is (before ++ line ∷ [])
      ∙ ap (flat_map out_text) (outs-push at_start before line)
      ∙ flat_map-append out_text (outs_along boot cap at_start (map klog_line_of before)) (some_out (out_at boot cap (stage_over at_start before) (klog_line_of line)))
      ∙ ap (λ (text : List ℕ). text ++ flat_map out_text (some_out (out_at boot cap (stage_over at_start before) (klog_line_of line)))) (sym (early_is before))
      ∙ ap (λ (text : List ℕ). early_text boot cap before ++ text) (one_text (out_at boot cap (stage_over at_start before) (klog_line_of line)))

  -- the log's end adds the text of the current report
  pub text_ends : (lines : List (List ℕ)) → klog_text boot cap lines ≡ early_text boot cap lines ++ rest_along at_start lines
  text_ends lines =
      text_is lines
      ∙ ap (flat_map out_text) (outs-end at_start lines)
      ∙ flat_map-append out_text (outs_along boot cap at_start (map klog_line_of lines)) (some_out (out_at_end (stage_over at_start lines)))
      ∙ ap (λ (text : List ℕ). text ++ flat_map out_text (some_out (out_at_end (stage_over at_start lines)))) (sym (early_is lines))
      ∙ ap (λ (text : List ℕ). early_text boot cap lines ++ text) (one_text (out_at_end (stage_over at_start lines)))

  answers_are : (before lines : List (List ℕ))
      → answers_along boot cap (stage_over at_start before) lines ≡ answers_after boot cap before lines
  answers_are before [] = refl
  answers_are before (line ∷ lines) = by (answers_are (before ++ line ∷ []) lines)
    where
      by : answers_along boot cap (stage_over at_start (before ++ line ∷ [])) lines ≡ answers_after boot cap (before ++ line ∷ []) lines
          → answers_along boot cap (stage_over at_start before) (line ∷ lines) ≡ answers_after boot cap before (line ∷ lines)
      by ih =
          ap (λ stage. Ok (out_text (out_at boot cap (stage_over at_start before) (klog_line_of line))) ∷ answers_along boot cap stage lines) (sym (stage-push at_start before line))
          ∙ ap (λ rest. Ok (out_text (out_at boot cap (stage_over at_start before) (klog_line_of line))) ∷ rest) ih
          ∙ ap (λ text. Ok text ∷ answers_after boot cap (before ++ line ∷ []) lines) (sym (added_is (early_text boot cap before) _ _ (early-push before line)))

  pub rest_is : (lines : List (List ℕ)) → rest_along at_start lines ≡ klog_rest boot cap lines
  rest_is lines = sym (added_is (early_text boot cap lines) (rest_along at_start lines) (klog_text boot cap lines) (text_ends lines))

  last_is : (lines : List (List ℕ)) → last_along boot cap at_start 0 0 lines ≡ klog_last boot cap lines
  last_is lines =
      let outs : List KlogOut = outs_to_end boot cap at_start (map klog_line_of lines) in
      ap (λ (n : ℕ). klog_counts_line n (0 + count_by is_partial outs)) (from_zero (count_by is_logged outs))
      ∙ ap (klog_counts_line (count_by is_logged outs)) (from_zero (count_by is_partial outs))
      ∙ ap klog_end_line (to_end boot cap at_start (map klog_line_of lines))

  pub filter_is : record { answers = answers_along boot cap at_start; rest = rest_along at_start; last = last_along boot cap at_start 0 0 } ≡ klog_filter boot cap
  filter_is =
      ap (λ answers. record { answers = answers; rest = rest_along at_start; last = last_along boot cap at_start 0 0 }) (fun_ext (λ lines. answers_are [] lines))
      ∙ ap (λ rest. record { answers = klog_answers boot cap; rest = rest; last = last_along boot cap at_start 0 0 }) (fun_ext rest_is)
      ∙ ap (λ last. record { answers = klog_answers boot cap; rest = klog_rest boot cap; last = last }) (fun_ext last_is)
