-- A step of the filter.
use Rattle.std.proofs.Common.{◌≡◌, ℕ, ◌+◌, Bool, List, [], ◌∷◌, ◌++◌, cond, count_by, map, refl, sym, ap, ◌∙◌, arith, Ok}
use Rattle.std.proofs.lemmas.List.{append-nil}
use Rattle.std.proofs.lemmas.List.Sums.{sum_by-cons}
use Rattle.line_filters.specs.Filter.{Took}
use Rattle.ras_klog.specs.declared.filter.Counts.{Counts}
use Rattle.ras_klog.specs.declared.state.KlogOut.{KlogOut}
use Rattle.ras_klog.specs.declared.state.KlogOut.TheVariants.{Nothing, Whole, Partial}
use Rattle.ras_klog.specs.declared.line.KlogLine.TheVariants.{Other}
use Rattle.ras_klog.specs.declared.state.Stage.{Stage}
use Rattle.ras_klog.specs.declared.state.Stage.TheVariants.{Idle, Begun, Timed}
use Rattle.ras_klog.specs.Along.{Progress, answers_along, counts_with, last_along, makes_of, rest_along}
use Rattle.ras_klog.specs.Reading.{klog_line_of}
use Rattle.ras_klog.specs.Stages.{out_at, outs_to_end, some_out, stage_after}
use Rattle.ras_klog.specs.Texts.{klog_counts_line, is_logged, is_partial, out_text}

count_by-cons : (p : KlogOut → Bool) (out : KlogOut) (outs : List KlogOut) → count_by p (out ∷ outs) ≡ count_by p (out ∷ []) + count_by p outs
count_by-cons p out outs =
    let weight = λ (o : KlogOut). cond (p o) 1 0 in
    sum_by-cons weight out outs ∙ ap (λ (n : ℕ). n + count_by p outs) (omega arith)

-- an output is counted when it comes
counted : (p : KlogOut → Bool) → count_by p (Nothing ∷ []) ≡ 0 → (n : ℕ) (out : KlogOut) (outs : List KlogOut)
    → n + count_by p (some_out out ++ outs) ≡ n + count_by p (out ∷ []) + count_by p outs
counted p none n Nothing outs = omega (arith, none)
counted p none n (Whole bank) outs = omega (arith, count_by-cons p (Whole bank) outs)
counted p none n (Partial cpu bank) outs = omega (arith, count_by-cons p (Partial cpu bank) outs)

pub took : (log : Progress) (line : List ℕ) (stage : Stage) (out : KlogOut) (counts : Counts) (taken : ℕ) (old new : List ℕ)
    → out ≡ out_at log.boot log.cap log.stage (klog_line_of line)
    → stage ≡ stage_after log.stage (klog_line_of line)
    → counts ≡ counts_with log.counts out
    → new ≡ old ++ out_text out
    → Took line (makes_of log) (makes_of (record { boot = log.boot; cap = log.cap; stage = stage; counts = counts; taken = taken })) old new
took log line stage out counts taken old new out_is stage_is counts_is adds = record {
  text = out_text out;
  out = adds;
  answers = λ lines.
      ap (λ (o : KlogOut). Ok (out_text o) ∷ answers_along log.boot log.cap (stage_after log.stage (klog_line_of line)) lines) (sym out_is)
      ∙ ap (λ (s : Stage). Ok (out_text out) ∷ answers_along log.boot log.cap s lines) (sym stage_is);
  rest = λ lines. ap (λ (s : Stage). rest_along s lines) (sym stage_is);
  last = λ lines. last_step lines;
}
  where
    last_step : (lines : List (List ℕ)) → last_along log.boot log.cap log.stage log.counts.reports log.counts.partial (line ∷ lines)
        ≡ last_along log.boot log.cap stage counts.reports counts.partial lines
    last_step lines =
        let after : Stage = stage_after log.stage (klog_line_of line) in
        let outs : List KlogOut = outs_to_end log.boot log.cap after (map klog_line_of lines) in
        ap (λ (o : KlogOut). klog_counts_line (log.counts.reports + count_by is_logged (some_out o ++ outs)) (log.counts.partial + count_by is_partial (some_out o ++ outs))) (sym out_is)
        ∙ ap (λ (reports : ℕ). klog_counts_line reports (log.counts.partial + count_by is_partial (some_out out ++ outs))) (counted is_logged refl log.counts.reports out outs)
        ∙ ap (λ (partial : ℕ). klog_counts_line (log.counts.reports + count_by is_logged (out ∷ []) + count_by is_logged outs) partial) (counted is_partial refl log.counts.partial out outs)
        ∙ ap (λ (c : Counts). last_along log.boot log.cap after c.reports c.partial lines) (sym counts_is)
        ∙ ap (λ (s : Stage). last_along log.boot log.cap s counts.reports counts.partial lines) (sym stage_is)

-- a line that says nothing changes nothing
pub passed : (log : Progress) (line : List ℕ) (taken : ℕ) (old : List ℕ) → klog_line_of line ≡ Other
    → Took line (makes_of log) (makes_of (record { boot = log.boot; cap = log.cap; stage = log.stage; counts = log.counts; taken = taken })) old old
passed log line taken old other =
    took log line log.stage Nothing log.counts taken old old
    (sym (ap (out_at log.boot log.cap log.stage) other ∙ nothing_out log.boot log.cap log.stage))
    (sym (ap (stage_after log.stage) other ∙ same_stage log.stage))
    (same_counts log.counts) (sym (append-nil old))
  where
    nothing_out : (boot cap : ℕ) (stage : Stage) → out_at boot cap stage Other ≡ Nothing
    nothing_out boot cap Idle = refl
    nothing_out boot cap (Begun head) = refl
    nothing_out boot cap (Timed head tsc addr misc) = refl

    same_stage : (stage : Stage) → stage_after stage Other ≡ stage
    same_stage Idle = refl
    same_stage (Begun head) = refl
    same_stage (Timed head tsc addr misc) = refl

    same_counts : (counts : Counts) → counts ≡ counts_with counts Nothing
    same_counts counts =
        let no_report : count_by is_logged (Nothing ∷ []) ≡ 0 = refl in
        let no_partial : count_by is_partial (Nothing ∷ []) ≡ 0 = refl in
        let reports : counts.reports ≡ counts.reports + count_by is_logged (Nothing ∷ []) = omega (arith, no_report) in
        let partial : counts.partial ≡ counts.partial + count_by is_partial (Nothing ∷ []) = omega (arith, no_partial) in
        λ i. record { reports = reports i; partial = partial i }
