-- The outputs of the steps are the results of the groups.
use Rattle.std.proofs.Common.{◌≡◌, ℕ, List, [], ◌∷◌, refl, ap, Some}
use Rattle.ras_klog.specs.declared.line.KlogLine.{KlogLine}
use Rattle.ras_klog.specs.declared.line.KlogLine.TheVariants.{Start, Tsc, Processor, Other}
use Rattle.ras_klog.specs.declared.state.KlogOut.{KlogOut}
use Rattle.ras_klog.specs.declared.state.KlogOut.TheVariants.{Partial}
use Rattle.ras_klog.specs.declared.state.Stage.{Stage}
use Rattle.ras_klog.specs.declared.state.Stage.TheVariants.{Idle, Begun, Timed}
use Rattle.ras_klog.specs.Groups.{told_of, told_of_groups, with_seconds, told_seconds, up_to_start, without_open}
use Rattle.ras_klog.specs.Stages.{outs_along, outs_to_end}

module _ (boot cap : ℕ) where
  -- the results of the current report's group and of the groups in the lines after it
  abbrev pub told_from : Stage → List KlogLine → List KlogOut
  told_from Idle lines = told_of_groups boot cap lines
  told_from (Begun head) lines = told_of boot cap head (up_to_start lines) ∷ told_of_groups boot cap lines
  told_from (Timed head tsc addr misc) lines =
      with_seconds boot cap head tsc addr misc (told_seconds (up_to_start lines)) ∷ told_of_groups boot cap lines

  pub to_end : (stage : Stage) (lines : List KlogLine) → outs_to_end boot cap stage lines ≡ told_from stage lines
  to_end Idle [] = refl
  to_end (Begun head) [] = refl
  to_end (Timed head tsc addr misc) [] = refl
  to_end Idle (Start c m b s ∷ lines) = to_end (Begun (record { cpu = c; mcg = m; bank = b; status = s })) lines
  to_end Idle (Tsc t a m ∷ lines) = to_end Idle lines
  to_end Idle (Processor seconds ∷ lines) = to_end Idle lines
  to_end Idle (Other ∷ lines) = to_end Idle lines
  to_end (Begun head) (Start c m b s ∷ lines) =
      ap (λ (rest : List KlogOut). Partial head.cpu head.bank ∷ rest) (to_end (Begun (record { cpu = c; mcg = m; bank = b; status = s })) lines)
  to_end (Begun head) (Tsc t a m ∷ lines) = to_end (Timed head t a m) lines
  to_end (Begun head) (Processor seconds ∷ lines) = to_end (Begun head) lines
  to_end (Begun head) (Other ∷ lines) = to_end (Begun head) lines
  to_end (Timed head tsc addr misc) (Start c m b s ∷ lines) =
      ap (λ (rest : List KlogOut). Partial head.cpu head.bank ∷ rest) (to_end (Begun (record { cpu = c; mcg = m; bank = b; status = s })) lines)
  to_end (Timed head tsc addr misc) (Tsc t a m ∷ lines) = to_end (Timed head tsc addr misc) lines
  to_end (Timed head tsc addr misc) (Processor seconds ∷ lines) =
      ap (λ (rest : List KlogOut). with_seconds boot cap head tsc addr misc (Some seconds) ∷ rest) (to_end Idle lines)
  to_end (Timed head tsc addr misc) (Other ∷ lines) = to_end (Timed head tsc addr misc) lines

  pub at_once : (stage : Stage) (lines : List KlogLine) → outs_along boot cap stage lines ≡ without_open (told_from stage lines)
  at_once Idle [] = refl
  at_once (Begun head) [] = refl
  at_once (Timed head tsc addr misc) [] = refl
  at_once Idle (Start c m b s ∷ lines) = at_once (Begun (record { cpu = c; mcg = m; bank = b; status = s })) lines
  at_once Idle (Tsc t a m ∷ lines) = at_once Idle lines
  at_once Idle (Processor seconds ∷ lines) = at_once Idle lines
  at_once Idle (Other ∷ lines) = at_once Idle lines
  at_once (Begun head) (Start c m b s ∷ lines) =
      ap (λ (rest : List KlogOut). Partial head.cpu head.bank ∷ rest) (at_once (Begun (record { cpu = c; mcg = m; bank = b; status = s })) lines)
  at_once (Begun head) (Tsc t a m ∷ lines) = at_once (Timed head t a m) lines
  at_once (Begun head) (Processor seconds ∷ lines) = at_once (Begun head) lines
  at_once (Begun head) (Other ∷ lines) = at_once (Begun head) lines
  at_once (Timed head tsc addr misc) (Start c m b s ∷ lines) =
      ap (λ (rest : List KlogOut). Partial head.cpu head.bank ∷ rest) (at_once (Begun (record { cpu = c; mcg = m; bank = b; status = s })) lines)
  at_once (Timed head tsc addr misc) (Tsc t a m ∷ lines) = at_once (Timed head tsc addr misc) lines
  at_once (Timed head tsc addr misc) (Processor seconds ∷ lines) =
      ap (λ (rest : List KlogOut). with_seconds boot cap head tsc addr misc (Some seconds) ∷ rest) (at_once Idle lines)
  at_once (Timed head tsc addr misc) (Other ∷ lines) = at_once (Timed head tsc addr misc) lines
