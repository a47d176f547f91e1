-- A line that has no place in the current report changes nothing.
use Rattle.std.proofs.Common.{◌≡◌, ℕ, false, refl}
use Rattle.ras_klog.specs.Stages.{has_place, out_at, stage_after}
use Rattle.ras_klog.specs.declared.line.KlogLine.{KlogLine}
use Rattle.ras_klog.specs.declared.line.KlogLine.TheVariants.{Start, Tsc, Processor, Other}
use Rattle.ras_klog.specs.declared.state.Stage.{Stage}
use Rattle.ras_klog.specs.declared.state.Stage.TheVariants.{Idle, Begun, Timed}
use Rattle.bank_lines.specs.LogAlong.{print_after, state_after}
use Rattle.bank_lines.specs.LogGroups.{printers_after}
use Rattle.bank_lines.specs.declared.log_line.LogLine.TheVariants.{Part}
use Rattle.bank_lines.specs.declared.log_line.Print.{Print}
use Rattle.bank_lines.specs.declared.log_state.LogState.{LogState}

pub no_place : (boot cap : ℕ) (state : LogState) (line : KlogLine) (print : Print) (vendor : ℕ) → has_place state.work line ≡ false
    → state ≡ state_after boot cap state (Part line print vendor)
no_place boot cap state line print vendor none = by state.work line none
  where
    by : (stage : Stage) (line : KlogLine) → has_place stage line ≡ false
        → ◌≡◌ {A = LogState} (record { work = stage; print = state.print; printers = state.printers }) (record {
          work = stage_after stage line;
          print = print_after state.print line print;
          printers = printers_after state.printers state.print vendor (out_at boot cap stage line);
        })
    by Idle (Start cpu mcg bank status) none = absurd cc
    by Idle (Tsc tsc addr misc) none = refl
    by Idle (Processor seconds) none = refl
    by Idle Other none = refl
    by (Begun head) (Start cpu mcg bank status) none = absurd cc
    by (Begun head) (Tsc tsc addr misc) none = absurd cc
    by (Begun head) (Processor seconds) none = refl
    by (Begun head) Other none = refl
    by (Timed head tsc addr misc) (Start cpu mcg bank status) none = absurd cc
    by (Timed head tsc addr misc) (Tsc counter address other) none = refl
    by (Timed head tsc addr misc) (Processor seconds) none = absurd cc
    by (Timed head tsc addr misc) Other none = refl
