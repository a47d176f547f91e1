-- The current report of a kernel log, line by line.
use Rattle.std.specs.Prelude.{ℕ, Bool, true, false, List, [], ◌∷◌, ◌++◌}
use Rattle.ras_klog.specs.Groups.{bank_of_group}
use Rattle.ras_klog.specs.declared.line.KlogLine.{KlogLine}
use Rattle.ras_klog.specs.declared.line.KlogLine.TheVariants.{Start, Tsc, Processor}
use Rattle.ras_klog.specs.declared.state.KlogOut.{KlogOut}
use Rattle.ras_klog.specs.declared.state.KlogOut.TheVariants.{Nothing, Whole, Partial}
use Rattle.ras_klog.specs.declared.state.Stage.{Stage}
use Rattle.ras_klog.specs.declared.state.Stage.TheVariants.{Idle, Begun, Timed}

-- the stage before a log's first line
abbrev pub at_start : Stage
at_start = Idle

-- how far the report has come after a line
abbrev pub stage_after : Stage → KlogLine → Stage
stage_after stage (Start cpu mcg bank status) = Begun (record { cpu = cpu; mcg = mcg; bank = bank; status = status })
stage_after (Begun head) (Tsc tsc addr misc) = Timed head tsc addr misc
stage_after (Timed head tsc addr misc) (Processor seconds) = Idle
stage_after stage line = stage

-- whether a line belongs to the current report: a report may begin at any line, its counter comes next, and then its
-- time
abbrev pub has_place : Stage → KlogLine → Bool
has_place stage (Start cpu mcg bank status) = true
has_place (Begun head) (Tsc tsc addr misc) = true
has_place (Timed head tsc addr misc) (Processor seconds) = true
has_place stage line = false

-- the output of a current report that can't be completed
abbrev pub out_at_end : Stage → KlogOut
out_at_end Idle = Nothing
out_at_end (Begun head) = Partial head.cpu head.bank
out_at_end (Timed head tsc addr misc) = Partial head.cpu head.bank

-- the output at a line
abbrev pub out_at : ℕ → ℕ → Stage → KlogLine → KlogOut
out_at boot cap stage (Start cpu mcg bank status) = out_at_end stage
out_at boot cap (Timed head tsc addr misc) (Processor seconds) = Whole (bank_of_group boot cap head tsc addr misc seconds)
out_at boot cap stage line = Nothing

-- the output, unless it is `Nothing`
abbrev pub some_out : KlogOut → List KlogOut
some_out Nothing = []
some_out out = out ∷ []

-- the outputs of the steps over lines, without `Nothing`
abbrev pub outs_along : ℕ → ℕ → Stage → List KlogLine → List KlogOut
outs_along boot cap stage [] = []
outs_along boot cap stage (line ∷ lines) =
    some_out (out_at boot cap stage line) ++ outs_along boot cap (stage_after stage line) lines

-- the outputs of the steps over lines and of the log's end, without `Nothing`
abbrev pub outs_to_end : ℕ → ℕ → Stage → List KlogLine → List KlogOut
outs_to_end boot cap stage [] = some_out (out_at_end stage)
outs_to_end boot cap stage (line ∷ lines) =
    some_out (out_at boot cap stage line) ++ outs_to_end boot cap (stage_after stage line) lines
