-- The reports of a kernel log. A group of lines begins with each line that begins a report.
use Rattle.std.specs.Prelude.{ℕ, List, [], ◌∷◌, Option, None, Some, map}
use Rattle.ras_facts.specs.declared.bank.BankReport.{BankReport}
use Rattle.ras_klog.specs.declared.line.KlogLine.{KlogLine}
use Rattle.ras_klog.specs.declared.line.KlogLine.TheVariants.{Start, Tsc, Processor}
use Rattle.ras_klog.specs.declared.state.Head.{Head}
use Rattle.ras_klog.specs.declared.state.KlogOut.{KlogOut}
use Rattle.ras_klog.specs.declared.state.KlogOut.TheVariants.{Whole, Partial}

-- a line that begins a report, and the lines after it up to the next such line
pub record Group : Type 0 where
  pub head : Head
  pub rest : List KlogLine

-- the lines up to the first that begins a report
abbrev pub up_to_start : List KlogLine → List KlogLine
up_to_start [] = []
up_to_start (Start cpu mcg bank status ∷ lines) = []
up_to_start (line ∷ lines) = line ∷ up_to_start lines

-- the groups of lines, without the lines before the first group
abbrev pub groups_of : List KlogLine → List Group
groups_of [] = []
groups_of (Start cpu mcg bank status ∷ lines) =
    record { head = record { cpu = cpu; mcg = mcg; bank = bank; status = status }; rest = up_to_start lines }
    ∷ groups_of lines
groups_of (line ∷ lines) = groups_of lines

-- the first time in lines
abbrev pub told_seconds : List KlogLine → Option ℕ
told_seconds [] = None
told_seconds (Processor seconds ∷ lines) = Some seconds
told_seconds (line ∷ lines) = told_seconds lines

-- the report of a group, given its counter, its other two registers and its time
abbrev pub bank_of_group : ℕ → ℕ → Head → ℕ → ℕ → ℕ → ℕ → BankReport
bank_of_group boot cap head tsc addr misc seconds = record {
  boot = boot;
  seconds = seconds;
  cpu = head.cpu;
  bank = head.bank;
  tsc = tsc;
  cap = cap;
  mcg = head.mcg;
  status = head.status;
  addr = addr;
  misc = misc;
}

-- the group's report, if it has a time after its first counter
abbrev pub with_seconds : ℕ → ℕ → Head → ℕ → ℕ → ℕ → Option ℕ → KlogOut
with_seconds boot cap head tsc addr misc None = Partial head.cpu head.bank
with_seconds boot cap head tsc addr misc (Some seconds) = Whole (bank_of_group boot cap head tsc addr misc seconds)

-- the result of a group: its report, with its first counter and the first time after the counter; or that the report
-- is incomplete
abbrev pub told_of : ℕ → ℕ → Head → List KlogLine → KlogOut
told_of boot cap head [] = Partial head.cpu head.bank
told_of boot cap head (Tsc tsc addr misc ∷ lines) = with_seconds boot cap head tsc addr misc (told_seconds lines)
told_of boot cap head (line ∷ lines) = told_of boot cap head lines

-- the results of the groups of a log, in order
abbrev pub told_of_groups : ℕ → ℕ → List KlogLine → List KlogOut
told_of_groups boot cap lines = map (λ (g : Group). told_of boot cap g.head g.rest) (groups_of lines)

-- the results that are known before the log's end: of all groups but the last, and of the last if it is complete
abbrev pub without_open : List KlogOut → List KlogOut
without_open [] = []
without_open (Partial cpu bank ∷ []) = []
without_open (out ∷ outs) = out ∷ without_open outs
