-- All that the command `klog` prints for a kernel log, by the groups of its lines.
use Rattle.std.specs.Prelude.{ℕ, List, ◌++◌}
use Rattle.ras_script.specs.Lines.{script_lines}
use Rattle.ras_exit.specs.declared.exit.Exit.{Exit}
use Rattle.ras_exit.specs.declared.exit.Exit.TheVariants.{Done}
use Rattle.ras_exit.specs.ScriptEnd.{script_exit}
use Rattle.ras_exit.specs.StopLine.{stop_line}
use Rattle.ras_klog.specs.Klog.{klog_last, klog_text}

-- what comes after the text of all groups: the counts, or the `stop` line of a rejection
abbrev pub klog_ending : ℕ → ℕ → List (List ℕ) → Exit → List ℕ
klog_ending boot cap lines Done = klog_last boot cap lines
klog_ending boot cap lines exit = stop_line exit

abbrev pub klog_output : ℕ → ℕ → List ℕ → List ℕ
klog_output boot cap script =
    let lines = (script_lines script).whole in
    klog_text boot cap lines ++ klog_ending boot cap lines (script_exit script)
