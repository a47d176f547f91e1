use Rattle.std.proofs.Common.{◌≡◌, length}
use Rattle.std.specs.List.{list_all}
use Rattle.ras_klog.specs.Reading.{is_empty}
use Rattle.bank_lines.specs.PartsLeft.{parts_in}
use Rattle.bank_lines.proofs.edac_line.are_empty.Given as goal

-- the words that were taken are empty
abbrev pub invariant-loop-word : goal.invariant-loop-word
invariant-loop-word l = list_all is_empty (parts_in l.words) ≡ list_all is_empty (parts_in l.fn.words)

abbrev pub decreases-loop-word : goal.decreases-loop-word
decreases-loop-word l = length (parts_in l.words)
