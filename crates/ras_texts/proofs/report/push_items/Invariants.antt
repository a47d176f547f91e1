-- The lines so far are those of the items so far.
use Rattle.std.proofs.Common.{◌≡◌, ◌++◌, take}
use Rattle.std.specs.List.{flat_map, zip}
use Rattle.ras_texts.specs.Reports.{told_line}
use Rattle.ras_texts.proofs.report.push_items.Given as goal

abbrev pub invariant-loop-i : goal.invariant-loop-i
invariant-loop-i l = l.text.items ≡ l.fn.text.items ++ flat_map (told_line l.fn.fact) (take l.i (zip l.fn.fact.items l.fn.details))
