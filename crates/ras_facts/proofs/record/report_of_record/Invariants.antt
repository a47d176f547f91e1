-- The items and details so far are those of the sections so far.
use Rattle.std.proofs.Common.{◌≡◌, map}
use Rattle.std.specs.List.{range_with_len}
use Rattle.cper_records.specs.Descriptors.{section_at}
use Rattle.ras_facts.specs.Reported.{record_item}
use Rattle.ras_facts.proofs.ItemLemmas.{AreItems}
use Rattle.ras_facts.specs.Reports.{section_detail}
use Rattle.ras_facts.proofs.record.report_of_record.Given as goal

abbrev pub invariant-loop-i : goal.invariant-loop-i
invariant-loop-i l =
    AreItems l.items (map (record_item l.fn.topology l.fn.rec) (range_with_len 0 l.i))
    × (l.details ≡ map (λ i. section_detail (section_at l.fn.rec i)) (range_with_len 0 l.i))
