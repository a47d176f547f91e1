use Rattle.ras_script.specs.Lines.{without_last}
use Rattle.bank_lines.specs.Parts.{cut_at}
use Rattle.bank_lines.specs.PartsLeft.{parts_in}
use Rattle.bank_lines.specs.TraceEvent.{fields_after, no_fields}
use Rattle.bank_lines.proofs.EventLemmas.{last_left}
use Rattle.bank_lines.proofs.event.event_in.Goals as goal

pub loop-part-preserved : goal.loop-part-preserved
loop-part-preserved c =
    last_left c.loop-part.fields c.take.new.self c.in-Some.part.now (parts_in c.next.new.self) (parts_in c.loop-part.parts) c.are_taken.result
    (fields_after no_fields (without_last (cut_at 44 c.args.text.now)))
    c.in-Some.ensures c.are_taken.ensures.1 c.if-are_taken.false c.in_ok-take.ensures c.loop-part.invariant
