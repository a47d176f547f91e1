-- One such section is enough.
use Rattle.std.proofs.Common.{◌∙◌, sym}
use Rattle.cper_records.specs.Descriptors.{is_out}
use Rattle.cper_records.proofs.BelowLemmas.{some_below_at}
use Rattle.cper_records.proofs.walk.is_some_out.Goals as goal

pub returns-then-is_out : goal.returns-then-is_out
returns-then-is_out c =
    sym (some_below_at c.args.count c.loop-i.i (is_out c.args.bytes.now) c.loop-i-test.true (sym c.is_out.ensures ∙ c.if-is_out.true))
