-- One such section is enough.
use Rattle.std.proofs.Common.{◌∙◌, sym}
use Rattle.cper_records.specs.Descriptors.{is_section_refused}
use Rattle.cper_records.proofs.BelowLemmas.{some_below_at}
use Rattle.cper_records.proofs.walk.is_some_refused.Goals as goal

pub returns-then-is_section_refused : goal.returns-then-is_section_refused
returns-then-is_section_refused c =
    sym (some_below_at c.args.count c.loop-i.i (is_section_refused c.args.bytes.now) c.loop-i-test.true (sym c.is_section_refused.ensures ∙ c.if-is_section_refused.true))
