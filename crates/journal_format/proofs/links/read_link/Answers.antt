use Rattle.std.proofs.Common.{arith, sym, subst, ◌∙◌}
use Rattle.journal_format.specs.Links.{IsPayload}
use Rattle.journal_format.proofs.LinkLemmas.{link_is_whole}
use Rattle.journal_format.proofs.links.read_link.Goals as goal

pub returns-then-ends_early-clause-entries : goal.returns-then-ends_early-clause-entries
returns-then-ends_early-clause-entries c entries rest can front enough =
    let whole = link_is_whole c.args.version entries rest c.args.bytes.now can front in
    let wrong = sym c.if-ends_early.true ∙ c.ends_early.ensures ∙ whole.early in
    cc

pub returns-in-Ok-clause-entries : goal.returns-in-Ok-clause-entries
returns-in-Ok-clause-entries c entries rest can front enough =
    let whole = link_is_whole c.args.version entries rest c.args.bytes.now can front in
    let payload = subst (IsPayload c.args.version entries) (sym (c.payload_in-payload.ensures.payload ∙ whole.payload)) can.payload in
    (c.in-Ok.ensures.entries entries payload (λ e. cc), omega (arith, c.payload_in-payload.ensures.length, whole.length_is))

pub returns-in-Err-Bad-clause-entries : goal.returns-in-Err-Bad-clause-entries
returns-in-Err-Bad-clause-entries c entries rest can front enough =
    let whole = link_is_whole c.args.version entries rest c.args.bytes.now can front in
    let payload = subst (IsPayload c.args.version entries) (sym (c.payload_in-payload.ensures.payload ∙ whole.payload)) can.payload in
    let is = c.in-Err-Bad.field-0-is in
    c.in-Err-Bad.ensures.entries entries payload (λ e. cc)
