use Rattle.std.proofs.Common.{◌≤◌, arith}
use Rattle.page_policy.specs.Buckets.{IsLimit}
use Rattle.ras_account.specs.declared.limits.TheConstants.{MOST_ENTRIES}
use Rattle.entry_format.proofs.LoopLemmas.{is_given}
use Rattle.journal_format.specs.CheckpointReading.{front_at}
use Rattle.journal_format.specs.Steps.Fronts.{front_of}
use Rattle.journal_format.proofs.DecodingLemmas.{read_is}
use Rattle.journal_format.proofs.CheckpointLemmas.{spell_front, TellsFront, front_read, front_is}
use Rattle.journal_format.proofs.row_reading.front_at.Goals as goal

pub returns-clause-limit : goal.returns-clause-limit
returns-clause-limit c =
    let version = c.args.version in
    read_is (front_at version) (spell_front version) (TellsFront version) (λ x. IsLimit x.0.limit) (front_read version) (λ x. (front_of x.0, x.1.now))
    (λ x tells. (front_is version (front_of x.0) tells).limit)
    c.args.bytes.now c.read_front.result (λ i. omega (arith, c.type_inv.bytes i)) (is_given (λ x. (front_of x.0, x.1.now)) c.read_front.result (front_at version c.args.bytes.now) c.read_front.ensures)

pub returns-clause-module_limit : goal.returns-clause-module_limit
returns-clause-module_limit c =
    let version = c.args.version in
    read_is (front_at version) (spell_front version) (TellsFront version) (λ x. IsLimit x.0.module_limit) (front_read version) (λ x. (front_of x.0, x.1.now))
    (λ x tells. (front_is version (front_of x.0) tells).module_limit)
    c.args.bytes.now c.read_front.result (λ i. omega (arith, c.type_inv.bytes i)) (is_given (λ x. (front_of x.0, x.1.now)) c.read_front.result (front_at version c.args.bytes.now) c.read_front.ensures)

pub returns-clause-entries : goal.returns-clause-entries
returns-clause-entries c =
    let version = c.args.version in
    read_is (front_at version) (spell_front version) (TellsFront version) (λ x. x.0.entries ≤ MOST_ENTRIES) (front_read version) (λ x. (front_of x.0, x.1.now))
    (λ x tells. (front_is version (front_of x.0) tells).entries)
    c.args.bytes.now c.read_front.result (λ i. omega (arith, c.type_inv.bytes i)) (is_given (λ x. (front_of x.0, x.1.now)) c.read_front.result (front_at version c.args.bytes.now) c.read_front.ensures)
