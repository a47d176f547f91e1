use Rattle.std.proofs.Common.{◌≤◌, arith}
use Rattle.page_policy.specs.Buckets.{most_count}
use Rattle.ras_facts.specs.Valid.{IsPage}
use Rattle.ras_account.specs.Accounts.{IsPageRow}
use Rattle.entry_format.proofs.LoopLemmas.{is_given}
use Rattle.journal_format.specs.Checkpoints.{page_row_bytes}
use Rattle.journal_format.specs.CheckpointReading.{page_row_at}
use Rattle.journal_format.proofs.DecodingLemmas.{read_is}
use Rattle.journal_format.proofs.RowReadLemmas.{page_row_read}
use Rattle.journal_format.proofs.row_reading.page_row_at.Goals as goal

pub returns-clause-page : goal.returns-clause-page
returns-clause-page c =
    read_is page_row_at page_row_bytes IsPageRow (λ x. IsPage x.0.0) page_row_read (λ x. ((x.0.0, record { bucket = x.0.1; state = x.0.2 }), x.1.now)) (λ x row. row.page)
    c.args.bytes.now c.read_page_row.result (λ i. omega (arith, c.type_inv.bytes i)) (is_given (λ x. ((x.0.0, record { bucket = x.0.1; state = x.0.2 }), x.1.now)) c.read_page_row.result (page_row_at c.args.bytes.now) c.read_page_row.ensures)

pub returns-clause-count : goal.returns-clause-count
returns-clause-count c =
    read_is page_row_at page_row_bytes IsPageRow (λ x. x.0.1.count ≤ most_count) page_row_read (λ x. ((x.0.0, record { bucket = x.0.1; state = x.0.2 }), x.1.now)) (λ x row. row.bucket.count)
    c.args.bytes.now c.read_page_row.result (λ i. omega (arith, c.type_inv.bytes i)) (is_given (λ x. ((x.0.0, record { bucket = x.0.1; state = x.0.2 }), x.1.now)) c.read_page_row.result (page_row_at c.args.bytes.now) c.read_page_row.ensures)
