use Rattle.std.proofs.Common.{◌++◌, length}
use Rattle.ras_base.specs.LittleEndian.{u64_bytes}
use Rattle.journal_format.specs.Checkpoints.{page_row_bytes}
use Rattle.journal_format.proofs.RowLemmas.{rows_more}
use Rattle.journal_format.proofs.encoding.push_pages.Goals as goal

pub loop-i-preserved : goal.loop-i-preserved
loop-i-preserved c =
    let all = c.args.account.now.state.pages in
    rows_more page_row_bytes (c.args.bytes.now.items ++ u64_bytes (length all)) all c.loop-i.i (c.row-page.result.0, record { bucket = c.row-page.result.1; state = c.row-page.result.2 }) c.loop-i.bytes.items c.push_page_row.new.bytes.items (rw (← c.pages-pages.ensures) c.row-page.ensures.row) c.loop-i.invariant c.in_ok-push_page_row.ensures
