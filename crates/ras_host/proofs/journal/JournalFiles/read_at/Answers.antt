use Rattle.board_core.specs.Told.{ReadsBytes}
use Rattle.ras_host.proofs.JournalLemmas.{file_read, file_reads}
use Rattle.ras_host.proofs.journal.JournalFiles.read_at.Goals as goal

pub returns-in-Seen-clause-read : goal.returns-in-Seen-clause-read
returns-in-Seen-clause-read g c =
    file_reads (λ n whole. ReadsBytes c.args.place n c.read_at.new.buf whole) c.read_at.result c.of.result.now c.args.file _
    (file_read c.args.file c.in-Seen.files c.in-Seen.field-1 _ c.of.result.now _ c.in-Seen.is c.of.ensures c.requires.held) c.read_at.ensures.read
