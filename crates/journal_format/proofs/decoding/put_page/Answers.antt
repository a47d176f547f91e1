use Rattle.std.proofs.Common.{refl}
use Rattle.journal_format.proofs.DecodingLemmas.{page_repeated}
use Rattle.journal_format.proofs.decoding.put_page.Goals as goal

pub returns-in-Err-Repeated-clause-bad : goal.returns-in-Err-Repeated-clause-bad
returns-in-Err-Repeated-clause-bad c _ later are =
    let told = rw c.in-Err-Repeated.field-0-is at c.in-Err-Repeated.ensures in
    page_repeated c.args.account.now.pages (c.args.page, record { bucket = c.args.bucket; state = c.args.state }) later (told.repeated.0 refl) are
