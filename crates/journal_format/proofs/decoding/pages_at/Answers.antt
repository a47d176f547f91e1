use Rattle.std.proofs.Common.{◌≡◌, ◌∷◌, ◌++◌, ℕ, ap, refl, subst}
use Rattle.page_policy.specs.declared.rows.PageRow.{PageRow}
use Rattle.ras_account.specs.Account.{State}
use Rattle.entry_format.specs.declared.refused.EntryRefused.TheVariants.{Bad}
use Rattle.journal_format.specs.CheckpointReading.{list_at, page_row_at}
use Rattle.entry_format.proofs.LoopLemmas.{goes_on, ends, is_done, is_failed}
use Rattle.journal_format.specs.Steps.Decoding.{ArePages}
use Rattle.journal_format.proofs.DecodingLemmas.{refused_amid, unread_amid, unlisted, list_begins, same_row, page_put}
use Rattle.journal_format.proofs.decoding.pages_at.Goals as goal

pub returns-in-Err-clause-bad : goal.returns-in-Err-clause-bad
returns-in-Err-clause-bad c e rows rest all are =
    let is : c.in-Err.refused ≡ Bad = cc in
    unread_amid (list_at page_row_at c.args.bytes.now) c.in-Err.refused rows rest (unlisted page_row_at c.args.bytes.now c.in-Err.refused c.in-Err.ensures) is all

pub loop-init : goal.loop-init
loop-init c = record {
  state = refl;
  so_far = list_begins page_row_at c.args.account.now.pages c.args.bytes.now c.in-Ok.found.0 c.in-Ok.found.1.now c.requires c.in-Ok.ensures;
}

pub returns-in-Err-page_row_at-clause-bad : goal.returns-in-Err-page_row_at-clause-bad
returns-in-Err-page_row_at-clause-bad c e rows rest all are =
    let total = list_at page_row_at c.args.bytes.now in
    let is : c.in-Err-page_row_at.refused ≡ Bad = cc in
    unread_amid total c.in-Err-page_row_at.refused rows rest
    (ends page_row_at c.in-Err-page_row_at.refused c.loop.account.pages c.in-Ok.found.0 c.loop.counter c.loop.rest.now total c.loop-test.true (is_failed c.in-Err-page_row_at.refused (page_row_at c.loop.rest.now) c.in-Err-page_row_at.ensures.read) c.loop.invariant.so_far) is all

pub returns-in-Err-put_page-clause-bad : goal.returns-in-Err-put_page-clause-bad
returns-in-Err-put_page-clause-bad c e rows rest all are =
    let total = list_at page_row_at c.args.bytes.now in
    let held = c.loop.account.pages in
    refused_amid page_row_at ArePages held c.in-Ok.found.0 c.loop.counter c.loop.rest.now total c.loop-test.true
    (λ x later after read sound.
    let same = same_row (page_row_at c.loop.rest.now) (c.in-Ok-page_row_at.found.0.0, record { bucket = c.in-Ok-page_row_at.found.0.1; state = c.in-Ok-page_row_at.found.0.2 }) x c.in-Ok-page_row_at.found.1.now after c.in-Ok-page_row_at.ensures.read read in
    c.in-Err-put_page.ensures.bad (let is : c.in-Err-put_page.refused ≡ Bad = cc in cc) later (subst (λ (y : ℕ × PageRow). ArePages (held ++ y ∷ later)) same sound))
    c.loop.invariant.so_far rows rest all are

pub loop-preserved : goal.loop-preserved
loop-preserved c =
    let put = c.in-Ok-put_page.ensures.ok in
    let rows = ap (λ (a : State). a.pages) put in
    record {
      state = page_put c.args.account.now c.loop.account c.put_page.new.account (c.in-Ok-page_row_at.found.0.0, record { bucket = c.in-Ok-page_row_at.found.0.1; state = c.in-Ok-page_row_at.found.0.2 }) c.loop.invariant.state put;
      so_far =
          rw rows
          (goes_on page_row_at c.loop.account.pages c.in-Ok.found.0 c.loop.counter c.loop.rest.now (c.in-Ok-page_row_at.found.0.0, record { bucket = c.in-Ok-page_row_at.found.0.1; state = c.in-Ok-page_row_at.found.0.2 }) c.in-Ok-page_row_at.found.1.now (list_at page_row_at c.args.bytes.now) c.loop-test.true c.in-Ok-page_row_at.ensures.read c.loop.invariant.so_far);
    }

pub returns-clause-read : goal.returns-clause-read
returns-clause-read c = is_done page_row_at c.loop.account.pages c.in-Ok.found.0 c.loop.counter c.loop.rest.now (list_at page_row_at c.args.bytes.now) c.loop-test.false c.loop.invariant.so_far
