use Rattle.std.proofs.Common.{List, ap, subst, ◌∙◌}
use Rattle.board_core.specs.Cause.{disk_call}
use Rattle.board_core.specs.Doing.{Act, Does, broke}
use Rattle.ras_account.specs.Continued.{account_after_all}
use Rattle.ras_account.specs.View.{View}
use Rattle.ras_events.specs.Preparing.{CanTake}
use Rattle.ras_journal.specs.View.{JournalView}
use Rattle.ras_run.specs.Keeping.{Stands, keeping_acts, standing_kept}
use Rattle.ras_run.proofs.KeepingLemmas.{keeping_ends}
use Rattle.ras_run.specs.Taking.{CanBeKept}
use Rattle.ras_run.proofs.NewsLemmas.{acts_of, links_of}
use Rattle.ras_run.proofs.StandsLemmas.{stands_on}
use Rattle.ras_run.proofs.counting.keep.Goals as goal

pub returns-in-Err-Disk-clause-does : goal.returns-in-Err-Disk-clause-does
returns-in-Err-Disk-clause-does g c =
    let see = g.B.Board.seen in
    let s = c.args.ledger.now.journal.standing in
    let a = c.args.ledger.now.account.state in
    let can : CanBeKept c.in-Some.news = rw c.in-Some.is at c.requires.can_keep in
    let does = rw c.in-Err-Disk.field-0-is at c.in-Err-Disk.ensures.does in
    rw c.in-Some.is (subst (λ (acts : List Act). Does see acts (broke disk_call) c.args.board.now c.keep.new.board) (acts_of s a c.in-Some.news can) does)

pub returns-clause-ready : goal.returns-clause-ready
returns-clause-ready g c =
    let see = g.B.Board.seen in
    let s = c.args.ledger.now.journal.standing in
    let a = c.args.ledger.now.account.state in
    let news = c.in-Some.news in
    let can : CanBeKept news = rw c.in-Some.is at c.requires.can_keep in
    let take : CanTake c.args.ledger.now.account news = rw c.in-Some.is at c.requires.can_take in
    let state = c.count.ensures.state ∙ ap (λ (v : View). account_after_all v.state news.entries.items) c.in-Ok.ensures.ledger.0 in
    let stands : Stands (standing_kept s a news.link) (account_after_all a news.entries.items) (see c.keep.new.board).told (see c.keep.new.board).clock =
    stands_on (keeping_acts s a news.link) s (standing_kept s a news.link) a (account_after_all a news.entries.items) (see c.args.board.now) (see c.keep.new.board)
    (λ t at. keeping_ends s a news.entries.items news.link t (c.in-Ok.ensures.can tt) c.in-Ok.ensures.full (links_of a news can take.within) at)
    c.requires.ready.stands c.in-Ok.ensures.does in
    record {
      usable = ap (λ (j : JournalView). j.failed) c.in-Ok.ensures.ledger.1;
      stands = rw (ap (λ (j : JournalView). j.standing) c.in-Ok.ensures.ledger.1, state) stands;
    }
