use Rattle.std.proofs.Common.{refl, ap, Some}
use Rattle.ras_journal.specs.declared.journal.Journal.{Journal}
use Rattle.ras_journal.specs.Appending.{append_end}
use Rattle.ras_recover.proofs.LiveLemmas.{appended, has_room}
use Rattle.ras_recover.proofs.life.live_append.Goals as goal

pub returns-clause-works : goal.returns-clause-works
returns-clause-works g c = λ entries can. (
  record { standing = c.args.journal.now.standing; link = c.args.link.now; journal = refl; links = can },
  append_end c.append.result,
  has_room c.append.result c.args.journal.now.standing c.args.link.now c.requires.version c.append.ensures.full,
  c.append.ensures.does,
)

pub returns-clause-answered : goal.returns-clause-answered
returns-clause-answered g c = appended g.B.Board.seen c.append.result c.args.journal.now.standing _ c.args.link.now _ _ c.append.ensures.does c.append.ensures.journal c.append.ensures.full (λ journal full does entries can. (
  record { standing = c.args.journal.now.standing; link = c.args.link.now; journal = refl; links = can },
  ap (λ (journal : Journal). Some journal.standing) journal,
  record { version = c.requires.version; room = full },
  does,
))
