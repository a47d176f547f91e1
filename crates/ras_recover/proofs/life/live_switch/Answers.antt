use Rattle.std.proofs.Common.{refl, ap, Some}
use Rattle.ras_journal.specs.declared.journal.Journal.{Journal}
use Rattle.ras_recover.specs.Switching.{switch_end}
use Rattle.ras_recover.proofs.LiveLemmas.{switched}
use Rattle.ras_recover.proofs.life.live_switch.Goals as goal

pub returns-clause-works : goal.returns-clause-works
returns-clause-works g c = (
  record { standing = c.args.journal.now.standing; account = c.args.account.now.state; journal = refl; held = c.requires.held },
  switch_end c.switch_file.result,
  c.switch_file.ensures.can,
  c.switch_file.ensures.does,
)

pub returns-clause-answered : goal.returns-clause-answered
returns-clause-answered g c = switched g.B.Board.seen c.switch_file.result c.args.journal.now.standing _ c.args.account.now.state _ _ c.switch_file.ensures.does c.switch_file.ensures.can c.switch_file.ensures.journal (λ journal can does. (
  record { standing = c.args.journal.now.standing; account = c.args.account.now.state; journal = refl; held = c.requires.held },
  ap (λ (journal : Journal). Some journal.standing) journal,
  can,
  does,
))
