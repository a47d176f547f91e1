use Rattle.std.proofs.Common.{rules}
use Rattle.ras_account.proofs.StateLemmas.{fresh-news, fresh-history, stale-history}
use Rattle.ras_account.proofs.account.Account.is_fresh.Goals as goal

pub returns-then-admits-clause-history : goal.returns-then-admits-clause-history
returns-then-admits-clause-history c = fresh-history c.args.self.now.state c.args.entry.now _ (search (rules, fresh-news c.args.self.now.state c.args.entry.now))

pub returns-then-admits-clause-stale : goal.returns-then-admits-clause-stale
returns-then-admits-clause-stale c = stale-history c.args.self.now.state c.args.entry.now _ (search (rules, fresh-news c.args.self.now.state c.args.entry.now))
