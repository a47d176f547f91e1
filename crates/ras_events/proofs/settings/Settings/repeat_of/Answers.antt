use Rattle.std.proofs.Common.{sym}
use Rattle.ras_events.proofs.RepeatLemmas.{bank_repeats}
use Rattle.ras_events.proofs.settings.Settings.repeat_of.Goals as goal

pub returns-clause-repeats : goal.returns-clause-repeats
returns-clause-repeats c =
    rw c.in_ok-bank.ensures.bank
    (bank_repeats c.args.account.now.state c.args.self.now c.in_ok-bank.bank.now c.in_ok-name.name
    (c.in_ok-name.ensures.name c.args.self.now.topology) (c.in_ok-name.ensures.valid c.args.self.now.topology c.invariant.ensures) (sym c.if-not-knows.ensures.known) c.if-not-knows.ensures.account)
