use Rattle.std.proofs.Common.{◌≡◌, take}
use Rattle.ras_account.specs.Tallies.{IsTallyOf}
use Rattle.ras_account.proofs.account.Account.let_wait.Given as goal

-- The entries so far are in the tally.
abbrev pub invariant-loop-entry : goal.invariant-loop-entry
invariant-loop-entry l = (l.self.state ≡ l.fn.self.state) × IsTallyOf l.self l.tally (take l.entry-index l.entries)
