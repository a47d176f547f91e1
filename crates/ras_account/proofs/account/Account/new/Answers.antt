use Rattle.std.proofs.Common.{◌≡◌, sym, subst}
use Rattle.ras_account.specs.declared.limits.TheConstants.{FIRST_LIMIT, FIRST_MODULE_LIMIT}
use Rattle.ras_account.specs.History.{empty}
use Rattle.ras_account.specs.Account.{account_of}
use Rattle.ras_account.specs.Accounts.{IsAccount}
use Rattle.ras_account.proofs.SoundLemmas.{empty-sound}
use Rattle.ras_account.proofs.account.Account.new.Goals as goal

pub invariant_of-result : goal.invariant_of-result
invariant_of-result c =
    let is : account_of empty ≡ record { names = c.new.result.held; floor = 0; limit = FIRST_LIMIT; module_limit = FIRST_MODULE_LIMIT; entries = 0; total = 0; modules = c.new-2.result.rows; pages = c.new-3.result.rows } =
    λ i. record (account_of empty) { names = sym c.new.ensures.held i; modules = sym c.new-2.ensures.rows i; pages = sym c.new-3.ensures.rows i } in
    subst IsAccount is empty-sound
