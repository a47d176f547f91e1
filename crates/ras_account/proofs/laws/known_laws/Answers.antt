use Rattle.ras_account.proofs.KnownLemmas.{knows-history, knows-followed, knows-after_all, knows-each}
use Rattle.ras_account.proofs.laws.known_laws.Goals as goal

pub returns-clause-known : goal.returns-clause-known
returns-clause-known c = knows-history

pub returns-clause-known_after : goal.returns-clause-known_after
returns-clause-known_after c = knows-followed

pub returns-clause-known_after_entries : goal.returns-clause-known_after_entries
returns-clause-known_after_entries c = knows-after_all

pub returns-clause-counted : goal.returns-clause-counted
returns-clause-counted c = knows-each
