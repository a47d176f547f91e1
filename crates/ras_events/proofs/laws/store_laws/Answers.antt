use Rattle.ras_events.proofs.StoreLemmas.{unreadable-leaves}
use Rattle.ras_events.proofs.laws.store_laws.Goals as goal

pub returns : goal.returns
returns c = record { unread = λ id bytes store unread found. unreadable-leaves id bytes unread store found }
