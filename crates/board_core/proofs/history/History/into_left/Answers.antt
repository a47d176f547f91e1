use Rattle.std.proofs.Common.{ap}
use Rattle.board_core.specs.Stop.{Left}
use Rattle.board_core.proofs.LeavingLemmas.{picked_zero, picked_one}
use Rattle.board_core.proofs.history.History.into_left.Goals as goal

pub returns-clause-zero : goal.returns-clause-zero
returns-clause-zero c = rw (← c.self.view_is) (picked_zero c.args.pick c.self.inside.zero c.self.inside.one c.self.inside.first_store c.self.inside.slow c.self.inside.events.items c.self.inside.zero.bytes.items c.in_ok-file0.file0.items (ap (λ (l : Left). l.file0) c.self.invariant.0) (rw c.deref.ensures.value at c.in_ok-file0.ensures))

pub returns-clause-one : goal.returns-clause-one
returns-clause-one c = rw (← c.self.view_is) (picked_one c.args.pick c.self.inside.zero c.self.inside.one c.self.inside.first_store c.self.inside.slow c.self.inside.events.items c.self.inside.one.bytes.items c.in_ok-file1.file1.items (ap (λ (l : Left). l.file1) c.self.invariant.0) (rw c.deref-2.ensures.value at c.in_ok-file1.ensures))
