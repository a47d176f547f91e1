use Rattle.std.proofs.Common.{ap}
use Rattle.mem_system.specs.MemSystem.{as_stopped, past_noted, MemState}
use Rattle.mem_system.proofs.MemLemmas.{left_now}
use Rattle.mem_system.proofs.mem_system.MemSystem.left.Goals as goal

pub returns : goal.returns
returns c =
    left_now c.left_of_folder.result (past_noted (as_stopped c.self.inside.first) c.self.inside.notes.calls) c.args.self.now.past c.self.inside.files c.self.inside.out.items c.deref.result.now (ap (λ (s : MemState). s.past) c.self.view_is) c.self.invariant.held
    c.deref.ensures.value c.left_of_folder.ensures
