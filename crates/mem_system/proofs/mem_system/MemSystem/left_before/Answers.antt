use Rattle.std.proofs.Common.{ap}
use Rattle.mem_system.specs.MemSystem.{as_stopped, past_noted, MemState}
use Rattle.mem_system.proofs.MemLemmas.{left_then}
use Rattle.mem_system.proofs.mem_system.MemSystem.left_before.Goals as goal

pub returns-in_ok-left-in-Folder : goal.returns-in_ok-left-in-Folder
returns-in_ok-left-in-Folder c =
    left_then (past_noted (as_stopped c.self.inside.first) c.self.inside.notes.calls) c.args.self.now.past c.self.inside.kept _ _ c.deref.result.now (as_stopped c.in_ok-left-in-Folder.left) (ap (λ (s : MemState). s.past) c.self.view_is) c.self.invariant.before c.in-Folder.is
    c.deref.ensures.value c.in_ok-left-in-Folder.ensures
