use Rattle.std.proofs.Common.{[]}
use Rattle.host_system.specs.Folder.{locks, locked}
use Rattle.mem_system.specs.MemSystem.{as_stopped, past_noted}
use Rattle.mem_system.proofs.MemLemmas.{noted, noted_state, held_after, used_held}
use Rattle.mem_system.proofs.mem_system.MemSystem.lock_file.Goals as goal

pub invariant_of-self : goal.invariant_of-self
invariant_of-self c =
    held_after (locks c.args.name) (past_noted (as_stopped c.self.inside.first) c.self.inside.notes.calls) _ c.self.inside.files c.self.inside.files c.self.inside.out.items c.self.inside.out.items c.self.inside.kept
    (noted (as_stopped c.self.inside.first) 4 c.args.name 0 0 [] _ _ c.note.ensures)
    (used_held c.args.name locked c.self.inside.files c.self.inside.out.items) c.self.invariant

pub returns : goal.returns
returns c = noted_state (locks c.args.name) _ _ _ _ _ _ _ (noted (as_stopped c.self.inside.first) 4 c.args.name 0 0 [] _ _ c.note.ensures) c.self.view_is
