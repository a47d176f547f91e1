use Rattle.std.proofs.Common.{[]}
use Rattle.host_system.specs.declared.system.FileName.TheVariants.{New}
use Rattle.host_system.specs.Folder.{synced_names}
use Rattle.mem_system.specs.MemSystem.{as_stopped, past_noted}
use Rattle.mem_system.proofs.MemLemmas.{noted, noted_state, held_after}
use Rattle.mem_system.proofs.mem_system.MemSystem.settle.Goals as goal

pub invariant_of-self : goal.invariant_of-self
invariant_of-self c =
    held_after (synced_names) (past_noted (as_stopped c.self.inside.first) c.self.inside.notes.calls) _ c.self.inside.files c.settle.new.self c.self.inside.out.items c.self.inside.out.items c.self.inside.kept
    (noted (as_stopped c.self.inside.first) 8 New 0 0 [] _ _ c.note.ensures)
    (c.settle.ensures c.self.inside.out.items) c.self.invariant

pub returns : goal.returns
returns c = noted_state (synced_names) _ _ _ _ _ _ _ (noted (as_stopped c.self.inside.first) 8 New 0 0 [] _ _ c.note.ensures) c.self.view_is
