use Rattle.std.proofs.Common.{[], refl}
use Rattle.host_system.specs.Folder.{synced, with_now}
use Rattle.host_system.specs.Steps.FolderLemmas.{after_syncing}
use Rattle.mem_system.specs.MemSystem.{as_stopped, past_noted}
use Rattle.mem_system.proofs.MemLemmas.{noted, noted_state, held_after, changed_held}
use Rattle.mem_system.proofs.mem_system.MemSystem.sync_file.Goals as goal

pub invariant_of-self : goal.invariant_of-self
invariant_of-self c =
    held_after (synced c.args.name) (past_noted (as_stopped c.self.inside.first) c.self.inside.notes.calls) _ c.self.inside.files c.sync.new.self c.self.inside.out.items c.self.inside.out.items c.self.inside.kept
    (noted (as_stopped c.self.inside.first) 1 c.args.name 0 0 [] _ _ c.note.ensures)
    (changed_held c.args.name (with_now after_syncing) (λ entry. refl) c.self.inside.files c.sync.new.self c.self.inside.out.items c.sync.ensures) c.self.invariant

pub returns : goal.returns
returns c = noted_state (synced c.args.name) _ _ _ _ _ _ _ (noted (as_stopped c.self.inside.first) 1 c.args.name 0 0 [] _ _ c.note.ensures) c.self.view_is
