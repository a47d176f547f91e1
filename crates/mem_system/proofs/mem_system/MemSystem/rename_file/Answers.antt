use Rattle.std.proofs.Common.{[], ◌∙◌}
use Rattle.host_system.specs.declared.system.FileName.TheVariants.{New}
use Rattle.host_system.specs.Folder.{renamed}
use Rattle.mem_system.specs.MemSystem.{as_stopped, past_noted}
use Rattle.mem_system.proofs.MemLemmas.{noted, noted_state, held_after}
use Rattle.mem_system.proofs.mem_system.MemSystem.rename_file.Goals as goal

pub invariant_of-self : goal.invariant_of-self
invariant_of-self c = record { held = c.in_err-rename.ensures.err c.self.inside.out.items _ ∙ c.self.invariant.held; before = c.self.invariant.before }

pub invariant_of-self-2 : goal.invariant_of-self-2
invariant_of-self-2 c =
    held_after (renamed) (past_noted (as_stopped c.self.inside.first) c.self.inside.notes.calls) _ c.self.inside.files c.rename.new.self c.self.inside.out.items c.self.inside.out.items c.self.inside.kept
    (noted (as_stopped c.self.inside.first) 7 New 0 0 [] _ _ c.note.ensures)
    (c.in_ok-rename.ensures.ok c.self.inside.out.items) c.self.invariant

pub returns-clause-ok : goal.returns-clause-ok
returns-clause-ok c = noted_state (renamed) _ _ _ _ _ _ _ (noted (as_stopped c.self.inside.first) 7 New 0 0 [] _ _ c.note.ensures) c.self.view_is
