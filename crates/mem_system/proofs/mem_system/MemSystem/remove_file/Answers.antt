use Rattle.std.proofs.Common.{[], ◌∙◌}
use Rattle.std.specs.Prelude.{None}
use Rattle.host_system.specs.Folder.{shut, removed}
use Rattle.mem_system.specs.MemSystem.{as_stopped, past_noted}
use Rattle.mem_system.proofs.MemLemmas.{noted, noted_state, held_after, renewed_held}
use Rattle.mem_system.proofs.mem_system.MemSystem.remove_file.Goals as goal

pub invariant_of-self : goal.invariant_of-self
invariant_of-self c = record { held = c.in_err-renew.ensures.err c.self.inside.out.items _ ∙ c.self.invariant.held; before = c.self.invariant.before }

pub invariant_of-self-2 : goal.invariant_of-self-2
invariant_of-self-2 c =
    held_after (removed c.args.name) (past_noted (as_stopped c.self.inside.first) c.self.inside.notes.calls) _ c.self.inside.files c.renew.new.self c.self.inside.out.items c.self.inside.out.items c.self.inside.kept
    (noted (as_stopped c.self.inside.first) 6 c.args.name 0 0 [] _ _ c.note.ensures)
    (renewed_held c.args.name None shut c.self.inside.files c.renew.new.self c.self.inside.out.items c.in_ok-renew.ensures.ok) c.self.invariant

pub returns-clause-ok : goal.returns-clause-ok
returns-clause-ok c = noted_state (removed c.args.name) _ _ _ _ _ _ _ (noted (as_stopped c.self.inside.first) 6 c.args.name 0 0 [] _ _ c.note.ensures) c.self.view_is
