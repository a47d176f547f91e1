use Rattle.std.proofs.Common.{[], Some, subst, ◌∙◌}
use Rattle.host_system.specs.Folder.{FolderFile, opened, made}
use Rattle.host_system.specs.Steps.FolderLemmas.{empty_file}
use Rattle.mem_system.specs.Steps.MemFiles.{IsRenewed}
use Rattle.mem_system.specs.MemSystem.{as_stopped, past_noted}
use Rattle.mem_system.proofs.MemLemmas.{noted, noted_state, held_after, renewed_held}
use Rattle.mem_system.proofs.mem_system.MemSystem.make_file.Goals as goal

pub invariant_of-self : goal.invariant_of-self
invariant_of-self c = record { held = c.in_err-renew.ensures.err c.self.inside.out.items _ ∙ c.self.invariant.held; before = c.self.invariant.before }

pub invariant_of-self-2 : goal.invariant_of-self-2
invariant_of-self-2 c =
    held_after (made c.args.name) (past_noted (as_stopped c.self.inside.first) c.self.inside.notes.calls) _ c.self.inside.files c.renew.new.self c.self.inside.out.items c.self.inside.out.items c.self.inside.kept
    (noted (as_stopped c.self.inside.first) 2 c.args.name 0 0 [] _ _ c.note.ensures)
    (renewed_held c.args.name (Some empty_file) opened c.self.inside.files c.renew.new.self c.self.inside.out.items
    (subst (λ (f : FolderFile). IsRenewed c.args.name (Some f) c.self.inside.files c.renew.new.self) c.empty-file.ensures c.in_ok-renew.ensures.ok)) c.self.invariant

pub returns-clause-ok : goal.returns-clause-ok
returns-clause-ok c = noted_state (made c.args.name) _ _ _ _ _ _ _ (noted (as_stopped c.self.inside.first) 2 c.args.name 0 0 [] _ _ c.note.ensures) c.self.view_is
