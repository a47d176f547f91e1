use Rattle.std.proofs.Common.{◌+◌, length, refl, ◌∙◌}
use Rattle.host_system.specs.Folder.{wrote, with_now, after_writing}
use Rattle.mem_system.specs.MemSystem.{as_stopped, past_noted}
use Rattle.mem_system.proofs.MemLemmas.{noted, noted_state, held_after, changed_held}
use Rattle.mem_system.proofs.mem_system.MemSystem.write.Goals as goal

pub invariant_of-self : goal.invariant_of-self
invariant_of-self c = record { held = c.in_err-write.ensures.err c.self.inside.out.items _ ∙ c.self.invariant.held; before = c.self.invariant.before }

pub invariant_of-self-2 : goal.invariant_of-self-2
invariant_of-self-2 c =
    held_after (wrote c.args.name c.args.place (length c.args.bytes.now + c.args.missing) c.args.bytes.now) (past_noted (as_stopped c.self.inside.first) c.self.inside.notes.calls) _ c.self.inside.files c.write.new.self c.self.inside.out.items c.self.inside.out.items c.self.inside.kept
    (noted (as_stopped c.self.inside.first) 0 c.args.name c.args.place (length c.args.bytes.now + c.args.missing) c.args.bytes.now _ _ c.note.ensures)
    (changed_held c.args.name (with_now (after_writing c.args.place (length c.args.bytes.now + c.args.missing) c.args.bytes.now)) (λ entry. refl) c.self.inside.files c.write.new.self c.self.inside.out.items c.in_ok-write.ensures.ok) c.self.invariant

pub returns-clause-ok : goal.returns-clause-ok
returns-clause-ok c = noted_state (wrote c.args.name c.args.place (length c.args.bytes.now + c.args.missing) c.args.bytes.now) _ _ _ _ _ _ _ (noted (as_stopped c.self.inside.first) 0 c.args.name c.args.place (length c.args.bytes.now + c.args.missing) c.args.bytes.now _ _ c.note.ensures) c.self.view_is
