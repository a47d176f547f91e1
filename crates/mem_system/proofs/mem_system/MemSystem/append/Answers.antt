use Rattle.std.proofs.Common.{[], ◌++◌, ◌∙◌, ℕ, List, sym, subst, refl}
use Rattle.host_system.specs.declared.system.FileName.TheVariants.{New}
use Rattle.host_system.specs.Folder.{printed}
use Rattle.mem_system.specs.MemSystem.{as_stopped, past_noted}
use Rattle.mem_system.specs.Steps.Kept.{Holds}
use Rattle.mem_system.proofs.MemLemmas.{noted, noted_state, held_after, no_text, of_err, of_ok}
use Rattle.mem_system.proofs.mem_system.MemSystem.append.Goals as goal

pub invariant_of-self : goal.invariant_of-self
invariant_of-self c =
    subst (λ (text : List ℕ). Holds (past_noted (as_stopped c.self.inside.first) c.note.new.notes.calls) c.self.inside.files text c.self.inside.kept) (sym (c.extend_from_slice.ensures.items ∙ of_err c.extend_from_slice.result _ _ (sym c.if-is_err.ensures.value)))
    (held_after (printed []) (past_noted (as_stopped c.self.inside.first) c.self.inside.notes.calls) _ c.self.inside.files c.self.inside.files c.self.inside.out.items c.self.inside.out.items c.self.inside.kept
    (noted (as_stopped c.self.inside.first) 9 New 0 0 [] _ _ c.note.ensures) (no_text c.self.inside.files c.self.inside.out.items) c.self.invariant)

pub returns-then-is_err-clause-err : goal.returns-then-is_err-clause-err
returns-then-is_err-clause-err c = noted_state (printed []) _ _ _ _ _ _ _ (noted (as_stopped c.self.inside.first) 9 New 0 0 [] _ _ c.note.ensures) c.self.view_is

pub invariant_of-self-2 : goal.invariant_of-self-2
invariant_of-self-2 c =
    subst (λ (text : List ℕ). Holds (past_noted (as_stopped c.self.inside.first) c.note-2.new.notes.calls) c.self.inside.files text c.self.inside.kept) (sym (c.extend_from_slice.ensures.items ∙ of_ok c.extend_from_slice.result _ _ (sym c.if-is_err.ensures.value)))
    (held_after (printed c.args.bytes.now) (past_noted (as_stopped c.self.inside.first) c.self.inside.notes.calls) _ c.self.inside.files c.self.inside.files c.self.inside.out.items (c.self.inside.out.items ++ c.args.bytes.now) c.self.inside.kept
    (noted (as_stopped c.self.inside.first) 9 New 0 0 c.args.bytes.now _ _ c.note-2.ensures) (λ uses. refl) c.self.invariant)

pub returns-clause-ok : goal.returns-clause-ok
returns-clause-ok c = noted_state (printed c.args.bytes.now) _ _ _ _ _ _ _ (noted (as_stopped c.self.inside.first) 9 New 0 0 c.args.bytes.now _ _ c.note-2.ensures) c.self.view_is
