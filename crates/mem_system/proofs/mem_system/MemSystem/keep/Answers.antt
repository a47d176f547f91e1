use Rattle.std.proofs.Common.{List, ℕ, subst}
use Rattle.mem_system.specs.MemSystem.{as_stopped, past_noted}
use Rattle.mem_system.specs.Steps.Kept.{IsCopied}
use Rattle.mem_system.proofs.MemLemmas.{kept_now}
use Rattle.mem_system.proofs.mem_system.MemSystem.keep.Goals as goal

pub invariant_of-self : goal.invariant_of-self
invariant_of-self c = record {
  held = c.self.invariant.held;
  before = kept_now (past_noted (as_stopped c.self.inside.first) c.self.inside.notes.calls) c.self.inside.files c.self.inside.out.items c.kept_folder.result c.self.invariant.held
      (subst (λ (o : List ℕ). IsCopied c.self.inside.files o c.kept_folder.result) c.deref.ensures.value c.kept_folder.ensures);
}
