use Rattle.erst_store.specs.Steps.StoreLemmas.{IsStore-removed, removed_is}
use Rattle.erst_store.proofs.store.Store.remove_at.Goals as goal

pub invariant_of-self : goal.invariant_of-self
invariant_of-self c = rw c.remove.ensures.items (IsStore-removed c.self.inside.records.items c.args.self.now c.self.view_is c.self.invariant c.args.id c.args.place c.requires)

pub returns-clause-rest : goal.returns-clause-rest
returns-clause-rest c = rw c.remove.ensures.items (removed_is c.self.inside.records.items c.args.self.now c.self.view_is c.self.invariant c.args.id c.args.place c.requires)

pub returns-clause-kept : goal.returns-clause-kept
returns-clause-kept c = rw c.remove.ensures.items (IsStore-removed c.self.inside.records.items c.args.self.now c.self.view_is c.self.invariant c.args.id c.args.place c.requires)
