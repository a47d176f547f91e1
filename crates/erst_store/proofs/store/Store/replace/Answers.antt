use Rattle.std.proofs.Common.{arith}
use Rattle.erst_store.specs.Steps.StoreLemmas.{IsStore-set, views-set}
use Rattle.erst_store.proofs.store.Store.replace.Goals as goal

pub invariant_of-self : goal.invariant_of-self
invariant_of-self c =
    IsStore-set c.self.inside.records.items c.args.self.now c.self.view_is c.self.invariant (record { id = c.args.id; bytes = c.in_ok-bytes.bytes }) c.args.place c.requires.there (rw c.in_ok-bytes.ensures.items c.requires.short) (rw c.in_ok-bytes.ensures.items (λ i. omega (arith, c.type_inv.bytes i)))

pub returns-clause-ok : goal.returns-clause-ok
returns-clause-ok c =
    rw (← c.in_ok-bytes.ensures.items) (views-set c.self.inside.records.items c.args.self.now c.self.view_is c.self.invariant (record { id = c.args.id; bytes = c.in_ok-bytes.bytes }) c.args.place c.requires.there)

pub returns-clause-kept : goal.returns-clause-kept
returns-clause-kept c =
    IsStore-set c.self.inside.records.items c.args.self.now c.self.view_is c.self.invariant (record { id = c.args.id; bytes = c.in_ok-bytes.bytes }) c.args.place c.requires.there (rw c.in_ok-bytes.ensures.items c.requires.short) (rw c.in_ok-bytes.ensures.items (λ i. omega (arith, c.type_inv.bytes i)))
