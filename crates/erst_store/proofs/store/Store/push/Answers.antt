use Rattle.erst_store.specs.Steps.StoreLemmas.{IsStore-pushed, views-push}
use Rattle.erst_store.proofs.store.Store.push.Goals as goal

pub invariant_of-self-2 : goal.invariant_of-self-2
invariant_of-self-2 c =
    rw c.in_ok-push.ensures.items (IsStore-pushed c.self.inside.records.items c.args.self.now c.self.view_is c.self.invariant (record { id = c.args.id; bytes = c.in_ok-bytes.bytes }) c.requires.new (rw c.in_ok-bytes.ensures.items c.requires.fits) c.requires.room)

pub returns-clause-ok : goal.returns-clause-ok
returns-clause-ok c =
    rw (c.in_ok-push.ensures.items, ← c.in_ok-bytes.ensures.items) (views-push c.self.inside.records.items c.args.self.now c.self.view_is c.self.invariant (record { id = c.args.id; bytes = c.in_ok-bytes.bytes }) c.requires.new)

pub returns-clause-kept : goal.returns-clause-kept
returns-clause-kept c =
    rw c.in_ok-push.ensures.items (IsStore-pushed c.self.inside.records.items c.args.self.now c.self.view_is c.self.invariant (record { id = c.args.id; bytes = c.in_ok-bytes.bytes }) c.requires.new (rw c.in_ok-bytes.ensures.items c.requires.fits) c.requires.room)
