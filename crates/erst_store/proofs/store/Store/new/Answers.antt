use Rattle.erst_store.specs.Steps.StoreLemmas.{IsStore-nil}
use Rattle.erst_store.proofs.store.Store.new.Goals as goal

pub invariant_of-result : goal.invariant_of-result
invariant_of-result c = rw c.new.ensures.items IsStore-nil
