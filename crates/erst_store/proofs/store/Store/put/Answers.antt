use Rattle.erst_store.specs.Steps.StoreLemmas.{found-with_record, others-with_record}
use Rattle.erst_store.proofs.store.Store.put.Goals as goal

pub returns-in_ok-replace-in-Some-place-clause-found : goal.returns-in_ok-replace-in-Some-place-clause-found
returns-in_ok-replace-in-Some-place-clause-found c = rw c.in_ok-replace-in-Some-place.ensures.ok (found-with_record c.args.id c.args.bytes.now c.args.self.now)

pub returns-in_ok-replace-in-Some-place-clause-others : goal.returns-in_ok-replace-in-Some-place-clause-others
returns-in_ok-replace-in-Some-place-clause-others c = rw c.in_ok-replace-in-Some-place.ensures.ok (others-with_record c.args.id c.args.bytes.now c.args.self.now)

pub returns-in_ok-push-in-None-clause-found : goal.returns-in_ok-push-in-None-clause-found
returns-in_ok-push-in-None-clause-found c = rw c.in_ok-push-in-None.ensures.ok (found-with_record c.args.id c.args.bytes.now c.args.self.now)

pub returns-in_ok-push-in-None-clause-others : goal.returns-in_ok-push-in-None-clause-others
returns-in_ok-push-in-None-clause-others c = rw c.in_ok-push-in-None.ensures.ok (others-with_record c.args.id c.args.bytes.now c.args.self.now)
