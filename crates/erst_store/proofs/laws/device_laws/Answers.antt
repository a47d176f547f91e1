use Rattle.std.proofs.Common.{refl}
use Rattle.erst_store.specs.Device.{with_put}
use Rattle.erst_store.specs.Steps.KeptLemmas.{IsDevice-new, IsDevice-act, IsDevice-value, IsDevice-range, IsDevice-put}
use Rattle.erst_store.proofs.laws.device_laws.Goals as goal

pub returns-clause-new : goal.returns-clause-new
returns-clause-new c = λ store slow is fits. IsDevice-new store slow is fits

pub returns-clause-action : goal.returns-clause-action
returns-clause-action c = λ action d is fits. IsDevice-act action d is fits

pub returns-clause-value : goal.returns-clause-value
returns-clause-value c = λ value d is fits. IsDevice-value value d is fits

pub returns-clause-range : goal.returns-clause-range
returns-clause-range c = λ place bytes d is are room. IsDevice-range place bytes d is are room

pub returns-clause-put : goal.returns-clause-put
returns-clause-put c = λ id bytes d is fits are free. IsDevice-put id bytes d is fits are free

pub returns-clause-stored : goal.returns-clause-stored
unfolding with_put
returns-clause-stored c = λ id bytes d. refl
