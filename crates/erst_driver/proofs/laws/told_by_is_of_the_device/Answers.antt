use Rattle.erst_driver.proofs.ToldLemmas.{told_adds, told_device, told_keeps}
use Rattle.erst_driver.proofs.laws.told_by_is_of_the_device.Goals as goal

pub returns : goal.returns
returns c = record {
  device = told_device;
  keeps = told_keeps;
  adds = told_adds;
}
