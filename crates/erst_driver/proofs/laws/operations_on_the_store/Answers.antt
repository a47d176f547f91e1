use Rattle.erst_driver.proofs.MomentLemmas.{clear_here, clear_moment, list_here, list_moment, read_here, read_moment, write_here, write_moment}
use Rattle.erst_driver.proofs.laws.operations_on_the_store.Goals as goal

pub returns : goal.returns
returns c = record {
  clear = clear_here;
  clear_moments = clear_moment;
  read = read_here;
  read_moments = read_moment;
  list = list_here;
  list_moments = list_moment;
  write = write_here;
  write_moments = write_moment;
}
