use Rattle.mem_system.proofs.left_folder.left_of_folder.Goals as goal

pub returns : goal.returns
returns c = λ uses. record {
  zero = c.in_ok-left_of_name.ensures;
  one = c.in_ok-left_of_name-2.ensures;
  store = c.in_ok-left_of_name-3.ensures;
  new = c.in_ok-left_of_name-4.ensures;
  out = c.in_ok-from_slice.ensures.items;
}
