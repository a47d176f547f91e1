use Rattle.std.proofs.Common.{◌∙◌, ◌≡◌, arith, ap}
use Rattle.std.proofs.lemmas.List.Sums.{prefix_len-le-length}
use Rattle.dimm_topology.specs.Steps.Ranges.{ends_before, put_in}
use Rattle.dimm_topology.proofs.RangeLemmas.{put_at, rising_put}
use Rattle.dimm_topology.proofs.ranges.Ranges.put.Goals as goal

pub insert-requires : goal.insert-requires
insert-requires c =
    omega (arith, prefix_len-le-length (ends_before c.args.range.first) c.deref.result.now, c.place-place.ensures, c.deref.ensures.len)

placed : (c : goal.In_ok-insert) → c.insert.new.self.items ≡ put_in c.args.range c.self.inside.ranges.items
placed c =
    c.in_ok-insert.ensures.items ∙ rw (c.place-place.ensures, c.deref.ensures.value) (put_at c.args.range c.self.inside.ranges.items)

pub invariant_of-self-2 : goal.invariant_of-self-2
invariant_of-self-2 c = rw (placed c) (rising_put c.args.range c.self.inside.ranges.items c.requires.upright (rw c.self.view_is c.requires.free) c.self.invariant)

pub returns-clause-ok : goal.returns-clause-ok
returns-clause-ok c = placed c ∙ ap (put_in c.args.range) c.self.view_is
