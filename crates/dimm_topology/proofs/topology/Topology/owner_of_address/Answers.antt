use Rattle.std.proofs.Common.{ap, sym, ◌∙◌, option_map, option_copied}
use Rattle.dimm_topology.specs.Owners.{owner_of_address}
use Rattle.dimm_topology.specs.declared.ranges.HeldRange.{HeldRange}
use Rattle.dimm_topology.proofs.topology.Topology.owner_of_address.Goals as goal

pub returns-in_err-range : goal.returns-in_err-range
returns-in_err-range c =
    ap option_copied c.from_residual.ensures ∙ ap (option_map (λ (range : HeldRange). range.label)) c.in_err-range.ensures
    ∙ sym (c.self.invariant.1.owned c.args.address) ∙ ap (λ rows. owner_of_address rows c.args.address) c.self.view_is

pub returns : goal.returns
returns c =
    ap (option_map (λ (range : HeldRange). range.label)) c.in_ok-range.ensures
    ∙ sym (c.self.invariant.1.owned c.args.address) ∙ ap (λ rows. owner_of_address rows c.args.address) c.self.view_is
