use Rattle.std.proofs.Common.{◌≡◌, refl, ap, ◌∙◌, arith, Some, None}
use Rattle.std.proofs.lemmas.Grind.{common_steps}
use Rattle.std.proofs.lemmas.Bool.Decides.{nat_tests}
use Rattle.std.proofs.lemmas.Option.{slice_get_read, slice_get_past}
use Rattle.std.specs.List.{find, slice_get, prefix_len}
use Rattle.dimm_topology.specs.Steps.Ranges.{meets, ends_before}
use Rattle.dimm_topology.proofs.RangeLemmas.{first_meeting, begun}
use Rattle.dimm_topology.proofs.ranges.Ranges.meeting.Goals as goal

pub returns-in_err-range : goal.returns-in_err-range
returns-in_err-range c =
    let ranges = c.self.inside.ranges.items in
    let past = slice_get_past c.deref.result.now c.place.result c.in_err-range.ensures.lookup.3 in
    let none : slice_get ranges (prefix_len (ends_before c.args.first) ranges) ≡ None = cc in
    let found : find (meets c.args.first c.args.last) ranges ≡ None =
    first_meeting c.args.first c.args.last ranges c.requires c.self.invariant ∙ ap (begun c.args.last) none in
    cc

pub returns : goal.returns
returns c =
    let ranges = c.self.inside.ranges.items in
    let range = c.in_ok-range.range.now in
    let read = slice_get_read c.deref.result.now _ c.place.result range refl c.in_ok-range.ensures.lookup.3.0 c.in_ok-range.ensures.lookup.1 in
    let some : slice_get ranges (prefix_len (ends_before c.args.first) ranges) ≡ Some range = cc in
    let found : find (meets c.args.first c.args.last) ranges ≡ begun c.args.last (Some range) =
    first_meeting c.args.first c.args.last ranges c.requires c.self.invariant ∙ ap (begun c.args.last) some in
    let view = c.self.view_is in
    let answer = c.then_some.ensures in
    grind (arith, common_steps, nat_tests, found, view, answer)
