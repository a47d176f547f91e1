use Rattle.std.proofs.Common.{◌≡◌, length, List, ℕ, ap, ◌∙◌, ◌++◌, arith}
use Rattle.std.specs.Vec.{vec_len}
use Rattle.cper_pcie.proofs.ReportLemmas.{filled-is}
use Rattle.cper_pcie.proofs.reports.fill.Goals as goal

pub returns : goal.returns
returns c =
    let held : c.extend_from_slice.new.self.items ≡ c.args.bytes.now =
    c.in_ok-extend_from_slice.ensures.items ∙ ap (λ (t : List ℕ). t ++ c.args.bytes.now) (c.in_ok-reserve.ensures.items ∙ c.clear.ensures.items) in
    let count : vec_len c.extend_from_slice.new.self ≡ length c.args.bytes.now =
    omega (arith, c.in_ok-extend_from_slice.ensures.len, c.in_ok-reserve.ensures.len, c.clear.ensures.len) in
    c.in_ok-resize.ensures.items ∙ filled-is c.args.bytes.now c.extend_from_slice.new.self.items (vec_len c.extend_from_slice.new.self) held count c.requires
