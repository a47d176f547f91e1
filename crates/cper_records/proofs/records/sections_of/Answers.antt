-- If no test refuses them, the bytes are a record.
use Rattle.std.proofs.Common.{◌≡◌, ◌∙◌, sym, false, arith}
use Rattle.cper_records.specs.Header.{section_count}
use Rattle.cper_records.specs.Descriptors.{section_at, is_out, is_section_refused, some_below}
use Rattle.cper_records.proofs.BelowLemmas.{inside_each, some_below_each}
use Rattle.cper_records.proofs.LaidLemmas.{refused_err, ok_not_err}
use Rattle.cper_records.proofs.records.sections_of.Goals as goal

pub invariant_of-result : goal.invariant_of-result
invariant_of-result c =
    let bytes = c.args.bytes.now in
    let count = section_count bytes in
    let none_out : some_below count (is_out bytes) ≡ false =
    rw c.u16_at-count.ensures at (sym c.is_some_out.ensures ∙ c.if-is_some_out.false) in
    let none_refused : some_below count (is_section_refused bytes) ≡ false =
    rw c.u16_at-count.ensures at (sym c.is_some_refused.ensures ∙ c.if-is_some_refused.false) in
    record {
      front = c.requires;
      descriptors = omega (arith, c.u16_at-count.ensures, c.descriptor_at.ensures, c.if-bytes-descriptor_at.false);
      inside = λ i below. inside_each bytes count i none_out below;
      readable = λ i below. ok_not_err (section_at bytes i)
          (sym (refused_err bytes i) ∙ some_below_each count i (is_section_refused bytes) none_refused below);
    }
