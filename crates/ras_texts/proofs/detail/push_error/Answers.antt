use Rattle.std.proofs.Common.{append_assoc, refl}
use Rattle.ras_texts.specs.Detail.{error_detail}
use Rattle.ras_texts.proofs.detail.push_error.Goals as goal

pub returns : goal.returns
unfolding error_detail
returns c =
    rw (
      c.in_ok-extend_from_slice-3.ensures.items,
      c.in_ok-extend_from_slice-2.ensures.items,
      c.in_ok-extend_from_slice.ensures.items,
      c.in_ok-push_code.ensures,
      c.mark_field.ensures,
      c.mark_of.ensures.mark,
      c.over_field.ensures,
      c.overflow.ensures,
      c.threshold_field.ensures,
      c.threshold_of.ensures.threshold,
      c.error_code-code.ensures.code,
    )
    (simp append_assoc refl)
