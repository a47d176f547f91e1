use Rattle.std.proofs.Common.{append_assoc, refl}
use Rattle.listing_texts.proofs.listing.push_counts.Goals as goal

pub returns : goal.returns
returns c =
    rw (
      c.in_ok-push.ensures.items,
      c.in_ok-push_class_counts.ensures,
      c.in_ok-push_label.ensures,
      c.in_ok-extend_from_slice.ensures.items,
    )
    (simp append_assoc refl)
