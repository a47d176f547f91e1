use Rattle.std.proofs.Common.{append_assoc, refl}
use Rattle.ras_texts.specs.Sections.{memory_text}
use Rattle.ras_texts.proofs.section.push_memory.Goals as goal

pub returns : goal.returns
unfolding memory_text
returns c =
    rw (
      c.in_ok-push_digits.ensures,
      c.in_ok-push_place-3.ensures,
      c.in_ok-push_place-2.ensures,
      c.in_ok-push_place.ensures,
      c.in_ok-push_type.ensures,
      c.in_ok-extend_from_slice.ensures.items,
    )
    (simp append_assoc refl)
