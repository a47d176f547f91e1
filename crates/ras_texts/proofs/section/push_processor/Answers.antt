use Rattle.std.proofs.Common.{append_assoc, refl}
use Rattle.ras_texts.specs.Sections.{processor_text}
use Rattle.ras_texts.proofs.section.push_processor.Goals as goal

pub returns : goal.returns
unfolding processor_text
returns c =
    rw (
      c.in_ok-push_field-5.ensures,
      c.in_ok-push_field-4.ensures,
      c.in_ok-push_field-3.ensures,
      c.in_ok-push_field-2.ensures,
      c.in_ok-push_field.ensures,
    )
    (simp append_assoc refl)
