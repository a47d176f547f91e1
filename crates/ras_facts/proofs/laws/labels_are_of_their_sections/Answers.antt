-- The item at an index is the item of the section there.
use Rattle.std.proofs.Common.{Some, ap, ◌∙◌, sym}
use Rattle.ras_facts.specs.Reported.{section_label}
use Rattle.ras_facts.proofs.ItemLemmas.{record_label}
use Rattle.ras_facts.proofs.laws.labels_are_of_their_sections.Goals as goal

pub returns : goal.returns
returns c = λ rows seconds later i j one other below there same.
    record_label rows seconds one i below ∙ ap (λ read. Some (section_label rows read)) same ∙ sym (record_label rows later other j there)
