-- A look-up finds the only source with an identifier.
use Rattle.std.proofs.Common.{◌∙◌, ap, nat_eq, subst}
use Rattle.std.specs.List.{IsDistinct}
use Rattle.std.specs.Map.{keys_of}
use Rattle.apei_sources.specs.Hest.{Sources, type_with_id}
use Rattle.apei_sources.proofs.LookupLemmas.{one_of, none_of}
use Rattle.apei_sources.proofs.hest_table.Hest.source.Goals as goal

pub returns-clause-one : goal.returns-clause-one
returns-clause-one c = λ kind.
    let P : Sources → Type 0 = λ sources. IsDistinct nat_eq (keys_of sources) in
    one_of c.args.self.now c.args.id kind c.copied.result (subst P c.self.view_is c.self.invariant)
    (c.copied.ensures ∙ c.get.ensures.value ∙ ap (type_with_id c.args.id) c.self.view_is)

pub returns-clause-none : goal.returns-clause-none
returns-clause-none c =
    none_of c.args.self.now c.args.id c.copied.result
    (c.copied.ensures ∙ c.get.ensures.value ∙ ap (type_with_id c.args.id) c.self.view_is)
