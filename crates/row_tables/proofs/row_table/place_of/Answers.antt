use Rattle.std.proofs.Common.{◌∙◌, ap, unwrap_or}
use Rattle.row_tables.proofs.HeldLemmas.{is_place}
use Rattle.row_tables.proofs.row_table.place_of.Goals as goal

pub returns-clause-place : goal.returns-clause-place
returns-clause-place g c =
    (is_place g.K.PartialEq.eq g.met.K.ExactEq.exact c.args.key.now c.args.table.now.entries c.len.result c.unwrap_or.result c.requires (c.unwrap_or.ensures ∙ ap (λ o. unwrap_or o c.len.result) c.get_index_of.ensures.index)).0

pub returns-clause-within : goal.returns-clause-within
returns-clause-within g c =
    (is_place g.K.PartialEq.eq g.met.K.ExactEq.exact c.args.key.now c.args.table.now.entries c.len.result c.unwrap_or.result c.requires (c.unwrap_or.ensures ∙ ap (λ o. unwrap_or o c.len.result) c.get_index_of.ensures.index)).1
