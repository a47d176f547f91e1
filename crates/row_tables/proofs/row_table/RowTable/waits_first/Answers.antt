use Rattle.std.proofs.Common.{◌≡◌, ◌<◌, ◌∙◌, sym, ap, length, arith, get_or}
use Rattle.std.specs.Map.{keys_of}
use Rattle.std.proofs.lemmas.Bool.{OnTrue_from}
use Rattle.row_tables.specs.Held.{Held, is_held}
use Rattle.row_tables.proofs.HeldLemmas.{apart_before}
use Rattle.row_tables.proofs.row_table.RowTable.waits_first.Goals as goal

pub returns-then-self-len-clause-apart : goal.returns-then-self-len-clause-apart
returns-then-self-len-clause-apart g c =
    let within : c.self.inside.held < length c.self.inside.table.entries = omega (arith, c.if-self-len.true, c.len.ensures.len) in
    let keys : c.as_slice.result.now ≡ keys_of c.self.inside.table.entries = c.as_slice.ensures ∙ c.keys.ensures.rest in
    OnTrue_from c.eq.result _ (λ first.
    ap (λ (v : Held g.row.K.Denot g.row.R.Denot). is_held g.K.PartialEq.eq v.rows c.args.key.now) (sym c.self.view_is)
    ∙ apart_before g.K.PartialEq.eq g.met.K.ExactEq.exact c.args.key.now c.self.inside.table.entries c.self.inside.held c.index-as_slice-self.result c.len.ensures.unique within
    (ap (g.K.PartialEq.eq c.args.key.now) (sym (c.index-as_slice-self.is ∙ ap (λ ks. get_or ks c.self.inside.held c.index-as_slice-self.result) keys))
    ∙ sym c.eq.ensures ∙ first))
