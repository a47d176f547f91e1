use Rattle.std.proofs.Common.{◌≡◌, ◌∙◌, true, false, not, sym, ap, is_some, Some, Result, Ok, Err, OnErr}
use Rattle.std.specs.Map.{lookup}
use Rattle.indexmap.specs.IndexMap.{set_value_at}
use Rattle.row_tables.specs.Held.{is_held}
use Rattle.row_tables.proofs.HeldLemmas.{insert_entry-last, inserted-new, inserted-known, put_back, is_in-lookup}
use Rattle.row_tables.proofs.row_table.insert_last.Given.{Over}
use Rattle.row_tables.proofs.row_table.insert_last.Goals as goal

absent : (g : Over) (c : goal.In-None g) → is_held g.K.PartialEq.eq c.args.table.now.entries c.args.key ≡ false
absent g c =
    sym (is_in-lookup g.K.PartialEq.eq g.met.K.ExactEq.exact c.args.key c.args.table.now.entries)
    ∙ ap is_some (sym c.in_ok-place.ensures.old ∙ c.in-None.is)

there : (g : Over) (c : goal.After-table-1 g) → lookup (g.K.PartialEq.eq c.args.key) c.args.table.now.entries ≡ Some c.in-Some.known
there g c = sym c.in_ok-place.ensures.old ∙ c.in-Some.is

known : (g : Over) (c : goal.After-table-1 g) → is_held g.K.PartialEq.eq c.args.table.now.entries c.args.key ≡ true
known g c = sym (is_in-lookup g.K.PartialEq.eq g.met.K.ExactEq.exact c.args.key c.args.table.now.entries) ∙ ap is_some (there g c)

pub returns-in-None-clause-ok : goal.returns-in-None-clause-ok
returns-in-None-clause-ok g c =
    c.in_ok-place.ensures.entries
    ∙ insert_entry-last g.K.PartialEq.eq g.met.K.ExactEq.exact c.args.key c.args.table.now.entries c.args.row (absent g c)
    ∙ inserted-new g.K.PartialEq.eq g.met.K.ExactEq.exact c.args.key c.args.table.now.entries c.args.row (absent g c)

pub returns-in-None-clause-fresh : goal.returns-in-None-clause-fresh
returns-in-None-clause-fresh g c = ap not (sym (absent g c))

pub returns-in-Some-clause-ok : goal.returns-in-Some-clause-ok
returns-in-Some-clause-ok g c =
    (λ i. set_value_at (c.in_ok-place.ensures.entries i) (c.in_ok-place.ensures.index i) c.in-Some.known)
    ∙ put_back g.K.PartialEq.eq g.met.K.ExactEq.exact c.args.key c.args.table.now.entries c.args.row c.in-Some.known (there g c)
    ∙ inserted-known g.K.PartialEq.eq g.met.K.ExactEq.exact c.args.key c.args.table.now.entries c.args.row (known g c)

pub returns-in-Some-clause-fresh : goal.returns-in-Some-clause-fresh
returns-in-Some-clause-fresh g c = ap not (sym (known g c))

-- What holds of a refusal.
on_err : {T E P : Type 0} (r : Result T E) → P → OnErr r P
on_err (Ok value) p = tt
on_err (Err error) p = p

pub returns-in_err-place-clause-absent : goal.returns-in_err-place-clause-absent
returns-in_err-place-clause-absent g c =
    on_err c.from_residual.result
    (sym (is_in-lookup g.K.PartialEq.eq g.met.K.ExactEq.exact c.args.key c.args.table.now.entries) ∙ ap is_some c.in_err-place.ensures.absent)
