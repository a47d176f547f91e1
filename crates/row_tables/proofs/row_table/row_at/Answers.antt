use Rattle.row_tables.proofs.HeldLemmas.{lookup-held, lookup-waiting}
use Rattle.row_tables.proofs.row_table.row_at.Goals as goal

pub returns-then-place-held : goal.returns-then-place-held
returns-then-place-held g c = λ key at.
    lookup-held g.K.PartialEq.eq g.met.K.ExactEq.exact key c.args.held c.args.table.now.entries c.args.place c.index.result.now at c.if-place-held.true c.index.ensures

pub returns-else-place-held : goal.returns-else-place-held
returns-else-place-held g c = λ key at.
    lookup-waiting g.K.PartialEq.eq g.met.K.ExactEq.exact key c.args.held c.args.table.now.entries c.args.place at c.if-place-held.false
