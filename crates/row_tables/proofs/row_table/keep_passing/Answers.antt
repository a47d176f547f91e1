use Rattle.std.proofs.Common.{refl, rules}
use Rattle.row_tables.proofs.HeldLemmas.{kept-RetainsPairs}
use Rattle.row_tables.proofs.row_table.keep_passing.Goals as goal

-- The closure's captures are the count and the test.
pub returns : goal.returns
returns g c =
    kept-RetainsPairs _ (λ f. g.T.KeyTest.passes f.1.now) (λ f. f.0.now)
    (λ f k row b row' f' call. search rules) c.args.table.now.entries _ c.args.held refl c.retain.new.self.entries c.retain.ensures.filtered
