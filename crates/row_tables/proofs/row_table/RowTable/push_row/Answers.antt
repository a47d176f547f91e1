use Rattle.std.proofs.Common.{◌≡◌, ◌++◌, [], ◌∷◌, List, take, true, false, ◌∙◌, sym, ap, refl, true≢false}
use Rattle.std.proofs.Math.Seq.{take-length}
use Rattle.row_tables.specs.Held.{is_held}
use Rattle.row_tables.proofs.HeldLemmas.{not_true, not_false, rows_are, inserted-new}
use Rattle.row_tables.proofs.row_table.RowTable.push_row.Goals as goal

pub returns-in-Ok-true-clause-ok : goal.returns-in-Ok-true-clause-ok
returns-in-Ok-true-clause-ok g c =
    let all : c.self.inside.table.entries ≡ c.args.self.now.rows =
    rows_are c.self.inside.held c.self.inside.table.entries c.args.self.now c.self.invariant c.self.view_is c.requires in
    let fresh : is_held g.K.PartialEq.eq c.self.inside.table.entries c.args.key ≡ false = not_true _ (sym c.in-Ok-true.field-0-test ∙ c.in-Ok-true.ensures.fresh) in
    ap (λ n. take n c.insert_last.new.table.entries) c.len-self-inside.ensures.len ∙ take-length c.insert_last.new.table.entries
    ∙ c.in-Ok-true.ensures.ok
    ∙ sym (inserted-new g.K.PartialEq.eq g.met.K.ExactEq.exact c.args.key c.self.inside.table.entries c.args.row fresh)
    ∙ ap (λ (es : List (g.row.K.Denot × g.row.R.Denot)). es ++ (c.args.key, c.args.row) ∷ []) all

pub returns-in-Ok-true-clause-repeated : goal.returns-in-Ok-true-clause-repeated
returns-in-Ok-true-clause-repeated g c =
    let all : c.self.inside.table.entries ≡ c.args.self.now.rows =
    rows_are c.self.inside.held c.self.inside.table.entries c.args.self.now c.self.invariant c.self.view_is c.requires in
    let fresh : is_held g.K.PartialEq.eq c.self.inside.table.entries c.args.key ≡ false = not_true _ (sym c.in-Ok-true.field-0-test ∙ c.in-Ok-true.ensures.fresh) in
    (λ is. cc, λ held. absurd (true≢false (sym held ∙ ap (λ (es : List (g.row.K.Denot × g.row.R.Denot)). is_held g.K.PartialEq.eq es c.args.key) (sym all) ∙ fresh)))

pub returns-in-Ok-false-clause-repeated : goal.returns-in-Ok-false-clause-repeated
returns-in-Ok-false-clause-repeated g c =
    let all : c.self.inside.table.entries ≡ c.args.self.now.rows =
    rows_are c.self.inside.held c.self.inside.table.entries c.args.self.now c.self.invariant c.self.view_is c.requires in
    let known : is_held g.K.PartialEq.eq c.self.inside.table.entries c.args.key ≡ true = not_false _ (sym c.in-Ok-false.field-0-test ∙ c.in-Ok-false.ensures.fresh) in
    (λ is. ap (λ (es : List (g.row.K.Denot × g.row.R.Denot)). is_held g.K.PartialEq.eq es c.args.key) (sym all) ∙ known, λ held. refl)

pub returns-in-Err-clause-repeated : goal.returns-in-Err-clause-repeated
returns-in-Err-clause-repeated g c =
    let all : c.self.inside.table.entries ≡ c.args.self.now.rows =
    rows_are c.self.inside.held c.self.inside.table.entries c.args.self.now c.self.invariant c.self.view_is c.requires in
    (λ is. cc, λ held. absurd (true≢false (sym held ∙ ap (λ (es : List (g.row.K.Denot × g.row.R.Denot)). is_held g.K.PartialEq.eq es c.args.key) (sym all) ∙ c.in-Err.ensures.absent)))
