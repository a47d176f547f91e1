use Rattle.std.proofs.Common.{length, ◌∙◌, ap, not, refl, arith}
use Rattle.std.specs.Map.{keys_of}
use Rattle.std.proofs.lemmas.List.Filters.{length-filter_both}
use Rattle.row_tables.proofs.HeldLemmas.{keys-filter}
use Rattle.ras_account.specs.History.{is_retired}
use Rattle.ras_account.specs.Account.{kept_names}
use Rattle.ras_account.specs.Steps.Parts.{NameList}
use Rattle.ras_account.proofs.names.Names.retire.Goals as goal

pub spell-requires : goal.spell-requires
spell-requires c =
    omega (
      arith,
      ap length c.retain.ensures.rows,
      length-filter_both (λ e. not (is_retired c.args.floor e.0)) (λ e. not (not (is_retired c.args.floor e.0))) (λ e. refl) c.self.inside.table.rows,
      c.self.invariant.room,
    )

pub invariant_of-self : goal.invariant_of-self
invariant_of-self c = record {
  spelled = c.spell.ensures.bytes;
  room = omega (
    arith,
    ap length c.retain.ensures.rows,
    ap length c.retain.ensures.waiting,
    length-filter_both (λ e. not (is_retired c.args.floor e.0)) (λ e. not (not (is_retired c.args.floor e.0))) (λ e. refl) c.self.inside.table.rows,
    c.self.invariant.room,
    c.spell.ensures.kept,
  );
}

pub returns-clause-held : goal.returns-clause-held
returns-clause-held c =
    ap keys_of c.retain.ensures.rows ∙ keys-filter (λ name. not (is_retired c.args.floor name)) c.self.inside.table.rows
    ∙ ap (λ (v : NameList). kept_names c.args.floor v.held) c.self.view_is
