use Rattle.std.proofs.Common.{◌∙◌, inl, inr, refl, sym}
use Rattle.ras_host.proofs.KeptLemmas.{replaces_err, replaces_ok, replaces_same, turned_saved}
use Rattle.ras_host.proofs.kept.Kept.save.Goals as goal

pub returns-then-not-differs-clause-turned : goal.returns-then-not-differs-clause-turned
returns-then-not-differs-clause-turned g c =
    turned_saved c.args.change _ _ _ _ c.file_laws.ensures.again refl
    (λ had same. inl (record { same = same c.if-not-differs.true; told = refl; ok = tt }))

pub returns-then-is_err-clause-turned : goal.returns-then-is_err-clause-turned
returns-then-is_err-clause-turned g c =
    let replaced = replaces_same _ _ c.replace_store.result _ _ c.as_slice.ensures c.replace_store.ensures.replaces in
    turned_saved c.args.change _ _ _ _ c.file_laws.ensures.again refl
    (λ had same. inr (replaces_err _ c.replace_store.result _ _ _ (sym c.is_err.ensures.value ∙ c.if-is_err.true) replaced))

pub returns-clause-turned : goal.returns-clause-turned
returns-clause-turned g c =
    let replaced = replaces_same _ _ c.replace_store.result _ _ c.as_slice.ensures c.replace_store.ensures.replaces in
    turned_saved c.args.change _ _ _ _ c.file_laws.ensures.again refl
    (λ had same. inr (replaces_ok _ c.replace_store.result tt _ _ (sym c.is_err.ensures.value ∙ c.if-is_err.false) replaced))
