use Rattle.std.proofs.Common.{sym, ap, ◌∙◌, subst, [], ◌∷◌, Err}
use Rattle.std.proofs.lemmas.Result.{err_from_is_err_and}
use Rattle.ras_account.specs.Numbers.{IsWithin, AreWithin, are_past, numbers_with}
use Rattle.ras_account.specs.Continued.{account_after}
use Rattle.ras_account.specs.View.{added_by}
use Rattle.ras_account.proofs.AgainLemmas.{waits_alone, single-past, single-first}
use Rattle.ras_recover.proofs.links.count_entry.Goals as goal

pub take-requires-clause-waits : goal.take-requires-clause-waits
take-requires-clause-waits c =
    waits_alone (added_by c.reserve.new.self.state (c.args.entry ∷ [])) c.reserve.new.self.waiting
    (c.in_ok-reserve.ensures.ok ∙ ap (added_by c.args.account.now.state) c.from_ref.ensures.value ∙ ap (λ a. added_by a (c.args.entry ∷ [])) (sym c.in_ok-reserve.ensures.state))

pub take-requires-clause-within : goal.take-requires-clause-within
take-requires-clause-within c =
    subst (λ a. IsWithin (account_after a c.args.entry)) (sym c.in_ok-reserve.ensures.state)
    (single-first c.args.account.now.state c.args.entry (subst (λ es. AreWithin (numbers_with c.args.account.now.state es)) c.from_ref.ensures.value c.in_ok-reserve.ensures.within))

pub returns-clause-within : goal.returns-clause-within
returns-clause-within c =
    single-first c.args.account.now.state c.args.entry (subst (λ es. AreWithin (numbers_with c.args.account.now.state es)) c.from_ref.ensures.value c.in_ok-reserve.ensures.within)

pub returns-in_err-reserve-clause-full : goal.returns-in_err-reserve-clause-full
returns-in_err-reserve-clause-full c =
    let refusal = err_from_is_err_and c.from_residual.result c.from_residual.ensures.1 in
    λ full within.
    single-past c.args.account.now.state c.args.entry c.entries.ensures.account.within
    (ap (λ es. are_past (numbers_with c.args.account.now.state es)) (sym c.from_ref.ensures.value) ∙ c.in_err-reserve.ensures.full (ap Err (sym refusal.2) ∙ sym refusal.1 ∙ full))
    within
