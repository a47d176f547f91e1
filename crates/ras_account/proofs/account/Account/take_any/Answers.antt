use Rattle.std.proofs.Common.{◌≡◌, true, [], ◌∷◌, sym, ap, subst, ◌∙◌}
use Rattle.ras_facts.specs.declared.entry.Entry.{Entry}
use Rattle.ras_facts.specs.declared.entry.Entry.TheVariants.{Fact}
use Rattle.ras_facts.specs.Entries.{IsValidEntry}
use Rattle.ras_account.specs.Continued.{is_fresh_in, account_after}
use Rattle.ras_account.specs.Numbers.{IsWithin}
use Rattle.ras_account.specs.View.{WaitsFirst, added_by}
use Rattle.ras_account.specs.Steps.Taking.{Takes}
use Rattle.ras_account.proofs.EntryLemmas.{can_take, takes_fact}
use Rattle.ras_account.proofs.account.Account.take_any.Goals as goal

pub take_fact-requires-clause-ready : goal.take_fact-requires-clause-ready
take_fact-requires-clause-ready c =
    let is : c.args.entry ≡ Fact c.in-Fact.fact = c.in-Fact.is in
    let fresh : is_fresh_in c.args.self.now.state (Fact c.in-Fact.fact) ≡ true = ap (is_fresh_in c.args.self.now.state) (sym is) ∙ sym c.is_next.ensures ∙ c.if-not-is_next.false in
    can_take c.args.self.now c.in-Fact.fact fresh
    (subst IsValidEntry is c.requires.valid)
    (subst (λ (e : Entry). WaitsFirst (added_by c.args.self.now.state (e ∷ [])) c.args.self.now.waiting) is c.requires.waits)
    (subst (λ (e : Entry). IsWithin (account_after c.args.self.now.state e)) is c.requires.within)

pub returns-in-Fact : goal.returns-in-Fact
returns-in-Fact c =
    let is : c.args.entry ≡ Fact c.in-Fact.fact = c.in-Fact.is in
    let fresh : is_fresh_in c.args.self.now.state (Fact c.in-Fact.fact) ≡ true = ap (is_fresh_in c.args.self.now.state) (sym is) ∙ sym c.is_next.ensures ∙ c.if-not-is_next.false in
    subst (λ (e : Entry). Takes c.args.self.now c.take_fact.new.self c.args.orders.now c.take_fact.new.orders e) (sym is)
    (takes_fact c.args.self.now c.take_fact.new.self c.args.orders.now c.take_fact.new.orders c.in-Fact.fact fresh c.take_fact.ensures.account c.take_fact.ensures.orders)
