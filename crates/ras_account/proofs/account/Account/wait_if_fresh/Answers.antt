use Rattle.std.proofs.Common.{◌≡◌, List, [], ◌∷◌, ◌++◌, refl, sym, ap, subst, ◌∙◌, arith}
use Rattle.ras_facts.specs.declared.entry.Entry.{Entry}
use Rattle.ras_facts.specs.declared.items.Item.{Item}
use Rattle.ras_account.specs.declared.reserve.Tally.{Tally}
use Rattle.ras_account.specs.View.{View}
use Rattle.ras_account.specs.Tallies.{IsTallyOf}
use Rattle.ras_account.specs.Steps.Reserving.{in_force_after, NotesItems}
use Rattle.ras_account.proofs.NotingLemmas.{judged-old, judged-known, judged-fact, judged-setting}
use Rattle.ras_account.proofs.account.Account.wait_if_fresh.Goals as goal
use Rattle.ras_account.proofs.account.Account.wait_if_fresh.Goals.{in-Fact+in_ok-let_wait+else-not-branch+in_ok-note_items, in_default}

pub returns-then-not-admits-clause-tally : goal.returns-then-not-admits-clause-tally
returns-then-not-admits-clause-tally c = λ before so_far.
    (let told = judged-old c.args.self.now.state c.args.self.now.waiting c.args.self.now refl c.args.tally.now before so_far c.args.entry.now c.if-not-admits.ensures in told.1)

pub returns-then-not-branch-clause-tally : goal.returns-then-not-branch-clause-tally
returns-then-not-branch-clause-tally c = λ before so_far.
    (let told = judged-known _ _ _ c.self.view_is c.args.tally.now before so_far c.args.entry.now c.if-not-admits.ensures c.in-Fact.fact c.in-Fact.is c.let_wait.new.self
    c.in_ok-let_wait.ensures.held c.in_ok-let_wait.ensures.ok (sym c.if-not-branch.true ∙ c.in_ok-let_wait.ensures.fresh) in told.1)

pub returns-clause-tally : goal.returns-clause-tally
returns-clause-tally c = λ before so_far. elim c.match-entry.branch [
  | in-Fact+in_ok-let_wait+else-not-branch+in_ok-note_items w ↦
      (let told = judged-fact _ _ _ c.self.view_is c.args.tally.now before so_far c.args.entry.now c.if-not-admits.ensures w.in-Fact.fact w.in-Fact.is w.let_wait.new.self
      w.in_ok-let_wait.ensures.held w.in_ok-let_wait.ensures.ok w.note_items.new.modules w.note_items.new.self c.saturating_add-tally.result c.put.new.self
      (sym w.if-not-branch.false ∙ w.in_ok-let_wait.ensures.fresh)
      (subst (λ (items : List Item). NotesItems c.self.inside.modules w.note_items.new.modules c.args.tally.now w.note_items.new.self items) w.as_slice.ensures w.in_ok-note_items.ensures.noted)
      (omega (arith, c.saturating_add-tally.ensures, ap (λ (t : Tally). t.entries) w.tally-is)) (c.put.ensures ∙ ap (λ (t : Tally). in_force_after t.in_force c.args.entry.now) w.tally-is) in
      put c w.self-is w.tally-is before told.1)
  | in_default w ↦
      (let told = judged-setting c.args.self.now.state c.args.self.now.waiting c.args.self.now refl c.args.tally.now before so_far c.args.entry.now c.if-not-admits.ensures
      c.saturating_add-tally.result c.put.new.self w.in_default.not-Fact (omega (arith, c.saturating_add-tally.ensures, ap (λ (t : Tally). t.entries) w.tally-is))
      (c.put.ensures ∙ ap (λ (t : Tally). in_force_after t.in_force c.args.entry.now) w.tally-is) in
      put c w.self-is w.tally-is before told.1)
]
  where
    put : (c : goal.After-put) {v : View} {t : Tally} → c.match-entry.self ≡ v → c.match-entry.tally ≡ t → (before : List Entry)
        → IsTallyOf v (record t { entries = c.saturating_add-tally.result; in_force = c.put.new.self }) (before ++ c.args.entry.now ∷ [])
        → IsTallyOf c.match-entry.self (record c.match-entry.tally { entries = c.saturating_add-tally.result; in_force = c.put.new.self }) (before ++ c.args.entry.now ∷ [])
    put c {v} {t} self tally before is =
        subst (λ x. IsTallyOf x (record c.match-entry.tally { entries = c.saturating_add-tally.result; in_force = c.put.new.self }) (before ++ c.args.entry.now ∷ [])) (sym self)
        (subst (λ x. IsTallyOf v (record x { entries = c.saturating_add-tally.result; in_force = c.put.new.self }) (before ++ c.args.entry.now ∷ [])) (sym tally) is)
