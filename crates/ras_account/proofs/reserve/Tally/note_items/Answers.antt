use Rattle.std.proofs.Common.{◌≡◌, ◌+◌, ◌++◌, ◌∷◌, [], List, take, sym, ap, subst, ◌∙◌}
use Rattle.std.proofs.lemmas.List.{take_more}
use Rattle.ras_facts.specs.declared.items.Item.{Item}
use Rattle.ras_account.specs.Steps.Reserving.{NotesItems}
use Rattle.ras_account.proofs.ReserveLemmas.{notes-none, notes-more}
use Rattle.ras_account.proofs.reserve.Tally.note_items.Goals as goal

pub loop-item-preserved : goal.loop-item-preserved
loop-item-preserved c =
    let done : List Item = take c.loop-item.item-index c.args.items.now in
    let more : done ++ c.item-item.result ∷ [] ≡ take (c.loop-item.item-index + 1) c.args.items.now =
    ap (λ (item : Item). done ++ item ∷ []) c.item-item.is ∙ sym (take_more c.args.items.now c.loop-item.item-index c.item-item.result c.loop-item-test.true) in
    subst (NotesItems c.args.modules.now c.note_item.new.modules c.args.self.now c.note_item.new.self) more
    (notes-more c.args.modules.now c.loop-item.modules c.note_item.new.modules c.args.self.now c.loop-item.self c.note_item.new.self done c.item-item.result
    c.loop-item.invariant c.in_ok-note_item.ensures.noted)

pub loop-item-init : goal.loop-item-init
loop-item-init c = notes-none c.args.modules.now c.args.self.now
