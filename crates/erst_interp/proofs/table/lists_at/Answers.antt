use Rattle.std.proofs.Common.{◌-◌, ◌+◌, List, ◌∷◌, map, drop, arith, subst, length-drop, sym, ap, ◌∙◌}
use Rattle.std.proofs.lemmas.List.{take_rest}
use Rattle.erst_interp.specs.declared.entries.InstructionEntry.{InstructionEntry}
use Rattle.erst_interp.specs.Table.{instructions_at}
use Rattle.erst_interp.proofs.ListLemmas.{Hold, next_held, all_held, more_left, none_left}
use Rattle.erst_interp.proofs.table.lists_at.Goals as goal

pub loop-done-preserved : goal.loop-done-preserved
loop-done-preserved c =
    let all = instructions_at c.args.count c.args.bytes.now in
    let lists = map (λ v. v.items) c.loop-done.lists.items in
    let left = instructions_at (c.args.count - (c.loop-done.done + 1)) (drop 32 c.loop-done.rest.now) in
    let held : Hold all lists (c.entry_at.result ∷ left) =
    subst (λ (es : List InstructionEntry). Hold all lists es) (more_left c.args.count c.loop-done.done c.loop-done.rest.now c.loop-done-test.true ∙ ap (λ (e : InstructionEntry). e ∷ left) (sym c.entry_at.ensures))
    c.loop-done.invariant.held in
    rw (take_rest c.loop-done.rest.now 32) (record {
      room = omega (arith, c.loop-done.invariant.room, c.loop-done-test.true, length-drop 32 c.loop-done.rest.now);
      held = subst (λ (ls : List (List InstructionEntry)). Hold all ls left) (sym c.in_ok-add.ensures.added) (next_held all lists c.entry_at.result left c.add.ensures.within held);
    })

pub returns : goal.returns
returns c =
    let all = instructions_at c.args.count c.args.bytes.now in
    let lists = map (λ v. v.items) c.loop-done.lists.items in
    all_held all lists (subst (λ (es : List InstructionEntry). Hold all lists es) (none_left c.args.count c.loop-done.done c.loop-done.rest.now c.loop-done-test.false) c.loop-done.invariant.held)
