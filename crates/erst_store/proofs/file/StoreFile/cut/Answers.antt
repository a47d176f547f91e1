use Rattle.std.proofs.Common.{◌≡◌, ◌+◌, ◌-◌, ◌≤◌, ◌∙◌, ℕ, List, ◌++◌, length, take, drop, ap, arith, length-drop}
use Rattle.std.proofs.lemmas.List.{with_items_is}
use Rattle.erst_store.proofs.FileLemmas.{over, length-over, length-rotated, rotated, turned}
use Rattle.erst_store.proofs.file.StoreFile.cut.Goals as goal

pub returns : goal.returns
returns c =
    let start = c.self.inside.start in
    let at = c.args.at in
    let count = c.args.count in
    let shown = c.deref_mut.result.now in
    let part = c.rotate_left.new.self in
    let width : start + at + count - start ≡ at + count = omega arith in
    let same : drop start shown ≡ c.args.self.now = ap (drop start) c.deref_mut.ensures.value ∙ c.self.view_is in
    let room : start + (at + count) ≤ length shown = omega (arith, c.requires, ap length same, length-drop start shown, ap length c.deref_mut.ensures.value, c.self.invariant) in
    let part_is : part ≡ rotated at (take (at + count) (drop start shown)) = c.rotate_left.ensures.after ∙ ap (λ (n : ℕ). rotated at (take n (drop start shown))) width in
    let new : take start shown ++ (part ++ drop (start + at + count - start) (drop start shown)) ≡ over start (at + count) shown (rotated at (take (at + count) (drop start shown))) =
    ap (λ (n : ℕ). over start n shown part) width ∙ ap (over start (at + count) shown) part_is
    in
    let long = ap length new ∙ length-over start (at + count) shown (rotated at (take (at + count) (drop start shown))) room (length-rotated at start (at + count) shown (omega arith) room) in
    ap (drop (start + count)) (with_items_is c.self.inside.bytes _ (long ∙ c.deref_mut.ensures.len) ∙ new)
    ∙ turned start at count shown room
    ∙ ap (λ (text : List ℕ). take at text ++ drop (at + count) text) same
