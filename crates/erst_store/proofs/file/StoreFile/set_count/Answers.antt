use Rattle.std.proofs.Common.{◌≡◌, ◌+◌, ◌-◌, ◌≤◌, ◌∙◌, ℕ, List, ◌++◌, length, take, drop, ap, arith, length-drop}
use Rattle.std.proofs.lemmas.List.{with_items_is}
use Rattle.ras_base.specs.LittleEndian.{u32_bytes}
use Rattle.ras_base.specs.Steps.LittleEndianLemmas.{length-u32_bytes}
use Rattle.erst_store.proofs.FileLemmas.{over, length-over, written}
use Rattle.erst_store.proofs.file.StoreFile.set_count.Goals as goal

pub returns : goal.returns
unfolding u32_bytes
returns c =
    let start = c.self.inside.start in
    let shown = c.deref_mut.result.now in
    let part = c.copy_from_slice.new.self in
    let width : start + 8 + 4 - (start + 8) ≡ 4 = omega arith in
    let same : drop start shown ≡ c.args.self.now = ap (drop start) c.deref_mut.ensures.value ∙ c.self.view_is in
    let room : start + 8 + 4 ≤ length shown = omega (arith, c.requires, ap length same, length-drop start shown, ap length c.deref_mut.ensures.value, c.self.invariant) in
    let part_is : part ≡ u32_bytes c.args.count = c.copy_from_slice.ensures.after ∙ c.to_le_bytes.ensures in
    let new = ap (λ (n : ℕ). over (start + 8) n shown part) width in
    let long = ap length new ∙ length-over (start + 8) 4 shown part room (ap length part_is ∙ length-u32_bytes c.args.count) in
    ap (drop start) (with_items_is c.self.inside.bytes _ (long ∙ c.deref_mut.ensures.len) ∙ new)
    ∙ written start 8 4 shown part (omega (arith, room))
    ∙ ap (λ (text : List ℕ). take 8 text ++ part ++ drop 12 text) same
    ∙ ap (λ (text : List ℕ). take 8 c.args.self.now ++ text ++ drop 12 c.args.self.now) part_is
