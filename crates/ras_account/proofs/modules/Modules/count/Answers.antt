use Rattle.std.proofs.Common.{◌≡◌, ◌∙◌, refl, sym, ap, subst, unwrap_or, sum, take, ◌++◌, not, ◌&&◌, if◌then◌else◌, Some, None, arith}
use Rattle.std.specs.Map.{keys_of}
use Rattle.std.specs.List.{list_any}
use Rattle.row_tables.specs.Held.{IsPlace, with_row}
use Rattle.dimm_topology.specs.Labels.{Bytes, same_label}
use Rattle.ras_account.specs.declared.modules.ModuleRow.{ModuleRow}
use Rattle.page_policy.specs.declared.rows.Order as Ordered
use Rattle.ras_facts.specs.declared.items.Item.{Item}
use Rattle.ras_account.specs.Modules.{Module}
use Rattle.ras_account.specs.Account.{weight_in}
use Rattle.ras_account.specs.Sightings.{Sighting, label_of}
use Rattle.ras_account.specs.Continued.{new_module, module_after}
use Rattle.ras_account.specs.Orders.{module_order_in}
use Rattle.ras_account.specs.Steps.Parts.{ModuleList, with_sighting, is_next_label, IsCounting}
use Rattle.ras_account.proofs.ModuleRowLemmas.{seen_modules, row_for, module_in, counted, order-after, keys-entry_of, label-row_for, counting-row_for, sums-row_for, are-with_row}
use Rattle.ras_account.proofs.modules.Modules.count.Goals as goal

pub find-place-requires : goal.find-place-requires
find-place-requires c =
    ap (λ ks. list_any (same_label c.args.item.now.label) (ks ++ take 1 c.self.inside.table.waiting)) (sym (keys-entry_of c.self.inside.table.rows))
    ∙ ap (λ (v : ModuleList). is_next_label v c.args.item.now.label) c.self.view_is ∙ c.requires.next

module _ (c : goal.After-unwrap_or-before) where
  known : c.unwrap_or-before.result ≡ row_for c.self.inside.table.rows c.args.item.now.label c.new.result
  known = c.unwrap_or-before.ensures ∙ ap (λ o. unwrap_or o c.new.result) c.find-place.ensures.row

pub after-after-requires-clause-counting : goal.after-after-requires-clause-counting
after-after-requires-clause-counting c =
    subst IsCounting (sym (known c)) (counting-row_for c.args.item.now.label c.new.result c.self.inside.table.rows c.new.ensures.counting c.self.invariant)

pub after-after-requires-clause-total : goal.after-after-requires-clause-total
after-after-requires-clause-total c =
    let none : sum c.new.result.sums ≡ 0 = ap (λ (e : Bytes × Module). sum e.1.sums) c.new.ensures.row in
    omega (
      arith,
      ap (λ (row : ModuleRow). sum row.sums) (known c),
      sums-row_for c.args.item.now.label c.new.result c.self.inside.table.rows none,
      ap (λ (v : ModuleList). weight_in v.rows) c.self.view_is,
      c.requires.total,
    )

module _ (c : goal.After-order_for) where
  abbrev label : Bytes
  label = c.args.item.now.label

  before_is : c.unwrap_or-before.result ≡ row_for c.self.inside.table.rows label c.new.result
  before_is = c.unwrap_or-before.ensures ∙ ap (λ o. unwrap_or o c.new.result) c.find-place.ensures.row

  starts : module_in c.new.result ≡ new_module
  starts = ap (λ (e : Bytes × Module). e.1) c.new.ensures.row

  labeled : c.after-after.result.label ≡ label
  labeled =
      ap (λ (e : Bytes × Module). e.0) (c.after-after.ensures.row (record { item = c.args.item.now; seconds = c.args.seconds; limit = c.args.limit; module_limit = c.args.limit }) refl refl refl)
      ∙ ap (λ (row : ModuleRow). row.label) before_is
      ∙ label-row_for label c.new.result c.self.inside.table.rows (ap (λ (e : Bytes × Module). e.0) c.new.ensures.row) c.self.invariant

  module _ (s : Sighting) (item : s.item ≡ c.args.item.now) (seconds : s.seconds ≡ c.args.seconds) (limit : s.module_limit ≡ c.args.limit) where
    same : label ≡ label_of s
    same = ap (λ (item : Item). item.label) (sym item)

    known_at : c.unwrap_or-before.result ≡ row_for c.self.inside.table.rows (label_of s) c.new.result
    known_at = before_is ∙ ap (λ k. row_for c.self.inside.table.rows k c.new.result) same

    stepped : module_in c.after-after.result ≡ module_after (module_in (row_for c.self.inside.table.rows (label_of s) c.new.result)) s
    stepped =
        ap (λ (e : Bytes × Module). e.1) (c.after-after.ensures.row s item seconds limit)
        ∙ ap (λ (row : ModuleRow). module_after (module_in row) s) known_at

pub invariant_of-self : goal.invariant_of-self
invariant_of-self c =
    are-with_row c.self.inside.table c.put.new.self c.args.item.now.label c.after-after.result (c.put.ensures c.args.item.now.label c.find-place.ensures.place)
    (labeled c) c.after-after.ensures.counting c.self.invariant

pub returns-clause-rows : goal.returns-clause-rows
returns-clause-rows c = λ s item seconds limit.
    ap seen_modules (c.put.ensures c.args.item.now.label c.find-place.ensures.place ∙ ap (λ k. with_row same_label c.self.inside.table k c.after-after.result) (same c s item seconds limit))
    ∙ counted s c.new.result c.after-after.result c.self.inside.table (starts c) (stepped c s item seconds limit)
    ∙ ap (λ (v : ModuleList). with_sighting v s) c.self.view_is

pub returns-clause-order : goal.returns-clause-order
returns-clause-order c = λ s item seconds limit.
    c.order_for.ensures
    ∙ (λ i. if not (known_at c s item seconds limit i).replace && c.after-after.result.replace then Some (Ordered.TheVariants.Module c.find-place.result.0) else None)
    ∙ order-after s c.self.inside.table c.find-place.result.0 c.new.result c.after-after.result
    (subst (λ k. IsPlace same_label k (keys_of c.self.inside.table.rows ++ c.self.inside.table.waiting) c.find-place.result.0) (same c s item seconds limit) c.find-place.ensures.place)
    c.find-place.ensures.next (starts c) (stepped c s item seconds limit)
    ∙ ap (λ (v : ModuleList). module_order_in v.rows s) c.self.view_is
