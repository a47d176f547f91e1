-- Counting an entry for which only its own additions were reserved.
use Rattle.std.proofs.Common.{◌≡◌, ◌+◌, Bool, true, false, if◌then◌else◌, [], ◌∷◌, ◌++◌, length, sym, ap, ◌∙◌, append-nil, length-append, true≢false, arith}
use Rattle.std.specs.List.{sum_by}
use Rattle.ras_facts.specs.declared.items.Item.{Item}
use Rattle.ras_facts.specs.declared.entry.Entry.{Entry}
use Rattle.ras_facts.specs.declared.entry.Entry.TheVariants.{Fact, Limit as PageLimit, Retire, ModuleLimit}
use Rattle.ras_account.specs.Sightings.{sightings_in}
use Rattle.ras_account.specs.Account.{State}
use Rattle.ras_account.specs.Continued.{is_fresh_in, account_after_fresh, account_with_count, account_after}
use Rattle.ras_account.specs.Numbers.{AreWithin, are_past, IsWithin, numbers_with}
use Rattle.ras_account.specs.View.{Waiting, WaitsFirst, nothing}
use Rattle.ras_account.proofs.ItemLemmas.{names-items, entries-items, total-items}
use Rattle.ras_account.proofs.NumberLemmas.{past-within, stays-within, with_fresh_ones}

-- An account that is within its bounds before and after an entry has room for it.
fresh-within : (a : State) (e : Entry) → IsWithin a → IsWithin (account_after_fresh (account_with_count a) e) → AreWithin (with_fresh_ones a (e ∷ []))
fresh-within a (Fact fact) now later = record {
  names = omega (arith, later.names, ap length (names-items (record a { names = a.names ++ fact.name ∷ []; entries = a.entries + 1 }) (sightings_in a.limit a.module_limit (Fact fact))), length-append a.names (fact.name ∷ []));
  entries = omega (arith, later.entries, entries-items (record a { names = a.names ++ fact.name ∷ []; entries = a.entries + 1 }) (sightings_in a.limit a.module_limit (Fact fact)));
  total = omega (arith, later.total, total-items a.limit a.module_limit fact.seconds (record a { names = a.names ++ fact.name ∷ []; entries = a.entries + 1 }) fact.items, ap (sum_by (λ (item : Item). item.weight)) (append-nil fact.items));
}
fresh-within a (PageLimit limit) now later = record { names = omega (arith, now.names); entries = omega (arith, later.entries); total = omega (arith, now.total) }
fresh-within a (Retire boot) now later = record { names = omega (arith, now.names); entries = omega (arith, later.entries); total = omega (arith, now.total) }
fresh-within a (ModuleLimit limit) now later = record { names = omega (arith, now.names); entries = omega (arith, later.entries); total = omega (arith, now.total) }

single-within : (a : State) (e : Entry) → IsWithin a → IsWithin (account_after a e) → AreWithin (numbers_with a (e ∷ []))
single-within a e now later = by (is_fresh_in a e) later
  where
    by : (b : Bool) → IsWithin (if b then account_after_fresh (account_with_count a) e else a) → AreWithin (with_fresh_ones a (if b then e ∷ [] else []))
    by true later = fresh-within a e now later
    by false later = record { names = omega (arith, now.names); entries = omega (arith, now.entries); total = omega (arith, now.total) }

-- If one entry passes the bounds, so does the account after it.
pub single-past : (a : State) (e : Entry) → IsWithin a → are_past (numbers_with a (e ∷ [])) ≡ true → IsWithin (account_after a e) → ⊥
single-past a e now past later = true≢false (sym past ∙ (past-within (numbers_with a (e ∷ []))).1 (single-within a e now later))

-- If only this is reserved, it is reserved first.
pub waits_alone : (front all : Waiting) → all ≡ front → WaitsFirst front all
waits_alone front all is = (
  nothing,
  (λ i. record {
    names = append-nil front.names i;
    labels = append-nil front.labels i;
    pages = append-nil front.pages i;
  }) ∙ sym is,
)

-- If there is room for one entry, the account after it is within its bounds.
pub single-first : (a : State) (e : Entry) → AreWithin (numbers_with a (e ∷ [])) → IsWithin (account_after a e)
single-first a e within = (stays-within a (e ∷ []) within).0
