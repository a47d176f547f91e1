-- The new entries of an event add what all its entries add, and can be one link if all can.
use Rattle.std.proofs.Common.{◌≡◌, ℕ, ◌+◌, ◌≤◌, Bool, true, false, if◌then◌else◌, List, [], ◌∷◌, ◌++◌, length, All, refl, sym, ap, subst, ◌∙◌, length-append, arith}
use Rattle.std.specs.List.{AllByRecursion, flat_map}
use Rattle.std.proofs.lemmas.List.Elements.{All-from_recursion, recursion_from_All}
use Rattle.ras_base.specs.LittleEndian.{u32_bytes}
use Rattle.ras_base.specs.Steps.LittleEndianLemmas.{length-u32_bytes}
use Rattle.ras_facts.specs.declared.entry.Entry.{Entry}
use Rattle.ras_facts.specs.Entries.{IsValidEntry}
use Rattle.ras_account.specs.Account.{State}
use Rattle.ras_account.specs.Continued.{is_fresh_in, account_after}
use Rattle.ras_account.specs.Numbers.{fresh_entries_in, numbers_with}
use Rattle.ras_account.proofs.NumberLemmas.{with_fresh_ones}
use Rattle.entry_format.specs.Spelling.{entry_bytes}
use Rattle.journal_format.specs.Links.{payload_bytes}
use Rattle.ras_events.proofs.BesideLemmas.{after_if}

-- The new entries of a list are all new at their places among themselves.
pub fresh_again : (a : State) (es : List Entry) → fresh_entries_in a (fresh_entries_in a es) ≡ fresh_entries_in a es
fresh_again a [] = refl
fresh_again a (e ∷ es) = by (is_fresh_in a e) refl (fresh_again (account_after a e) es)
  where
    by : (b : Bool) → is_fresh_in a e ≡ b → fresh_entries_in (after_if a e b) (fresh_entries_in (after_if a e b) es) ≡ fresh_entries_in (after_if a e b) es
        → fresh_entries_in a (if b then e ∷ fresh_entries_in (after_if a e b) es else fresh_entries_in a es) ≡ (if b then e ∷ fresh_entries_in (after_if a e b) es else fresh_entries_in a es)
    by true is ih =
        let fresh : List Entry = fresh_entries_in (after_if a e true) es in
        ap (λ c. if c then e ∷ fresh_entries_in (after_if a e c) fresh else fresh_entries_in a fresh) is ∙ ap (λ fs. e ∷ fs) ih
    by false is ih = ih

-- The numbers of the new entries are the numbers of all entries.
pub numbers_news : (a : State) (es : List Entry) → numbers_with a (fresh_entries_in a es) ≡ numbers_with a es
numbers_news a es = ap (with_fresh_ones a) (fresh_again a es)

-- ---- a part of a list's entries

-- A property of each entry is a property of each new entry.
each_fresh : (P : Entry → Type 0) (a : State) (es : List Entry) → AllByRecursion P es → AllByRecursion P (fresh_entries_in a es)
each_fresh P a [] all = tt
each_fresh P a (e ∷ es) all = by (is_fresh_in a e) (each_fresh P (account_after a e) es all.1)
  where
    by : (b : Bool) → AllByRecursion P (fresh_entries_in (after_if a e b) es) → AllByRecursion P (if b then e ∷ fresh_entries_in (after_if a e b) es else fresh_entries_in a es)
    by true ih = (all.0, ih)
    by false ih = ih

pub valid_news : (a : State) (es news : List Entry) → news ≡ fresh_entries_in a es → All IsValidEntry es → All IsValidEntry news
valid_news a es news is all =
    subst (All IsValidEntry) (sym is)
    (All-from_recursion IsValidEntry (fresh_entries_in a es) (each_fresh IsValidEntry a es (recursion_from_All IsValidEntry es all)))

pub fewer : (a : State) (es : List Entry) → length (fresh_entries_in a es) ≤ length es
fewer a [] = omega arith
fewer a (e ∷ es) = by (is_fresh_in a e) (fewer (account_after a e) es)
  where
    by : (b : Bool) → length (fresh_entries_in (after_if a e b) es) ≤ length es → length (if b then e ∷ fresh_entries_in (after_if a e b) es else fresh_entries_in a es) ≤ length (e ∷ es)
    by true ih = omega arith
    by false ih = omega arith

pub few_news : (a : State) (es news : List Entry) (most : ℕ) → news ≡ fresh_entries_in a es → length es ≤ most → length news ≤ most
few_news a es news most is few = omega (arith, fewer a es, ap length is)

shorter : (a : State) (es : List Entry) → length (flat_map entry_bytes (fresh_entries_in a es)) ≤ length (flat_map entry_bytes es)
shorter a [] = omega arith
shorter a (e ∷ es) = by (is_fresh_in a e) (shorter (account_after a e) es)
  where
    by : (b : Bool) → length (flat_map entry_bytes (fresh_entries_in (after_if a e b) es)) ≤ length (flat_map entry_bytes es)
        → length (flat_map entry_bytes (if b then e ∷ fresh_entries_in (after_if a e b) es else fresh_entries_in a es)) ≤ length (entry_bytes e ++ flat_map entry_bytes es)
    by true ih = omega (arith, length-append (entry_bytes e) (flat_map entry_bytes (fresh_entries_in (after_if a e true) es)), length-append (entry_bytes e) (flat_map entry_bytes es))
    by false ih = omega (arith, length-append (entry_bytes e) (flat_map entry_bytes es))

payload_length : (es : List Entry) → length (payload_bytes es) ≡ 4 + length (flat_map entry_bytes es)
unfolding payload_bytes
payload_length es = omega (arith, length-append (u32_bytes (length es)) (flat_map entry_bytes es), length-u32_bytes (length es))

pub short_news : (a : State) (es news : List Entry) (most : ℕ) → news ≡ fresh_entries_in a es → length (payload_bytes es) ≤ most → length (payload_bytes news) ≤ most
short_news a es news most is short =
    omega (arith, shorter a es, payload_length es, payload_length (fresh_entries_in a es), ap (λ (fs : List Entry). length (payload_bytes fs)) is)
