-- The account of a history knows exactly the names that the history's facts make known.
use Rattle.std.proofs.Common.{◌≡◌, ℕ, ◌≤◌, Bool, true, false, not, nat_lt, max, cond, ◌||◌, ◌&&◌, if◌then◌else◌, Option, Some, None, List, [], ◌∷◌, ◌++◌, refl, sym, ap, ◌∙◌, true≢false, arith}
use Rattle.std.specs.Option.{option_map_or}
use Rattle.std.proofs.Math.Nat.{le-max_left, le-max_right}
use Rattle.std.proofs.lemmas.Bool.Decides.{nat_tests}
use Rattle.std.proofs.lemmas.List.Folds.{list_any-append}
use Rattle.ras_facts.specs.declared.name.Name.{Name}
use Rattle.ras_facts.specs.declared.entry.Entry.{Entry}
use Rattle.ras_facts.specs.declared.entry.Entry.TheVariants.{Fact, Limit as PageLimit, Retire, ModuleLimit}
use Rattle.ras_facts.specs.Names.{same_name, boot_of}
use Rattle.ras_facts.specs.Steps.NameLemmas.{same_name-exact}
use Rattle.ras_account.specs.History.{History, empty, with_entry, with_mark, names_in, floor_after, is_retired}
use Rattle.ras_account.specs.Fresh.{is_among, is_fresh_behind, fresh_entries}
use Rattle.ras_account.specs.Account.{account_of, names_of, kept_names}
use Rattle.ras_account.specs.Continued.{is_fresh_in}

or_true : (b : Bool) → (b || true) ≡ true
or_true true = refl
or_true false = refl

or_false : (b : Bool) → (b || false) ≡ b
or_false true = refl
or_false false = refl

pub not_false : (b : Bool) → not b ≡ false → b ≡ true
not_false true h = refl
not_false false h = absurd (true≢false h)

pub de_morgan : (b c : Bool) → not (b || c) ≡ (not b && not c)
de_morgan true c = refl
de_morgan false c = refl

-- A boot is below the greater of two numbers if and only if it is below one of them.
lt-max : (a b n : ℕ) → nat_lt n (max a b) ≡ (nat_lt n a || nat_lt n b)
lt-max a b n = by (nat_lt n a) refl (nat_lt n b) refl
  where
    by : (x : Bool) → nat_lt n a ≡ x → (y : Bool) → nat_lt n b ≡ y → nat_lt n (max a b) ≡ (x || y)
    by true one y other = let left : a ≤ max a b = le-max_left a b in grind (arith, nat_tests)
    by false one true other = let right : b ≤ max a b = le-max_right a b in grind (arith, nat_tests)
    by false one false other = grind (arith, nat_tests)

pub is_retired-max : (a b : ℕ) (name : Name) → is_retired (max a b) name ≡ (is_retired a name || is_retired b name)
is_retired-max a b name = by (boot_of name)
  where
    by : (o : Option ℕ) → option_map_or (λ boot. nat_lt boot (max a b)) o false ≡ (option_map_or (λ boot. nat_lt boot a) o false || option_map_or (λ boot. nat_lt boot b) o false)
    by None = refl
    by (Some boot) = lt-max a b boot

-- Dropping the names of retired boots drops no other name.
pub among_kept : (floor : ℕ) (names : List Name) (name : Name)
    → (is_among (kept_names floor names) name || is_retired floor name) ≡ (is_among names name || is_retired floor name)
among_kept floor [] name = refl
among_kept floor (n ∷ ns) name = by (is_retired floor n) refl (same_name name n) refl (among_kept floor ns name)
  where
    by : (r : Bool) → is_retired floor n ≡ r → (s : Bool) → same_name name n ≡ s
        → (is_among (kept_names floor ns) name || is_retired floor name) ≡ (is_among ns name || is_retired floor name)
        → (is_among (cond (not r) (n ∷ kept_names floor ns) (kept_names floor ns)) name || is_retired floor name) ≡ ((s || is_among ns name) || is_retired floor name)
    by true gone true same ih =
        let retired : is_retired floor name ≡ true = ap (is_retired floor) (same_name-exact name n same) ∙ gone in
        ap (λ b. is_among (kept_names floor ns) name || b) retired ∙ or_true _
    by true gone false other ih = ih
    by false stays true same ih = ap (λ b. (b || is_among (kept_names floor ns) name) || is_retired floor name) same
    by false stays false other ih = ap (λ b. (b || is_among (kept_names floor ns) name) || is_retired floor name) other ∙ ih

pub names_of-append : (xs ys : List Entry) → names_of (xs ++ ys) ≡ names_of xs ++ names_of ys
names_of-append [] ys = refl
names_of-append (Fact fact ∷ xs) ys = ap (λ ns. fact.name ∷ ns) (names_of-append xs ys)
names_of-append (PageLimit limit ∷ xs) ys = names_of-append xs ys
names_of-append (Retire boot ∷ xs) ys = names_of-append xs ys
names_of-append (ModuleLimit limit ∷ xs) ys = names_of-append xs ys

-- f and g: whether a name is among the names of new facts and of all facts; r: whether it is retired; s: whether it is
-- the last.
grown : (f g s r : Bool) → (f || r) ≡ (g || r) → ((f || (s || false)) || r) ≡ ((g || (s || false)) || r)
grown true true s r ih = refl
grown false false s r ih = refl
grown true false true r ih = refl
grown true false false true ih = refl
grown true false false false ih = absurd (true≢false ih)
grown false true true r ih = refl
grown false true false true ih = refl
grown false true false false ih = absurd (true≢false (sym ih))

known : (f g s r : Bool) → (f || r) ≡ (g || r) → (s ≡ true → (g || r) ≡ true) → (f || r) ≡ ((g || (s || false)) || r)
known f true s r ih stale = ih
known f false true r ih stale = ih ∙ stale refl
known f false false r ih stale = ih

lowered : (f g r q : Bool) → (f || r) ≡ (g || r) → (f || (r || q)) ≡ (g || (r || q))
lowered true true r q ih = refl
lowered false false r q ih = refl
lowered true false true q ih = refl
lowered true false false q ih = absurd (true≢false ih)
lowered false true true q ih = refl
lowered false true false q ih = absurd (true≢false (sym ih))

-- An entry without a name leaves the names of new facts unchanged, whether it is new or not.
same_names : (b : Bool) (h : History) (e : Entry) → names_of (e ∷ []) ≡ [] → names_of (if b then fresh_entries h ++ e ∷ [] else fresh_entries h) ≡ names_of (fresh_entries h)
same_names true h e none = names_of-append (fresh_entries h) (e ∷ []) ∙ ap (λ ns. names_of (fresh_entries h) ++ ns) none ∙ nil (names_of (fresh_entries h))
  where
    nil : (ns : List Name) → ns ++ [] ≡ ns
    nil [] = refl
    nil (n ∷ ns) = ap (λ rest. n ∷ rest) (nil ns)
same_names false h e none = refl

-- A name that isn't retired is among the names of new facts if and only if it is among all.
pub among_fresh : (h : History) (name : Name)
    → (is_among (names_of (fresh_entries h)) name || is_retired (floor_after h) name) ≡ (is_among (names_in h) name || is_retired (floor_after h) name)
among_fresh empty name = refl
among_fresh (with_mark h) name = among_fresh h name
among_fresh (with_entry h (PageLimit limit)) name =
    ap (λ ns. is_among ns name || is_retired (floor_after h) name) (same_names (is_fresh_behind h (PageLimit limit)) h (PageLimit limit) refl) ∙ among_fresh h name
among_fresh (with_entry h (ModuleLimit limit)) name =
    ap (λ ns. is_among ns name || is_retired (floor_after h) name) (same_names (is_fresh_behind h (ModuleLimit limit)) h (ModuleLimit limit) refl) ∙ among_fresh h name
among_fresh (with_entry h (Retire boot)) name =
    ap (λ ns. is_among ns name || is_retired (max (floor_after h) boot) name) (same_names (is_fresh_behind h (Retire boot)) h (Retire boot) refl)
    ∙ ap (λ b. is_among (names_of (fresh_entries h)) name || b) (is_retired-max (floor_after h) boot name)
    ∙ lowered _ _ _ (is_retired boot name) (among_fresh h name)
    ∙ ap (λ b. is_among (names_in h) name || b) (sym (is_retired-max (floor_after h) boot name))
among_fresh (with_entry h (Fact fact)) name =
    by (among_fresh h name) (is_fresh_behind h (Fact fact)) refl
    ∙ ap (λ b. b || is_retired (floor_after h) name) (sym (list_any-append (same_name name) (names_in h) (fact.name ∷ [])))
  where
    F : Bool
    F = is_among (names_of (fresh_entries h)) name

    G : Bool
    G = is_among (names_in h) name

    R : Bool
    R = is_retired (floor_after h) name

    stale : is_fresh_behind h (Fact fact) ≡ false → same_name name fact.name ≡ true → (G || R) ≡ true
    stale repeat same =
        let here : fact.name ≡ name = sym (same_name-exact name fact.name same) in
        ap (λ n. is_among (names_in h) n || is_retired (floor_after h) n) (sym here)
        ∙ not_false _ (de_morgan (is_among (names_in h) fact.name) (is_retired (floor_after h) fact.name) ∙ repeat)

    by : (F || R) ≡ (G || R) → (b : Bool) → is_fresh_behind h (Fact fact) ≡ b
        → (is_among (names_of (if b then fresh_entries h ++ Fact fact ∷ [] else fresh_entries h)) name || R) ≡ ((G || (same_name name fact.name || false)) || R)
    by ih true is =
        ap (λ ns. is_among ns name || R) (names_of-append (fresh_entries h) (Fact fact ∷ []))
        ∙ ap (λ b. b || R) (list_any-append (same_name name) (names_of (fresh_entries h)) (fact.name ∷ []))
        ∙ grown F G (same_name name fact.name) R ih
    by ih false is = known F G (same_name name fact.name) R ih (stale is)

-- In the account of a history an entry is new if and only if it is new after the history.
pub is_fresh_in-account_of : (h : History) (e : Entry) → is_fresh_in (account_of h) e ≡ is_fresh_behind h e
is_fresh_in-account_of h (Fact fact) =
    ap not (among_kept (floor_after h) (names_of (fresh_entries h)) fact.name ∙ among_fresh h fact.name)
    ∙ de_morgan (is_among (names_in h) fact.name) (is_retired (floor_after h) fact.name)
is_fresh_in-account_of h (PageLimit limit) = refl
is_fresh_in-account_of h (Retire boot) = refl
is_fresh_in-account_of h (ModuleLimit limit) = refl
