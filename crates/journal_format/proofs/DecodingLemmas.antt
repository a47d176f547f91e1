-- Rows that are added to an account as they are read.
use Rattle.std.proofs.Common.{◌≡◌, ℕ, suc, ◌+◌, ◌-◌, ◌<◌, Bool, true, false, nat_eq, sum, List, [], ◌∷◌, ◌++◌, length, Result, Ok, Err, refl, sym, ap, subst, ◌∙◌, arith, length-append}
use Rattle.std.specs.List.{list_any, IsDistinct, AllByRecursion}
use Rattle.ras_facts.specs.declared.name.Name.{Name}
use Rattle.ras_facts.specs.Names.{same_name}
use Rattle.ras_facts.specs.Steps.NameLemmas.{same_name-laws}
use Rattle.ras_account.specs.declared.limits.TheConstants.{MOST_NAMES, MOST_TOTAL}
use Rattle.ras_account.specs.Modules.{Module}
use Rattle.dimm_topology.specs.Labels.{Bytes, same_label}
use Rattle.page_policy.specs.declared.rows.PageRow.{PageRow}
use Rattle.journal_format.specs.CheckpointReading.{list_at}
use Rattle.std.specs.Map.{keys_of}
use Rattle.std.specs.Prelude.{IfOk}
use Rattle.ras_base.specs.LittleEndian.{AreBytes}
use Rattle.std.proofs.lemmas.Cmp.{nat_list_eq_equiv, nat_eq_equiv}
use Rattle.std.proofs.lemmas.List.{map-append}
use Rattle.std.proofs.lemmas.List.Sums.{sum_by-append, sum_by-cons}
use Rattle.ras_account.specs.Fresh.{is_among}
use Rattle.journal_format.specs.Steps.Decoding.{AreNames, AreModules, ArePages}
use Rattle.ras_base.specs.Chaining.{◌>>=◌}
use Rattle.entry_format.specs.declared.refused.EntryRefused.{EntryRefused}
use Rattle.entry_format.specs.Reading.{Reader, ReadsUnlessMemory, FailsUnlessMemory, RefusesExactly, many_at, u64_at}
use Rattle.entry_format.specs.declared.refused.EntryRefused.TheVariants.{Bad, NoMemory}
use Rattle.ras_account.specs.Account.{State, weight_in}
use Rattle.ras_account.specs.Rows.{with_name, with_module, with_page}
use Rattle.entry_format.proofs.CodecLemmas.{Reads, bind_ok, ok_is}
use Rattle.entry_format.proofs.LoopLemmas.{with_front}

-- A list isn't read if a row of it is rejected after the rows before it.
pub refused_amid : {A : Type 0} (r : Reader A) (Sound : List A → Type 0) (held : List A) (count i : ℕ) (bytes : List ℕ) (total : Result (List A × List ℕ) EntryRefused) → i < count
    → ((x : A) (later : List A) (rest : List ℕ) → r bytes ≡ Ok (x, rest) → Sound (held ++ x ∷ later) → ⊥)
    → with_front held (many_at r (count - i) bytes) ≡ total → (xs : List A) (rest : List ℕ) → total ≡ Ok (xs, rest) → Sound xs → ⊥
unfolding many_at
refused_amid {A} r Sound held count i bytes total lt refused so_far xs rest all sound =
    let k = count - (i + 1) in
    let more : count - i ≡ suc k = omega arith in
    let front : ℕ → Result (List A × List ℕ) EntryRefused = λ n. with_front held (many_at r n bytes) in
    let e : front (suc k) ≡ Ok (xs, rest) = ap front (sym more) ∙ so_far ∙ all in
    let p = bind_ok (many_at r (suc k) bytes) (λ x. Ok (held ++ x.0, x.1)) (xs, rest) e in
    let q = bind_ok (r bytes) (λ u. many_at r k u.1 >>= λ v. Ok (u.0 ∷ v.0, v.1)) p.0 p.1 in
    let o = bind_ok (many_at r k q.0.1) (λ v. Ok (q.0.0 ∷ v.0, v.1)) p.0 q.2 in
    let made : List A × List ℕ = (q.0.0 ∷ o.0.0, o.0.1) in
    let whole : List A × List ℕ = (held ++ p.0.0, p.0.1) in
    let tail : q.0.0 ∷ o.0.0 ≡ p.0.0 = ap (λ (x : List A × List ℕ). x.0) (ok_is made p.0 o.2) in
    let list : held ++ p.0.0 ≡ xs = ap (λ (x : List A × List ℕ). x.0) (ok_is whole (xs, rest) p.2) in
    refused q.0.0 o.0.0 q.0.1 q.1 (subst Sound (sym (ap (λ (ys : List A). held ++ ys) tail ∙ list)) sound)

-- Bytes that can't be read have no value.
pub unread : {B : Type 0} (total : Result B EntryRefused) (refused : EntryRefused) (y : B) → FailsUnlessMemory refused total → refused ≡ Bad → total ≡ Ok y → ⊥
unread total NoMemory y fails is all = absurd cc
unread total Bad y fails is all = let wrong = sym fails ∙ all in absurd cc

-- A list isn't read if one of its rows can't be read.
pub unread_amid : {A : Type 0} (total : Result (List A × List ℕ) EntryRefused) (refused : EntryRefused) (xs : List A) (rest : List ℕ) → FailsUnlessMemory refused total → refused ≡ Bad → total ≡ Ok (xs, rest) → ⊥
unread_amid total refused xs rest fails is all = unread total refused (xs, rest) fails is all

-- Reading a row twice gives the same row.
pub same_row : {A : Type 0} (read : Result (A × List ℕ) EntryRefused) (x y : A) (rest after : List ℕ) → read ≡ Ok (x, rest) → read ≡ Ok (y, after) → y ≡ x
same_row {A} read x y rest after one other =
    let p : A × List ℕ = (y, after) in
    ap (λ (q : A × List ℕ). q.0) (ok_is p (x, rest) (sym other ∙ one))

-- ---- keys that stand once

apart : {K : Type 0} (same : K → K → Bool) (x : K) (xs : List K) (y : K) (ys : List K) → AllByRecursion (λ z. same x z ≡ false) (xs ++ y ∷ ys) → same x y ≡ false
apart same x [] y ys v = v.0
apart same x (z ∷ xs) y ys v = apart same x xs y ys v.1

-- A key that is among the keys before it is there twice.
pub repeated_key : {K : Type 0} (same : K → K → Bool) → ((x y : K) → same x y ≡ same y x) → (held : List K) (x : K) (later : List K) → IsDistinct same (held ++ x ∷ later) → list_any (same x) held ≡ false
unfolding IsDistinct
repeated_key same flips [] x later once = refl
repeated_key same flips (y ∷ held) x later once =
    let first : same x y ≡ false = flips x y ∙ apart same y held x later once.0 in
    rw first (repeated_key same flips held x later once.1)

-- ---- what a list that is sound leaves out

-- A name that is already there is rejected, and so is any name if the list is full.
pub name_repeated : (held : List Name) (name : Name) (later : List Name) → is_among held name ≡ true → AreNames (held ++ name ∷ later) → ⊥
name_repeated held name later there are = let not_there = repeated_key same_name same_name-laws.symm held name later are.once in cc

pub names_full : (held : List Name) (name : Name) (later : List Name) → length held ≡ MOST_NAMES → AreNames (held ++ name ∷ later) → ⊥
names_full held name later full are =
    let few = are.few in
    let more : length (name ∷ later) ≡ 1 + length later = omega arith in
    omega (arith, few, full, length-append held (name ∷ later), more)

pub name_put : (start now new : State) (name : Name) → now ≡ record start { names = now.names } → new ≡ with_name now name → new ≡ record start { names = new.names }
name_put start now new name before put =
    let all : new ≡ record start { names = now.names ++ name ∷ [] } = put ∙ ap (λ (a : State). with_name a name) before in
    all ∙ ap (λ (names : List Name). record start { names = names }) (sym (ap (λ (a : State). a.names) all))

-- A label that has a row is rejected, and so is a row that brings too much weight.
pub module_repeated : (held : List (Bytes × Module)) (row : Bytes × Module) (later : List (Bytes × Module)) → list_any (same_label row.0) (keys_of held) ≡ true → AreModules (held ++ row ∷ later) → ⊥
module_repeated held row later there are =
    let once : IsDistinct same_label (keys_of held ++ row.0 ∷ keys_of later) = subst (IsDistinct same_label) (map-append (λ (r : Bytes × Module). r.0) held (row ∷ later)) are.once in
    let not_there = repeated_key same_label nat_list_eq_equiv.symm (keys_of held) row.0 (keys_of later) once in
    cc

abbrev row_weight : Bytes × Module → ℕ
row_weight row = sum row.1.sums

pub modules_full : (held : List (Bytes × Module)) (row : Bytes × Module) (later : List (Bytes × Module)) → MOST_TOTAL < weight_in held + sum row.1.sums → AreModules (held ++ row ∷ later) → ⊥
modules_full held row later past are =
    let within = are.within in
    omega (arith, within, past, sum_by-append row_weight held (row ∷ later), sum_by-cons row_weight row later)

pub module_put : (start now new : State) (row : Bytes × Module) → now ≡ record start { modules = now.modules; total = now.total } → new ≡ with_module now row
    → new ≡ record start { modules = new.modules; total = new.total }
module_put start now new row before put =
    let with : List (Bytes × Module) → ℕ → State = λ modules total. record start { modules = modules; total = total } in
    let all : new ≡ with (now.modules ++ row ∷ []) (now.total + sum row.1.sums) = put ∙ ap (λ (a : State). with_module a row) before in
    all ∙ ap (λ modules. with modules (now.total + sum row.1.sums)) (sym (ap (λ (a : State). a.modules) all)) ∙ ap (λ total. with new.modules total) (sym (ap (λ (a : State). a.total) all))

-- A page that has a row is rejected.
pub page_repeated : (held : List (ℕ × PageRow)) (row : ℕ × PageRow) (later : List (ℕ × PageRow)) → list_any (nat_eq row.0) (keys_of held) ≡ true → ArePages (held ++ row ∷ later) → ⊥
page_repeated held row later there are =
    let once : IsDistinct nat_eq (keys_of held ++ row.0 ∷ keys_of later) = subst (IsDistinct nat_eq) (map-append (λ (r : ℕ × PageRow). r.0) held (row ∷ later)) are.once in
    let not_there = repeated_key nat_eq nat_eq_equiv.symm (keys_of held) row.0 (keys_of later) once in
    cc

pub page_put : (start now new : State) (row : ℕ × PageRow) → now ≡ record start { pages = now.pages } → new ≡ with_page now row → new ≡ record start { pages = new.pages }
page_put start now new row before put =
    let all : new ≡ record start { pages = now.pages ++ row ∷ [] } = put ∙ ap (λ (a : State). with_page a row) before in
    all ∙ ap (λ (pages : List (ℕ × PageRow)). record start { pages = pages }) (sym (ap (λ (a : State). a.pages) all))

-- ---- a list after its number

with_none : {A : Type 0} (read : Result (List A × List ℕ) EntryRefused) → with_front [] read ≡ read
with_none (Ok x) = refl
with_none (Err e) = refl

pub list_begins : {A : Type 0} (r : Reader A) (held : List A) (bytes : List ℕ) (count : ℕ) (rest : List ℕ) → held ≡ [] → u64_at bytes ≡ Ok (count, rest)
    → with_front held (many_at r (count - 0) rest) ≡ list_at r bytes
unfolding list_at
list_begins r held bytes count rest none read =
    let all : count - 0 ≡ count = omega arith in
    rw (none, all) (with_none (many_at r count rest)) ∙ sym (ap (λ n. n >>= λ m. many_at r m.0 m.1) read)

pub unlisted : {A : Type 0} (r : Reader A) (bytes : List ℕ) (refused : EntryRefused) → RefusesExactly refused (u64_at bytes) → FailsUnlessMemory refused (list_at r bytes)
unfolding list_at
unlisted r bytes NoMemory fails = tt
unlisted r bytes Bad fails = ap (λ n. n >>= λ m. many_at r m.0 m.1) fails

-- A property of every value that can be read is a property of the returned value.
pub read_is : {X A : Type 0} (r : Reader A) (s : A → List ℕ) (V : A → Type 0) (P : X → Type 0) → Reads r s V → (view : X → A × List ℕ) → ((x : X) → V (view x).0 → P x)
    → (bytes : List ℕ) (result : Result X EntryRefused) → AreBytes bytes → ReadsUnlessMemory view result (r bytes) → IfOk result P
read_is r s V P reads view to bytes (Ok x) fits given = to x (reads.takes bytes (view x).0 (view x).1 fits given).1
read_is r s V P reads view to bytes (Err refused) fits given = tt
