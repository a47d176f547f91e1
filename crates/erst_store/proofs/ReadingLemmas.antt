-- A file that is read has this spelling, and a file with this spelling is read.
use Rattle.std.proofs.Common.{◌≡◌, ℕ, zero, suc, ◌+◌, ◌-◌, ◌^◌, ◌<◌, ◌≤◌, Bool, true, false, cond, nat_eq, nat_lt, if◌then◌else◌, List, [], ◌∷◌, ◌++◌, length, take, drop, None, Some, ◌||◌, refl, sym, ap, subst, ◌∙◌, arith, append_assoc, add-one}
use Rattle.std.specs.Prelude.{codes, slice_get, Result, Ok, Err, Option, map, not, ◌&&◌}
use Rattle.std.specs.Option.{is_none}
use Rattle.std.specs.Result.{result_unwrap_or}
use Rattle.std.specs.List.{AllByRecursion, IsDistinct, list_any, flat_map}
use Rattle.std.specs.Cmp.Lexicographic.{pointwise, same_text}
use Rattle.std.proofs.lemmas.Bool.{ltb-false, le-ltb, eqb-true}
use Rattle.std.proofs.lemmas.Bool.Decides.{nat_tests}
use Rattle.std.proofs.lemmas.List.{append-nil, take_at, drop_at, take_all, take-append-drop, length-append, length-take-le, map-append, nil_from_length}
use Rattle.std.proofs.lemmas.List.Concat.{flat_map-cons}
use Rattle.std.proofs.lemmas.Map.Keys.{IsDistinct-head, IsDistinct-tail}
use Rattle.ras_base.specs.Chaining.{◌>>=◌}
use Rattle.ras_base.specs.LittleEndian.{AreBytes, u32_bytes, u64_bytes, number_at}
use Rattle.ras_base.specs.Steps.LittleEndianLemmas.{AreBytes-drop, AreBytes-take, number_at-lt, length-u32_bytes, length-u64_bytes, u32_bytes-number_at, u64_bytes-number_at, number_at-u32_bytes, number_at-u64_bytes}
use Rattle.erst_store.specs.declared.reading.StoreRefused.{StoreRefused}
use Rattle.erst_store.specs.declared.reading.StoreRefused.TheVariants.{Malformed, NoMemory}
use Rattle.erst_store.specs.Store.{Stored, Fits, IsStore, most_records, most_bytes, all_ones, is_reserved, ids, contents, holds, refusal_of, record_after_put}
use Rattle.erst_store.specs.declared.store.PutRefused.{PutRefused}
use Rattle.erst_store.specs.Steps.StoreLemmas.{IsStore-nil}
use Rattle.erst_store.specs.Steps.KeptLemmas.{unrefused, IsStore-unrefused}
use Rattle.erst_store.specs.StoreFile.{record_bytes, heading, store_bytes, ReadsStore, ReadsBack}
use Rattle.erst_store.specs.StoreReading.{FailsStore, GivesStore, front_number, front_record, may_follow, with_next, records_at, count_at, file_at, store_at}

-- ---- steps that gave a value

bind_ok : {A B : Type 0} (r : Result A StoreRefused) (f : A → Result B StoreRefused) (y : B) → (r >>= f) ≡ Ok y → (x : A) × (r ≡ Ok x) × (f x ≡ Ok y)
bind_ok (Ok x) f y is = (x, refl, is)
bind_ok (Err e) f y is = absurd cc

guard_ok : {X : Type 0} (b : Bool) (x y : X) → cond b (Err Malformed) (Ok x) ≡ Ok y → (b ≡ false) × (x ≡ y)
guard_ok true x y is = absurd cc
guard_ok false x y is = (refl, cc)

chosen_ok : {X : Type 0} (b : Bool) (r : Result X StoreRefused) (y : X) → cond b r (Err Malformed) ≡ Ok y → (b ≡ true) × (r ≡ Ok y)
chosen_ok true r y is = (refl, is)
chosen_ok false r y is = absurd cc

ok_is : {X : Type 0} (x y : X) → ◌≡◌ {A = Result X StoreRefused} (Ok x) (Ok y) → x ≡ y
ok_is x y is = cc

some_is : {X : Type 0} (x y : X) → Some x ≡ Some y → x ≡ y
some_is x y is = cc

-- what a reader took from the front
pub record Takes (bytes text rest : List ℕ) : Type 0 where
  pub parts : bytes ≡ text ++ rest
  pub rest_fits : AreBytes rest

Takes-then : (a x b y c : List ℕ) → Takes a x b → Takes b y c → Takes a (x ++ y) c
Takes-then a x b y c p q = record { parts = p.parts ∙ ap (λ (t : List ℕ). x ++ t) q.parts ∙ sym (append_assoc x y c); rest_fits = q.rest_fits }

-- ---- numbers

u32_takes : (bytes : List ℕ) (n : ℕ) (rest : List ℕ) → AreBytes bytes → front_number 4 bytes ≡ Ok (n, rest) → Takes bytes (u32_bytes n) rest
u32_takes bytes n rest fits e =
    let g = guard_ok (nat_lt (length bytes) 4) (number_at 0 4 bytes, drop 4 bytes) (n, rest) e in
    let n-is : number_at 0 4 bytes ≡ n = ap (λ (p : ℕ × List ℕ). p.0) g.1 in
    let rest-is : drop 4 bytes ≡ rest = ap (λ (p : ℕ × List ℕ). p.1) g.1 in
    record {
      parts = sym (ap (λ (k : ℕ). u32_bytes k ++ rest) (sym n-is) ∙ ap (λ (back : List ℕ). u32_bytes (number_at 0 4 bytes) ++ back) (sym rest-is) ∙ ap (λ (front : List ℕ). front ++ drop 4 bytes) (u32_bytes-number_at 0 bytes fits (ltb-false _ _ g.0)) ∙ take-append-drop 4 bytes);
      rest_fits = subst AreBytes rest-is (AreBytes-drop 4 bytes fits);
    }

u64_takes : (bytes : List ℕ) (n : ℕ) (rest : List ℕ) → AreBytes bytes → front_number 8 bytes ≡ Ok (n, rest) → Takes bytes (u64_bytes n) rest
u64_takes bytes n rest fits e =
    let g = guard_ok (nat_lt (length bytes) 8) (number_at 0 8 bytes, drop 8 bytes) (n, rest) e in
    let n-is : number_at 0 8 bytes ≡ n = ap (λ (p : ℕ × List ℕ). p.0) g.1 in
    let rest-is : drop 8 bytes ≡ rest = ap (λ (p : ℕ × List ℕ). p.1) g.1 in
    record {
      parts = sym (ap (λ (k : ℕ). u64_bytes k ++ rest) (sym n-is) ∙ ap (λ (back : List ℕ). u64_bytes (number_at 0 8 bytes) ++ back) (sym rest-is) ∙ ap (λ (front : List ℕ). front ++ drop 8 bytes) (u64_bytes-number_at 0 bytes fits (ltb-false _ _ g.0)) ∙ take-append-drop 8 bytes);
      rest_fits = subst AreBytes rest-is (AreBytes-drop 8 bytes fits);
    }

u32_again : (n : ℕ) (rest : List ℕ) → n < 2 ^ 32 → front_number 4 (u32_bytes n ++ rest) ≡ Ok (n, rest)
u32_again n rest lt =
    let long : nat_lt (length (u32_bytes n ++ rest)) 4 ≡ false = le-ltb _ _ (omega (arith, length-append (u32_bytes n) rest, length-u32_bytes n)) in
    rw (long, number_at-u32_bytes n rest lt, drop_at (u32_bytes n) rest 4 (length-u32_bytes n)) refl

u64_again : (n : ℕ) (rest : List ℕ) → n < 2 ^ 64 → front_number 8 (u64_bytes n ++ rest) ≡ Ok (n, rest)
u64_again n rest lt =
    let long : nat_lt (length (u64_bytes n ++ rest)) 8 ≡ false = le-ltb _ _ (omega (arith, length-append (u64_bytes n) rest, length-u64_bytes n)) in
    rw (long, number_at-u64_bytes n rest lt, drop_at (u64_bytes n) rest 8 (length-u64_bytes n)) refl

-- ---- a record

-- A record was read from the front: its identifier has 64 bits, and its bytes are below 256.
abbrev TakesRecord : List ℕ → Stored × List ℕ → Type 0
TakesRecord bytes x = Takes bytes (record_bytes x.0) x.1 × (x.0.id < 2 ^ 64) × AreBytes x.0.bytes

record_takes : (bytes : List ℕ) (x : Stored × List ℕ) → AreBytes bytes → front_record bytes ≡ Ok x → TakesRecord bytes x
unfolding front_record
record_takes bytes x fits e =
    let a = bind_ok (front_number 8 bytes) (λ id. front_number 4 id.1 >>= λ n. if nat_lt (length n.1) n.0 then Err Malformed else Ok (record { id = id.0; bytes = take n.0 n.1 }, drop n.0 n.1)) x e in
    let b = bind_ok (front_number 4 a.0.1) (λ n. if nat_lt (length n.1) n.0 then Err Malformed else Ok (record { id = a.0.0; bytes = take n.0 n.1 }, drop n.0 n.1)) x a.2 in
    let n = b.0 in
    let made : Stored × List ℕ = (record { id = a.0.0; bytes = take n.0 n.1 }, drop n.0 n.1) in
    let g = guard_ok (nat_lt (length n.1) n.0) made x b.2 in
    let t0 = u64_takes bytes a.0.0 a.0.1 fits a.1 in
    let t1 = u32_takes a.0.1 n.0 n.1 t0.rest_fits b.1 in
    let len : length (take n.0 n.1) ≡ n.0 = length-take-le n.0 n.1 (ltb-false _ _ g.0) in
    let t2 : Takes n.1 (take n.0 n.1) (drop n.0 n.1) = record { parts = sym (take-append-drop n.0 n.1); rest_fits = AreBytes-drop n.0 n.1 t1.rest_fits } in
    let t01 = Takes-then bytes (u64_bytes a.0.0) a.0.1 (u32_bytes n.0) n.1 t0 t1 in
    let t012 = Takes-then bytes (u64_bytes a.0.0 ++ u32_bytes n.0) n.1 (take n.0 n.1) (drop n.0 n.1) t01 t2 in
    let whole : Takes bytes (record_bytes made.0) made.1 = subst (λ (k : ℕ). Takes bytes (u64_bytes a.0.0 ++ u32_bytes k ++ take n.0 n.1) (drop n.0 n.1)) (sym len) t012 in
    let id_is : number_at 0 8 bytes ≡ a.0.0 = ap (λ (p : ℕ × List ℕ). p.0) (guard_ok (nat_lt (length bytes) 8) (number_at 0 8 bytes, drop 8 bytes) a.0 a.1).1 in
    let fits_id : a.0.0 < 2 ^ 64 = subst (λ (n : ℕ). n < 2 ^ 64) id_is (number_at-lt 0 8 bytes fits) in
    subst (TakesRecord bytes) g.1 (whole, fits_id, AreBytes-take n.0 n.1 t1.rest_fits)

record_again : (r : Stored) (rest : List ℕ) → Fits r → front_record (record_bytes r ++ rest) ≡ Ok (r, rest)
unfolding front_record
record_again r rest fits =
    let grouped : record_bytes r ++ rest ≡ u64_bytes r.id ++ (u32_bytes (length r.bytes) ++ (r.bytes ++ rest)) =
    append_assoc (u64_bytes r.id ++ u32_bytes (length r.bytes)) r.bytes rest ∙ append_assoc (u64_bytes r.id) (u32_bytes (length r.bytes)) (r.bytes ++ rest)
    in
    let room : nat_lt (length (r.bytes ++ rest)) (length r.bytes) ≡ false = le-ltb _ _ (omega (arith, length-append r.bytes rest)) in
    ap front_record grouped
    ∙ rw (u64_again r.id (u32_bytes (length r.bytes) ++ (r.bytes ++ rest)) (omega (arith, fits.below)), u32_again (length r.bytes) (r.bytes ++ rest) (omega (arith, fits.size)), room, take_at r.bytes rest (length r.bytes) refl, drop_at r.bytes rest (length r.bytes) refl) refl

-- ---- which record may follow

each_middle : {X : Type 0} (P : X → Type 0) (xs : List X) (y : X) (ys : List X) → AllByRecursion P (xs ++ y ∷ ys) → P y
each_middle P [] y ys each = each.0
each_middle P (x ∷ xs) y ys each = each_middle P xs y ys each.1

flip_false : (a b : ℕ) → nat_eq a b ≡ false → nat_eq b a ≡ false
flip_false a b apart = grind (arith, nat_tests)

new_behind : (ks : List ℕ) (k : ℕ) (later : List ℕ) → IsDistinct nat_eq (ks ++ k ∷ later) → list_any (nat_eq k) ks ≡ false
new_behind [] k later distinct = refl
new_behind (x ∷ ks) k later distinct =
    ap (λ b. b || list_any (nat_eq k) ks) (flip_false x k (each_middle (λ y. nat_eq x y ≡ false) ks k later (IsDistinct-head nat_eq x (ks ++ k ∷ later) distinct)))
    ∙ new_behind ks k later (IsDistinct-tail nat_eq x (ks ++ k ∷ later) distinct)

not_reserved : (id : ℕ) → 0 < id → id < all_ones → is_reserved id ≡ false
not_reserved id above below = grind (arith, nat_tests)

not_equal : (a b : ℕ) → a < b → nat_eq a b ≡ false
not_equal a b below = grind (arith, nat_tests)

follows : (before : List Stored) (r : Stored) (later : List Stored) → IsStore (before ++ r ∷ later) → may_follow r before ≡ true
follows before r later kept =
    let fits : Fits r = each_middle Fits before r later kept.each in
    let new : holds r.id before ≡ false = new_behind (ids before) r.id (ids later) (subst (IsDistinct nat_eq) (map-append (λ (q : Stored). q.id) before (r ∷ later)) kept.distinct) in
    let good : is_reserved r.id ≡ false = not_reserved r.id fits.above fits.below in
    let short : nat_lt most_bytes (length r.bytes) ≡ false = le-ltb _ _ fits.size in
    let room : nat_eq (length before) most_records ≡ false = not_equal _ _ (omega (arith, kept.count, length-append before (r ∷ later))) in
    let unrefused : refusal_of r.id r.bytes before ≡ None = rw (good, short, room) refl in
    rw (unrefused, new) refl

may_kept : (r : Stored) (before : List Stored) → IsStore before → r.id < 2 ^ 64 → AreBytes r.bytes → may_follow r before ≡ true → IsStore (before ++ r ∷ [])
may_kept r before kept fits are may = by (holds r.id before) (refusal_of r.id r.bytes before) refl refl may
  where
    by : (there : Bool) (refusal : Option PutRefused) → holds r.id before ≡ there → refusal_of r.id r.bytes before ≡ refusal → (not there && is_none refusal) ≡ true → IsStore (before ++ r ∷ [])
    by true refusal new free follows = absurd cc
    by false (Some cause) new free follows = absurd cc
    by false None new free follows =
        subst (λ b. IsStore (if b then map (record_after_put r.id r.bytes) before else before ++ r ∷ [])) new
        (IsStore-unrefused r.id r.bytes before kept fits are (unrefused r.id r.bytes before free))

-- ---- all records

pub record TakesAll (count : ℕ) (before : List Stored) (bytes : List ℕ) (all : List Stored) : Type 0 where
  pub later : List Stored
  pub all_is : all ≡ before ++ later
  pub count_is : length later ≡ count
  pub bytes_are : bytes ≡ flat_map record_bytes later
  pub kept : IsStore before → IsStore all

records_take : (count : ℕ) (before : List Stored) (bytes : List ℕ) (all : List Stored) → AreBytes bytes → records_at count before bytes ≡ Ok all → TakesAll count before bytes all
unfolding records_at
records_take zero before bytes all fits is =
    let ended = chosen_ok (nat_eq (length bytes) 0) (Ok before) all is in
    record {
      later = [];
      all_is = sym (append-nil before ∙ ok_is before all ended.1);
      count_is = refl;
      bytes_are = nil_from_length bytes (eqb-true _ _ ended.0);
      kept = λ was. subst IsStore (ok_is before all ended.1) was;
    }
records_take (suc count) before bytes all fits is =
    let first = bind_ok (front_record bytes) (λ r. with_next r.0 before >>= λ new. records_at count new r.1) all is in
    let second = bind_ok (with_next first.0.0 before) (λ new. records_at count new first.0.1) all first.2 in
    let next = chosen_ok (may_follow first.0.0 before) (Ok (before ++ first.0.0 ∷ [])) second.0 second.1 in
    let new_is : before ++ first.0.0 ∷ [] ≡ second.0 = ok_is _ _ next.1 in
    let taken = record_takes bytes first.0 fits first.1 in
    let others = records_take count second.0 first.0.1 all taken.0.rest_fits second.2 in
    record {
      later = first.0.0 ∷ others.later;
      all_is = others.all_is ∙ ap (λ (rs : List Stored). rs ++ others.later) (sym new_is) ∙ append_assoc before (first.0.0 ∷ []) others.later;
      count_is = ap suc others.count_is;
      bytes_are = taken.0.parts ∙ ap (λ (back : List ℕ). record_bytes first.0.0 ++ back) others.bytes_are ∙ sym (flat_map-cons record_bytes first.0.0 others.later);
      kept = λ was. others.kept (subst IsStore new_is (may_kept first.0.0 before was taken.1 taken.2 next.0));
    }

records_again : (before later : List Stored) → IsStore (before ++ later) → records_at (length later) before (flat_map record_bytes later) ≡ Ok (before ++ later)
unfolding records_at
records_again before [] kept = ap (λ (rs : List Stored). let read : Result (List Stored) StoreRefused = Ok rs in read) (sym (append-nil before))
records_again before (r ∷ later) kept =
    let moved : before ++ r ∷ [] ++ later ≡ before ++ r ∷ later = append_assoc before (r ∷ []) later in
    let step : records_at (suc (length later)) before (record_bytes r ++ flat_map record_bytes later) ≡ records_at (length later) (before ++ r ∷ []) (flat_map record_bytes later) =
    rw (record_again r (flat_map record_bytes later) (each_middle Fits before r later kept.each), follows before r later kept) refl
    in
    ap (records_at (suc (length later)) before) (flat_map-cons record_bytes r later)
    ∙ step
    ∙ records_again (before ++ r ∷ []) later (subst IsStore (sym moved) kept)
    ∙ ap (λ (rs : List Stored). let read : Result (List Stored) StoreRefused = Ok rs in read) moved

-- One more record, as a loop reads it.
pub goes_on : (count i : ℕ) (before new : List Stored) (bytes after : List ℕ) (r : Stored) (total : Result (List Stored) StoreRefused) → i < count → front_record bytes ≡ Ok (r, after) → with_next r before ≡ Ok new
    → records_at (count - i) before bytes ≡ total → records_at (count - (i + 1)) new after ≡ total
unfolding records_at
goes_on count i before new bytes after r total lt read follow so_far =
    let k : count - i ≡ suc (count - (i + 1)) = omega arith in
    let one : records_at (count - i) before bytes ≡ records_at (count - (i + 1)) new after = rw (k, read, follow) refl in
    sym one ∙ so_far

pub ends_read : (e : StoreRefused) (count i : ℕ) (before : List Stored) (bytes : List ℕ) (total : Result (List Stored) StoreRefused) → i < count → FailsStore e (front_record bytes)
    → records_at (count - i) before bytes ≡ total → FailsStore e total
unfolding records_at
ends_read NoMemory count i before bytes total lt fails so_far = tt
ends_read Malformed count i before bytes total lt fails so_far =
    let k : count - i ≡ suc (count - (i + 1)) = omega arith in
    let one : records_at (count - i) before bytes ≡ Err Malformed = rw (k, fails) refl in
    sym so_far ∙ one

pub ends_follow : (e : StoreRefused) (count i : ℕ) (before : List Stored) (bytes after : List ℕ) (r : Stored) (total : Result (List Stored) StoreRefused) → i < count → front_record bytes ≡ Ok (r, after) → FailsStore e (with_next r before)
    → records_at (count - i) before bytes ≡ total → FailsStore e total
unfolding records_at
ends_follow NoMemory count i before bytes after r total lt read fails so_far = tt
ends_follow Malformed count i before bytes after r total lt read fails so_far =
    let k : count - i ≡ suc (count - (i + 1)) = omega arith in
    let one : records_at (count - i) before bytes ≡ Err Malformed = rw (k, read, fails) refl in
    sym so_far ∙ one

pub is_done : (count i : ℕ) (before : List Stored) (bytes : List ℕ) (total : Result (List Stored) StoreRefused) → count ≤ i → records_at (count - i) before bytes ≡ total → (if nat_eq (length bytes) 0 then Ok before else Err Malformed) ≡ total
unfolding records_at
is_done count i before bytes total le so_far =
    let k : count - i ≡ 0 = omega arith in
    let one : records_at (count - i) before bytes ≡ (if nat_eq (length bytes) 0 then Ok before else Err Malformed) = rw k refl in
    sym one ∙ so_far

-- ---- whole files

pub file_takes : (bytes : List ℕ) (all : List Stored) → AreBytes bytes → file_at bytes ≡ Ok all → (bytes ≡ store_bytes all) × IsStore all
unfolding file_at count_at
file_takes bytes all fits e =
    let a = bind_ok (count_at bytes) (λ n. records_at n.0 [] n.1) all e in
    let begins = chosen_ok (pointwise nat_eq (take 8 bytes) (codes "RASERST1")) (front_number 4 (drop 8 bytes)) a.0 a.1 in
    let magic : take 8 bytes ≡ codes "RASERST1" = same_text (take 8 bytes) (codes "RASERST1") (sym begins.0) in
    let counted = u32_takes (drop 8 bytes) a.0.0 a.0.1 (AreBytes-drop 8 bytes fits) begins.1 in
    let others = records_take a.0.0 [] a.0.1 all counted.rest_fits a.2 in (
      sym (take-append-drop 8 bytes)
          ∙ ap (λ (front : List ℕ). front ++ drop 8 bytes) magic
          ∙ ap (λ (back : List ℕ). codes "RASERST1" ++ back) (counted.parts ∙ ap (λ (back : List ℕ). u32_bytes a.0.0 ++ back) others.bytes_are ∙ ap (λ (n : ℕ). u32_bytes n ++ flat_map record_bytes others.later) (sym others.count_is))
          ∙ ap store_bytes (sym others.all_is),
      others.kept IsStore-nil,
    )

pub store_at-kept : (bytes : List ℕ) → AreBytes bytes → IsStore (store_at bytes)
store_at-kept bytes fits = by (file_at bytes) refl
  where
    by : (r : Result (List Stored) StoreRefused) → file_at bytes ≡ r → IsStore (result_unwrap_or r [])
    by (Ok all) is = (file_takes bytes all fits is).1
    by (Err e) is = IsStore-nil

pub file_again : (records : List Stored) → IsStore records → file_at (store_bytes records) ≡ Ok records
unfolding file_at count_at
file_again records kept =
    rw (u32_again (length records) (flat_map record_bytes records) (omega (arith, kept.count))) (records_again [] records kept)

pub is_read : (bytes : List ℕ) (r : Result (List Stored) StoreRefused) → AreBytes bytes → GivesStore (λ s. s) r (file_at bytes) → ReadsStore bytes r
is_read bytes (Ok all) fits given = (file_takes bytes all fits given).0
is_read bytes (Err NoMemory) fits given = tt
is_read bytes (Err Malformed) fits given = λ records kept is.
    let found : file_at bytes ≡ Ok records = ap file_at is ∙ file_again records kept in
    absurd cc

pub is_read_back : (bytes : List ℕ) (r : Result (List Stored) StoreRefused) (records : List Stored) → GivesStore (λ s. s) r (file_at bytes) → IsStore records → bytes ≡ store_bytes records → ReadsBack records r
is_read_back bytes (Ok all) records given kept is =
    let found : file_at bytes ≡ Ok records = ap file_at is ∙ file_again records kept in
    ok_is all records (sym given ∙ found)
is_read_back bytes (Err NoMemory) records given kept is = tt
is_read_back bytes (Err Malformed) records given kept is =
    let found : file_at bytes ≡ Ok records = ap file_at is ∙ file_again records kept in
    absurd cc

-- The loop has ended, with bytes left or without.
pub is_left : (count i : ℕ) (before : List Stored) (bytes : List ℕ) (total : Result (List Stored) StoreRefused) → count ≤ i → nat_eq (length bytes) 0 ≡ false → records_at (count - i) before bytes ≡ total → total ≡ Err Malformed
is_left count i before bytes total le left so_far = sym (is_done count i before bytes total le so_far) ∙ ap (λ b. if b then Ok before else Err Malformed) left

pub is_all : (count i : ℕ) (before : List Stored) (bytes : List ℕ) (total : Result (List Stored) StoreRefused) → count ≤ i → nat_eq (length bytes) 0 ≡ true → records_at (count - i) before bytes ≡ total → total ≡ Ok before
is_all count i before bytes total le none so_far = sym (is_done count i before bytes total le so_far) ∙ ap (λ b. if b then Ok before else Err Malformed) none

-- Parts that were written one after the other.
pub put_parts : (out a b c : List ℕ) → out ++ a ++ b ++ c ≡ out ++ (a ++ b ++ c)
put_parts out a b c = ap (λ (front : List ℕ). front ++ c) (append_assoc out a b) ∙ append_assoc out (a ++ b) c

-- One more record, as a loop writes it.
next_suc : (rs : List Stored) (i id : ℕ) (bytes : List ℕ) → slice_get (ids rs) i ≡ Some id → slice_get (contents rs) i ≡ Some bytes
    → flat_map record_bytes (take (suc i) rs) ≡ flat_map record_bytes (take i rs) ++ record_bytes (record { id = id; bytes = bytes })
next_suc [] i id bytes is_id is_bytes = absurd cc
next_suc (r ∷ rs) zero id bytes is_id is_bytes =
    let same : r ≡ record { id = id; bytes = bytes } = λ j. record { id = some_is r.id id is_id j; bytes = some_is r.bytes bytes is_bytes j } in
    flat_map-cons record_bytes r [] ∙ append-nil (record_bytes r) ∙ ap record_bytes same
next_suc (r ∷ rs) (suc i) id bytes is_id is_bytes =
    flat_map-cons record_bytes r (take (suc i) rs)
    ∙ ap (λ (back : List ℕ). record_bytes r ++ back) (next_suc rs i id bytes is_id is_bytes)
    ∙ sym (append_assoc (record_bytes r) (flat_map record_bytes (take i rs)) (record_bytes (record { id = id; bytes = bytes })))
    ∙ ap (λ (front : List ℕ). front ++ record_bytes (record { id = id; bytes = bytes })) (sym (flat_map-cons record_bytes r (take i rs)))

pub next_bytes : (start : List ℕ) (rs : List Stored) (i id : ℕ) (bytes out new : List ℕ) → slice_get (ids rs) i ≡ Some id → slice_get (contents rs) i ≡ Some bytes
    → out ≡ start ++ flat_map record_bytes (take i rs) → new ≡ out ++ record_bytes (record { id = id; bytes = bytes }) → new ≡ start ++ flat_map record_bytes (take (i + 1) rs)
next_bytes start rs i id bytes out new is_id is_bytes so_far pushed =
    pushed
    ∙ ap (λ (front : List ℕ). front ++ record_bytes (record { id = id; bytes = bytes })) so_far
    ∙ append_assoc start (flat_map record_bytes (take i rs)) (record_bytes (record { id = id; bytes = bytes }))
    ∙ ap (λ (back : List ℕ). start ++ back) (sym (next_suc rs i id bytes is_id is_bytes) ∙ ap (λ (n : ℕ). flat_map record_bytes (take n rs)) (sym (add-one i)))

pub heading-nil : (count : ℕ) → heading count ≡ heading count ++ flat_map record_bytes []
heading-nil count = sym (append-nil (heading count))

-- A store's bytes after others, with none of its records yet, and with all.
pub begun_after : (old : List ℕ) (count : ℕ) → (old ++ codes "RASERST1") ++ u32_bytes count ≡ (old ++ heading count) ++ flat_map record_bytes []
begun_after old count =
    append_assoc old (codes "RASERST1") (u32_bytes count) ∙ sym (append-nil (old ++ heading count))

pub ended_after : (old head : List ℕ) (records : List Stored) (i : ℕ) → length records ≤ i → (old ++ head) ++ flat_map record_bytes (take i records) ≡ old ++ (head ++ flat_map record_bytes records)
ended_after old head records i all =
    ap (λ (some : List Stored). (old ++ head) ++ flat_map record_bytes some) (take_all i records all)
    ∙ append_assoc old head (flat_map record_bytes records)
