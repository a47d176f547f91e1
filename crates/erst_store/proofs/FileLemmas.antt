-- A store's file from which a record's bytes are removed.
use Rattle.std.proofs.Common.{◌≡◌, ℕ, zero, suc, ◌+◌, ◌-◌, ◌≤◌, Bool, true, false, nat_eq, if◌then◌else◌, List, [], ◌∷◌, ◌++◌, length, take, drop, slice_get, Some, refl, sym, ap, ◌∙◌, arith, append_assoc, length-append}
use Rattle.std.specs.Prelude.{codes}
use Rattle.std.specs.List.{flat_map}
use Rattle.std.proofs.lemmas.Bool.{eqb-true}
use Rattle.std.proofs.lemmas.Grind.{flat_map-append}
use Rattle.std.proofs.lemmas.List.{drop-append-le, drop-drop, drop-take, drop_at, length-drop, length-take-le, take-take, take_at}
use Rattle.ras_base.specs.LittleEndian.{u32_bytes, u64_bytes}
use Rattle.ras_base.specs.Steps.LittleEndianLemmas.{length-u32_bytes, length-u64_bytes}
use Rattle.erst_store.specs.Store.{Stored, IsStore, bytes_under, contents, without}
use Rattle.erst_store.specs.StoreFile.{LacksRecord, heading, record_bytes, store_bytes}
use Rattle.erst_store.specs.Steps.StoreLemmas.{without-at}
use Rattle.erst_store.specs.Steps.View.{StandsAt}

-- the bytes of the records before an index, and of the records after it
abbrev pub front : List Stored → ℕ → List ℕ
front rs place = flat_map record_bytes (take place rs)

abbrev pub back : List Stored → ℕ → List ℕ
back rs place = flat_map record_bytes (drop (suc place) rs)

-- ---- lengths

pub length-record_bytes : (r : Stored) → length (record_bytes r) ≡ 12 + length r.bytes
length-record_bytes r =
    omega (arith, length-append (u64_bytes r.id ++ u32_bytes (length r.bytes)) r.bytes, length-append (u64_bytes r.id) (u32_bytes (length r.bytes)), length-u64_bytes r.id, length-u32_bytes (length r.bytes))

length-heading : (count : ℕ) → length (heading count) ≡ 12
length-heading count = omega (arith, length-append (codes "RASERST1") (u32_bytes count), length-u32_bytes count)

-- One more record before an index.
pub front-more : (rs : List Stored) (i : ℕ) (bytes : List ℕ) → slice_get (contents rs) i ≡ Some bytes → length (front rs (suc i)) ≡ length (front rs i) + (12 + length bytes)
front-more [] i bytes is = absurd cc
front-more (r ∷ rs) zero bytes is =
    let same : r.bytes ≡ bytes = cc in
    omega (arith, length-append (record_bytes r) [], length-record_bytes r, ap length same)
front-more (r ∷ rs) (suc i) bytes is =
    omega (arith, length-append (record_bytes r) (front rs (suc i)), length-append (record_bytes r) (front rs i), front-more rs i bytes is)

-- ---- the parts of a store's file

parts : (id : ℕ) (bytes : List ℕ) (rs : List Stored) (place : ℕ) → StandsAt id rs place → slice_get (contents rs) place ≡ Some bytes
    → flat_map record_bytes rs ≡ front rs place ++ record_bytes (record { id = id; bytes = bytes }) ++ back rs place
parts id bytes [] place there is = absurd cc
parts id bytes (r ∷ rs) zero there is =
    let same : r.bytes ≡ bytes = cc in
    λ i. record_bytes (record { id = there.same i; bytes = same i }) ++ flat_map record_bytes rs
parts id bytes (r ∷ rs) (suc place) there is =
    let later : StandsAt id rs place = record { within = omega (arith, there.within); same = there.same } in
    let one = record_bytes (record { id = id; bytes = bytes }) in
    ap (λ (text : List ℕ). record_bytes r ++ text) (parts id bytes rs place later is)
    ∙ sym (append_assoc (record_bytes r) (front rs place ++ one) (back rs place))
    ∙ ap (λ (text : List ℕ). text ++ back rs place) (sym (append_assoc (record_bytes r) (front rs place) one))

-- The store without the record at an index.
less : (id : ℕ) (rs : List Stored) (place : ℕ) → IsStore rs → StandsAt id rs place → flat_map record_bytes (without id rs) ≡ front rs place ++ back rs place
less id rs place kept there =
    ap (flat_map record_bytes) (sym (without-at id rs place kept.distinct there))
    ∙ flat_map-append record_bytes (take place rs) (drop (suc place) rs)

one_less : (id : ℕ) (rs : List Stored) (place : ℕ) → IsStore rs → StandsAt id rs place → length rs ≡ length (without id rs) + 1
one_less id rs place kept there =
    omega (arith, there.within, ap length (without-at id rs place kept.distinct there), length-append (take place rs) (drop (suc place) rs), length-take-le place rs (omega (arith, there.within)), length-drop (suc place) rs)

four : (a b c d : List ℕ) → a ++ (b ++ c ++ d) ≡ a ++ b ++ c ++ d
four a b c d = sym (ap (λ (text : List ℕ). text ++ d) (append_assoc a b c) ∙ append_assoc a (b ++ c) d)

-- The file with the record and without it.
pub lacks : (id : ℕ) (bytes : List ℕ) (rs : List Stored) (place : ℕ) → IsStore rs → StandsAt id rs place → slice_get (contents rs) place ≡ Some bytes
    → LacksRecord (record { id = id; bytes = bytes }) (store_bytes rs) (store_bytes (without id rs))
lacks id bytes rs place kept there is = record {
  count = length (without id rs);
  before = front rs place;
  after = back rs place;
  old_is =
      ap (λ (n : ℕ). heading n ++ flat_map record_bytes rs) (one_less id rs place kept there)
      ∙ ap (λ (text : List ℕ). heading (length (without id rs) + 1) ++ text) (parts id bytes rs place there is)
      ∙ four (heading (length (without id rs) + 1)) (front rs place) (record_bytes (record { id = id; bytes = bytes })) (back rs place);
  new_is =
      ap (λ (text : List ℕ). heading (length (without id rs)) ++ text) (less id rs place kept there)
      ∙ sym (append_assoc (heading (length (without id rs))) (front rs place) (back rs place));
}

-- A record whose bytes are found is at an index.
stands_under : (id : ℕ) (rs : List Stored) (bytes : List ℕ) → bytes_under id rs ≡ Some bytes → (place : ℕ) × StandsAt id rs place × (slice_get (contents rs) place ≡ Some bytes)
stands_under id [] bytes is = absurd cc
stands_under id (r ∷ rs) bytes is = by (nat_eq r.id id) refl is (stands_under id rs bytes)
  where
    by : (b : Bool) → nat_eq r.id id ≡ b → (if b then Some r.bytes else bytes_under id rs) ≡ Some bytes
        → (bytes_under id rs ≡ Some bytes → (place : ℕ) × StandsAt id rs place × (slice_get (contents rs) place ≡ Some bytes))
        → (place : ℕ) × StandsAt id (r ∷ rs) place × (slice_get (contents (r ∷ rs)) place ≡ Some bytes)
    by true here found ih = (0, record { within = omega arith; same = eqb-true _ _ here }, found)
    by false apart found ih =
        let later = ih found in
        (suc later.0, record { within = omega (arith, later.1.within); same = later.1.same }, later.2)

pub lacks_under : (id : ℕ) (bytes : List ℕ) (rs : List Stored) → IsStore rs → bytes_under id rs ≡ Some bytes → LacksRecord (record { id = id; bytes = bytes }) (store_bytes rs) (store_bytes (without id rs))
lacks_under id bytes rs kept is =
    let found = stands_under id rs bytes is in
    lacks id bytes rs found.0 kept found.1 found.2

-- ---- the record is cut out in place

-- a list with a part written over
abbrev pub over : ℕ → ℕ → List ℕ → List ℕ → List ℕ
over start width xs part = take start xs ++ (part ++ drop width (drop start xs))

pub length-over : (start width : ℕ) (xs part : List ℕ) → start + width ≤ length xs → length part ≡ width → length (over start width xs part) ≡ length xs
length-over start width xs part room long =
    omega (arith, room, long, length-append (take start xs) (part ++ drop width (drop start xs)), length-append part (drop width (drop start xs)), length-take-le start xs (omega (arith, room)), length-drop width (drop start xs), length-drop start xs)

-- a rotated part
abbrev pub rotated : ℕ → List ℕ → List ℕ
rotated at part = drop at part ++ take at part

pub length-rotated : (at start width : ℕ) (xs : List ℕ) → at ≤ width → start + width ≤ length xs → length (rotated at (take width (drop start xs))) ≡ width
length-rotated at start width xs inside room =
    let part = take width (drop start xs) in
    let long : length part ≡ width = length-take-le width (drop start xs) (omega (arith, room, length-drop start xs)) in
    omega (arith, inside, long, length-append (drop at part) (take at part), length-drop at part, length-take-le at part (omega (arith, long, inside)))

-- The bytes from an offset on, after some were rotated to the front and dropped.
pub turned : (start at count : ℕ) (xs : List ℕ) → start + (at + count) ≤ length xs
    → drop (start + count) (over start (at + count) xs (rotated at (take (at + count) (drop start xs)))) ≡ take at (drop start xs) ++ drop (at + count) (drop start xs)
turned start at count xs room =
    let shown = drop start xs in
    let gone = drop at (take (at + count) shown) in
    let kept = take at (take (at + count) shown) in
    let rest = drop (at + count) shown in
    let part_long : length (take (at + count) shown) ≡ at + count = length-take-le (at + count) shown (omega (arith, room, length-drop start xs)) in
    let gone_long : length gone ≡ count = omega (arith, part_long, length-drop at (take (at + count) shown)) in
    let long : length (take start xs ++ gone) ≡ start + count = omega (arith, gone_long, length-append (take start xs) gone, length-take-le start xs (omega (arith, room))) in
    ap (drop (start + count)) (ap (λ (text : List ℕ). take start xs ++ text) (append_assoc gone kept rest) ∙ sym (append_assoc (take start xs) gone (kept ++ rest)))
    ∙ drop_at (take start xs ++ gone) (kept ++ rest) (start + count) long
    ∙ ap (λ (text : List ℕ). text ++ rest) (take-take at (at + count) shown (omega arith))

-- The bytes from an offset on, after later ones were written over.
pub written : (start place width : ℕ) (xs part : List ℕ) → start + place ≤ length xs → drop start (over (start + place) width xs part) ≡ take place (drop start xs) ++ part ++ drop (place + width) (drop start xs)
written start place width xs part room =
    let rest = drop width (drop (start + place) xs) in
    let same : rest ≡ drop (place + width) (drop start xs) = drop-drop width (start + place) xs ∙ ap (λ (n : ℕ). drop n xs) (omega arith) ∙ sym (drop-drop (place + width) start xs) in
    drop-append-le start (take (start + place) xs) (part ++ rest) (omega (arith, length-take-le (start + place) xs room))
    ∙ ap (λ (text : List ℕ). text ++ (part ++ rest)) (drop-take start place xs)
    ∙ sym (append_assoc (take place (drop start xs)) part rest)
    ∙ ap (λ (text : List ℕ). take place (drop start xs) ++ part ++ text) same

-- The file of a store by its parts: the heading, the records before one, this one, and the records after it.
module _ (id : ℕ) (bytes : List ℕ) (rs : List Stored) (place at count : ℕ) (kept : IsStore rs) (there : StandsAt id rs place) (is : slice_get (contents rs) place ≡ Some bytes) (starts : at ≡ 12 + length (front rs place)) (counts : count ≡ 12 + length bytes) where
  abbrev one : List ℕ
  one = record_bytes (record { id = id; bytes = bytes })

  abbrev head : List ℕ
  head = heading (length rs)

  whole : store_bytes rs ≡ head ++ front rs place ++ one ++ back rs place
  whole = ap (λ (text : List ℕ). head ++ text) (parts id bytes rs place there is) ∙ four head (front rs place) one (back rs place)

  length-before : length (head ++ front rs place) ≡ at
  length-before = omega (arith, starts, length-append head (front rs place), length-heading (length rs))

  length-through : length (head ++ front rs place ++ one) ≡ at + count
  length-through = omega (arith, counts, length-before, length-append (head ++ front rs place) one, length-record_bytes (record { id = id; bytes = bytes }))

  pub left : (old : List ℕ) → old ≡ store_bytes rs → take at old ++ drop (at + count) old ≡ head ++ (front rs place ++ back rs place)
  left old same =
      ap (λ (text : List ℕ). take at text ++ drop (at + count) text) (same ∙ whole)
      ∙ ap (λ (text : List ℕ). text ++ drop (at + count) (head ++ front rs place ++ one ++ back rs place))
      (ap (take at) (append_assoc (head ++ front rs place) one (back rs place)) ∙ take_at (head ++ front rs place) (one ++ back rs place) at length-before)
      ∙ ap (λ (text : List ℕ). head ++ front rs place ++ text) (drop_at (head ++ front rs place ++ one) (back rs place) (at + count) length-through)
      ∙ append_assoc head (front rs place) (back rs place)

  pub cut_fits : (old : List ℕ) → old ≡ store_bytes rs → at + count ≤ length old
  cut_fits old same = omega (arith, ap length (same ∙ whole), length-append (head ++ front rs place ++ one) (back rs place), length-through)

  pub cut_long : (old : List ℕ) → old ≡ store_bytes rs → 12 ≤ length (take at old ++ drop (at + count) old)
  cut_long old same = omega (arith, ap length (left old same), length-append head (front rs place ++ back rs place), length-heading (length rs))

  -- The number of records is one less.
  counted : (n : ℕ) (text : List ℕ) → take 8 (heading n ++ text) ++ u32_bytes (length rs - 1) ++ drop 12 (heading n ++ text) ≡ heading (length rs - 1) ++ text
  counted n text =
      ap (λ (magic : List ℕ). magic ++ u32_bytes (length rs - 1) ++ drop 12 (heading n ++ text))
      (ap (take 8) (append_assoc (codes "RASERST1") (u32_bytes n) text) ∙ take_at (codes "RASERST1") (u32_bytes n ++ text) 8 refl)
      ∙ ap (λ (rest : List ℕ). codes "RASERST1" ++ u32_bytes (length rs - 1) ++ rest) (drop_at (heading n) text 12 (length-heading n))

  pub removed : (old cut new : List ℕ) → old ≡ store_bytes rs → cut ≡ take at old ++ drop (at + count) old → new ≡ take 8 cut ++ u32_bytes (length rs - 1) ++ drop 12 cut → new ≡ store_bytes (without id rs)
  removed old cut new same cut_is new_is =
      new_is
      ∙ ap (λ (text : List ℕ). take 8 text ++ u32_bytes (length rs - 1) ++ drop 12 text) (cut_is ∙ left old same)
      ∙ counted (length rs) (front rs place ++ back rs place)
      ∙ ap (λ (text : List ℕ). heading (length rs - 1) ++ text) (sym (less id rs place kept there))
      ∙ ap (λ (n : ℕ). heading n ++ flat_map record_bytes (without id rs)) (omega (arith, one_less id rs place kept there))
