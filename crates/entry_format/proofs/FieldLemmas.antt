-- Each field of an entry is read as it is spelled.
use Rattle.std.proofs.Common.{◌≡◌, ℕ, ◌^◌, ◌<◌, ◌≤◌, Bool, true, false, ◌&&◌, cond, eqb, ltb, leb, List, [], ◌∷◌, ◌++◌, length, take, drop, Option, Some, None, Ok, Err, refl, sym, ap, subst, ◌∙◌, arith, inl, inr, length-append}
use Rattle.std.specs.Prelude.{IfSome}
use Rattle.std.specs.List.{find}
use Rattle.std.proofs.lemmas.Bool.{ltb-true, ltb-false, lt-ltb, le-ltb, leb-true, le-leb, eqb-true, and_parts, and_from}
use Rattle.std.proofs.lemmas.List.{take_at, drop_at, take-append-drop, length-take}
use Rattle.ras_base.specs.LittleEndian.{AreBytes, u16_bytes, u32_bytes, u64_bytes, number_at}
use Rattle.ras_base.specs.Steps.LittleEndianLemmas.{length-u16_bytes, length-u32_bytes, length-u64_bytes, number_at-lt, number_at-u16_bytes, number_at-u32_bytes, number_at-u64_bytes, u16_bytes-number_at, u32_bytes-number_at, u64_bytes-number_at}
use Rattle.mca_status.specs.Classes.{classes, class_number}
use Rattle.mca_status.specs.declared.classes.ItemClass.{ItemClass}
use Rattle.mca_status.specs.declared.classes.ItemClass.TheVariants.{Ce, Ucna, Srao, Srar, Uc, Odd, Corrected, Recoverable, Fatal, Informational}
use Rattle.dimm_topology.specs.Labels.{Bytes, is_label_or_none}
use Rattle.ras_facts.specs.Valid.{IsPage}
use Rattle.ras_facts.specs.declared.items.TheConstants.{MOST_WEIGHT, PAGES}
use Rattle.entry_format.specs.declared.refused.EntryRefused.TheVariants.{Bad}
use Rattle.entry_format.specs.Spelling.{page_bytes, label_bytes}
use Rattle.entry_format.specs.Reading.{leading_number, u16_at, u32_at, u64_at, byte_at, bytes_at, if_passes, made_at, class_of, class_at, label_at, page_number_at, some_page_at, no_page_at, page_of_kind, page_at, weight_at}
use Rattle.entry_format.proofs.CodecLemmas.{Reads, Makes, bind_ok, ok_is, rest_fits, like_read, made_read, kinds_read, either_kind}

-- A value that was read because there were enough bytes.
long_ok : {A : Type 0} (short : Bool) (x y : A) → cond short (Err Bad) (Ok x) ≡ Ok y → (short ≡ false) × (x ≡ y)
long_ok true x y e = absurd cc
long_ok false x y e = (refl, ok_is x y e)

-- ---- numbers

-- Numbers of this many bytes.
record AreWide (width limit : ℕ) (spell : ℕ → List ℕ) : Type 0 where
  len : (n : ℕ) → length (spell n) ≡ width
  back : (bytes : List ℕ) → AreBytes bytes → width ≤ length bytes → spell (number_at 0 width bytes) ≡ take width bytes
  again : (n : ℕ) (rest : List ℕ) → n < limit → number_at 0 width (spell n ++ rest) ≡ n
  below : (bytes : List ℕ) → AreBytes bytes → number_at 0 width bytes < limit

number_takes : (width limit : ℕ) (spell : ℕ → List ℕ) → AreWide width limit spell → (bytes : List ℕ) (n : ℕ) (rest : List ℕ) → AreBytes bytes → leading_number width bytes ≡ Ok (n, rest)
    → (bytes ≡ spell n ++ rest) × (n < limit)
number_takes width limit spell wide bytes n rest fits e =
    let g = long_ok (ltb (length bytes) width) (number_at 0 width bytes, drop width bytes) (n, rest) e in
    let enough : width ≤ length bytes = ltb-false _ _ g.0 in
    let parts : bytes ≡ spell (number_at 0 width bytes) ++ drop width bytes =
    sym (take-append-drop width bytes) ∙ ap (λ (w : List ℕ). w ++ drop width bytes) (sym (wide.back bytes fits enough)) in
    subst (λ (x : ℕ × List ℕ). (bytes ≡ spell x.0 ++ x.1) × (x.0 < limit)) g.1 (parts, wide.below bytes fits)

number_again : (width limit : ℕ) (spell : ℕ → List ℕ) → AreWide width limit spell → (n : ℕ) (rest : List ℕ) → n < limit → leading_number width (spell n ++ rest) ≡ Ok (n, rest)
number_again width limit spell wide n rest lt =
    let len = wide.len n in
    let enough : ltb (length (spell n ++ rest)) width ≡ false = le-ltb _ _ (omega (arith, length-append (spell n) rest)) in
    rw (enough, drop_at (spell n) rest width len, wide.again n rest lt) refl

number_read : (width limit : ℕ) (spell : ℕ → List ℕ) → AreWide width limit spell → Reads (leading_number width) spell (λ n. n < limit)
number_read width limit spell wide = record { takes = number_takes width limit spell wide; again = number_again width limit spell wide }

wide_2 : AreWide 2 (2 ^ 16) u16_bytes
wide_2 = record { len = length-u16_bytes; back = u16_bytes-number_at 0; again = number_at-u16_bytes; below = number_at-lt 0 2 }

wide_8 : AreWide 8 (2 ^ 64) u64_bytes
wide_8 = record { len = length-u64_bytes; back = u64_bytes-number_at 0; again = number_at-u64_bytes; below = number_at-lt 0 8 }

pub u16_read : Reads u16_at u16_bytes (λ n. n < 2 ^ 16)
unfolding u16_at
u16_read = number_read 2 (2 ^ 16) u16_bytes wide_2

wide_4 : AreWide 4 (2 ^ 32) u32_bytes
wide_4 = record { len = length-u32_bytes; back = u32_bytes-number_at 0; again = number_at-u32_bytes; below = number_at-lt 0 4 }

pub u32_read : Reads u32_at u32_bytes (λ n. n < 2 ^ 32)
unfolding u32_at
u32_read = number_read 4 (2 ^ 32) u32_bytes wide_4

pub u64_read : Reads u64_at u64_bytes (λ n. n < 2 ^ 64)
unfolding u64_at
u64_read = number_read 8 (2 ^ 64) u64_bytes wide_8

byte_takes : (bytes : List ℕ) (n : ℕ) (rest : List ℕ) → AreBytes bytes → byte_at bytes ≡ Ok (n, rest) → (bytes ≡ n ∷ rest) × (n < 2 ^ 8)
unfolding byte_at
byte_takes [] n rest fits e = absurd cc
byte_takes (b ∷ bytes) n rest fits e =
    let made : ℕ × List ℕ = (b, bytes) in
    subst (λ (x : ℕ × List ℕ). (b ∷ bytes ≡ x.0 ∷ x.1) × (x.0 < 2 ^ 8)) (ok_is made (n, rest) e) (refl, fits 0)

byte_again : (n : ℕ) (rest : List ℕ) → byte_at (n ∷ rest) ≡ Ok (n, rest)
unfolding byte_at
byte_again n rest = refl

pub byte_read : Reads byte_at (λ n. n ∷ []) (λ n. n < 2 ^ 8)
byte_read = record { takes = byte_takes; again = λ n rest lt. byte_again n rest }

-- ---- values that have to pass a test

passed : {A : Type 0} (test : Bool) (x y : A) → cond test (Some x) None ≡ Some y → (x ≡ y) × (test ≡ true)
passed true x y e = (cc, refl)
passed false x y e = absurd cc

-- A test makes the values that pass it.
pub tested : {A : Type 0} (test : A → Bool) (V W : A → Type 0) → ((x : A) → V x → test x ≡ true → W x) → ((x : A) → W x → (test x ≡ true) × V x) → Makes (if_passes test) (λ x. x) V W
tested {A} test V W there back = record {
  made = λ x y v e. let p = passed (test x) x y e in (sym p.0, subst W p.0 (there x v p.1));
  again = λ y w. let h = back y w in (rw h.0 refl, h.1);
}

-- ---- a class

found_passes : {X : Type 0} (p : X → Bool) (y x : X) (others : Option X) (test : Bool) → p y ≡ test → (others ≡ Some x → p x ≡ true) → cond test (Some y) others ≡ Some x → p x ≡ true
found_passes p y x others true h go e = let same : y ≡ x = cc in ap p (sym same) ∙ h
found_passes p y x others false h go e = go e

find_passes : {X : Type 0} (p : X → Bool) (xs : List X) (x : X) → find p xs ≡ Some x → p x ≡ true
find_passes p [] x e = absurd cc
find_passes p (y ∷ ys) x e = found_passes p y x (find p ys) (p y) refl (find_passes p ys x) e

class_again : (c : ItemClass) → (class_of (class_number c) ≡ Some c) × (class_number c < 2 ^ 8)
unfolding class_of
class_again Ce = (refl, omega arith)
class_again Ucna = (refl, omega arith)
class_again Srao = (refl, omega arith)
class_again Srar = (refl, omega arith)
class_again Uc = (refl, omega arith)
class_again Odd = (refl, omega arith)
class_again Corrected = (refl, omega arith)
class_again Recoverable = (refl, omega arith)
class_again Fatal = (refl, omega arith)
class_again Informational = (refl, omega arith)

class_makes : Makes class_of class_number (λ n. n < 2 ^ 8) (λ _. Unit {0})
unfolding class_of
class_makes = record {
  made = λ n c lt e. (eqb-true _ _ (find_passes (λ d. eqb (class_number d) n) classes c e), tt);
  again = λ c _. class_again c;
}

pub class_read : Reads class_at (λ c. class_number c ∷ []) (λ _. Unit {0})
unfolding class_at
class_read = made_read class_of class_number byte_at (λ n. n ∷ []) (λ n. n < 2 ^ 8) (λ _. Unit {0}) class_makes byte_read

-- ---- a label after the number of its bytes

-- This many bytes, unchanged.
bytes_read : (n : ℕ) → Reads (bytes_at n) (λ text. text) (λ text. length text ≡ n)
unfolding bytes_at
bytes_read n = record {
  takes = λ bytes text rest fits e.
      let g = long_ok (ltb (length bytes) n) (take n bytes, drop n bytes) (text, rest) e in
      let enough : n ≤ length bytes = ltb-false _ _ g.0 in
      subst (λ (x : Bytes × List ℕ). (bytes ≡ x.0 ++ x.1) × (length x.0 ≡ n)) g.1 (sym (take-append-drop n bytes), omega (arith, length-take n bytes));
  again = λ text rest len.
      let enough : ltb (length (text ++ rest)) n ≡ false = le-ltb _ _ (omega (arith, length-append text rest)) in
      rw (enough, take_at text rest n len, drop_at text rest n len) refl;
}

abbrev IsLabel : Bytes → Type 0
IsLabel label = is_label_or_none label ≡ true

-- A label of this many bytes.
sized_read : (n : ℕ) → Reads (made_at (if_passes is_label_or_none) (bytes_at n)) (λ text. text) (λ text. (length text ≡ n) × IsLabel text)
sized_read n =
    made_read (if_passes is_label_or_none) (λ text. text) (bytes_at n) (λ text. text) (λ text. length text ≡ n) (λ text. (length text ≡ n) × IsLabel text)
    (tested is_label_or_none (λ text. length text ≡ n) (λ text. (length text ≡ n) × IsLabel text) (λ text len is. (len, is)) (λ text w. (w.1, w.0))) (bytes_read n)

label_takes : (bytes : List ℕ) (label : Bytes) (rest : List ℕ) → AreBytes bytes → label_at bytes ≡ Ok (label, rest) → (bytes ≡ label_bytes label ++ rest) × IsLabel label
unfolding label_at byte_at label_bytes
label_takes [] label rest fits e = absurd cc
label_takes (n ∷ bytes) label rest fits e =
    let t = (sized_read n).takes bytes label rest (rest_fits (n ∷ bytes) (n ∷ []) bytes fits refl) e in
    (ap (λ (w : List ℕ). n ∷ w) t.0 ∙ ap (λ (k : ℕ). k ∷ (label ++ rest)) (sym t.1.0), t.1.1)

label_again : (label : Bytes) (rest : List ℕ) → IsLabel label → label_at (label_bytes label ++ rest) ≡ Ok (label, rest)
unfolding label_at byte_at label_bytes
label_again label rest v = (sized_read (length label)).again label rest (refl, v)

pub label_read : Reads label_at label_bytes (λ label. is_label_or_none label ≡ true)
label_read = record { takes = label_takes; again = label_again }

-- ---- a page after its flag

below_makes : Makes (if_passes (λ page. ltb page PAGES)) (λ page. page) (λ n. n < 2 ^ 64) IsPage
below_makes =
    tested (λ page. ltb page PAGES) (λ n. n < 2 ^ 64) IsPage (λ page lt is. ltb-true page PAGES is) (λ page is. (lt-ltb page PAGES is, omega arith))

pub page_number_read : Reads page_number_at u64_bytes IsPage
unfolding page_number_at
page_number_read = made_read (if_passes (λ page. ltb page PAGES)) (λ page. page) u64_at u64_bytes (λ n. n < 2 ^ 64) IsPage below_makes u64_read

abbrev flag_of : Option ℕ → ℕ
flag_of None = 0
flag_of (Some page) = 1

abbrev number_of : Option ℕ → List ℕ
number_of None = []
number_of (Some page) = u64_bytes page

abbrev IsPageOrNone : Option ℕ → Type 0
IsPageOrNone page = IfSome page IsPage

some_page_takes : (bytes : List ℕ) (page : Option ℕ) (rest : List ℕ) → AreBytes bytes → some_page_at bytes ≡ Ok (page, rest) → (1 ≡ flag_of page) × (bytes ≡ number_of page ++ rest) × IsPageOrNone page
unfolding some_page_at
some_page_takes bytes page rest fits e =
    let p = bind_ok (page_number_at bytes) (λ u. Ok (Some u.0, u.1)) (page, rest) e in
    let t = page_number_read.takes bytes p.0.0 p.0.1 fits p.1 in
    let made : Option ℕ × List ℕ = (Some p.0.0, p.0.1) in
    subst (λ (x : Option ℕ × List ℕ). (1 ≡ flag_of x.0) × (bytes ≡ number_of x.0 ++ x.1) × IsPageOrNone x.0) (ok_is made (page, rest) p.2) (refl, t.0, t.1)

no_page_takes : (bytes : List ℕ) (page : Option ℕ) (rest : List ℕ) → no_page_at bytes ≡ Ok (page, rest) → (0 ≡ flag_of page) × (bytes ≡ number_of page ++ rest) × IsPageOrNone page
no_page_takes bytes page rest e =
    let made : Option ℕ × List ℕ = (None, bytes) in
    subst (λ (x : Option ℕ × List ℕ). (0 ≡ flag_of x.0) × (bytes ≡ number_of x.0 ++ x.1) × IsPageOrNone x.0) (ok_is made (page, rest) e) (refl, refl, tt)

page_kind_takes : (k : ℕ) (bytes : List ℕ) (page : Option ℕ) (rest : List ℕ) → AreBytes bytes → page_of_kind k bytes ≡ Ok (page, rest) → (k ≡ flag_of page) × (bytes ≡ number_of page ++ rest) × IsPageOrNone page
page_kind_takes k bytes page rest fits e =
    elim (either_kind k 0 (no_page_at bytes) (cond (eqb k 1) (some_page_at bytes) (Err Bad)) (page, rest) e) [
      | inl h ↦ let t = no_page_takes bytes page rest h.1 in (h.0 ∙ t.0, t.1, t.2)
      | inr others ↦
          elim (either_kind k 1 (some_page_at bytes) (Err Bad) (page, rest) others) [
            | inl h ↦ let t = some_page_takes bytes page rest fits h.1 in (h.0 ∙ t.0, t.1, t.2)
            | inr none ↦ absurd cc
          ]
    ]

page_kind_again : (page : Option ℕ) (rest : List ℕ) → IsPageOrNone page → page_of_kind (flag_of page) (number_of page ++ rest) ≡ Ok (page, rest)
unfolding some_page_at
page_kind_again None rest v = refl
page_kind_again (Some page) rest v = rw (page_number_read.again page rest v) refl

page_spelled : (page : Option ℕ) → flag_of page ∷ number_of page ≡ page_bytes page
unfolding page_bytes
page_spelled None = refl
page_spelled (Some page) = refl

pub page_read : Reads page_at page_bytes (λ page. IfSome page IsPage)
unfolding page_at
page_read =
    like_read page_at (λ page. flag_of page ∷ number_of page) page_bytes IsPageOrNone IsPageOrNone
    (kinds_read page_of_kind flag_of number_of IsPageOrNone (record { takes = page_kind_takes; again = page_kind_again }))
    (λ page v. v) (λ page v. v) page_spelled

-- ---- a weight

abbrev pub IsWeight : ℕ → Type 0
IsWeight weight = (1 ≤ weight) × (weight ≤ MOST_WEIGHT)

abbrev is_weight : ℕ → Bool
is_weight weight = leb 1 weight && leb weight MOST_WEIGHT

weight_makes : Makes (if_passes is_weight) (λ weight. weight) (λ n. n < 2 ^ 16) IsWeight
weight_makes =
    tested is_weight (λ n. n < 2 ^ 16) IsWeight
    (λ weight lt is. let h = and_parts (leb 1 weight) (leb weight MOST_WEIGHT) is in (leb-true 1 weight h.0, leb-true weight MOST_WEIGHT h.1))
    (λ weight v. let most = v.1 in (and_from (leb 1 weight) (leb weight MOST_WEIGHT) (le-leb 1 weight v.0) (le-leb weight MOST_WEIGHT v.1), omega arith))

pub weight_read : Reads weight_at u16_bytes IsWeight
unfolding weight_at
weight_read = made_read (if_passes is_weight) (λ weight. weight) u16_at u16_bytes (λ n. n < 2 ^ 16) IsWeight weight_makes u16_read
