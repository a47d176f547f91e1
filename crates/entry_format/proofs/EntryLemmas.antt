-- Items, facts, limits and entries are read as they are spelled.
use Rattle.std.proofs.Common.{◌≡◌, ℕ, ◌^◌, ◌<◌, ◌≤◌, Bool, true, false, ◌&&◌, cond, eqb, leb, List, [], ◌∷◌, ◌++◌, length, Option, Some, None, Ok, Err, refl, sym, ap, subst, ◌∙◌, append_assoc, arith, inl, inr}
use Rattle.std.specs.Prelude.{IfSome}
use Rattle.std.specs.List.{flat_map, AllByRecursion}
use Rattle.std.proofs.lemmas.Bool.{leb-true, le-leb}
use Rattle.std.proofs.lemmas.List.Elements.{All-from_recursion, recursion_from_All}
use Rattle.ras_base.specs.LittleEndian.{AreBytes, u16_bytes, u64_bytes}
use Rattle.mca_status.specs.Classes.{class_number}
use Rattle.mca_status.specs.declared.classes.ItemClass.{ItemClass}
use Rattle.dimm_topology.specs.Labels.{Bytes, is_label_or_none}
use Rattle.page_policy.specs.declared.buckets.Limit.{Limit}
use Rattle.page_policy.specs.declared.buckets.TheConstants.{MOST_CAPACITY, MOST_PERIOD}
use Rattle.page_policy.specs.Buckets.{IsLimit, limit_of}
use Rattle.ras_facts.specs.declared.name.Name.{Name}
use Rattle.ras_facts.specs.declared.items.Item.{Item}
use Rattle.ras_facts.specs.declared.items.TheConstants.{MOST_ITEMS}
use Rattle.ras_facts.specs.declared.fact.Fact.{Fact}
use Rattle.ras_facts.specs.declared.entry.Entry.{Entry}
use Rattle.ras_facts.specs.declared.entry.Entry.TheVariants as entry
use Rattle.ras_facts.specs.Valid.{IsPage, IsValidItem, IsValidName, IsValidFact}
use Rattle.entry_format.specs.declared.refused.EntryRefused.TheVariants.{Bad}
use Rattle.entry_format.specs.declared.version.Version.{Version}
use Rattle.entry_format.specs.declared.version.Version.TheVariants.{One, Two}
use Rattle.entry_format.specs.File.{CanHold, IsEntryOf}
use Rattle.entry_format.specs.Spelling.{name_bytes, label_bytes, page_bytes, item_bytes, fact_bytes, limit_bytes, entry_bytes}
use Rattle.entry_format.specs.Reading.{both_at, many_at, u16_at, u64_at, name_at, class_at, label_at, page_at, weight_at, item_at, items_at, fact_at, limit_at, fact_entry_at, limit_entry_at, retire_entry_at, module_limit_entry_at, entry_of_kind, entry_at}
use Rattle.entry_format.proofs.CodecLemmas.{Reads, Makes, bind_ok, ok_is, rest_fits, like_read, both_read, made_read, many_read, kinds_read, either_kind}
use Rattle.entry_format.proofs.FieldLemmas.{u16_read, u64_read, class_read, label_read, page_read, IsWeight, weight_read}
use Rattle.entry_format.proofs.NameFormatLemmas.{name_read}

-- A record is made from its fields, and gives them back.
fields_make : {A B : Type 0} (f : A → B) (g : B → A) (V : A → Type 0) (W : B → Type 0) → ((x : A) → g (f x) ≡ x) → ((y : B) → f (g y) ≡ y) → ((x : A) → V x → W (f x)) → ((y : B) → W y → V (g y))
    → Makes (λ x. Some (f x)) g V W
fields_make {A} {B} f g V W back forth there here = record {
  made = λ x y v e. let same : f x ≡ y = cc in (ap g (sym same) ∙ back x, subst W same (there x v));
  again = λ y w. (ap (λ (z : B). Some z) (forth y), here y w);
}

-- ---- an item

abbrev ItemFields : Type 0
ItemFields = ItemClass × (Bytes × (Option ℕ × ℕ))

abbrev item_of : ItemFields → Item
item_of p = record { class = p.0; label = p.1.0; page = p.1.1.0; weight = p.1.1.1 }

abbrev item_fields : Item → ItemFields
item_fields item = (item.class, (item.label, (item.page, item.weight)))

abbrev item_fields_bytes : ItemFields → List ℕ
item_fields_bytes p = class_number p.0 ∷ [] ++ (label_bytes p.1.0 ++ (page_bytes p.1.1.0 ++ u16_bytes p.1.1.1))

abbrev IsLabel : Bytes → Type 0
IsLabel label = is_label_or_none label ≡ true

abbrev IsPageOrNone : Option ℕ → Type 0
IsPageOrNone page = IfSome page IsPage

abbrev AreItemFields : ItemFields → Type 0
AreItemFields p = Unit {0} × (IsLabel p.1.0 × (IsPageOrNone p.1.1.0 × IsWeight p.1.1.1))

item_fields_read : Reads (both_at class_at (both_at label_at (both_at page_at weight_at))) item_fields_bytes AreItemFields
item_fields_read =
    let last = both_read page_at weight_at page_bytes u16_bytes IsPageOrNone IsWeight page_read weight_read in
    let more = both_read label_at (both_at page_at weight_at) label_bytes (λ (p : Option ℕ × ℕ). page_bytes p.0 ++ u16_bytes p.1) IsLabel (λ p. IsPageOrNone p.0 × IsWeight p.1) label_read last in
    both_read class_at (both_at label_at (both_at page_at weight_at)) (λ c. class_number c ∷ []) (λ (p : Bytes × (Option ℕ × ℕ)). label_bytes p.0 ++ (page_bytes p.1.0 ++ u16_bytes p.1.1)) (λ _. Unit {0})
    (λ p. IsLabel p.0 × (IsPageOrNone p.1.0 × IsWeight p.1.1)) class_read more

item_makes : Makes (λ p. Some (item_of p)) item_fields AreItemFields IsValidItem
item_makes =
    fields_make item_of item_fields AreItemFields IsValidItem (λ p. refl) (λ item. refl)
    (λ p v. record { label = v.1.0; page = v.1.1.0; some = v.1.1.1.0; weight = v.1.1.1.1 })
    (λ item v. (tt, (v.label, (v.page, (v.some, v.weight)))))

item_spelled : (item : Item) → item_fields_bytes (item_fields item) ≡ item_bytes item
unfolding item_bytes
item_spelled item = simp append_assoc

pub item_read : Reads item_at item_bytes IsValidItem
unfolding item_at
item_read =
    let fields = both_at class_at (both_at label_at (both_at page_at weight_at)) in
    like_read item_at (λ item. item_fields_bytes (item_fields item)) item_bytes IsValidItem IsValidItem
    (made_read (λ p. Some (item_of p)) item_fields fields item_fields_bytes AreItemFields IsValidItem item_makes item_fields_read)
    (λ item v. v) (λ item v. v) item_spelled

-- ---- items after their number

abbrev list_bytes : List Item → List ℕ
list_bytes items = u16_bytes (length items) ++ flat_map item_bytes items

abbrev AreItems : List Item → Type 0
AreItems items = (length items ≤ MOST_ITEMS) × AllByRecursion IsValidItem items

items_takes : (bytes : List ℕ) (items : List Item) (rest : List ℕ) → AreBytes bytes → items_at bytes ≡ Ok (items, rest) → (bytes ≡ list_bytes items ++ rest) × AreItems items
unfolding items_at
items_takes bytes items rest fits e =
    let p = bind_ok (u16_at bytes) (λ n. many_at item_at n.0 n.1) (items, rest) e in
    let t = u16_read.takes bytes p.0.0 p.0.1 fits p.1 in
    let many = (many_read item_at item_bytes IsValidItem item_read p.0.0).takes p.0.1 items rest (rest_fits bytes (u16_bytes p.0.0) p.0.1 fits t.0) p.2 in
    let len : length items ≡ p.0.0 = many.1.0 in
    let lt = t.1 in
    let parts : bytes ≡ u16_bytes (length items) ++ (flat_map item_bytes items ++ rest) =
    t.0 ∙ ap (λ (w : List ℕ). u16_bytes p.0.0 ++ w) many.0 ∙ ap (λ (n : ℕ). u16_bytes n ++ (flat_map item_bytes items ++ rest)) (sym len) in
    (parts ∙ sym (append_assoc (u16_bytes (length items)) (flat_map item_bytes items) rest), (omega arith, many.1.1))

items_again : (items : List Item) (rest : List ℕ) → AreItems items → items_at (list_bytes items ++ rest) ≡ Ok (items, rest)
unfolding items_at
items_again items rest v =
    let few = v.0 in
    ap items_at (append_assoc (u16_bytes (length items)) (flat_map item_bytes items) rest)
    ∙ rw (u16_read.again (length items) (flat_map item_bytes items ++ rest) (omega arith)) ((many_read item_at item_bytes IsValidItem item_read (length items)).again items rest (refl, v.1))

items_read : Reads items_at list_bytes AreItems
items_read = record { takes = items_takes; again = items_again }

-- ---- a fact

abbrev FactFields : Type 0
FactFields = Name × (ℕ × List Item)

abbrev fact_of : FactFields → Fact
fact_of p = record { name = p.0; seconds = p.1.0; items = p.1.1 }

abbrev fact_fields : Fact → FactFields
fact_fields fact = (fact.name, (fact.seconds, fact.items))

abbrev fact_fields_bytes : FactFields → List ℕ
fact_fields_bytes p = name_bytes p.0 ++ (u64_bytes p.1.0 ++ list_bytes p.1.1)

abbrev AreFactFields : FactFields → Type 0
AreFactFields p = IsValidName p.0 × ((p.1.0 < 2 ^ 64) × AreItems p.1.1)

fact_fields_read : Reads (both_at name_at (both_at u64_at items_at)) fact_fields_bytes AreFactFields
fact_fields_read =
    let last = both_read u64_at items_at u64_bytes list_bytes (λ n. n < 2 ^ 64) AreItems u64_read items_read in
    both_read name_at (both_at u64_at items_at) name_bytes (λ (p : ℕ × List Item). u64_bytes p.0 ++ list_bytes p.1) IsValidName (λ p. (p.0 < 2 ^ 64) × AreItems p.1) name_read last

fact_makes : Makes (λ p. Some (fact_of p)) fact_fields AreFactFields IsValidFact
fact_makes =
    fields_make fact_of fact_fields AreFactFields IsValidFact (λ p. refl) (λ fact. refl)
    (λ p v. record { name = v.0; seconds = v.1.0; count = v.1.1.0; items = All-from_recursion IsValidItem p.1.1 v.1.1.1 })
    (λ fact v. (v.name, (v.seconds, (v.count, recursion_from_All IsValidItem fact.items v.items))))

fact_spelled : (fact : Fact) → fact_fields_bytes (fact_fields fact) ≡ fact_bytes fact
unfolding fact_bytes
fact_spelled fact = simp append_assoc

pub fact_read : Reads fact_at fact_bytes IsValidFact
unfolding fact_at
fact_read =
    let fields = both_at name_at (both_at u64_at items_at) in
    like_read fact_at (λ fact. fact_fields_bytes (fact_fields fact)) fact_bytes IsValidFact IsValidFact
    (made_read (λ p. Some (fact_of p)) fact_fields fields fact_fields_bytes AreFactFields IsValidFact fact_makes fact_fields_read)
    (λ fact v. v) (λ fact v. v) fact_spelled

-- ---- a limit

abbrev LimitFields : Type 0
LimitFields = ℕ × ℕ

abbrev limit_fields : Limit → LimitFields
limit_fields limit = (limit.capacity, limit.period)

abbrev limit_of_fields : LimitFields → Option Limit
limit_of_fields p = limit_of p.0 p.1

abbrev limit_fields_bytes : LimitFields → List ℕ
limit_fields_bytes p = u64_bytes p.0 ++ u64_bytes p.1

abbrev AreNumbers : LimitFields → Type 0
AreNumbers p = (p.0 < 2 ^ 64) × (p.1 < 2 ^ 64)

abbrev of_numbers : ℕ → ℕ → Limit
of_numbers capacity period = record { capacity = capacity; period = period }

-- A limit that was made from two numbers.
limit_made : (a b c d : Bool) (capacity period : ℕ) (limit : Limit) → cond ((a && b) && (c && d)) (Some (of_numbers capacity period)) None ≡ Some limit
    → (of_numbers capacity period ≡ limit) × (a ≡ true) × (b ≡ true) × (c ≡ true) × (d ≡ true)
limit_made true true true true capacity period limit e = (cc, refl, refl, refl, refl)
limit_made true true true false capacity period limit e = absurd cc
limit_made true true false d capacity period limit e = absurd cc
limit_made true false c d capacity period limit e = absurd cc
limit_made false b c d capacity period limit e = absurd cc

limit_makes : Makes limit_of_fields limit_fields AreNumbers IsLimit
limit_makes = record {
  made = λ p limit v e.
      let h = limit_made (leb 1 p.0) (leb p.0 MOST_CAPACITY) (leb 1 p.1) (leb p.1 MOST_PERIOD) p.0 p.1 limit e in
      let valid : IsLimit (of_numbers p.0 p.1) = record {
        capacity_from = leb-true 1 p.0 h.1;
        capacity_to = leb-true p.0 MOST_CAPACITY h.2;
        period_from = leb-true 1 p.1 h.3;
        period_to = leb-true p.1 MOST_PERIOD h.4;
      } in
      (ap limit_fields (sym h.0), subst IsLimit h.0 valid);
  again = λ limit v.
      let capacity = v.capacity_to in
      let period = v.period_to in
      (rw (le-leb 1 limit.capacity v.capacity_from, le-leb limit.capacity MOST_CAPACITY v.capacity_to, le-leb 1 limit.period v.period_from, le-leb limit.period MOST_PERIOD v.period_to) refl, (omega arith, omega arith));
}

limit_spelled : (limit : Limit) → limit_fields_bytes (limit_fields limit) ≡ limit_bytes limit
unfolding limit_bytes
limit_spelled limit = refl

pub limit_read : Reads limit_at limit_bytes IsLimit
unfolding limit_at
limit_read =
    like_read limit_at (λ limit. limit_fields_bytes (limit_fields limit)) limit_bytes IsLimit IsLimit
    (made_read limit_of_fields limit_fields (both_at u64_at u64_at) limit_fields_bytes AreNumbers IsLimit limit_makes
    (both_read u64_at u64_at u64_bytes u64_bytes (λ n. n < 2 ^ 64) (λ n. n < 2 ^ 64) u64_read u64_read))
    (λ limit v. v) (λ limit v. v) limit_spelled

-- ---- an entry

abbrev kind_of : Entry → ℕ
kind_of (entry.Fact fact) = 1
kind_of (entry.Limit limit) = 2
kind_of (entry.Retire boot) = 3
kind_of (entry.ModuleLimit limit) = 4

abbrev fields_of : Entry → List ℕ
fields_of (entry.Fact fact) = fact_bytes fact
fields_of (entry.Limit limit) = limit_bytes limit
fields_of (entry.Retire boot) = u64_bytes boot
fields_of (entry.ModuleLimit limit) = limit_bytes limit

-- what is read of an entry of a kind
abbrev Taken : Version → ℕ → List ℕ → Entry → List ℕ → Type 0
Taken version kind bytes e rest = (kind ≡ kind_of e) × (bytes ≡ fields_of e ++ rest) × IsEntryOf version e

abbrev pair : Entry → List ℕ → Entry × List ℕ
pair e rest = (e, rest)

first_holds_fact : (version : Version) (fact : Fact) → CanHold version (entry.Fact fact)
first_holds_fact One fact = tt
first_holds_fact Two fact = tt

first_holds_limit : (version : Version) (limit : Limit) → CanHold version (entry.Limit limit)
first_holds_limit One limit = tt
first_holds_limit Two limit = tt

first_holds_retire : (version : Version) (boot : ℕ) → CanHold version (entry.Retire boot)
first_holds_retire One boot = tt
first_holds_retire Two boot = tt

fact_takes : (version : Version) (bytes : List ℕ) (x : Entry) (rest : List ℕ) → AreBytes bytes → fact_entry_at bytes ≡ Ok (x, rest) → Taken version 1 bytes x rest
unfolding fact_entry_at
fact_takes version bytes x rest fits e =
    let p = bind_ok (fact_at bytes) (λ u. Ok (entry.Fact u.0, u.1)) (x, rest) e in
    let t = fact_read.takes bytes p.0.0 p.0.1 fits p.1 in
    subst (λ (y : Entry × List ℕ). Taken version 1 bytes y.0 y.1) (ok_is (pair (entry.Fact p.0.0) p.0.1) (x, rest) p.2)
    (refl, t.0, record { valid = t.1; held = first_holds_fact version p.0.0 })

limit_takes : (version : Version) (bytes : List ℕ) (x : Entry) (rest : List ℕ) → AreBytes bytes → limit_entry_at bytes ≡ Ok (x, rest) → Taken version 2 bytes x rest
unfolding limit_entry_at
limit_takes version bytes x rest fits e =
    let p = bind_ok (limit_at bytes) (λ u. Ok (entry.Limit u.0, u.1)) (x, rest) e in
    let t = limit_read.takes bytes p.0.0 p.0.1 fits p.1 in
    subst (λ (y : Entry × List ℕ). Taken version 2 bytes y.0 y.1) (ok_is (pair (entry.Limit p.0.0) p.0.1) (x, rest) p.2)
    (refl, t.0, record { valid = t.1; held = first_holds_limit version p.0.0 })

retire_takes : (version : Version) (bytes : List ℕ) (x : Entry) (rest : List ℕ) → AreBytes bytes → retire_entry_at bytes ≡ Ok (x, rest) → Taken version 3 bytes x rest
unfolding retire_entry_at
retire_takes version bytes x rest fits e =
    let p = bind_ok (u64_at bytes) (λ u. Ok (entry.Retire u.0, u.1)) (x, rest) e in
    let t = u64_read.takes bytes p.0.0 p.0.1 fits p.1 in
    subst (λ (y : Entry × List ℕ). Taken version 3 bytes y.0 y.1) (ok_is (pair (entry.Retire p.0.0) p.0.1) (x, rest) p.2)
    (refl, t.0, record { valid = t.1; held = first_holds_retire version p.0.0 })

module_limit_takes : (version : Version) (bytes : List ℕ) (x : Entry) (rest : List ℕ) → AreBytes bytes → module_limit_entry_at version bytes ≡ Ok (x, rest) → Taken version 4 bytes x rest
unfolding module_limit_entry_at
module_limit_takes One bytes x rest fits e = absurd cc
module_limit_takes Two bytes x rest fits e =
    let p = bind_ok (limit_at bytes) (λ u. Ok (entry.ModuleLimit u.0, u.1)) (x, rest) e in
    let t = limit_read.takes bytes p.0.0 p.0.1 fits p.1 in
    subst (λ (y : Entry × List ℕ). Taken Two 4 bytes y.0 y.1) (ok_is (pair (entry.ModuleLimit p.0.0) p.0.1) (x, rest) p.2)
    (refl, t.0, record { valid = t.1; held = tt })

of_kind : (version : Version) (k kind : ℕ) (bytes : List ℕ) (x : Entry) (rest : List ℕ) → k ≡ kind → Taken version kind bytes x rest → Taken version k bytes x rest
of_kind version k kind bytes x rest same t = (same ∙ t.0, t.1, t.2)

entry_takes : (version : Version) (k : ℕ) (bytes : List ℕ) (x : Entry) (rest : List ℕ) → AreBytes bytes → entry_of_kind version k bytes ≡ Ok (x, rest) → Taken version k bytes x rest
entry_takes version k bytes x rest fits e =
    let fourth = cond (eqb k 4) (module_limit_entry_at version bytes) (Err Bad) in
    let third = cond (eqb k 3) (retire_entry_at bytes) fourth in
    let second = cond (eqb k 2) (limit_entry_at bytes) third in
    elim (either_kind k 1 (fact_entry_at bytes) second (x, rest) e) [
      | inl h ↦ of_kind version k 1 bytes x rest h.0 (fact_takes version bytes x rest fits h.1)
      | inr e2 ↦
          elim (either_kind k 2 (limit_entry_at bytes) third (x, rest) e2) [
            | inl h ↦ of_kind version k 2 bytes x rest h.0 (limit_takes version bytes x rest fits h.1)
            | inr e3 ↦
                elim (either_kind k 3 (retire_entry_at bytes) fourth (x, rest) e3) [
                  | inl h ↦ of_kind version k 3 bytes x rest h.0 (retire_takes version bytes x rest fits h.1)
                  | inr e4 ↦
                      elim (either_kind k 4 (module_limit_entry_at version bytes) (Err Bad) (x, rest) e4) [
                        | inl h ↦ of_kind version k 4 bytes x rest h.0 (module_limit_takes version bytes x rest fits h.1)
                        | inr none ↦ absurd cc
                      ]
                ]
          ]
    ]

module_limit_again : (version : Version) (limit : Limit) (rest : List ℕ) → IsEntryOf version (entry.ModuleLimit limit) → module_limit_entry_at version (limit_bytes limit ++ rest) ≡ Ok (entry.ModuleLimit limit, rest)
unfolding module_limit_entry_at
module_limit_again One limit rest v = absurd v.held
module_limit_again Two limit rest v = rw (limit_read.again limit rest v.valid) refl

entry_again : (version : Version) (x : Entry) (rest : List ℕ) → IsEntryOf version x → entry_of_kind version (kind_of x) (fields_of x ++ rest) ≡ Ok (x, rest)
unfolding fact_entry_at limit_entry_at retire_entry_at
entry_again version (entry.Fact fact) rest v = rw (fact_read.again fact rest v.valid) refl
entry_again version (entry.Limit limit) rest v = rw (limit_read.again limit rest v.valid) refl
entry_again version (entry.Retire boot) rest v = rw (u64_read.again boot rest v.valid) refl
entry_again version (entry.ModuleLimit limit) rest v = module_limit_again version limit rest v

entry_spelled : (x : Entry) → kind_of x ∷ fields_of x ≡ entry_bytes x
unfolding entry_bytes
entry_spelled (entry.Fact fact) = refl
entry_spelled (entry.Limit limit) = refl
entry_spelled (entry.Retire boot) = refl
entry_spelled (entry.ModuleLimit limit) = refl

pub entry_read : (version : Version) → Reads (entry_at version) entry_bytes (IsEntryOf version)
unfolding entry_at
entry_read version =
    like_read (entry_at version) (λ x. kind_of x ∷ fields_of x) entry_bytes (IsEntryOf version) (IsEntryOf version)
    (kinds_read (entry_of_kind version) kind_of fields_of (IsEntryOf version) (record { takes = entry_takes version; again = entry_again version }))
    (λ x v. v) (λ x v. v) entry_spelled

pub entry_not_empty : (x : Entry) → 0 < length (entry_bytes x)
entry_not_empty x = omega (arith, ap length (entry_spelled x))
