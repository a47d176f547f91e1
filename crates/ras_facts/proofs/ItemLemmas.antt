-- A growing list of items.
use Rattle.std.proofs.Common.{◌≡◌, ℕ, ◌+◌, ◌<◌, ◌∙◌, List, [], ◌∷◌, ◌++◌, map, length, take, get_or, Option, Some, Result, Ok, Err, IfOk, sym, ap, subst, arith}
use Rattle.std.specs.Prelude.{All}
use Rattle.std.specs.List.{range_with_len}
use Rattle.std.proofs.lemmas.List.{take_more, map-append}
use Rattle.std.proofs.lemmas.List.Elements.{All-append, All-cons}
use Rattle.std.proofs.lemmas.List.FromFn.{map-range_with_len_more, length-map-range_with_len, get_or-map-range_with_len}
use Rattle.std.proofs.lemmas.Option.{slice_get-get_or}
use Rattle.std.specs.Option.{option_map}
use Rattle.cper_records.specs.Header.{section_count}
use Rattle.cper_records.specs.Descriptors.{section_at}
use Rattle.dimm_topology.specs.declared.row.Row.{Row}
use Rattle.ras_facts.specs.Reported.{section_label, record_item, record_fact, label_at}
use Rattle.ras_facts.specs.declared.items.Item.{Item}
use Rattle.ras_facts.specs.Valid.{IsValidItem}

-- The items are these, each of them valid.
pub record AreItems (items wanted : List Item) : Type 0 where
  pub same : items ≡ wanted
  pub valid : All IsValidItem items

pub valid_more : (items more : List Item) (item : Item) → All IsValidItem items → more ≡ items ++ item ∷ [] → IsValidItem item → All IsValidItem more
valid_more items more item are is valid =
    subst (All IsValidItem) (sym is) (All-append IsValidItem items (item ∷ []) are (All-cons IsValidItem item [] valid (λ k d below. absurd (omega arith))))

-- A list that a function of the number gives, with one more element.
pub numbered_more : {X : Type 0} (f : ℕ → X) (i : ℕ) (xs more : List X) (x : X) → xs ≡ map f (range_with_len 0 i)
    → more ≡ xs ++ x ∷ [] → x ≡ f i → more ≡ map f (range_with_len 0 (i + 1))
numbered_more {X} f i xs more x are is same =
    is ∙ (λ k. are k ++ same k ∷ []) ∙ sym (map-range_with_len_more f 0 i i (omega arith))

pub items_count : (f : ℕ → Item) (n : ℕ) (items : List Item) → AreItems items (map f (range_with_len 0 n)) → length items ≡ n
items_count f n items are = ap (λ (xs : List Item). length xs) are.same ∙ length-map-range_with_len f 0 n

-- A list that a function of each element gives, with one more element.
pub mapped_more : {X : Type 0} (f : List ℕ → X) (ys : List (List ℕ)) (i : ℕ) (xs more : List X) (x : X) → i < length ys
    → xs ≡ map f (take i ys) → more ≡ xs ++ x ∷ [] → x ≡ f (get_or ys i []) → more ≡ map f (take (i + 1) ys)
mapped_more f ys i xs more x below are is same =
    is ∙ (λ k. are k ++ same k ∷ []) ∙ sym (ap (map f) (take_more ys i [] below) ∙ map-append f (take i ys) (get_or ys i [] ∷ []))

-- The label of an item of a record's fact.
pub record_label : (rows : List Row) (seconds : ℕ) (bytes : List ℕ) (i : ℕ) → i < section_count bytes
    → label_at (record_fact rows seconds bytes) i ≡ Some (section_label rows (section_at bytes i))
record_label rows seconds bytes i below =
    let f : ℕ → Item = record_item rows bytes in
    let n = section_count bytes in
    let long : i < length (map f (range_with_len 0 n)) = omega (arith, length-map-range_with_len f 0 n) in
    ap (λ (found : Option Item). option_map (λ (item : Item). item.label) found)
    (slice_get-get_or (map f (range_with_len 0 n)) i (f i) long ∙ ap (λ x. Some x) (get_or-map-range_with_len f 0 n i i (f i) below (omega arith)))

-- A result that equals one value equals every equal value.
pub ok_is : {T E : Type 0} (answer : Result T E) (a b : T) → IfOk answer (λ x. x ≡ a) → a ≡ b → IfOk answer (λ x. x ≡ b)
ok_is (Ok value) a b is same = is ∙ same
ok_is (Err error) a b is same = tt
