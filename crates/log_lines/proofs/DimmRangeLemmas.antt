-- Which ranges are printed: what lines told, each block once, and few.
use Rattle.std.proofs.Common.{◌≡◌, ℕ, ◌+◌, ◌≤◌, ◌==◌, ◌&&◌, ◌||◌, Bool, true, false, not, List, [], ◌∷◌, ◌++◌, length, length-append, refl, sym, subst, ◌∙◌, arith, nat_lt, Option, None, Some, inl, inr, if◌then◌else◌}
use Rattle.std.proofs.lemmas.Bool.Decides.{nat_tests}
use Rattle.std.proofs.lemmas.List.Folds.{list_any-append}
use Rattle.std.proofs.lemmas.Slice.Eq.{bytes_eq-Decides}
use Rattle.std.specs.List.{AllByRecursion, list_any}
use Rattle.std.specs.Option.{option_map}
use Rattle.std.specs.Prelude.{⊤}
use Rattle.std.specs.Str.{bytes_eq}
use Rattle.log_lines.specs.Comments.{exceeds_call}
use Rattle.log_lines.specs.DimmLaws.{AreApart, IsOfOne, IsToldRange, before_ranges, told_ranges}
use Rattle.log_lines.specs.Dimms.{DimmsState, Part, Saying, block_at, dimm_parts, dimms_begun, heard, in_heading, listens, part_text, range_told, ranged_with, slot_called, stays_held, takes_range, whole_part}
use Rattle.log_lines.specs.Slots.{SlotLine}
use Rattle.log_lines.specs.declared.dimms.ToldRange.{ToldRange}
use Rattle.log_lines.specs.declared.dimms.TheConstants.{MOST_RANGES, MOST_SLOTS}

-- ---- a range was told

-- whether a block has a range
abbrev is_ranged : List ℕ → ℕ → Bool
is_ranged ranged block = list_any (λ x. x == block) ranged

abbrev range_in : Part → Option ToldRange
range_in part = part.range

-- where the slot and the label of a range come from
record IsFrom (T : ℕ × List ℕ → Type 0) (S : SlotLine → Type 0) (range : ToldRange) : Type 0 where
  pub label : List ℕ
  pub told : T (range.address, label)
  pub slot : S (record { name = range.name; label = label })

-- this holds of the range, if there is one
abbrev IfRange : (ToldRange → Type 0) → Option ToldRange → Type 0
IfRange P None = ⊤
IfRange P (Some range) = P range

-- a slot that is called so is one of the slots
called_from : (S : SlotLine → Type 0) (T : ℕ × List ℕ → Type 0) (address : ℕ) (label : List ℕ) (slots : List SlotLine) → AllByRecursion S slots → T (address, label)
    → IfRange (IsFrom T S) (option_map (λ (slot : SlotLine). record { name = slot.name; address = address }) (slot_called slots label))
called_from S T address label [] all told = tt
called_from S T address label (slot ∷ slots) all told = by (bytes_eq slot.label label) refl (called_from S T address label slots all.1 told)
  where
    by : (same : Bool) → bytes_eq slot.label label ≡ same
        → IfRange (IsFrom T S) (option_map (λ (slot : SlotLine). record { name = slot.name; address = address }) (slot_called slots label))
        → IfRange (IsFrom T S) (option_map (λ (slot : SlotLine). record { name = slot.name; address = address }) (if same then Some slot else slot_called slots label))
    by true is rest =
        let label_is : slot.label ≡ label = (bytes_eq-Decides slot.label label).0 is in
        record {
          label = label;
          told = told;
          slot = subst (λ (x : List ℕ). S (record { name = slot.name; label = x })) label_is all.0;
        }
    by false is rest = rest

range_from : (S : SlotLine → Type 0) (T : ℕ × List ℕ → Type 0) (d : DimmsState) (told : Option (ℕ × List ℕ)) → AllByRecursion S d.slots
    → ((t : ℕ × List ℕ) → told ≡ Some t → T t) → IfRange (IsFrom T S) (range_told d told)
range_from S T d None all tells = tt
range_from S T d (Some told) all tells = by (takes_range d told.0)
  where
    by : (takes : Bool) → IfRange (IsFrom T S) (if takes then option_map (λ (slot : SlotLine). record { name = slot.name; address = told.0 }) (slot_called d.slots told.1) else None)
    by true = called_from S T told.0 told.1 d.slots all (tells told refl)
    by false = tt

-- ---- what a line changes

all_with : (S : SlotLine → Type 0) (slots : List SlotLine) (slot : SlotLine) → AllByRecursion S slots → S slot → AllByRecursion S (slots ++ slot ∷ [])
all_with S [] slot all one = (one, tt)
all_with S (x ∷ slots) slot all one = (all.0, all_with S slots slot all.1 one)

heard_slots : (S : SlotLine → Type 0) (d : DimmsState) (slot : Option SlotLine) → AllByRecursion S d.slots → ((x : SlotLine) → slot ≡ Some x → S x) → AllByRecursion S (heard d slot).slots
heard_slots S d slot all says = by d.heading slot says
  where
    by : (heading : Bool) (slot : Option SlotLine) → ((x : SlotLine) → slot ≡ Some x → S x) → AllByRecursion S (if heading then in_heading d slot else d).slots
    by false slot says = all
    by true None says = all
    by true (Some slot) says = room (nat_lt (length d.slots) MOST_SLOTS)
      where
        room : (has : Bool) → AllByRecursion S (if has then record d { slots = d.slots ++ slot ∷ [] } else d).slots
        room true = all_with S d.slots slot all (says slot refl)
        room false = all

heard_ranged : (d : DimmsState) (slot : Option SlotLine) → (heard d slot).ranged ≡ d.ranged
heard_ranged d slot = by d.heading slot
  where
    by : (heading : Bool) (slot : Option SlotLine) → (if heading then in_heading d slot else d).ranged ≡ d.ranged
    by false slot = refl
    by true None = refl
    by true (Some slot) = room (nat_lt (length d.slots) MOST_SLOTS)
      where
        room : (has : Bool) → (if has then record d { slots = d.slots ++ slot ∷ [] } else d).ranged ≡ d.ranged
        room true = refl
        room false = refl

-- ---- each range was told

-- what a line tells, and the slot that it describes
abbrev Gives : (SlotLine → Type 0) → (ℕ × List ℕ → Type 0) → Saying → Type 0
Gives S T s = ((x : SlotLine) → s.slot ≡ Some x → S x) × ((t : ℕ × List ℕ) → s.told ≡ Some t → T t)

put_before : (P : ToldRange → Type 0) (range : Option ToldRange) (ranges : List ToldRange) → IfRange P range → AllByRecursion P ranges → AllByRecursion P (before_ranges range ranges)
put_before P None ranges one all = all
put_before P (Some range) ranges one all = (one, all)

from_by : (S : SlotLine → Type 0) (T : ℕ × List ℕ → Type 0) (h : DimmsState) (s : Saying) (sayings : List Saying) (stays long : Bool)
    → AllByRecursion S h.slots → IfRange (IsFrom T S) (range_told h s.told)
    → ((d : DimmsState) → AllByRecursion S d.slots → AllByRecursion (IsFrom T S) (told_ranges (dimm_parts d sayings)))
    → AllByRecursion (IsFrom T S)
    (before_ranges (range_in (if long then record { range = None; released = []; said = s.said } else record { range = range_told h s.told; released = h.held; said = if stays then [] else s.said }))
    (told_ranges (dimm_parts (if long then h else record h { ranged = ranged_with h.ranged (range_told h s.told); held = if stays then s.said else [] }) sayings)))
from_by S T h s sayings stays true all one rest = rest h all
from_by S T h s sayings stays false all one rest =
    put_before (IsFrom T S) (range_told h s.told) _ one (rest (record h { ranged = ranged_with h.ranged (range_told h s.told); held = if stays then s.said else [] }) all)

ranges_from : (S : SlotLine → Type 0) (T : ℕ × List ℕ → Type 0) (sayings : List Saying) (d : DimmsState) → AllByRecursion S d.slots → AllByRecursion (Gives S T) sayings
    → AllByRecursion (IsFrom T S) (told_ranges (dimm_parts d sayings))
ranges_from S T [] d all gives = tt
ranges_from S T (s ∷ sayings) d all gives =
    let h : DimmsState = heard d s.slot in
    let slots : AllByRecursion S h.slots = heard_slots S d s.slot all gives.0.0 in
    from_by S T h s sayings (stays_held h s.said s.waits) (exceeds_call (part_text (whole_part h s.told s.said s.waits))) slots
    (range_from S T h s.told slots gives.0.1)
    (λ d all. ranges_from S T sayings d all gives.1)

-- ---- one of the sayings gives it

later : (S : SlotLine → Type 0) (T : ℕ × List ℕ → Type 0) (S' : SlotLine → Type 0) (T' : ℕ × List ℕ → Type 0)
    → ((x : SlotLine) → S x → S' x) → ((t : ℕ × List ℕ) → T t → T' t) → (sayings : List Saying) → AllByRecursion (Gives S T) sayings → AllByRecursion (Gives S' T') sayings
later S T S' T' slots tells [] all = tt
later S T S' T' slots tells (s ∷ sayings) all =
    ((λ x is. slots x (all.0.0 x is), λ t is. tells t (all.0.1 t is)), later S T S' T' slots tells sayings all.1)

abbrev SlotIn : List Saying → SlotLine → Type 0
SlotIn sayings x = IsOfOne (λ s. s.slot ≡ Some x) sayings

abbrev ToldIn : List Saying → ℕ × List ℕ → Type 0
ToldIn sayings t = IsOfOne (λ s. s.told ≡ Some t) sayings

all_give : (sayings : List Saying) → AllByRecursion (Gives (SlotIn sayings) (ToldIn sayings)) sayings
all_give [] = tt
all_give (s ∷ sayings) = (
  (λ x is. inl is, λ t is. inl is),
  later (SlotIn sayings) (ToldIn sayings) (SlotIn (s ∷ sayings)) (ToldIn (s ∷ sayings)) (λ x one. inr one) (λ t one. inr one) sayings (all_give sayings),
)

told_by : (all : List Saying) (ranges : List ToldRange) → AllByRecursion (IsFrom (ToldIn all) (SlotIn all)) ranges → AllByRecursion (IsToldRange all) ranges
told_by all [] from = tt
told_by all (range ∷ ranges) from = (record { label = from.0.label; told = from.0.told; slot = from.0.slot }, told_by all ranges from.1)

pub ranges_told : (sayings : List Saying) → AllByRecursion (IsToldRange sayings) (told_ranges (dimm_parts dimms_begun sayings))
ranges_told sayings = told_by sayings _ (ranges_from (SlotIn sayings) (ToldIn sayings) sayings dimms_begun tt (all_give sayings))

-- ---- no two ranges are of one block

-- a range's block isn't among these
abbrev IsFresh : List ℕ → ToldRange → Type 0
IsFresh ranged range = is_ranged ranged (block_at range.address) ≡ false

or_first : (x y : Bool) → (x || y) ≡ false → x ≡ false
or_first true y none = absurd cc
or_first false y none = refl

or_second : (x y : Bool) → (x || y) ≡ false → y ≡ false
or_second true y none = absurd cc
or_second false y none = none

fresh_before : (ranged : List ℕ) (block : ℕ) (range : ToldRange) → IsFresh (ranged ++ block ∷ []) range → IsFresh ranged range
fresh_before ranged block range fresh =
    or_first (is_ranged ranged (block_at range.address)) (is_ranged (block ∷ []) (block_at range.address))
    (sym (list_any-append (λ x. x == block_at range.address) ranged (block ∷ [])) ∙ fresh)

fresh_apart : (ranged : List ℕ) (block : ℕ) (range : ToldRange) → IsFresh (ranged ++ block ∷ []) range → ¬ (block_at range.address ≡ block)
fresh_apart ranged block range fresh same =
    let other : (block == block_at range.address) ≡ false =
    or_first (block == block_at range.address) false
    (or_second (is_ranged ranged (block_at range.address)) (is_ranged (block ∷ []) (block_at range.address))
    (sym (list_any-append (λ x. x == block_at range.address) ranged (block ∷ [])) ∙ fresh)) in
    differ block (block_at range.address) other (sym same)
  where
    differ : (a b : ℕ) → (a == b) ≡ false → ¬ (a ≡ b)
    differ a b other same = grind (arith, nat_tests, other, same)

all_to : (P Q : ToldRange → Type 0) → ((range : ToldRange) → P range → Q range) → (ranges : List ToldRange) → AllByRecursion P ranges → AllByRecursion Q ranges
all_to P Q so [] all = tt
all_to P Q so (range ∷ ranges) all = (so range all.0, all_to P Q so ranges all.1)

-- ranges of different blocks, all fresh, and few
record AreFew (ranged : List ℕ) (ranges : List ToldRange) : Type 0 where
  pub fresh : AllByRecursion (IsFresh ranged) ranges
  pub apart : AreApart ranges
  pub few : length ranges + length ranged ≤ MOST_RANGES

-- with one more range, if there is one
few_with : (ranged : List ℕ) (range : Option ToldRange) (ranges : List ToldRange) → IfRange (IsFresh ranged) range → AreFew (ranged_with ranged range) ranges → AreFew ranged (before_ranges range ranges)
few_with ranged None ranges one rest = rest
few_with ranged (Some range) ranges one rest = record {
  fresh = (one, all_to (IsFresh (ranged ++ block_at range.address ∷ [])) (IsFresh ranged) (fresh_before ranged (block_at range.address)) ranges rest.fresh);
  apart = (all_to (IsFresh (ranged ++ block_at range.address ∷ [])) (λ other. ¬ (block_at other.address ≡ block_at range.address)) (fresh_apart ranged (block_at range.address)) ranges rest.fresh, rest.apart);
  few = omega (arith, rest.few, length-append ranged (block_at range.address ∷ []));
}

-- a told range's block has no range yet, and there is room for it
range_fresh : (d : DimmsState) (told : Option (ℕ × List ℕ)) → IfRange (IsFresh d.ranged) (range_told d told)
range_fresh d None = tt
range_fresh d (Some told) = by (listens d) (nat_lt (length d.ranged) MOST_RANGES) (is_ranged d.ranged (block_at told.0)) refl
  where
    named : Option SlotLine
    named = slot_called d.slots told.1

    some : (slot : Option SlotLine) → is_ranged d.ranged (block_at told.0) ≡ false
        → IfRange (IsFresh d.ranged) (option_map (λ (slot : SlotLine). record { name = slot.name; address = told.0 }) slot)
    some None fresh = tt
    some (Some slot) fresh = fresh

    by : (listening room has : Bool) → is_ranged d.ranged (block_at told.0) ≡ has
        → IfRange (IsFresh d.ranged) (if listening && room && not has then option_map (λ (slot : SlotLine). record { name = slot.name; address = told.0 }) named else None)
    by false room has is = tt
    by true false has is = tt
    by true true true is = tt
    by true true false is = some named is

range_room : (d : DimmsState) (told : Option (ℕ × List ℕ)) → length d.ranged ≤ MOST_RANGES → length (ranged_with d.ranged (range_told d told)) ≤ MOST_RANGES
range_room d None few = few
range_room d (Some told) few = by (listens d) (nat_lt (length d.ranged) MOST_RANGES) (is_ranged d.ranged (block_at told.0)) refl
  where
    named : Option SlotLine
    named = slot_called d.slots told.1

    some : (slot : Option SlotLine) → nat_lt (length d.ranged) MOST_RANGES ≡ true
        → length (ranged_with d.ranged (option_map (λ (slot : SlotLine). record { name = slot.name; address = told.0 }) slot)) ≤ MOST_RANGES
    some None room = few
    some (Some slot) room = grind (arith, nat_tests, room, length-append d.ranged (block_at told.0 ∷ []))

    by : (listening room has : Bool) → nat_lt (length d.ranged) MOST_RANGES ≡ room
        → length (ranged_with d.ranged (if listening && room && not has then option_map (λ (slot : SlotLine). record { name = slot.name; address = told.0 }) named else None)) ≤ MOST_RANGES
    by false room has is = few
    by true false has is = few
    by true true true is = few
    by true true false is = some named is

few_by : (h : DimmsState) (s : Saying) (sayings : List Saying) (stays long : Bool) → length h.ranged ≤ MOST_RANGES
    → ((d : DimmsState) → length d.ranged ≤ MOST_RANGES → AreFew d.ranged (told_ranges (dimm_parts d sayings)))
    → AreFew h.ranged
    (before_ranges (range_in (if long then record { range = None; released = []; said = s.said } else record { range = range_told h s.told; released = h.held; said = if stays then [] else s.said }))
    (told_ranges (dimm_parts (if long then h else record h { ranged = ranged_with h.ranged (range_told h s.told); held = if stays then s.said else [] }) sayings)))
few_by h s sayings stays true few rest = rest h few
few_by h s sayings stays false few rest =
    few_with h.ranged (range_told h s.told) _ (range_fresh h s.told)
    (rest (record h { ranged = ranged_with h.ranged (range_told h s.told); held = if stays then s.said else [] }) (range_room h s.told few))

ranges_few : (sayings : List Saying) (d : DimmsState) → length d.ranged ≤ MOST_RANGES → AreFew d.ranged (told_ranges (dimm_parts d sayings))
ranges_few [] d few = record { fresh = tt; apart = tt; few = omega (arith, few) }
ranges_few (s ∷ sayings) d few =
    let h : DimmsState = heard d s.slot in
    subst (λ (ranged : List ℕ). AreFew ranged (told_ranges (dimm_parts d (s ∷ sayings)))) (heard_ranged d s.slot)
    (few_by h s sayings (stays_held h s.said s.waits) (exceeds_call (part_text (whole_part h s.told s.said s.waits)))
    (subst (λ (ranged : List ℕ). length ranged ≤ MOST_RANGES) (sym (heard_ranged d s.slot)) few) (ranges_few sayings))

pub ranges_apart : (sayings : List Saying) → AreApart (told_ranges (dimm_parts dimms_begun sayings))
ranges_apart sayings = (ranges_few sayings dimms_begun (omega arith)).apart

pub few_ranges : (sayings : List Saying) → length (told_ranges (dimm_parts dimms_begun sayings)) ≤ MOST_RANGES
few_ranges sayings = omega (arith, (ranges_few sayings dimms_begun (omega arith)).few)
