-- What is printed with ranges are the texts, each once.
use Rattle.std.proofs.Common.{◌≡◌, ℕ, ◌+◌, ◌<◌, ◌≤◌, ◌&&◌, Bool, true, false, not, List, [], ◌∷◌, ◌++◌, append-nil, length, length-append, map, refl, sym, ap, subst, ◌∙◌, arith, nat_lt, Option, None, Some, inl, inr, if◌then◌else◌}
use Rattle.std.proofs.lemmas.Bool.Decides.{nat_tests}
use Rattle.std.specs.List.{AllByRecursion}
use Rattle.block_lines.specs.Whole.{AreWholeLines}
use Rattle.block_lines.proofs.WholeLemmas.{both, ends}
use Rattle.line_filters.specs.Pieces.{AreShort}
use Rattle.log_lines.specs.Comments.{exceeds_call}
use Rattle.log_lines.specs.DimmLaws.{DoesNotFit, PrintsTexts, plain_part}
use Rattle.log_lines.specs.Dimms.{DimmsState, Part, Saying, after_part, dimm_parts, dimms_after, dimms_begun, dimms_last, dimms_over, heard, part_passed, part_text, in_heading, listens, range_line, range_told, range_text, ranged_with, stays_held, whole_part}
use Rattle.log_lines.specs.Slots.{SlotLine}
use Rattle.log_lines.specs.declared.dimms.ToldRange.{ToldRange}
use Rattle.log_lines.specs.declared.dimms.TheConstants.{MOST_HELD, MOST_SLOTS}
use Rattle.log_lines.proofs.DimmLemmas.{part_short}

-- ---- a line of the heading changes nothing that waits

pub heard_held : (dimms : DimmsState) (slot : Option SlotLine) → (heard dimms slot).held ≡ dimms.held
heard_held dimms slot = by dimms.heading slot
  where
    by : (heading : Bool) (slot : Option SlotLine)
        → (if heading then in_heading dimms slot else dimms).held ≡ dimms.held
    by false slot = refl
    by true None = refl
    by true (Some slot) = room (nat_lt (length dimms.slots) MOST_SLOTS)
      where
        room : (has : Bool) → (if has then record dimms { slots = dimms.slots ++ slot ∷ [] } else dimms).held ≡ dimms.held
        room true = refl
        room false = refl

-- ---- each text is printed once

pub sum_is : (a b c : List ℕ) → length (a ++ b ++ c) ≡ length a + length b + length c
sum_is a b c = omega (arith, length-append (a ++ b) c, length-append a b)

more_than : (most whole a b c text : ℕ) → whole ≡ a + b + c → most < whole → c ≤ text → most < a + b + text
more_than most whole a b c text is above within = omega (arith, is, above, within)

longer : (a b c text : List ℕ) → 4096 < length (a ++ b ++ c) → length c ≤ length text → 4096 < length a + length b + length text
longer a b c text above within = more_than 4096 (length (a ++ b ++ c)) (length a) (length b) (length c) (length text) (sum_is a b c) above within

pub is_long : (text : List ℕ) → exceeds_call text ≡ true → 4096 < length text
is_long text is = grind (arith, nat_tests, is)

too_long : (range : Option ToldRange) (held shown text : List ℕ) → exceeds_call (range_text range ++ held ++ shown) ≡ true → length shown ≤ length text → DoesNotFit held text
too_long range held shown text is within =
    (range, longer (range_text range) held shown text (is_long (range_text range ++ held ++ shown) is) within)

shown_within : (stays : Bool) (text : List ℕ) → length (if stays then [] else text) ≤ length text
shown_within true text = omega arith
shown_within false text = omega arith

each_by : (d : DimmsState) (range : Option ToldRange) (said : List ℕ) (sayings : List Saying)
    → ((d : DimmsState) → PrintsTexts d.held (map (λ (s : Saying). s.said) sayings) (map plain_part (dimm_parts d sayings)) (dimms_over d sayings).held)
    → (stays long : Bool) → exceeds_call (range_text range ++ d.held ++ (if stays then [] else said)) ≡ long
    → PrintsTexts d.held (said ∷ map (λ (s : Saying). s.said) sayings)
    (plain_part (if long then record { range = None; released = []; said = said } else record { range = range; released = d.held; said = if stays then [] else said })
    ∷ map plain_part (dimm_parts (if long then d else record d { ranged = ranged_with d.ranged range; held = if stays then said else [] }) sayings))
    (dimms_over (if long then d else record d { ranged = ranged_with d.ranged range; held = if stays then said else [] }) sayings).held
each_by d range said sayings rest stays true is =
    inr (inr (refl, (too_long range d.held (if stays then [] else said) said is (shown_within stays said), rest d)))
each_by d range said sayings rest true false is =
    inr (inl (append-nil d.held, rest (record d { ranged = ranged_with d.ranged range; held = said })))
each_by d range said sayings rest false false is =
    inl (refl, rest (record d { ranged = ranged_with d.ranged range; held = [] }))

pub prints_each : (sayings : List Saying) (d : DimmsState)
    → PrintsTexts d.held (map (λ (s : Saying). s.said) sayings) (map plain_part (dimm_parts d sayings)) (dimms_over d sayings).held
prints_each [] d = refl
prints_each (s ∷ sayings) d =
    let h : DimmsState = heard d s.slot in
    let stays : Bool = stays_held h s.said s.waits in
    subst (λ (held : List ℕ). PrintsTexts held (s.said ∷ map (λ (s : Saying). s.said) sayings) (map plain_part (dimm_parts d (s ∷ sayings))) (dimms_over d (s ∷ sayings)).held)
    (heard_held d s.slot)
    (each_by h (range_told h s.told) s.said sayings (prints_each sayings) stays (exceeds_call (range_text (range_told h s.told) ++ h.held ++ (if stays then [] else s.said))) refl)

-- ---- what waits is short

held_by : (d : DimmsState) (range : Option ToldRange) (said : List ℕ) (waits listening short long : Bool) → nat_lt MOST_HELD (length said) ≡ short
    → length d.held ≤ MOST_HELD
    → length (if long then d else record d { ranged = ranged_with d.ranged range; held = if waits && listening && not short then said else [] }).held ≤ MOST_HELD
held_by d range said waits listening short true is few = few
held_by d range said false listening short false is few = omega arith
held_by d range said true false short false is few = omega arith
held_by d range said true true true false is few = omega arith
held_by d range said true true false false is few = grind (arith, nat_tests, is)

pub held_after : (d : DimmsState) (s : Saying) → length d.held ≤ MOST_HELD → length (dimms_after d s).held ≤ MOST_HELD
held_after d s few =
    let h : DimmsState = heard d s.slot in
    held_by h (range_told h s.told) s.said s.waits (listens h) (nat_lt MOST_HELD (length s.said)) (exceeds_call (part_text (whole_part h s.told s.said s.waits))) refl
    (subst (λ (held : List ℕ). length held ≤ MOST_HELD) (sym (heard_held d s.slot)) few)

pub held_short : (sayings : List Saying) (d : DimmsState) → length d.held ≤ MOST_HELD → length (dimms_over d sayings).held ≤ MOST_HELD
held_short [] d few = few
held_short (s ∷ sayings) d few = held_short sayings (dimms_after d s) (held_after d s few)

-- what waits and the last text are printed by one call
pub last_is : (d : DimmsState) (last : List ℕ) → length d.held ≤ MOST_HELD → length last ≤ 3000 → dimms_last d last ≡ d.held ++ last
last_is d last few short = by (exceeds_call (d.held ++ last)) refl
  where
    by : (long : Bool) → exceeds_call (d.held ++ last) ≡ long → (if long then last else d.held ++ last) ≡ d.held ++ last
    by false is = refl
    by true is =
        absurd (omega (arith, is_long (d.held ++ last) is, length-append d.held last, few, short))

-- ---- one call can print each

pub parts_short : (sayings : List Saying) (d : DimmsState) → AreShort (map (λ (s : Saying). s.said) sayings) → AreShort (map part_text (dimm_parts d sayings))
parts_short [] d short = tt
parts_short (s ∷ sayings) d short =
    (part_short (heard d s.slot) s.told s.said s.waits short.0, parts_short sayings (dimms_after d s) short.1)

-- ---- without slots

abbrev quiet : List ℕ → DimmsState
quiet ranged = record { slots = []; heading = false; ranged = ranged; held = [] }

quiet_range : (ranged : List ℕ) (told : Option (ℕ × List ℕ)) → range_told (quiet ranged) told ≡ None
quiet_range ranged None = refl
quiet_range ranged (Some told) = refl

quiet_stays : (ranged said : List ℕ) (waits : Bool) → stays_held (quiet ranged) said waits ≡ false
quiet_stays ranged said true = refl
quiet_stays ranged said false = refl

quiet_part : (ranged : List ℕ) (told : Option (ℕ × List ℕ)) (said : List ℕ) (waits : Bool)
    → (part_text (part_passed (quiet ranged) told said waits) ≡ said) × (after_part (quiet ranged) told said waits ≡ quiet ranged)
quiet_part ranged told said waits = (
  ap (λ (range : Option ToldRange). text_by range (stays_held (quiet ranged) said waits)) (quiet_range ranged told)
      ∙ ap (text_by None) (quiet_stays ranged said waits) ∙ plain (exceeds_call said),
  ap (λ (range : Option ToldRange). state_by range (stays_held (quiet ranged) said waits)) (quiet_range ranged told)
      ∙ ap (state_by None) (quiet_stays ranged said waits) ∙ same (exceeds_call said),
)
  where
    whole : Option ToldRange → Bool → Part
    whole range stays = record { range = range; released = []; said = if stays then [] else said }

    text_by : Option ToldRange → Bool → List ℕ
    text_by range stays = part_text (if exceeds_call (part_text (whole range stays)) then record { range = None; released = []; said = said } else whole range stays)

    state_by : Option ToldRange → Bool → DimmsState
    state_by range stays =
        if exceeds_call (part_text (whole range stays)) then quiet ranged
        else record { slots = []; heading = false; ranged = ranged_with ranged range; held = if stays then said else [] }

    plain : (long : Bool) → part_text (if long then record { range = None; released = []; said = said } else record { range = None; released = []; said = said }) ≡ said
    plain true = refl
    plain false = refl

    same : (long : Bool) → (if long then quiet ranged else quiet ranged) ≡ quiet ranged
    same true = refl
    same false = refl

-- what is printed of sayings without slots, and what is known of DIMMs behind them
pub record IsQuiet (sayings : List Saying) (d : DimmsState) : Type 0 where
  pub texts : map part_text (dimm_parts d sayings) ≡ map (λ (s : Saying). s.said) sayings
  pub held : (dimms_over d sayings).held ≡ []

quiet_over : (sayings : List Saying) (ranged : List ℕ) → AllByRecursion (λ (s : Saying). s.slot ≡ None) sayings → IsQuiet sayings (quiet ranged)
quiet_over [] ranged none = record { texts = refl; held = refl }
quiet_over (s ∷ sayings) ranged none =
    let heard_quiet : heard (quiet ranged) s.slot ≡ quiet ranged = refl in
    let part = quiet_part ranged s.told s.said s.waits in
    let rest = quiet_over sayings ranged none.1 in
    record {
      texts =
          ap (λ (d : DimmsState). part_text (part_passed (quiet ranged) s.told s.said s.waits) ∷ map part_text (dimm_parts d sayings)) part.1
          ∙ ap (λ (text : List ℕ). text ∷ map part_text (dimm_parts (quiet ranged) sayings)) part.0
          ∙ ap (λ (texts : List (List ℕ)). s.said ∷ texts) rest.texts;
      held = ap (λ (d : DimmsState). (dimms_over d sayings).held) part.1 ∙ rest.held;
    }

pub quiet_from_start : (sayings : List Saying) → AllByRecursion (λ (s : Saying). s.slot ≡ None) sayings → IsQuiet sayings dimms_begun
quiet_from_start [] none = record { texts = refl; held = refl }
quiet_from_start (s ∷ sayings) none =
    let from : quiet [] ≡ heard dimms_begun s.slot = ap (λ (slot : Option SlotLine). in_heading dimms_begun slot) (sym none.0) in
    let all = quiet_over (s ∷ sayings) [] none in
    record {
      texts = subst (λ (d : DimmsState). (part_text (part_passed d s.told s.said s.waits) ∷ map part_text (dimm_parts (after_part d s.told s.said s.waits) sayings))
          ≡ s.said ∷ map (λ (s : Saying). s.said) sayings) from all.texts;
      held = subst (λ (d : DimmsState). (dimms_over (after_part d s.told s.said s.waits) sayings).held ≡ []) from all.held;
    }

-- a text that doesn't follow another is printed as it is
pub last_alone : (d : DimmsState) (last : List ℕ) → d.held ≡ [] → dimms_last d last ≡ last
last_alone d last none = ap (λ (held : List ℕ). if exceeds_call (held ++ last) then last else held ++ last) none ∙ by (exceeds_call last)
  where
    by : (long : Bool) → (if long then last else last) ≡ last
    by true = refl
    by false = refl

-- ---- each is whole lines

abbrev held_in : DimmsState → List ℕ
held_in dimms = dimms.held

range_whole : (range : Option ToldRange) → AreWholeLines (range_text range)
range_whole None = inl refl
range_whole (Some range) = ends (range_line range)

whole_by : (h : DimmsState) (range : Option ToldRange) (said : List ℕ) (stays long : Bool) → AreWholeLines h.held → AreWholeLines said
    → AreWholeLines (part_text (if long then record { range = None; released = []; said = said } else record { range = range; released = h.held; said = if stays then [] else said }))
whole_by h range said stays true held whole = whole
whole_by h range said true false held whole =
    both (range_text range ++ h.held) [] (both (range_text range) h.held (range_whole range) held) (inl refl)
whole_by h range said false false held whole =
    both (range_text range ++ h.held) said (both (range_text range) h.held (range_whole range) held) whole

held_whole_by : (h : DimmsState) (range : Option ToldRange) (said : List ℕ) (stays long : Bool) → AreWholeLines h.held → AreWholeLines said
    → AreWholeLines (held_in (if long then h else record h { ranged = ranged_with h.ranged range; held = if stays then said else [] }))
held_whole_by h range said stays true held whole = held
held_whole_by h range said true false held whole = whole
held_whole_by h range said false false held whole = inl refl

heard_whole : (d : DimmsState) (slot : Option SlotLine) → AreWholeLines d.held → AreWholeLines (heard d slot).held
heard_whole d slot held = subst (λ (text : List ℕ). AreWholeLines text) (sym (heard_held d slot)) held

after_whole : (d : DimmsState) (s : Saying) → AreWholeLines d.held → AreWholeLines s.said → AreWholeLines (dimms_after d s).held
after_whole d s held whole =
    let h : DimmsState = heard d s.slot in
    held_whole_by h (range_told h s.told) s.said (stays_held h s.said s.waits) (exceeds_call (part_text (whole_part h s.told s.said s.waits))) (heard_whole d s.slot held) whole

pub parts_whole : (sayings : List Saying) (d : DimmsState) → AreWholeLines d.held → AllByRecursion AreWholeLines (map (λ (s : Saying). s.said) sayings)
    → AllByRecursion AreWholeLines (map part_text (dimm_parts d sayings))
parts_whole [] d held whole = tt
parts_whole (s ∷ sayings) d held whole =
    let h : DimmsState = heard d s.slot in (
      whole_by h (range_told h s.told) s.said (stays_held h s.said s.waits) (exceeds_call (part_text (whole_part h s.told s.said s.waits))) (heard_whole d s.slot held) whole.0,
      parts_whole sayings (dimms_after d s) (after_whole d s held whole.0) whole.1,
    )

held_whole : (sayings : List Saying) (d : DimmsState) → AreWholeLines d.held → AllByRecursion AreWholeLines (map (λ (s : Saying). s.said) sayings) → AreWholeLines (dimms_over d sayings).held
held_whole [] d held whole = held
held_whole (s ∷ sayings) d held whole = held_whole sayings (dimms_after d s) (after_whole d s held whole.0) whole.1

pub end_whole : (sayings : List Saying) (d : DimmsState) (last : List ℕ) → AreWholeLines d.held → AllByRecursion AreWholeLines (map (λ (s : Saying). s.said) sayings) → AreWholeLines last
    → AreWholeLines (dimms_last (dimms_over d sayings) last)
end_whole sayings d last held whole ending = by (exceeds_call ((dimms_over d sayings).held ++ last))
  where
    by : (long : Bool) → AreWholeLines (if long then last else (dimms_over d sayings).held ++ last)
    by true = ending
    by false = both (dimms_over d sayings).held last (held_whole sayings d held whole) ending
