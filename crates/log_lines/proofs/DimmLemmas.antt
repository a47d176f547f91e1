-- What holds of the texts that are printed with ranges.
use Rattle.std.proofs.Common.{◌≡◌, ℕ, ◌≤◌, ◌==◌, ◌&&◌, Bool, true, false, not, List, [], ◌++◌, length, refl, sym, ap, ◌∙◌, arith, nat_lt, Option, None, Some, if◌then◌else◌}
use Rattle.std.specs.List.{list_any}
use Rattle.std.specs.Option.{option_map}
use Rattle.std.proofs.lemmas.Bool.Decides.{nat_tests}
use Rattle.line_filters.specs.declared.feeding.TheConstants.{MOST_AT_ONCE}
use Rattle.log_lines.specs.Comments.{exceeds_call}
use Rattle.log_lines.specs.Dimms.{DimmsState, Part, after_part, block_at, dimms_last, stays_held, listens, part_passed, part_text, range_told, ranged_with, slot_called, whole_part}
use Rattle.log_lines.specs.Slots.{SlotLine}
use Rattle.log_lines.specs.declared.dimms.ToldRange.{ToldRange}
use Rattle.log_lines.specs.declared.dimms.TheConstants.{MOST_RANGES}

-- ---- one call can print each

fitting : (full text : List ℕ) → length text ≤ MOST_AT_ONCE → length (if exceeds_call full then text else full) ≤ MOST_AT_ONCE
fitting full text short = by (exceeds_call full) refl
  where
    by : (long : Bool) → exceeds_call full ≡ long → length (if long then text else full) ≤ MOST_AT_ONCE
    by true is = short
    by false is = grind (arith, nat_tests, is)

pub last_short : (dimms : DimmsState) (last : List ℕ) → length last ≤ MOST_AT_ONCE → length (dimms_last dimms last) ≤ MOST_AT_ONCE
last_short dimms last short = fitting (dimms.held ++ last) last short

pub part_short : (dimms : DimmsState) (told : Option (ℕ × List ℕ)) (said : List ℕ) (waits : Bool) → length said ≤ MOST_AT_ONCE
    → length (part_text (part_passed dimms told said waits)) ≤ MOST_AT_ONCE
part_short dimms told said waits short = by (exceeds_call (part_text whole)) refl
  where
    whole : Part
    whole = whole_part dimms told said waits

    by : (long : Bool) → exceeds_call (part_text whole) ≡ long
        → length (part_text (if long then record { range = None; released = []; said = said } else whole)) ≤ MOST_AT_ONCE
    by true is = short
    by false is = grind (arith, nat_tests, is)

-- ---- what was told matters only to one who listens

pub told_to_listener : (dimms : DimmsState) (told : Option (ℕ × List ℕ)) → range_told dimms (if listens dimms then told else None) ≡ range_told dimms told
told_to_listener dimms None = by (listens dimms)
  where
    by : (listening : Bool) → range_told dimms (if listening then None else None) ≡ None
    by true = refl
    by false = refl
told_to_listener dimms (Some told) = by (listens dimms) refl
  where
    range : Option ToldRange
    range = option_map (λ (slot : SlotLine). record { name = slot.name; address = told.0 }) (slot_called dimms.slots told.1)

    by : (listening : Bool) → listens dimms ≡ listening → range_told dimms (if listening then Some told else None) ≡ range_told dimms (Some told)
    by true is = refl
    by false is =
        sym (ap (λ (listening : Bool). if listening && nat_lt (length dimms.ranged) MOST_RANGES && not (list_any (λ block. block == block_at told.0) dimms.ranged) then range else None) is)

-- ---- a call's values are those of the definition

pub part_is : (d dimms : DimmsState) (t told : Option (ℕ × List ℕ)) (s said : List ℕ) (w waits : Bool)
    → range_told d t ≡ range_told d told → d ≡ dimms → s ≡ said → w ≡ waits → part_passed d t s w ≡ part_passed dimms told said waits
part_is d dimms t told s said w waits range same text wait =
    ap (λ (range : Option ToldRange). by range) range
    ∙ ap (λ (x : DimmsState). part_passed x told s w) same
    ∙ ap (λ (x : List ℕ). part_passed dimms told x w) text
    ∙ ap (λ (x : Bool). part_passed dimms told said x) wait
  where
    whole : Option ToldRange → Part
    whole range = record { range = range; released = d.held; said = if stays_held d s w then [] else s }

    by : Option ToldRange → Part
    by range = if exceeds_call (part_text (whole range)) then record { range = None; released = []; said = s } else whole range

pub after_is : (d dimms : DimmsState) (t told : Option (ℕ × List ℕ)) (s said : List ℕ) (w waits : Bool)
    → range_told d t ≡ range_told d told → d ≡ dimms → s ≡ said → w ≡ waits → after_part d t s w ≡ after_part dimms told said waits
after_is d dimms t told s said w waits range same text wait =
    ap (λ (range : Option ToldRange). by range) range
    ∙ ap (λ (x : DimmsState). after_part x told s w) same
    ∙ ap (λ (x : List ℕ). after_part dimms told x w) text
    ∙ ap (λ (x : Bool). after_part dimms told said x) wait
  where
    whole : Option ToldRange → Part
    whole range = record { range = range; released = d.held; said = if stays_held d s w then [] else s }

    by : Option ToldRange → DimmsState
    by range =
        if exceeds_call (part_text (whole range)) then d
        else record { slots = d.slots; heading = d.heading; ranged = ranged_with d.ranged range; held = if stays_held d s w then s else [] }
