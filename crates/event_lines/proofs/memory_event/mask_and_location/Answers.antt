use Rattle.std.proofs.Common.{◌≡◌, ℕ, List, codes, refl, sym, ap, ◌∙◌, Option, Some}
use Rattle.std.specs.Option.{option_map}
use Rattle.bank_lines.specs.LogHeads.{after, mark_place, up_to}
use Rattle.bank_lines.specs.Parts.{value_after}
use Rattle.block_lines.specs.Lines.{location_of}
use Rattle.block_lines.specs.declared.memory.ErrorLocation.{ErrorLocation}
use Rattle.event_lines.specs.Memory.{low_bit_mask, low_bit_of, mask_and_location}
use Rattle.event_lines.proofs.memory_event.mask_and_location.Goals as goal

read_so : (text word places : List ℕ) (bit unit : ℕ) (mask : Option ℕ) (location : ErrorLocation)
    → value_after (codes "(mask lsb: ") text ≡ Some word → low_bit_of (up_to 41 word) ≡ Some bit
    → value_after (codes " ") (after 41 word) ≡ Some places → mark_place (codes "FRU: ") places ≡ Some unit
    → mask ≡ low_bit_mask bit → location ≡ location_of places → Some (mask, location) ≡ mask_and_location text
read_so text word places bit unit mask location named low spaced marked masked located =
    rw (named, low, spaced, marked, masked, located) refl

pub returns : goal.returns
returns c =
    read_so c.args.text.now c.in_ok-value_after.field-0.now c.in_ok-places.places.now c.in_ok-bit.bit c.in_ok-place_of.field-0
    c.low_bit_mask.result c.location_of.result
    (sym c.value_after.ensures ∙ ap (option_map (λ value. value.now)) c.in_ok-value_after.was)
    (ap low_bit_of (sym c.cut.ensures.front) ∙ sym c.low_bit_of.ensures.value ∙ c.in_ok-bit.was)
    (ap (value_after (codes " ")) (sym c.cut.ensures.rest) ∙ sym c.value_after-2.ensures ∙ ap (option_map (λ value. value.now)) c.in_ok-places.was)
    (sym c.place_of.ensures.place ∙ c.in_ok-place_of.was)
    c.low_bit_mask.ensures c.location_of.ensures
