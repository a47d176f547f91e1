-- What a label is: the name of a memory module, as a list of bytes.
use Rattle.std.specs.Prelude.{ℕ, Bool, nat_eq, nat_le, ◌&&◌, ◌||◌, not, List, length, codes}
use Rattle.std.specs.List.{list_all}
use Rattle.std.specs.Cmp.Lexicographic.{pointwise}
use Rattle.dimm_topology.specs.declared.label.TheConstants.{MOST_LABEL_BYTES}

-- A label is the list of its bytes, empty for no label.
abbrev pub Bytes : Type 0
Bytes = List ℕ

-- Two labels are the same if their bytes are.
abbrev pub same_label : Bytes → Bytes → Bool
same_label one other = pointwise nat_eq one other

-- Whether a byte may be in a label: a printable byte of ASCII other than the space.
abbrev pub is_label_byte : ℕ → Bool
is_label_byte byte = nat_le 0x21 byte && nat_le byte 0x7e

-- Whether bytes are a label: 1 to 32 such bytes, and not the one byte `-`, which is printed if there is no label.
abbrev pub is_label : Bytes → Bool
is_label bytes =
    nat_le 1 (length bytes) && nat_le (length bytes) MOST_LABEL_BYTES && list_all is_label_byte bytes && not (same_label bytes (codes "-"))

-- Whether bytes are a label or empty.
abbrev pub is_label_or_none : Bytes → Bool
is_label_or_none bytes = nat_eq (length bytes) 0 || is_label bytes
