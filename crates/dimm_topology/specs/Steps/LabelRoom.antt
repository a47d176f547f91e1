-- How a label stores its bytes.
use Rattle.std.specs.Prelude.{◌≡◌, ℕ, ◌-◌, ◌≤◌, List, ◌++◌, length, take, drop, replicate, IsTrue}
use Rattle.std.proofs.Common.{ap, sym, ◌∙◌, arith}
use Rattle.std.proofs.lemmas.List.{length-take-le, take-append-drop}
use Rattle.dimm_topology.specs.declared.label.TheConstants.{MOST_LABEL_BYTES}
use Rattle.dimm_topology.specs.Labels.{Bytes, is_label_or_none}

-- The room contains the bytes, which are a label or empty, and zeros after them.
pub record IsRoom (room : List ℕ) (len : ℕ) : Type 0 where
  pub size : length room ≡ MOST_LABEL_BYTES
  pub within : len ≤ MOST_LABEL_BYTES
  pub zeros : drop len room ≡ replicate (MOST_LABEL_BYTES - len) 0
  pub label : IsTrue (is_label_or_none (take len room))

-- the room with these bytes
abbrev pub room_of : Bytes → List ℕ
room_of bytes = bytes ++ replicate (MOST_LABEL_BYTES - length bytes) 0

pub length-back : (room : List ℕ) (len : ℕ) → IsRoom room len → length (take len room) ≡ len
length-back room len is = length-take-le len room (omega (arith, is.size, is.within))

-- The room and the length are those of the bytes.
pub room-back : (room : List ℕ) (len : ℕ) → IsRoom room len → room_of (take len room) ≡ room
room-back room len is =
    let count : length (take len room) ≡ len = length-back room len is in
    ap (λ n. take len room ++ replicate (MOST_LABEL_BYTES - n) 0) count
    ∙ ap (λ rest. take len room ++ rest) (sym is.zeros) ∙ take-append-drop len room
