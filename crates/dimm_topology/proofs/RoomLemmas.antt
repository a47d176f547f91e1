-- The room of a label that is made from bytes.
use Rattle.std.proofs.Common.{◌≡◌, ℕ, ◌≤◌, Bool, true, false, nat_le, nat_eq, ◌&&◌, ◌||◌, not, List, ◌++◌, length, drop, replicate, refl, sym, ap, subst, ◌∙◌, true≢false, arith, length-append, length-drop, codes}
use Rattle.std.specs.List.{list_all}
use Rattle.std.proofs.lemmas.Bool.Decides.{nat_tests}
use Rattle.std.proofs.lemmas.List.{drop-replicate, length-replicate}
use Rattle.std.proofs.Math.Seq.{take-append_seam, drop-append_seam}
use Rattle.dimm_topology.specs.declared.label.TheConstants.{MOST_LABEL_BYTES}
use Rattle.dimm_topology.specs.Labels.{Bytes, is_label, is_label_byte, is_label_or_none, same_label}
use Rattle.dimm_topology.specs.Steps.LabelRoom.{IsRoom}

and_first : (a b : Bool) → (a && b) ≡ true → a ≡ true
and_first true b is = refl
and_first false b is = absurd (true≢false (sym is))

and_second : (a b : Bool) → (a && b) ≡ true → b ≡ true
and_second true b is = is
and_second false b is = absurd (true≢false (sym is))

or_second : (a b : Bool) → b ≡ true → (a || b) ≡ true
or_second true b is = refl
or_second false b is = is

-- A label has no more bytes than the room.
label-length : (bytes : Bytes) → is_label bytes ≡ true → length bytes ≤ MOST_LABEL_BYTES
label-length bytes is =
    let front : (nat_le 1 (length bytes) && nat_le (length bytes) MOST_LABEL_BYTES) ≡ true =
    and_first _ (list_all is_label_byte bytes) (and_first _ (not (same_label bytes (codes "-"))) is) in
    let within : nat_le (length bytes) MOST_LABEL_BYTES ≡ true = and_second (nat_le 1 (length bytes)) _ front in
    grind (arith, nat_tests)

pub room-made : (bytes new : Bytes) → new ≡ bytes → is_label bytes ≡ true
    → IsRoom (new ++ drop (length bytes) (replicate {A = ℕ} MOST_LABEL_BYTES 0)) (length bytes)
room-made bytes new same is =
    let rest : List ℕ = drop (length bytes) (replicate {A = ℕ} MOST_LABEL_BYTES 0) in
    let within : length bytes ≤ MOST_LABEL_BYTES = label-length bytes is in
    subst (λ front. IsRoom (front ++ rest) (length bytes)) (sym same) (record {
      size = omega (arith, within, length-append bytes rest, length-drop (length bytes) (replicate {A = ℕ} MOST_LABEL_BYTES 0), length-replicate {A = ℕ} MOST_LABEL_BYTES 0);
      within = within;
      zeros = drop-append_seam bytes rest ∙ drop-replicate {X = ℕ} (length bytes) MOST_LABEL_BYTES 0;
      label = ap is_label_or_none (take-append_seam bytes rest) ∙ or_second (nat_eq (length bytes) 0) (is_label bytes) is;
    })
