-- The type of a memory error is read by the name that the kernel prints for it.
use Rattle.std.proofs.Common.{◌≡◌, ℕ, zero, suc, ◌+◌, ◌≤◌, true, false, nat_lt, List, ◌++◌, codes, drop, take, length, refl, sym, ap, ◌∙◌, arith, Option, Some, None}
use Rattle.std.specs.Option.{option_map_or}
use Rattle.std.proofs.Math.Seq.{drop-append-add, take-append_seam}
use Rattle.std.proofs.lemmas.Bool.Decides.{nat_tests}
use Rattle.std.proofs.lemmas.List.{get_or_past}
use Rattle.bank_lines.specs.LogHeads.{mark_place}
use Rattle.event_lines.specs.Memory.{kind_before, kind_named}
use Rattle.event_lines.specs.MemoryKernel.{kind_told, message_text, type_name, type_names}

-- ---- a type without a name

unknown : (kind : ℕ) → 16 ≤ kind → type_name kind ≡ codes "unknown"
unknown kind above = get_or_past type_names kind (codes "unknown") above

not_told : (kind : ℕ) → 16 ≤ kind → kind_told (Some kind) ≡ None
not_told kind above =
    let some : nat_lt 0 kind ≡ true = grind (arith, nat_tests, above) in
    let high : nat_lt kind 16 ≡ false = grind (arith, nat_tests, above) in
    rw (some, high) refl

-- ---- the table, row by row; the last clause is of all types without a name

name_read : (kind : ℕ) → kind_named (type_name kind) ≡ kind_told (Some kind)
name_read zero = refl
name_read (suc zero) = refl
name_read (suc (suc zero)) = refl
name_read (suc (suc (suc zero))) = refl
name_read (suc (suc (suc (suc zero)))) = refl
name_read (suc (suc (suc (suc (suc zero))))) = refl
name_read (suc (suc (suc (suc (suc (suc zero)))))) = refl
name_read (suc (suc (suc (suc (suc (suc (suc zero))))))) = refl
name_read (suc (suc (suc (suc (suc (suc (suc (suc zero)))))))) = refl
name_read (suc (suc (suc (suc (suc (suc (suc (suc (suc zero))))))))) = refl
name_read (suc (suc (suc (suc (suc (suc (suc (suc (suc (suc zero)))))))))) = refl
name_read (suc (suc (suc (suc (suc (suc (suc (suc (suc (suc (suc zero))))))))))) = refl
name_read (suc (suc (suc (suc (suc (suc (suc (suc (suc (suc (suc (suc zero)))))))))))) = refl
name_read (suc (suc (suc (suc (suc (suc (suc (suc (suc (suc (suc (suc (suc zero))))))))))))) = refl
name_read (suc (suc (suc (suc (suc (suc (suc (suc (suc (suc (suc (suc (suc (suc zero)))))))))))))) = refl
name_read (suc (suc (suc (suc (suc (suc (suc (suc (suc (suc (suc (suc (suc (suc (suc zero))))))))))))))) = refl
name_read (suc (suc (suc (suc (suc (suc (suc (suc (suc (suc (suc (suc (suc (suc (suc (suc n)))))))))))))))) =
    let k : ℕ = suc (suc (suc (suc (suc (suc (suc (suc (suc (suc (suc (suc (suc (suc (suc (suc n))))))))))))))) in
    let above : 16 ≤ k = omega arith in
    ap kind_named (unknown k above) ∙ sym (not_told k above)

-- the index of a text after the name
on_name : (kind : ℕ) (rest : List ℕ) → mark_place (codes " on ") (type_name kind ++ (codes " on " ++ rest)) ≡ Some (length (type_name kind))
on_name zero rest = refl
on_name (suc zero) rest = refl
on_name (suc (suc zero)) rest = refl
on_name (suc (suc (suc zero))) rest = refl
on_name (suc (suc (suc (suc zero)))) rest = refl
on_name (suc (suc (suc (suc (suc zero))))) rest = refl
on_name (suc (suc (suc (suc (suc (suc zero)))))) rest = refl
on_name (suc (suc (suc (suc (suc (suc (suc zero))))))) rest = refl
on_name (suc (suc (suc (suc (suc (suc (suc (suc zero)))))))) rest = refl
on_name (suc (suc (suc (suc (suc (suc (suc (suc (suc zero))))))))) rest = refl
on_name (suc (suc (suc (suc (suc (suc (suc (suc (suc (suc zero)))))))))) rest = refl
on_name (suc (suc (suc (suc (suc (suc (suc (suc (suc (suc (suc zero))))))))))) rest = refl
on_name (suc (suc (suc (suc (suc (suc (suc (suc (suc (suc (suc (suc zero)))))))))))) rest = refl
on_name (suc (suc (suc (suc (suc (suc (suc (suc (suc (suc (suc (suc (suc zero))))))))))))) rest = refl
on_name (suc (suc (suc (suc (suc (suc (suc (suc (suc (suc (suc (suc (suc (suc zero)))))))))))))) rest = refl
on_name (suc (suc (suc (suc (suc (suc (suc (suc (suc (suc (suc (suc (suc (suc (suc zero))))))))))))))) rest = refl
on_name (suc (suc (suc (suc (suc (suc (suc (suc (suc (suc (suc (suc (suc (suc (suc (suc n)))))))))))))))) rest = refl

address_name : (kind : ℕ) (rest : List ℕ) → mark_place (codes " physical addr: ") (type_name kind ++ (codes " physical addr: " ++ rest)) ≡ Some (length (type_name kind))
address_name zero rest = refl
address_name (suc zero) rest = refl
address_name (suc (suc zero)) rest = refl
address_name (suc (suc (suc zero))) rest = refl
address_name (suc (suc (suc (suc zero)))) rest = refl
address_name (suc (suc (suc (suc (suc zero))))) rest = refl
address_name (suc (suc (suc (suc (suc (suc zero)))))) rest = refl
address_name (suc (suc (suc (suc (suc (suc (suc zero))))))) rest = refl
address_name (suc (suc (suc (suc (suc (suc (suc (suc zero)))))))) rest = refl
address_name (suc (suc (suc (suc (suc (suc (suc (suc (suc zero))))))))) rest = refl
address_name (suc (suc (suc (suc (suc (suc (suc (suc (suc (suc zero)))))))))) rest = refl
address_name (suc (suc (suc (suc (suc (suc (suc (suc (suc (suc (suc zero))))))))))) rest = refl
address_name (suc (suc (suc (suc (suc (suc (suc (suc (suc (suc (suc (suc zero)))))))))))) rest = refl
address_name (suc (suc (suc (suc (suc (suc (suc (suc (suc (suc (suc (suc (suc zero))))))))))))) rest = refl
address_name (suc (suc (suc (suc (suc (suc (suc (suc (suc (suc (suc (suc (suc (suc zero)))))))))))))) rest = refl
address_name (suc (suc (suc (suc (suc (suc (suc (suc (suc (suc (suc (suc (suc (suc (suc zero))))))))))))))) rest = refl
address_name (suc (suc (suc (suc (suc (suc (suc (suc (suc (suc (suc (suc (suc (suc (suc (suc n)))))))))))))))) rest = refl

-- ---- the events

on_message : (kind : Option ℕ) (rest : List ℕ) → mark_place (codes " on ") (message_text kind ++ (codes " on " ++ rest)) ≡ Some (length (message_text kind))
on_message None rest = refl
on_message (Some kind) rest = on_name kind rest

message_read : (kind : Option ℕ) → kind_named (message_text kind) ≡ kind_told kind
message_read None = refl
message_read (Some kind) = name_read kind

pub kind_is_before : (kind : Option ℕ) (rest : List ℕ) → kind_before (codes " on ") (message_text kind ++ (codes " on " ++ rest)) ≡ kind_told kind
kind_is_before kind rest =
    let whole : List ℕ = message_text kind ++ (codes " on " ++ rest) in
    ap (λ (o : Option ℕ). option_map_or (λ place. kind_named (take place whole)) o None) (on_message kind rest)
    ∙ ap kind_named (take-append_seam (message_text kind) (codes " on " ++ rest))
    ∙ message_read kind

-- the name of a type, and its index, in the extended log's event
pub record KindRead (kind : ℕ) (rest : List ℕ) : Type 0 where
  pub place : mark_place (codes " physical addr: ") (type_name kind ++ (codes " physical addr: " ++ rest)) ≡ Some (length (type_name kind))
  pub named : kind_named (take (length (type_name kind)) (type_name kind ++ (codes " physical addr: " ++ rest))) ≡ kind_told (Some kind)
  pub behind : drop (length (type_name kind) + 16) (type_name kind ++ (codes " physical addr: " ++ rest)) ≡ rest

pub kind_read : (kind : ℕ) (rest : List ℕ) → KindRead kind rest
kind_read kind rest = record {
  place = address_name kind rest;
  named = ap kind_named (take-append_seam (type_name kind) (codes " physical addr: " ++ rest)) ∙ name_read kind;
  behind = drop-append-add (type_name kind) (codes " physical addr: " ++ rest) 16;
}
