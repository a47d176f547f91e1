-- A name is read as it is spelled.
use Rattle.std.proofs.Common.{◌≡◌, ℕ, ◌^◌, ◌<◌, cond, eqb, List, [], ◌∷◌, ◌++◌, Ok, Err, refl, subst, ◌∙◌, append_assoc, inl, inr}
use Rattle.ras_base.specs.LittleEndian.{AreBytes, u16_bytes, u64_bytes}
use Rattle.ras_facts.specs.declared.name.Name.{Name}
use Rattle.ras_facts.specs.declared.name.Name.TheVariants.{Bank, Record, Block, Boot}
use Rattle.ras_facts.specs.Valid.{IsValidName}
use Rattle.entry_format.specs.declared.refused.EntryRefused.TheVariants.{Bad}
use Rattle.entry_format.specs.Spelling.{name_bytes}
use Rattle.entry_format.specs.Reading.{both_at, u16_at, u64_at, byte_at, bank_name_at, record_name_at, block_name_at, boot_name_at, name_of_kind, name_at}
use Rattle.entry_format.proofs.CodecLemmas.{Reads, like_read, both_read, bind_ok, ok_is, kinds_read, either_kind}
use Rattle.entry_format.proofs.FieldLemmas.{u16_read, u64_read, byte_read}

abbrev Fits8 : ℕ → Type 0
Fits8 n = n < 2 ^ 64

abbrev Fits2 : ℕ → Type 0
Fits2 n = n < 2 ^ 16

abbrev kind_of : Name → ℕ
kind_of (Bank boot cpu bank tsc) = 1
kind_of (Record id) = 2
kind_of (Block boot source number) = 3
kind_of (Boot boot) = 4

abbrev fields_of : Name → List ℕ
fields_of (Bank boot cpu bank tsc) = u64_bytes boot ++ (u16_bytes cpu ++ (bank ∷ [] ++ u64_bytes tsc))
fields_of (Record id) = u64_bytes id
fields_of (Block boot source number) = u64_bytes boot ++ (u16_bytes source ++ u64_bytes number)
fields_of (Boot boot) = u64_bytes boot

-- what is read of a name of a kind
abbrev Taken : ℕ → List ℕ → Name → List ℕ → Type 0
Taken kind bytes name rest = (kind ≡ kind_of name) × (bytes ≡ fields_of name ++ rest) × IsValidName name

abbrev named : Name → List ℕ → Name × List ℕ
named name rest = (name, rest)

bank_fields_read : Reads (both_at u64_at (both_at u16_at (both_at byte_at u64_at))) (λ p. u64_bytes p.0 ++ (u16_bytes p.1.0 ++ (p.1.1.0 ∷ [] ++ u64_bytes p.1.1.1)))
    (λ p. Fits8 p.0 × (Fits2 p.1.0 × ((p.1.1.0 < 2 ^ 8) × Fits8 p.1.1.1)))
bank_fields_read =
    let last = both_read byte_at u64_at (λ n. n ∷ []) u64_bytes (λ n. n < 2 ^ 8) Fits8 byte_read u64_read in
    let more = both_read u16_at (both_at byte_at u64_at) u16_bytes (λ (p : ℕ × ℕ). p.0 ∷ [] ++ u64_bytes p.1) Fits2 (λ p. (p.0 < 2 ^ 8) × Fits8 p.1) u16_read last in
    both_read u64_at (both_at u16_at (both_at byte_at u64_at)) u64_bytes (λ (p : ℕ × (ℕ × ℕ)). u16_bytes p.0 ++ (p.1.0 ∷ [] ++ u64_bytes p.1.1)) Fits8 (λ p. Fits2 p.0 × ((p.1.0 < 2 ^ 8) × Fits8 p.1.1)) u64_read more

bank_takes : (bytes : List ℕ) (name : Name) (rest : List ℕ) → AreBytes bytes → bank_name_at bytes ≡ Ok (name, rest) → Taken 1 bytes name rest
unfolding bank_name_at
bank_takes bytes name rest fits e =
    let p = bind_ok (both_at u64_at (both_at u16_at (both_at byte_at u64_at)) bytes) (λ u. Ok (Bank u.0.0 u.0.1.0 u.0.1.1.0 u.0.1.1.1, u.1)) (name, rest) e in
    let t = bank_fields_read.takes bytes p.0.0 p.0.1 fits p.1 in
    subst (λ (x : Name × List ℕ). Taken 1 bytes x.0 x.1) (ok_is (named (Bank p.0.0.0 p.0.0.1.0 p.0.0.1.1.0 p.0.0.1.1.1) p.0.1) (name, rest) p.2)
    (refl, t.0, (t.1.0, t.1.1.0, t.1.1.1.0, t.1.1.1.1))

record_takes : (bytes : List ℕ) (name : Name) (rest : List ℕ) → AreBytes bytes → record_name_at bytes ≡ Ok (name, rest) → Taken 2 bytes name rest
unfolding record_name_at
record_takes bytes name rest fits e =
    let p = bind_ok (u64_at bytes) (λ u. Ok (Record u.0, u.1)) (name, rest) e in
    let t = u64_read.takes bytes p.0.0 p.0.1 fits p.1 in
    subst (λ (x : Name × List ℕ). Taken 2 bytes x.0 x.1) (ok_is (named (Record p.0.0) p.0.1) (name, rest) p.2) (refl, t.0, t.1)

block_fields_read : Reads (both_at u64_at (both_at u16_at u64_at)) (λ p. u64_bytes p.0 ++ (u16_bytes p.1.0 ++ u64_bytes p.1.1)) (λ p. Fits8 p.0 × (Fits2 p.1.0 × Fits8 p.1.1))
block_fields_read =
    let last = both_read u16_at u64_at u16_bytes u64_bytes Fits2 Fits8 u16_read u64_read in
    both_read u64_at (both_at u16_at u64_at) u64_bytes (λ (p : ℕ × ℕ). u16_bytes p.0 ++ u64_bytes p.1) Fits8 (λ p. Fits2 p.0 × Fits8 p.1) u64_read last

block_takes : (bytes : List ℕ) (name : Name) (rest : List ℕ) → AreBytes bytes → block_name_at bytes ≡ Ok (name, rest) → Taken 3 bytes name rest
unfolding block_name_at
block_takes bytes name rest fits e =
    let p = bind_ok (both_at u64_at (both_at u16_at u64_at) bytes) (λ u. Ok (Block u.0.0 u.0.1.0 u.0.1.1, u.1)) (name, rest) e in
    let t = block_fields_read.takes bytes p.0.0 p.0.1 fits p.1 in
    subst (λ (x : Name × List ℕ). Taken 3 bytes x.0 x.1) (ok_is (named (Block p.0.0.0 p.0.0.1.0 p.0.0.1.1) p.0.1) (name, rest) p.2)
    (refl, t.0, (t.1.0, t.1.1.0, t.1.1.1))

boot_takes : (bytes : List ℕ) (name : Name) (rest : List ℕ) → AreBytes bytes → boot_name_at bytes ≡ Ok (name, rest) → Taken 4 bytes name rest
unfolding boot_name_at
boot_takes bytes name rest fits e =
    let p = bind_ok (u64_at bytes) (λ u. Ok (Boot u.0, u.1)) (name, rest) e in
    let t = u64_read.takes bytes p.0.0 p.0.1 fits p.1 in
    subst (λ (x : Name × List ℕ). Taken 4 bytes x.0 x.1) (ok_is (named (Boot p.0.0) p.0.1) (name, rest) p.2) (refl, t.0, t.1)

-- What is read of a kind, if it is the kind that was found.
of_kind : (k kind : ℕ) (bytes : List ℕ) (name : Name) (rest : List ℕ) → k ≡ kind → Taken kind bytes name rest → Taken k bytes name rest
of_kind k kind bytes name rest same t = (same ∙ t.0, t.1, t.2)

name_takes : (k : ℕ) (bytes : List ℕ) (name : Name) (rest : List ℕ) → AreBytes bytes → name_of_kind k bytes ≡ Ok (name, rest) → Taken k bytes name rest
name_takes k bytes name rest fits e =
    let fourth = cond (eqb k 4) (boot_name_at bytes) (Err Bad) in
    let third = cond (eqb k 3) (block_name_at bytes) fourth in
    let second = cond (eqb k 2) (record_name_at bytes) third in
    elim (either_kind k 1 (bank_name_at bytes) second (name, rest) e) [
      | inl h ↦ of_kind k 1 bytes name rest h.0 (bank_takes bytes name rest fits h.1)
      | inr e2 ↦
          elim (either_kind k 2 (record_name_at bytes) third (name, rest) e2) [
            | inl h ↦ of_kind k 2 bytes name rest h.0 (record_takes bytes name rest fits h.1)
            | inr e3 ↦
                elim (either_kind k 3 (block_name_at bytes) fourth (name, rest) e3) [
                  | inl h ↦ of_kind k 3 bytes name rest h.0 (block_takes bytes name rest fits h.1)
                  | inr e4 ↦
                      elim (either_kind k 4 (boot_name_at bytes) (Err Bad) (name, rest) e4) [
                        | inl h ↦ of_kind k 4 bytes name rest h.0 (boot_takes bytes name rest fits h.1)
                        | inr none ↦ absurd cc
                      ]
                ]
          ]
    ]

name_again : (name : Name) (rest : List ℕ) → IsValidName name → name_of_kind (kind_of name) (fields_of name ++ rest) ≡ Ok (name, rest)
unfolding bank_name_at record_name_at block_name_at boot_name_at
name_again (Bank boot cpu bank tsc) rest v = rw (bank_fields_read.again (boot, (cpu, (bank, tsc))) rest (v.0, (v.1, (v.2, v.3)))) refl
name_again (Record id) rest v = rw (u64_read.again id rest v) refl
name_again (Block boot source number) rest v = rw (block_fields_read.again (boot, (source, number)) rest (v.0, (v.1, v.2))) refl
name_again (Boot boot) rest v = rw (u64_read.again boot rest v) refl

name_spelled : (name : Name) → kind_of name ∷ fields_of name ≡ name_bytes name
unfolding name_bytes
name_spelled (Bank boot cpu bank tsc) = simp append_assoc
name_spelled (Record id) = refl
name_spelled (Block boot source number) = simp append_assoc
name_spelled (Boot boot) = refl

pub name_read : Reads name_at name_bytes IsValidName
unfolding name_at
name_read =
    like_read name_at (λ name. kind_of name ∷ fields_of name) name_bytes IsValidName IsValidName
    (kinds_read name_of_kind kind_of fields_of IsValidName (record { takes = name_takes; again = name_again }))
    (λ name v. v) (λ name v. v) name_spelled
