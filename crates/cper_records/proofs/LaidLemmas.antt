-- What reading returns is what the bytes are.
use Rattle.std.proofs.Common.{◌≡◌, ℕ, ◌≤◌, ◌<◌, ◌∙◌, ◌⊎◌, List, length, take, drop, Bool, true, false, not, nat_lt, Result, Ok, Err, if◌then◌else◌, refl, ap, sym, arith, inl, inr}
use Rattle.std.proofs.lemmas.List.{take-append-drop}
use Rattle.std.proofs.lemmas.Bool.{cases_lt}
use Rattle.std.specs.Result.{is_ok, is_err}
use Rattle.ras_base.specs.Prefix.{IsPrefixOf}
use Rattle.cper_records.specs.Header.{section_count, record_length, has_signatures, has_record_length}
use Rattle.cper_records.specs.Descriptors.{descriptor_at, section_end, section_at, is_out, is_section_refused, some_below}
use Rattle.cper_records.specs.Laid.{HasHeader, HasDescriptors, HasSections, IsRecord, IsNoRecord}
use Rattle.cper_records.specs.Records.{record_of, sections_of}
use Rattle.cper_records.specs.declared.refusals.RecordRefused.{RecordRefused}
use Rattle.cper_records.specs.declared.refusals.RecordRefused.TheVariants.{Short, Signature, Length, DescriptorOut, SectionOut, Section}
use Rattle.cper_records.proofs.BelowLemmas.{some_below_at, some_below_each, some_below_true, some_below_false, inside_each}
use Rattle.cper_records.proofs.FrontLemmas.{own_header, read_own}

-- a section passes the end, or can't be read
out_passes : (own : List ℕ) (i : ℕ) → is_out own i ≡ true → length own < section_end own i
unfolding is_out
out_passes own i is = grind arith

passes_out : (own : List ℕ) (i : ℕ) → length own < section_end own i → is_out own i ≡ true
unfolding is_out
passes_out own i is = grind arith

inside_in : (own : List ℕ) (i : ℕ) → section_end own i ≤ length own → is_out own i ≡ false
unfolding is_out
inside_in own i is = grind arith

pub refused_err : (own : List ℕ) (i : ℕ) → is_section_refused own i ≡ is_err (section_at own i)
unfolding is_section_refused
refused_err own i = refl

pub ok_not_err : {X Y : Type 0} (read : Result X Y) → is_err read ≡ false → is_ok read ≡ true
ok_not_err (Ok x) is = refl
ok_not_err (Err y) is = cc

err_not_ok : {X Y : Type 0} (read : Result X Y) → is_ok read ≡ true → is_err read ≡ false
err_not_ok (Ok x) is = refl
err_not_ok (Err y) is = cc

-- a length that doesn't fit is too small or too great
out_of_range : (bytes : List ℕ) → has_record_length bytes ≡ false → (record_length bytes < 128) ⊎ (length bytes < record_length bytes)
out_of_range bytes is = elim (cases_lt (record_length bytes) 128) [
  | inl small ↦ inl small
  | inr header ↦ inr (grind arith)
]

-- What a result says about the bytes.
abbrev pub IsAnswer : List ℕ → Result (List ℕ) RecordRefused → Type 0
IsAnswer bytes (Ok own) = IsPrefixOf own bytes × IsRecord own
IsAnswer bytes (Err why) = IsNoRecord bytes why

-- The sections of bytes that have a header.
sections_answered : (bytes own : List ℕ) → IsPrefixOf own bytes → HasHeader own → IsAnswer bytes (sections_of own)
unfolding sections_of
sections_answered bytes own prefix front =
    by (nat_lt (length own) (descriptor_at (section_count own))) (some_below (section_count own) (is_out own))
    (some_below (section_count own) (is_section_refused own)) refl refl refl
  where
    count : ℕ
    count = section_count own

    by : (short out refused : Bool) → nat_lt (length own) (descriptor_at count) ≡ short
        → some_below count (is_out own) ≡ out → some_below count (is_section_refused own) ≡ refused
        → IsAnswer bytes (if short then Err DescriptorOut else (if out then Err SectionOut else (if refused then Err Section else Ok own)))
    by true out refused is-short is-out is-refused = (own, (prefix, front, grind arith))
    by false true refused is-short is-out is-refused =
        let one = some_below_true count (is_out own) is-out in
        (own, (prefix, front, (grind arith, (one.0, (one.1.0, out_passes own one.0 one.1.1)))))
    by false false true is-short is-out is-refused =
        let one = some_below_true count (is_section_refused own) is-refused in (
          own,
          (
            prefix,
            front,
            (
              grind arith,
              (λ i below. inside_each own count i is-out below),
              (one.0, (one.1.0, sym (refused_err own one.0) ∙ one.1.1)),
            ),
          ),
        )
    by false false false is-short is-out is-refused = (
      prefix,
      record {
        front = front;
        descriptors = grind arith;
        inside = λ i below. inside_each own count i is-out below;
        readable = λ i below. ok_not_err (section_at own i)
            (sym (refused_err own i) ∙ some_below_each count i (is_section_refused own) is-refused below);
      },
    )

-- All bytes.
pub answered : (bytes : List ℕ) → IsAnswer bytes (record_of bytes)
unfolding record_of
answered bytes = by (nat_lt (length bytes) 128) (has_signatures bytes) (has_record_length bytes) refl refl refl
  where
    own : List ℕ
    own = take (record_length bytes) bytes

    by : (short signed fits : Bool) → nat_lt (length bytes) 128 ≡ short → has_signatures bytes ≡ signed → has_record_length bytes ≡ fits
        → IsAnswer bytes (if short then Err Short else (if not signed then Err Signature else (if not fits then Err Length else sections_of own)))
    by true signed fits is-short is-signed is-fits = grind arith
    by false false fits is-short is-signed is-fits = (grind arith, is-signed)
    by false true false is-short is-signed is-fits = (grind arith, is-signed, out_of_range bytes is-fits)
    by false true true is-short is-signed is-fits =
        sections_answered bytes own (drop (record_length bytes) bytes, take-append-drop (record_length bytes) bytes) (own_header bytes (record_length bytes) refl (grind arith) (grind arith) is-signed)

-- a record is read as itself
sections_read : (own : List ℕ) → IsRecord own → sections_of own ≡ Ok own
unfolding sections_of
sections_read own holds =
    let count : ℕ = section_count own in
    let long : nat_lt (length own) (descriptor_at count) ≡ false = grind (arith, holds.descriptors) in
    let none_out : some_below count (is_out own) ≡ false =
    some_below_false count (is_out own) (λ i below. inside_in own i (holds.inside i below)) in
    let none_refused : some_below count (is_section_refused own) ≡ false =
    some_below_false count (is_section_refused own) (λ i below. refused_err own i ∙ err_not_ok (section_at own i) (holds.readable i below)) in
    rw (long, none_out, none_refused) refl

pub reads : (bytes own : List ℕ) → IsPrefixOf own bytes → IsRecord own → record_of bytes ≡ Ok own
reads bytes own (rest, is) holds = ap (λ (xs : List ℕ). record_of xs) (sym is) ∙ read_own own rest holds.front ∙ sections_read own holds

-- Bytes without all their descriptors are refused.
sections_descriptors : (own : List ℕ) → length own < descriptor_at (section_count own) → sections_of own ≡ Err DescriptorOut
unfolding sections_of
sections_descriptors own short =
    let is : nat_lt (length own) (descriptor_at (section_count own)) ≡ true = grind arith in
    rw is refl

sections_out : (own : List ℕ) (i : ℕ) → HasDescriptors own → i < section_count own → length own < section_end own i
    → sections_of own ≡ Err SectionOut
unfolding sections_of
sections_out own i descriptors below passes =
    let long : nat_lt (length own) (descriptor_at (section_count own)) ≡ false = grind (arith, descriptors) in
    let out : some_below (section_count own) (is_out own) ≡ true =
    some_below_at (section_count own) i (is_out own) below (passes_out own i passes) in
    rw (long, out) refl

sections_refused : (own : List ℕ) (i : ℕ) → HasDescriptors own → HasSections own → i < section_count own
    → is_err (section_at own i) ≡ true → sections_of own ≡ Err Section
unfolding sections_of
sections_refused own i descriptors inside below refused =
    let count : ℕ = section_count own in
    let long : nat_lt (length own) (descriptor_at count) ≡ false = grind (arith, descriptors) in
    let none_out : some_below count (is_out own) ≡ false =
    some_below_false count (is_out own) (λ i below. inside_in own i (inside i below)) in
    let some_refused : some_below count (is_section_refused own) ≡ true =
    some_below_at count i (is_section_refused own) below (refused_err own i ∙ refused) in
    rw (long, none_out, some_refused) refl

-- If the front of bytes has a header, a refusal of the front is a refusal of the bytes.
behind_header : (bytes own : List ℕ) (answer : Result (List ℕ) RecordRefused) → IsPrefixOf own bytes → HasHeader own
    → sections_of own ≡ answer → record_of bytes ≡ answer
behind_header bytes own answer (rest, is) front same = ap (λ (xs : List ℕ). record_of xs) (sym is) ∙ read_own own rest front ∙ same

short : (bytes : List ℕ) → length bytes < 128 → record_of bytes ≡ Err Short
unfolding record_of
short bytes is = let few : nat_lt (length bytes) 128 ≡ true = grind arith in rw few refl

unsigned : (bytes : List ℕ) → 128 ≤ length bytes → has_signatures bytes ≡ false → record_of bytes ≡ Err Signature
unfolding record_of
unsigned bytes header is = let long : nat_lt (length bytes) 128 ≡ false = grind arith in rw (long, is) refl

no_length : (bytes : List ℕ) → (record_length bytes < 128) ⊎ (length bytes < record_length bytes) → has_record_length bytes ≡ false
no_length bytes (inl small) = grind arith
no_length bytes (inr great) = grind arith

unfit : (bytes : List ℕ) → 128 ≤ length bytes → has_signatures bytes ≡ true → has_record_length bytes ≡ false → record_of bytes ≡ Err Length
unfolding record_of
unfit bytes header signed is = let long : nat_lt (length bytes) 128 ≡ false = grind arith in rw (long, signed, is) refl

pub refuses : (bytes : List ℕ) (why : RecordRefused) → IsNoRecord bytes why → record_of bytes ≡ Err why
refuses bytes Short is = short bytes is
refuses bytes Signature is = unsigned bytes is.0 is.1
refuses bytes Length is = unfit bytes is.0 is.1 (no_length bytes is.2)
refuses bytes DescriptorOut (own, is) = behind_header bytes own (Err DescriptorOut) is.0 is.1 (sections_descriptors own is.2)
refuses bytes SectionOut (own, is) =
    behind_header bytes own (Err SectionOut) is.0 is.1 (sections_out own is.2.1.0 is.2.0 is.2.1.1.0 is.2.1.1.1)
refuses bytes Section (own, is) =
    behind_header bytes own (Err Section) is.0 is.1 (sections_refused own is.2.2.0 is.2.0 is.2.1 is.2.2.1.0 is.2.2.1.1)
