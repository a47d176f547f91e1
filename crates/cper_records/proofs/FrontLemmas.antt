-- What is read from the front of bytes is what is read from all of them.
use Rattle.std.proofs.Common.{◌≡◌, ℕ, ◌+◌, ◌-◌, ◌≤◌, ◌∙◌, List, ◌++◌, length, take, drop, refl, sym, ap, subst, arith, nat_lt, true, false}
use Rattle.std.proofs.lemmas.List.{take-append-drop, drop-take, length-take, length-drop, take-append-le, length-append, take_at}
use Rattle.ras_base.specs.Steps.LittleEndianLemmas.{number_at-take, number_at-append}
use Rattle.cper_records.specs.Header.{record_length, has_signatures, has_record_length}
use Rattle.cper_records.specs.Laid.{HasHeader}
use Rattle.cper_records.specs.Records.{record_of, sections_of}

-- the front of a front
take_front : {X : Type 0} (k n : ℕ) (xs : List X) → k ≤ n → n ≤ length xs → take k (take n xs) ≡ take k xs
take_front k n xs short inside =
    sym (take-append-le k (take n xs) (drop n xs) (omega (arith, length-take n xs))) ∙ ap (λ ys. take k ys) (take-append-drop n xs)

-- a part of a front
part_of_front : {X : Type 0} (place k n : ℕ) (xs : List X) → place + k ≤ n → n ≤ length xs
    → take k (drop place (take n xs)) ≡ take k (drop place xs)
part_of_front {X} place k n xs short inside =
    let whole : place + (n - place) ≡ n = omega arith in
    let P : ℕ → Type 0 = λ m. drop place (take m xs) ≡ take (n - place) (drop place xs) in
    ap (λ ys. take k ys) (subst P whole (drop-take place (n - place) xs))
    ∙ take_front k (n - place) (drop place xs) (omega arith) (omega (arith, length-drop place xs))

-- The length in the record's own bytes.
pub own_length : (bytes : List ℕ) (n : ℕ) → 128 ≤ n → n ≤ length bytes → record_length (take n bytes) ≡ record_length bytes
own_length bytes n header inside = number_at-take n 20 4 bytes (omega arith)

-- The signatures in the record's own bytes.
pub own_signatures : (bytes : List ℕ) (n : ℕ) → 128 ≤ n → n ≤ length bytes → has_signatures (take n bytes) ≡ has_signatures bytes
own_signatures bytes n header inside =
    rw (take_front 4 n bytes (omega arith) inside, part_of_front 6 4 n bytes (omega arith) inside) refl

-- The record's own bytes are the front of themselves.
pub own_bytes : (bytes : List ℕ) (n : ℕ) → n ≤ length bytes → take n (take n bytes) ≡ take n bytes
own_bytes bytes n inside = take_front n n bytes (omega arith) inside

-- The front of bytes that is as long as their header says has this header.
pub own_header : (bytes : List ℕ) (n : ℕ) → n ≡ record_length bytes → 128 ≤ n → n ≤ length bytes → has_signatures bytes ≡ true
    → HasHeader (take n bytes)
own_header bytes n is header inside signed =
    let len : length (take n bytes) ≡ n = omega (arith, length-take n bytes) in
    record {
      header = omega (arith, len);
      signed = own_signatures bytes n header inside ∙ signed;
      whole = own_length bytes n header inside ∙ sym is ∙ sym len;
    }

-- Bytes that begin with a record's own bytes are read as these.
pub read_own : (own rest : List ℕ) → HasHeader own → record_of (own ++ rest) ≡ sections_of own
unfolding record_of
read_own own rest front =
    let bytes : List ℕ = own ++ rest in
    let n = length own in
    let inside : n ≤ length bytes = omega (arith, length-append own rest) in
    let header : 128 ≤ n = front.header in
    let long : nat_lt (length bytes) 128 ≡ false = grind arith in
    let told : record_length bytes ≡ n = number_at-append 20 4 own rest (omega arith) ∙ front.whole in
    let cut : take n bytes ≡ own = take_at own rest n refl in
    let signed : has_signatures bytes ≡ true =
    sym (own_signatures bytes n header inside) ∙ ap (λ (xs : List ℕ). has_signatures xs) cut ∙ front.signed in
    let fits : has_record_length bytes ≡ true = grind (arith, told) in
    rw (long, signed, fits, told, cut) refl
