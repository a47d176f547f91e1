-- Entries, cut off one after the other.
use Rattle.std.proofs.Common.{◌≡◌, ℕ, zero, suc, ◌+◌, ◌-◌, ◌<◌, ◌≤◌, ◌∙◌, Bool, true, false, List, [], ◌∷◌, ◌++◌, length, take, drop, Option, Some, None, if◌then◌else◌, refl, sym, ap, subst, arith, add-one, nat_eq, length-append}
use Rattle.std.specs.Option.{option_map}
use Rattle.std.specs.List.{concat, AllByRecursion}
use Rattle.std.proofs.lemmas.List.{length-take, length-drop, nil_from_length, take-append-drop, take_at, drop_at}
use Rattle.apei_sources.specs.Entries.{entry_header_length, entry_length, first_of, rest_of, has_entry, block_entries_in, entries_of}
use Rattle.apei_sources.specs.Laid.{IsEntry}
use Rattle.apei_sources.specs.Steps.Cut.{cut, AreInside}
use Rattle.ras_base.specs.Steps.LittleEndianLemmas.{number_at-append, number_at-take}

-- the entries of bytes, given the entries after the first
abbrev pub with_first : List ℕ → Option (List (List ℕ)) → Option (List (List ℕ))
with_first bytes entries = option_map (λ behind. first_of bytes ∷ behind) entries

-- the entries of bytes that don't begin with an entry
abbrev pub none_of : List ℕ → Option (List (List ℕ))
none_of bytes = if nat_eq (length bytes) 0 then Some [] else None

-- An entry lies inside the bytes.
pub record Fits (bytes : List ℕ) : Type 0 where
  pub header : 64 ≤ length bytes
  pub inside : entry_length bytes ≤ length bytes
  pub long : 64 ≤ entry_length bytes

header_long : (bytes : List ℕ) → 64 ≤ entry_header_length bytes
header_long bytes = grind arith

pub fits : (bytes : List ℕ) → has_entry bytes ≡ true → Fits bytes
fits bytes is = record { header = grind arith; inside = grind arith; long = omega (arith, header_long bytes) }

entries_in_last : (most : ℕ) (bytes : List ℕ) → has_entry bytes ≡ false → block_entries_in most bytes ≡ none_of bytes
unfolding block_entries_in
entries_in_last zero bytes out = refl
entries_in_last (suc most) bytes out = rw out refl

entries_in_more : (most : ℕ) (bytes : List ℕ) → has_entry bytes ≡ true
    → block_entries_in (suc most) bytes ≡ with_first bytes (block_entries_in most (rest_of bytes))
unfolding block_entries_in
entries_in_more most bytes is =
    let long : 64 ≤ length bytes = (fits bytes is).header in
    let some : nat_eq (length bytes) 0 ≡ false = grind arith in
    rw (some, is) refl

-- Bytes that begin with an entry aren't empty.
no_entry : (bytes : List ℕ) → length bytes ≤ 0 → has_entry bytes ≡ false
no_entry bytes none = grind arith

-- A number of entries above the number of bytes changes nothing.
entries_in_enough : (m n : ℕ) (bytes : List ℕ) → length bytes ≤ m → length bytes ≤ n
    → block_entries_in m bytes ≡ block_entries_in n bytes
entries_in_enough zero n bytes first second = entries_in_last zero bytes (no_entry bytes first)
    ∙ sym (entries_in_last n bytes (no_entry bytes first))
entries_in_enough (suc m) zero bytes first second =
    entries_in_last (suc m) bytes (no_entry bytes second) ∙ sym (entries_in_last zero bytes (no_entry bytes second))
entries_in_enough (suc m) (suc n) bytes first second = by (has_entry bytes) refl (entries_in_enough m n (rest_of bytes))
  where
    by : (b : Bool) → has_entry bytes ≡ b
        → (length (rest_of bytes) ≤ m → length (rest_of bytes) ≤ n
        → block_entries_in m (rest_of bytes) ≡ block_entries_in n (rest_of bytes))
        → block_entries_in (suc m) bytes ≡ block_entries_in (suc n) bytes
    by false is same = entries_in_last (suc m) bytes is ∙ sym (entries_in_last (suc n) bytes is)
    by true is same =
        let f : Fits bytes = fits bytes is in
        entries_in_more m bytes is
        ∙ ap (with_first bytes) (same (omega (arith, f, length-drop (entry_length bytes) bytes))
        (omega (arith, f, length-drop (entry_length bytes) bytes)))
        ∙ sym (entries_in_more n bytes is)

-- An entry at the front comes before the entries of the rest.
pub entries_of_more : (bytes : List ℕ) → has_entry bytes ≡ true
    → entries_of bytes ≡ with_first bytes (entries_of (rest_of bytes))
entries_of_more bytes is =
    let f : Fits bytes = fits bytes is in
    ap (λ n. block_entries_in n bytes) (omega (arith, f))
    ∙ entries_in_more (length bytes - 1) bytes is
    ∙ ap (with_first bytes) (entries_in_enough (length bytes - 1) (length (rest_of bytes)) (rest_of bytes)
    (omega (arith, f, length-drop (entry_length bytes) bytes)) (omega arith))

-- If no entry is at the front, there may be no bytes.
pub entries_of_last : (bytes : List ℕ) → has_entry bytes ≡ false → entries_of bytes ≡ none_of bytes
entries_of_last bytes is = entries_in_last (length bytes) bytes is

-- The entries, if bytes can be cut into entries.
pub record Cuts (bytes : List ℕ) (entries : List (List ℕ)) : Type 0 where
  pub cut : cut (length entries) bytes ≡ entries
  pub inside : AreInside (length entries) bytes
  pub laid : concat entries ≡ bytes
  pub each : AllByRecursion IsEntry entries

-- The header is read from the entry as from the bytes.
first_length : (bytes : List ℕ) → Fits bytes → entry_length (first_of bytes) ≡ entry_length bytes
first_length bytes f =
    rw (
      number_at-take (entry_length bytes) 20 2 bytes (omega (arith, f)),
      number_at-take (entry_length bytes) 24 4 bytes (omega (arith, f)),
    ) refl

pub first_is : (bytes : List ℕ) → has_entry bytes ≡ true → IsEntry (first_of bytes)
first_is bytes is =
    let f : Fits bytes = fits bytes is in
    record {
      header = omega (arith, f, length-take (entry_length bytes) bytes);
      whole = omega (arith, f, length-take (entry_length bytes) bytes, first_length bytes f);
    }

cuts_none : (bytes : List ℕ) (entries : List (List ℕ)) → none_of bytes ≡ Some entries → Cuts bytes entries
cuts_none bytes entries is = by (nat_eq (length bytes) 0) refl entries is
  where
    by : (b : Bool) → nat_eq (length bytes) 0 ≡ b → (entries : List (List ℕ))
        → (if b then Some [] else None) ≡ Some entries → Cuts bytes entries
    by true none [] is = record {
      cut = unfold cut in refl;
      inside = unfold AreInside in tt;
      laid = sym (nil_from_length bytes (grind arith));
      each = tt;
    }
    by true none (e ∷ entries) is = cc
    by false none entries is = cc

cuts_more : (bytes : List ℕ) (behind : List (List ℕ)) → has_entry bytes ≡ true → Cuts (rest_of bytes) behind
    → Cuts bytes (first_of bytes ∷ behind)
cuts_more bytes behind is cuts = record {
  cut = unfold cut in ap (λ entries. first_of bytes ∷ entries) cuts.cut;
  inside = unfold AreInside in (is, cuts.inside);
  laid = ap (λ rest. first_of bytes ++ rest) cuts.laid ∙ take-append-drop (entry_length bytes) bytes;
  each = (first_is bytes is, cuts.each);
}

-- The entries after the first, if bytes can be cut into entries.
behind_of : (bytes : List ℕ) (read : Option (List (List ℕ))) (entries : List (List ℕ))
    → with_first bytes read ≡ Some entries
    → (behind : List (List ℕ)) × (read ≡ Some behind) × (entries ≡ first_of bytes ∷ behind)
behind_of bytes None entries is = cc
behind_of bytes (Some behind) entries is = (behind, refl, cc)

cuts_in : (most : ℕ) (bytes : List ℕ) (entries : List (List ℕ)) → length bytes ≤ most
    → entries_of bytes ≡ Some entries → Cuts bytes entries
cuts_in zero bytes entries short is = cuts_none bytes entries (sym (entries_of_last bytes (no_entry bytes short)) ∙ is)
cuts_in (suc most) bytes entries short is = by (has_entry bytes) refl (cuts_in most (rest_of bytes))
  where
    by : (b : Bool) → has_entry bytes ≡ b
        → ((behind : List (List ℕ)) → length (rest_of bytes) ≤ most → entries_of (rest_of bytes) ≡ Some behind
        → Cuts (rest_of bytes) behind)
        → Cuts bytes entries
    by false last rest = cuts_none bytes entries (sym (entries_of_last bytes last) ∙ is)
    by true more rest =
        let f : Fits bytes = fits bytes more in
        let behind : (behind : List (List ℕ)) × (entries_of (rest_of bytes) ≡ Some behind)
        × (entries ≡ first_of bytes ∷ behind) =
        behind_of bytes (entries_of (rest_of bytes)) entries (sym (entries_of_more bytes more) ∙ is) in
        subst (Cuts bytes) (sym behind.2)
        (cuts_more bytes behind.0 more
        (rest behind.0 (omega (arith, f, length-drop (entry_length bytes) bytes)) behind.1))

pub cuts : (bytes : List ℕ) (entries : List (List ℕ)) → entries_of bytes ≡ Some entries → Cuts bytes entries
cuts bytes entries is = cuts_in (length bytes) bytes entries (omega arith) is

-- The first bytes of joined entries are the first entry.
module _ (entry rest : List ℕ) (whole : IsEntry entry) where
  same_length : entry_length (entry ++ rest) ≡ length entry
  same_length =
      rw (
        number_at-append 20 2 entry rest (omega (arith, whole.header)),
        number_at-append 24 4 entry rest
            (omega (arith, whole.header)),
      ) (sym whole.whole)

  begins : has_entry (entry ++ rest) ≡ true
  begins = grind (arith, same_length, whole.header, length-append entry rest)

  split : entries_of (entry ++ rest) ≡ option_map (λ behind. entry ∷ behind) (entries_of rest)
  split =
      entries_of_more (entry ++ rest) begins
      ∙ (λ i. option_map (λ behind. take (same_length i) (entry ++ rest) ∷ behind)
      (entries_of (drop (same_length i) (entry ++ rest))))
      ∙ (λ i. option_map (λ behind. take_at entry rest (length entry) refl i ∷ behind)
      (entries_of (drop_at entry rest (length entry) refl i)))

-- Entries laid end to end are the entries of these bytes.
pub entries_of-concat : (entries : List (List ℕ)) → AllByRecursion IsEntry entries
    → entries_of (concat entries) ≡ Some entries
entries_of-concat [] each = unfold block_entries_in in refl
entries_of-concat (entry ∷ entries) each =
    split entry (concat entries) each.0
    ∙ ap (λ read. option_map (λ behind. entry ∷ behind) read) (entries_of-concat entries each.1)

-- Counting: `counted` is the number of entries that were skipped.
abbrev pub IsCounted : List ℕ → List ℕ → ℕ → Type 0
IsCounted bytes rest counted =
    option_map (λ entries. counted + length entries) (entries_of rest)
    ≡ option_map (λ entries. length entries) (entries_of bytes)

not_counted : (read : Option (List (List ℕ))) → None ≡ option_map (λ entries. length entries) read → None ≡ read
not_counted None is = refl
not_counted (Some entries) is = cc

pub none_counted : (bytes rest : List ℕ) (counted : ℕ) → 0 < length rest → has_entry rest ≡ false
    → IsCounted bytes rest counted → None ≡ entries_of bytes
none_counted bytes rest counted some out is =
    let more : nat_eq (length rest) 0 ≡ false = grind arith in
    let none : entries_of rest ≡ None = entries_of_last rest out ∙ rw more refl in
    not_counted (entries_of bytes) (sym (ap (λ read. option_map (λ entries. counted + length entries) read) none) ∙ is)

counts_more : (counted : ℕ) (first : List ℕ) (read : Option (List (List ℕ)))
    → option_map (λ entries. (counted + 1) + length entries) read
    ≡ option_map (λ entries. counted + length entries) (option_map (λ behind. first ∷ behind) read)
counts_more counted first None = refl
counts_more counted first (Some behind) = ap (λ n. Some n) (omega (arith, add-one))

-- One more entry.
pub record Counts (bytes rest : List ℕ) (count : ℕ) : Type 0 where
  pub short : count + length rest ≤ length bytes
  pub counted : IsCounted bytes rest count

pub one_counted : (bytes rest behind : List ℕ) (counted : ℕ) → has_entry rest ≡ true → behind ≡ rest_of rest
    → Counts bytes rest counted → Counts bytes behind (counted + 1)
one_counted bytes rest behind counted fit is counts =
    let f : Fits rest = fits rest fit in
    record {
      short = omega (arith, f, counts.short, ap (λ (xs : List ℕ). length xs) is, length-drop (entry_length rest) rest);
      counted =
          ap (λ xs. option_map (λ entries. (counted + 1) + length entries) (entries_of xs)) is
          ∙ counts_more counted (first_of rest) (entries_of (rest_of rest))
          ∙ ap (λ read. option_map (λ entries. counted + length entries) read) (sym (entries_of_more rest fit))
          ∙ counts.counted;
    }

-- At the end all entries are counted.
pub record AllCounted (bytes : List ℕ) (counted : ℕ) : Type 0 where
  pub cut : Some (cut counted bytes) ≡ entries_of bytes
  pub inside : AreInside counted bytes

counted_as : (bytes : List ℕ) (counted : ℕ) (read : Option (List (List ℕ))) → entries_of bytes ≡ read
    → Some counted ≡ option_map (λ entries. length entries) read → AllCounted bytes counted
counted_as bytes counted None is count = cc
counted_as bytes counted (Some entries) is count =
    let all : Cuts bytes entries = cuts bytes entries is in
    let same : counted ≡ length entries = cc in
    record {
      cut = ap (λ n. Some (cut n bytes)) same ∙ ap (λ es. Some es) all.cut ∙ sym is;
      inside = subst (λ n. AreInside n bytes) (sym same) all.inside;
    }

pub all_counted : (bytes rest : List ℕ) (counted : ℕ) → length rest ≡ 0 → IsCounted bytes rest counted
    → AllCounted bytes counted
all_counted bytes rest counted none is =
    let empty : entries_of rest ≡ Some [] = ap (λ xs. entries_of xs) (nil_from_length rest none)
    ∙ entries_of-concat [] tt in
    counted_as bytes counted (entries_of bytes) refl
    (ap (λ n. Some n) (omega arith) ∙ sym (ap (λ read. option_map (λ entries. counted + length entries) read) empty) ∙ is)
