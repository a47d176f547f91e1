-- What a file contains at each point while a new generation is written over it: the gate at its front is closed,
-- everything after it is written, and the gate is opened.
use Rattle.std.proofs.Common.{◌≡◌, ◌≢◌, ◌∙◌, ℕ, ◌+◌, ◌≤◌, ◌<◌, ◌⊎◌, max, List, [], ◌∷◌, ◌++◌, length, take, drop, get_or, Option, None, Some, Ok, refl, sym, ap, arith, inl, inr, append_assoc}
use Rattle.std.specs.Prelude.{true, false, slice_index}
use Rattle.std.proofs.lemmas.Bool.{cases_eq}
use Rattle.std.proofs.lemmas.Bool.Decides.{nat_tests}
use Rattle.std.proofs.lemmas.List.{length-take-le, length-append, get_or-take, drop_at, drop_more}
use Rattle.board_core.specs.Told.{overlay, Torn}
use Rattle.ras_account.specs.Account.{State}
use Rattle.entry_format.specs.declared.version.Version.{Version}
use Rattle.ras_journal.specs.declared.limits.TheConstants.{OPEN_GATE, CLOSED_GATE}
use Rattle.ras_journal.specs.File.{has_open_gate, front_of}
use Rattle.ras_journal.specs.Laws.{CanBegin, begun, begun_front}
use Rattle.ras_journal.proofs.FileLemmas.{closed_is}
use Rattle.ras_journal.proofs.LawLemmas.{begun_reads}

-- A file that isn't valid.
pub absent : (taken : Option ℕ) (file : List ℕ) → has_open_gate file ≡ false → front_of taken file ≡ Ok None
unfolding front_of
absent taken file shut = rw shut refl

pub shut_byte : (file : List ℕ) → slice_index file 0 ≢ OPEN_GATE → has_open_gate file ≡ false
shut_byte file shut = grind (arith, nat_tests)

pub too_short : (file : List ℕ) → length file ≤ 1 → has_open_gate file ≡ false
too_short file short = grind (arith, nat_tests)

open_byte : (file : List ℕ) → has_open_gate file ≡ true → (slice_index file 0 ≡ OPEN_GATE) × (1 < length file)
open_byte file is =
    let byte : slice_index file 0 ≡ OPEN_GATE = grind (arith, nat_tests) in
    let long : 1 < length file = grind (arith, nat_tests) in
    (byte, long)

-- A file is its first byte and the bytes after it.
first_byte : (file : List ℕ) → 0 < length file → file ≡ slice_index file 0 ∷ drop 1 file
first_byte file some = drop_more file 0 0 some

-- The gate at the front is closed, of a valid file or of a file with at most one byte.
pub torn_close : (taken : Option ℕ) (base file : List ℕ) → (has_open_gate base ≡ true) ⊎ (length base ≤ 1) → Torn 0 1 base file → (front_of taken file ≡ front_of taken base) ⊎ (front_of taken file ≡ Ok None)
torn_close taken base file (inr short) torn =
    let within : length file ≤ max (length base) 1 = torn.within in inr (absent taken file (too_short file (omega arith)))
torn_close taken base file (inl stands) torn = elim (cases_eq (slice_index file 0) OPEN_GATE) [
  | inl is ↦
      let gate = open_byte base stands in
      let longer : length base ≤ length file = torn.longer in
      let long : 1 < length base = gate.1 in
      let same : file ≡ base =
      first_byte file (omega arith) ∙ (ap (λ (byte : ℕ). byte ∷ drop 1 file) (is ∙ sym gate.0) ∙ (ap (λ (rest : List ℕ). slice_index base 0 ∷ rest) torn.back ∙ sym (first_byte base (omega arith)))) in
      inl (ap (front_of taken) same)
  | inr shut ↦ inr (absent taken file (shut_byte file shut))
]

-- Everything after the closed gate at the front is written.
pub torn_behind : (taken : Option ℕ) (base file : List ℕ) (count : ℕ) → 0 < length base → slice_index base 0 ≢ OPEN_GATE → Torn 1 count base file → front_of taken file ≡ Ok None
torn_behind taken base file count some shut torn =
    let byte : slice_index file 0 ≡ slice_index base 0 =
    sym (get_or-take 1 file 0 0 (omega arith)) ∙ (ap (λ (l : List ℕ). get_or l 0 0) torn.front ∙ get_or-take 1 base 0 0 (omega arith)) in
    absent taken file (shut_byte file (λ is. shut (sym byte ∙ is)))

-- the bytes after the gate at the front, up to the first closed gate of the chain
abbrev pub behind_front : Version → ℕ → List ℕ → List ℕ
behind_front version generation checkpoint = drop 1 (begun version generation checkpoint) ++ CLOSED_GATE ∷ []

-- the file with all of these bytes, its gate still closed
abbrev pub unopened : List ℕ → Version → ℕ → List ℕ → List ℕ
unopened base version generation checkpoint = overlay 1 (behind_front version generation checkpoint) base

pub record Unopened (base : List ℕ) (version : Version) (generation : ℕ) (checkpoint : List ℕ) : Type 0 where
  pub rest : List ℕ
  pub behind : OPEN_GATE ∷ drop 1 (unopened base version generation checkpoint) ≡ begun version generation checkpoint ++ (CLOSED_GATE ∷ rest)
  pub longer : 0 < length (unopened base version generation checkpoint)

pub unopened_parts : (base : List ℕ) (version : Version) (generation : ℕ) (checkpoint : List ℕ) → 0 < length base → Unopened base version generation checkpoint
unopened_parts base version generation checkpoint some =
    let front = take 1 base in
    let after = drop 1 (begun version generation checkpoint) in
    let piece = after ++ CLOSED_GATE ∷ [] in
    let rest = drop (1 + length piece) base in
    let size : length front ≡ 1 = length-take-le 1 base (omega arith) in
    let laid : (front ++ piece) ++ rest ≡ front ++ (piece ++ rest) = append_assoc front piece rest in
    record {
      rest = rest;
      behind = ap (λ (l : List ℕ). OPEN_GATE ∷ l) (ap (λ (l : List ℕ). drop 1 l) laid ∙ (drop_at front (piece ++ rest) 1 size ∙ append_assoc after (CLOSED_GATE ∷ []) rest));
      longer = omega (arith, ap length laid, length-append front (piece ++ rest));
    }

-- The gate is opened.
pub torn_open : (taken : Option ℕ) (base file : List ℕ) (version : Version) (generation : ℕ) (checkpoint : List ℕ) (account : State) → 0 < length base → CanBegin taken version generation checkpoint account
    → Torn 0 1 (unopened base version generation checkpoint) file → (front_of taken file ≡ Ok None) ⊎ (front_of taken file ≡ Ok (Some (begun_front version generation checkpoint account)))
torn_open taken base file version generation checkpoint account some can torn =
    let u = unopened_parts base version generation checkpoint some in
    let longer : length (unopened base version generation checkpoint) ≤ length file = torn.longer in
    let more : 0 < length (unopened base version generation checkpoint) = u.longer in
    elim (cases_eq (slice_index file 0) OPEN_GATE) [
      | inl is ↦
          let whole : file ≡ begun version generation checkpoint ++ (CLOSED_GATE ∷ u.rest) =
          first_byte file (omega arith) ∙ (ap (λ (byte : ℕ). byte ∷ drop 1 file) is ∙ (ap (λ (l : List ℕ). OPEN_GATE ∷ l) torn.back ∙ u.behind)) in
          inr (ap (front_of taken) whole ∙ begun_reads taken version generation checkpoint account CLOSED_GATE u.rest can closed_is)
      | inr shut ↦ inl (absent taken file (shut_byte file shut))
    ]

-- The opened file is valid with the new generation.
pub opened_reads : (taken : Option ℕ) (base : List ℕ) (version : Version) (generation : ℕ) (checkpoint : List ℕ) (account : State) → 0 < length base → CanBegin taken version generation checkpoint account
    → front_of taken (overlay 0 (OPEN_GATE ∷ []) (unopened base version generation checkpoint)) ≡ Ok (Some (begun_front version generation checkpoint account))
opened_reads taken base version generation checkpoint account some can =
    let u = unopened_parts base version generation checkpoint some in
    ap (front_of taken) u.behind ∙ begun_reads taken version generation checkpoint account CLOSED_GATE u.rest can closed_is
