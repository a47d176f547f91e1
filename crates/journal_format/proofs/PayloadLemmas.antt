-- The payload of a link is read as it is spelled.
use Rattle.std.proofs.Common.{◌≡◌, ℕ, ◌≤◌, ◌<◌, ◌^◌, leb, List, ◌++◌, length, Some, Ok, sym, ap, ◌∙◌, append_assoc, arith, refl, Option, Result, Err}
use Rattle.std.specs.Prelude.{IfOk, IsOkAnd}
use Rattle.std.specs.Global.{Vec}
use Rattle.std.specs.List.{AllByRecursion}
use Rattle.std.proofs.lemmas.Bool.{leb-true, le-leb, and_parts, and_from}
use Rattle.std.proofs.lemmas.List.Elements.{All-from_recursion, recursion_from_All}
use Rattle.ras_base.specs.LittleEndian.{AreBytes, u32_bytes}
use Rattle.ras_facts.specs.declared.entry.Entry.{Entry}
use Rattle.entry_format.specs.declared.version.Version.{Version}
use Rattle.entry_format.specs.Spelling.{entry_bytes, entries_bytes}
use Rattle.entry_format.specs.File.{IsEntryOf, AreEntriesOf}
use Rattle.entry_format.specs.declared.refused.EntryRefused.{EntryRefused}
use Rattle.entry_format.specs.declared.refused.EntryRefused.TheVariants.{Bad, NoMemory}
use Rattle.entry_format.specs.Reading.{RefusesExactly, if_passes, many_at, whole_at, u32_at, entry_at}
use Rattle.entry_format.proofs.CodecLemmas.{Reads, bind_ok, ok_is, rest_fits, made_read, many_read}
use Rattle.entry_format.proofs.CodecLemmas.{Makes}
use Rattle.entry_format.proofs.FieldLemmas.{u32_read, tested}
use Rattle.entry_format.proofs.EntryLemmas.{entry_read}
use Rattle.journal_format.specs.declared.link.TheConstants.{MOST_LINK_ENTRIES}
use Rattle.journal_format.specs.Links.{payload_bytes, IsPayload}
use Rattle.journal_format.specs.PayloadReading.{found_in, is_link_count, link_count_at, payload_at, payload_of}
use Rattle.journal_format.proofs.WholeLemmas.{whole_takes, whole_again, found_is}

abbrev IsCount : ℕ → Type 0
IsCount n = (1 ≤ n) × (n ≤ MOST_LINK_ENTRIES)

count_makes : Makes (if_passes is_link_count) (λ n. n) (λ n. n < 2 ^ 32) IsCount
count_makes =
    tested is_link_count (λ n. n < 2 ^ 32) IsCount
    (λ n lt is. let h = and_parts (leb 1 n) (leb n MOST_LINK_ENTRIES) is in (leb-true 1 n h.0, leb-true n MOST_LINK_ENTRIES h.1))
    (λ n v. let most = v.1 in (and_from (leb 1 n) (leb n MOST_LINK_ENTRIES) (le-leb 1 n v.0) (le-leb n MOST_LINK_ENTRIES v.1), omega arith))

count_read : Reads link_count_at u32_bytes IsCount
unfolding link_count_at
count_read = made_read (if_passes is_link_count) (λ n. n) u32_at u32_bytes (λ n. n < 2 ^ 32) IsCount count_makes u32_read

-- Entries of a version, as many as a link may have.
abbrev pub AreLinked : Version → List Entry → Type 0
AreLinked version entries = IsCount (length entries) × AllByRecursion (IsEntryOf version) entries

payload_takes : (version : Version) (bytes : List ℕ) (es : List Entry) (rest : List ℕ) → AreBytes bytes → payload_at version bytes ≡ Ok (es, rest) → (bytes ≡ payload_bytes es ++ rest) × AreLinked version es
unfolding payload_at payload_bytes
payload_takes version bytes es rest fits e =
    let p = bind_ok (link_count_at bytes) (λ n. many_at (entry_at version) n.0 n.1) (es, rest) e in
    let t = count_read.takes bytes p.0.0 p.0.1 fits p.1 in
    let many = (many_read (entry_at version) entry_bytes (IsEntryOf version) (entry_read version) p.0.0).takes p.0.1 es rest (rest_fits bytes (u32_bytes p.0.0) p.0.1 fits t.0) p.2 in
    let len : length es ≡ p.0.0 = many.1.0 in
    let some = t.1.0 in
    let few = t.1.1 in
    let parts : bytes ≡ u32_bytes (length es) ++ (entries_bytes es ++ rest) =
    t.0 ∙ ap (λ (w : List ℕ). u32_bytes p.0.0 ++ w) many.0 ∙ ap (λ (n : ℕ). u32_bytes n ++ (entries_bytes es ++ rest)) (sym len) in
    (parts ∙ sym (append_assoc (u32_bytes (length es)) (entries_bytes es) rest), ((omega arith, omega arith), many.1.1))

payload_again : (version : Version) (es : List Entry) (rest : List ℕ) → AreLinked version es → payload_at version (payload_bytes es ++ rest) ≡ Ok (es, rest)
unfolding payload_at payload_bytes
payload_again version es rest v =
    ap (payload_at version) (append_assoc (u32_bytes (length es)) (entries_bytes es) rest)
    ∙ rw (count_read.again (length es) (entries_bytes es ++ rest) v.0) ((many_read (entry_at version) entry_bytes (IsEntryOf version) (entry_read version) (length es)).again es rest (refl, v.1))

payload_read : (version : Version) → Reads (payload_at version) payload_bytes (AreLinked version)
payload_read version = record { takes = payload_takes version; again = payload_again version }

pub linked : (version : Version) (es : List Entry) (bytes : List ℕ) → IsPayload version es bytes → AreLinked version es
linked version es bytes is = ((is.some, is.few), recursion_from_All (IsEntryOf version) es is.each)

-- A payload is read as its entries.
pub payload_is_read : (version : Version) (es : List Entry) (bytes : List ℕ) → IsPayload version es bytes → payload_of version bytes ≡ Some es
unfolding payload_of
payload_is_read version es bytes is =
    rw is.spelled (ap found_in (whole_again (payload_at version) payload_bytes (AreLinked version) (payload_read version) es (linked version es bytes is)))

pub payload_found : (version : Version) (es : List Entry) (bytes : List ℕ) → AreBytes bytes → payload_of version bytes ≡ Some es → IsPayload version es bytes
unfolding payload_of
payload_found version es bytes fits e =
    let t = whole_takes (payload_at version) payload_bytes (AreLinked version) (payload_read version) bytes es fits (found_is (whole_at (payload_at version) bytes) es e) in
    record { some = t.1.0.0; few = t.1.0.1; each = All-from_recursion (IsEntryOf version) es t.1.1; spelled = t.0 }

-- Bytes are at most one payload.
pub one_payload : (version : Version) (ds es : List Entry) (x y : List ℕ) → AreLinked version ds → AreLinked version es → payload_bytes ds ++ x ≡ payload_bytes es ++ y → (ds ≡ es) × (x ≡ y)
one_payload version ds es x y v w e =
    let one = sym (payload_again version ds x v) ∙ ap (payload_at version) e ∙ payload_again version es y w in
    let both : List Entry × List ℕ = (ds, x) in
    let same = ok_is both (es, y) one in
    (ap (λ (p : List Entry × List ℕ). p.0) same, ap (λ (p : List Entry × List ℕ). p.1) same)

-- ---- the list of entries after their number

abbrev pub Read : Type 0
Read = Result (Vec Entry) EntryRefused

-- A number and that many entries are a payload.
pub list_is_payload : (version : Version) (bytes : List ℕ) (n : ℕ) (rest : List ℕ) (r : Read) → AreBytes bytes → link_count_at bytes ≡ Ok (n, rest)
    → IfOk r (λ v. AreEntriesOf version v.items rest) → IfOk r (λ v. length v.items ≡ n) → IfOk r (λ v. IsPayload version v.items bytes)
unfolding payload_bytes
list_is_payload version bytes n rest (Err refused) fits counted found len = tt
list_is_payload version bytes n rest (Ok v) fits counted found len =
    let t = count_read.takes bytes n rest fits counted in
    let some = t.1.0 in
    let few = t.1.1 in
    record {
      some = omega arith;
      few = omega arith;
      each = found.each;
      spelled = t.0 ∙ ap (λ (w : List ℕ). u32_bytes n ++ w) found.spelled ∙ ap (λ (k : ℕ). u32_bytes k ++ entries_bytes v.items) (sym len);
    }

-- The number of a payload's entries is read.
counted : (version : Version) (bytes : List ℕ) (es : List Entry) → IsPayload version es bytes → link_count_at bytes ≡ Ok (length es, entries_bytes es)
unfolding payload_bytes
counted version bytes es is = ap link_count_at is.spelled ∙ count_read.again (length es) (entries_bytes es) (is.some, is.few)

pub payload_is_listed : (version : Version) (bytes : List ℕ) (n : ℕ) (rest : List ℕ) (r : Read) → link_count_at bytes ≡ Ok (n, rest)
    → ((es : List Entry) → AreEntriesOf version es rest → length es ≡ n → (r ≡ Err NoMemory → ⊥) → IsOkAnd r (λ v. v.items ≡ es))
    → (es : List Entry) → IsPayload version es bytes → (r ≡ Err NoMemory → ⊥) → IsOkAnd r (λ v. v.items ≡ es)
payload_is_listed version bytes n rest r read listed es is enough =
    let here : ℕ × List ℕ = (n, rest) in
    let same = ok_is here (length es, entries_bytes es) (sym read ∙ counted version bytes es is) in
    listed es (record { each = is.each; spelled = ap (λ (p : ℕ × List ℕ). p.1) same }) (sym (ap (λ (p : ℕ × List ℕ). p.0) same)) enough

-- No payload is rejected for its number of entries.
pub payload_is_counted : (version : Version) (bytes : List ℕ) (es : List Entry) (refused : EntryRefused) → IsPayload version es bytes → RefusesExactly refused (link_count_at bytes) → ⊥
payload_is_counted version bytes es NoMemory is refused = refused
payload_is_counted version bytes es Bad is refused = let wrong = sym refused ∙ counted version bytes es is in absurd cc

-- Bytes are the payload of at most one list of entries.
pub same_payload : (version : Version) (ds es : List Entry) (bytes : List ℕ) → IsPayload version ds bytes → IsPayload version es bytes → ds ≡ es
same_payload version ds es bytes one other =
    let found : Option (List Entry) = payload_of version bytes in
    let same = sym (payload_is_read version ds bytes one) ∙ payload_is_read version es bytes other in
    cc
