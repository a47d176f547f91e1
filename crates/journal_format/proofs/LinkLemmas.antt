-- A link at the start of bytes.
use Rattle.std.proofs.Common.{◌≡◌, ℕ, ◌+◌, ◌<◌, ◌≤◌, ◌^◌, Bool, true, false, ltb, List, [], ◌++◌, length, take, drop, All, refl, sym, ap, subst, ◌∙◌, append_assoc, append-nil, arith, length-append}
use Rattle.std.proofs.lemmas.Bool.{le-ltb, lt-ltb, ltb-true, ltb-false}
use Rattle.std.proofs.lemmas.List.{take_at, drop_at, append_cancel_left}
use Rattle.ras_base.specs.Prefix.{IsPrefixOf}
use Rattle.ras_base.specs.LittleEndian.{u32_bytes, number_at}
use Rattle.ras_base.specs.Steps.LittleEndianLemmas.{length-u32_bytes, number_at-u32_bytes, number_at-append}
use Rattle.ras_facts.specs.declared.entry.Entry.{Entry}
use Rattle.ras_facts.specs.Entries.{IsValidEntry}
use Rattle.entry_format.specs.declared.version.Version.{Version}
use Rattle.entry_format.specs.declared.version.Version.TheVariants.{Two}
use Rattle.entry_format.proofs.FileLemmas.{all_of_two}
use Rattle.journal_format.specs.declared.link.TheConstants.{MOST_LINK_ENTRIES, MOST_PAYLOAD}
use Rattle.journal_format.specs.Links.{payload_bytes, link_bytes, IsPayload, CanLink, link_length, ends_early, payload_in}
use Rattle.journal_format.proofs.PayloadLemmas.{same_payload}

-- the length and the payload of a link at the start of bytes
pub record IsWhole (entries : List Entry) (bytes : List ℕ) : Type 0 where
  pub early : ends_early bytes ≡ false
  pub length_is : link_length bytes ≡ length (link_bytes entries)
  pub payload : payload_in bytes ≡ payload_bytes entries

pub link_is_whole : (version : Version) (entries : List Entry) (rest bytes : List ℕ) → CanLink version entries → bytes ≡ link_bytes entries ++ rest → IsWhole entries bytes
unfolding link_bytes
link_is_whole version entries rest bytes can front =
    let payload = payload_bytes entries in
    let n = length payload in
    let parts : bytes ≡ u32_bytes n ++ (payload ++ rest) = front ∙ append_assoc (u32_bytes n) payload rest in
    let told : number_at 0 4 bytes ≡ n = ap (number_at 0 4) parts ∙ number_at-u32_bytes n (payload ++ rest) can.fits in
    let behind : drop 4 bytes ≡ payload ++ rest = ap (drop 4) parts ∙ drop_at (u32_bytes n) (payload ++ rest) 4 (length-u32_bytes n) in
    let len : length bytes ≡ 4 + (n + length rest) = ap length parts ∙ omega (arith, length-append (u32_bytes n) (payload ++ rest), length-append payload rest, length-u32_bytes n) in
    record {
      early = le-ltb _ _ (omega (arith, told, len));
      length_is = omega (arith, told, length-append (u32_bytes n) payload, length-u32_bytes n);
      payload = ap (λ (k : ℕ). take k (drop 4 bytes)) told ∙ ap (take n) behind ∙ take_at payload rest n refl;
    }

-- how many bytes the numbers of a link have
pub ruleset link_sizes = (length-append, length-u32_bytes)

-- ---- no link begins another

pub front_ends_early : (version : Version) (entries : List Entry) (front : List ℕ) → CanLink version entries → IsPrefixOf front (link_bytes entries) → length front < length (link_bytes entries) → ends_early front ≡ true
unfolding link_bytes
front_ends_early version entries front can (rest, all) shorter = by (ltb (length front) 4) refl
  where
    total : length (link_bytes entries) ≡ 4 + length (payload_bytes entries)
    total = length-append (u32_bytes (length (payload_bytes entries))) (payload_bytes entries) ∙ ap (λ (n : ℕ). n + length (payload_bytes entries)) (length-u32_bytes (length (payload_bytes entries)))

    by : (short : Bool) → ltb (length front) 4 ≡ short → ends_early front ≡ true
    by true is = lt-ltb _ _ (let less = ltb-true (length front) 4 is in omega (arith, less))
    by false is =
        let enough = ltb-false (length front) 4 is in
        let whole : link_bytes entries ++ [] ≡ link_bytes entries = append-nil (link_bytes entries) in
        let told = (link_is_whole version entries [] (link_bytes entries) can (sym whole)).length_is in
        let same = number_at-append 0 4 front rest enough in
        let here : number_at 0 4 (front ++ rest) ≡ number_at 0 4 (link_bytes entries) = ap (number_at 0 4) all in
        lt-ltb _ _ (omega (arith, told, same, here, shorter))

link_fits : (version : Version) (ds es : List Entry) (x y : List ℕ) → CanLink version ds → CanLink version es → link_bytes ds ++ x ≡ link_bytes es ++ y → ds ≡ es
link_fits version ds es x y one other e =
    let here = link_is_whole version ds x (link_bytes ds ++ x) one refl in
    let there = link_is_whole version es y (link_bytes ds ++ x) other e in
    let same : payload_bytes ds ≡ payload_bytes es = sym here.payload ∙ there.payload in
    same_payload version ds es (payload_bytes es) (subst (IsPayload version ds) same one.payload) other.payload

pub no_link_begins : (version : Version) (ds es : List Entry) (x y : List ℕ) → CanLink version ds → CanLink version es → link_bytes ds ++ x ≡ link_bytes es ++ y → (ds ≡ es) × (x ≡ y)
no_link_begins version ds es x y one other e =
    let same = link_fits version ds es x y one other e in
    let front : link_bytes es ++ x ≡ link_bytes es ++ y = ap (λ (fs : List Entry). link_bytes fs ++ x) (sym same) ∙ e in
    (same, append_cancel_left (link_bytes es) x y front)

-- ---- entries that can be linked

pub made_of : (entries : List Entry) → 1 ≤ length entries → length entries ≤ MOST_LINK_ENTRIES → All IsValidEntry entries → length (payload_bytes entries) ≤ MOST_PAYLOAD → CanLink Two entries
made_of entries some few valid small = record {
  payload = record { some = some; few = few; each = all_of_two entries valid; spelled = refl };
  fits = omega arith;
}
