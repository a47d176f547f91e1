-- Bytes are at most one list of entries.
use Rattle.std.proofs.Common.{◌≡◌, ℕ, Bool, true, false, cond, eqb, List, [], ◌∷◌, ◌++◌, length, All, Result, Ok, Err, refl, sym, ap, subst, ◌∙◌, append-nil, arith, length-append}
use Rattle.std.specs.Prelude.{IfOk, IsOkAnd}
use Rattle.std.specs.Global.{Vec}
use Rattle.std.specs.List.{AllByRecursion}
use Rattle.std.proofs.lemmas.Bool.{eqb-true}
use Rattle.std.proofs.lemmas.List.Elements.{All-from_recursion, recursion_from_All}
use Rattle.ras_base.specs.LittleEndian.{AreBytes}
use Rattle.ras_facts.specs.declared.entry.Entry.{Entry}
use Rattle.ras_facts.specs.Entries.{IsValidEntry}
use Rattle.entry_format.specs.declared.version.Version.{Version}
use Rattle.entry_format.specs.declared.version.Version.TheVariants.{Two}
use Rattle.entry_format.specs.declared.refused.EntryRefused.{EntryRefused}
use Rattle.entry_format.specs.declared.refused.EntryRefused.TheVariants as why
use Rattle.entry_format.specs.Spelling.{entry_bytes, entries_bytes}
use Rattle.entry_format.specs.File.{IsEntryOf, AreEntriesOf}
use Rattle.entry_format.specs.Reading.{ReadsUnlessMemory, many_at, whole_at, entry_at}
use Rattle.entry_format.proofs.CodecLemmas.{Reads, bind_ok, ok_is, many_read}
use Rattle.entry_format.proofs.EntryLemmas.{entry_read, entry_not_empty}

-- ---- no spelling begins another

-- A file of version 2 can have every valid entry.
pub of_two : (entry : Entry) → IsValidEntry entry → IsEntryOf Two entry
of_two entry valid = record { valid = valid; held = tt }

pub all_of_two : (entries : List Entry) → All IsValidEntry entries → All (IsEntryOf Two) entries
all_of_two entries valid = All-from_recursion (IsEntryOf Two) entries (each_of_two entries (recursion_from_All IsValidEntry entries valid))
  where
    each_of_two : (entries : List Entry) → AllByRecursion IsValidEntry entries → AllByRecursion (IsEntryOf Two) entries
    each_of_two [] v = tt
    each_of_two (entry ∷ entries) v = (of_two entry v.0, each_of_two entries v.1)

pub same_front : (f g : Entry) (x y : List ℕ) → IsValidEntry f → IsValidEntry g → entry_bytes f ++ x ≡ entry_bytes g ++ y → (f ≡ g) × (x ≡ y)
same_front f g x y v w e =
    let one = sym ((entry_read Two).again f x (of_two f v)) ∙ ap (entry_at Two) e ∙ (entry_read Two).again g y (of_two g w) in
    let both : Entry × List ℕ = (f, x) in
    let same = ok_is both (g, y) one in
    (ap (λ (p : Entry × List ℕ). p.0) same, ap (λ (p : Entry × List ℕ). p.1) same)

abbrev AreOf : Version → List Entry → Type 0
AreOf version entries = AllByRecursion (IsEntryOf version) entries

parts : (version : Version) (entries : List Entry) → All (IsEntryOf version) entries → AreOf version entries
parts version entries each = recursion_from_All (IsEntryOf version) entries each

no_entries : (entry : Entry) (entries : List Entry) → [] ≡ entries_bytes (entry ∷ entries) → ⊥
no_entries entry entries is = omega (arith, entry_not_empty entry, length-append (entry_bytes entry) (entries_bytes entries), ap length is)

same_entries : (fs gs : List Entry) → AllByRecursion IsValidEntry fs → AllByRecursion IsValidEntry gs → entries_bytes fs ≡ entries_bytes gs → fs ≡ gs
same_entries [] [] v w e = refl
same_entries [] (g ∷ gs) v w e = absurd (no_entries g gs e)
same_entries (f ∷ fs) [] v w e = absurd (no_entries f fs (sym e))
same_entries (f ∷ fs) (g ∷ gs) v w e =
    let one = same_front f g (entries_bytes fs) (entries_bytes gs) v.0 w.0 e in
    ap (λ (k : Entry). k ∷ fs) one.0 ∙ ap (λ (ks : List Entry). g ∷ ks) (same_entries fs gs v.1 w.1 one.1)

pub one_reading : (fs gs : List Entry) → All IsValidEntry fs → All IsValidEntry gs → entries_bytes fs ≡ entries_bytes gs → fs ≡ gs
one_reading fs gs v w e = same_entries fs gs (recursion_from_All IsValidEntry fs v) (recursion_from_All IsValidEntry gs w) e

-- ---- so many entries that are all of the bytes

abbrev list_at : Version → ℕ → List ℕ → Result (List Entry) EntryRefused
list_at version count bytes = whole_at (many_at (entry_at version) count) bytes

entries_read : (version : Version) (count : ℕ) → Reads (many_at (entry_at version) count) entries_bytes (λ es. (length es ≡ count) × AreOf version es)
entries_read version count = many_read (entry_at version) entry_bytes (IsEntryOf version) (entry_read version) count

none_left : (entries : List Entry) (rest : List ℕ) (es : List Entry) (empty : Bool) → eqb (length rest) 0 ≡ empty → cond empty (Ok entries) (Err why.Bad) ≡ Ok es → (rest ≡ []) × (entries ≡ es)
none_left entries [] es true is e = (refl, ok_is entries es e)
none_left entries (b ∷ rest) es true is e = let none = eqb-true _ _ is in absurd (omega (arith, none))
none_left entries rest es false is e = absurd cc

list_takes : (version : Version) (count : ℕ) (bytes : List ℕ) (es : List Entry) → AreBytes bytes → list_at version count bytes ≡ Ok es → AreEntriesOf version es bytes × (length es ≡ count)
list_takes version count bytes es fits e =
    let p = bind_ok (many_at (entry_at version) count bytes) (λ x. cond (eqb (length x.1) 0) (Ok x.0) (Err why.Bad)) es e in
    let t = (entries_read version count).takes bytes p.0.0 p.0.1 fits p.1 in
    let left = none_left p.0.0 p.0.1 es (eqb (length p.0.1) 0) refl p.2 in
    let whole : bytes ≡ entries_bytes p.0.0 = t.0 ∙ ap (λ (w : List ℕ). entries_bytes p.0.0 ++ w) left.0 ∙ append-nil (entries_bytes p.0.0) in
    subst (λ (fs : List Entry). AreEntriesOf version fs bytes × (length fs ≡ count)) left.1
    (record { each = All-from_recursion (IsEntryOf version) p.0.0 t.1.1; spelled = whole }, t.1.0)

list_again : (version : Version) (count : ℕ) (bytes : List ℕ) (es : List Entry) → AreEntriesOf version es bytes → length es ≡ count → list_at version count bytes ≡ Ok es
list_again version count bytes es are len =
    let read = (entries_read version count).again es [] (len, parts version es are.each) in
    rw (ap (many_at (entry_at version) count) (are.spelled ∙ sym (append-nil (entries_bytes es))) ∙ read) refl

abbrev Seen : Version → Result (Vec Entry) EntryRefused → List ℕ → ℕ → Type 0
Seen version r bytes count = ReadsUnlessMemory (λ v. v.items) r (list_at version count bytes)

pub list_found : (version : Version) (bytes : List ℕ) (count : ℕ) (r : Result (Vec Entry) EntryRefused) → AreBytes bytes → Seen version r bytes count → IfOk r (λ v. AreEntriesOf version v.items bytes)
list_found version bytes count (Ok v) fits seen = (list_takes version count bytes v.items fits seen).0
list_found version bytes count (Err e) fits seen = tt

pub list_counted : (version : Version) (bytes : List ℕ) (count : ℕ) (r : Result (Vec Entry) EntryRefused) → AreBytes bytes → Seen version r bytes count → IfOk r (λ v. length v.items ≡ count)
list_counted version bytes count (Ok v) fits seen = (list_takes version count bytes v.items fits seen).1
list_counted version bytes count (Err e) fits seen = tt

pub list_is_read : (version : Version) (bytes : List ℕ) (count : ℕ) (r : Result (Vec Entry) EntryRefused) → Seen version r bytes count
    → (es : List Entry) → AreEntriesOf version es bytes → length es ≡ count → (r ≡ Err why.NoMemory → ⊥) → IsOkAnd r (λ v. v.items ≡ es)
list_is_read version bytes count (Ok v) seen es are len enough = ok_is v.items es (sym seen ∙ list_again version count bytes es are len)
list_is_read version bytes count (Err why.Bad) seen es are len enough = let wrong = sym seen ∙ list_again version count bytes es are len in absurd cc
list_is_read version bytes count (Err why.NoMemory) seen es are len enough = absurd (enough refl)
