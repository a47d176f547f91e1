-- Entries that are cut off lie end to end, and entries that lie end to end are cut off.
use Rattle.std.proofs.Common.{◌≡◌, ◌∙◌, ℕ, List, Option, Some, None, refl, sym, ap}
use Rattle.std.proofs.lemmas.List.Elements.{All-from_recursion, recursion_from_All}
use Rattle.apei_sources.specs.Entries.{entries_of}
use Rattle.apei_sources.specs.Laid.{IsEntry, AreEntries}
use Rattle.apei_sources.proofs.EntryLemmas.{Cuts, cuts, entries_of-concat}
use Rattle.apei_sources.proofs.laws.entries_fill_the_data.Goals as goal

are : (bytes : List ℕ) (entries : List (List ℕ)) → entries_of bytes ≡ Some entries → AreEntries bytes entries
are bytes entries is =
    let all : Cuts bytes entries = cuts bytes entries is in
    record { laid = all.laid; each = All-from_recursion IsEntry entries all.each }

only : (bytes : List ℕ) (entries : List (List ℕ)) → AreEntries bytes entries → entries_of bytes ≡ Some entries
only bytes entries laid = ap (λ xs. entries_of xs) (sym laid.laid)
    ∙ entries_of-concat entries (recursion_from_All IsEntry entries laid.each)

never_cut : (bytes : List ℕ) (read : Option (List (List ℕ))) → entries_of bytes ≡ read
    → ((entries : List (List ℕ)) → AreEntries bytes entries → ⊥) → read ≡ None
never_cut bytes None is never = cc
never_cut bytes (Some entries) is never = absurd (never entries (are bytes entries is))

pub returns-clause-cut : goal.returns-clause-cut
returns-clause-cut c = λ bytes entries. (are bytes entries, only bytes entries)

pub returns-clause-out : goal.returns-clause-out
returns-clause-out c = λ bytes. (
  λ out entries laid. let two : None ≡ Some entries = sym out ∙ only bytes entries laid in cc,
  never_cut bytes (entries_of bytes) refl,
)
