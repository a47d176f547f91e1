-- A report that is taken, or isn't taken.
use Rattle.std.proofs.Common.{◌≡◌, ℕ, Bool, true, false, ◌||◌, if◌then◌else◌, List, [], ◌∷◌, ◌++◌, None, Some, refl, sym, ap, ◌∙◌, append-nil, true≢false}
use Rattle.std.specs.List.{list_any}
use Rattle.ras_facts.specs.Names.{same_name}
use Rattle.ras_facts.specs.declared.name.Name.{Name}
use Rattle.cper_pcie.specs.Reports.{Found, FirmwareReport, Taken, is_pcie, pcie_name}
use Rattle.cper_pcie.specs.Along.{Counted, counted_with, fresh_sections, names_with, sections_lines, totals_after}
use Rattle.cper_pcie.specs.Steps.Filtering.{taken_from}
use Rattle.cper_pcie.specs.Texts.{read_sections}

abbrev report : Name → List Found → FirmwareReport
report name found = record { name = name; sections = found }

none-taken : (name : Name) (found : List Found) → list_any is_pcie found ≡ false → taken_from name found ≡ []
none-taken name [] none = refl
none-taken name (x ∷ found) none = by (is_pcie x) refl none (none-taken name found)
  where
    by : (b : Bool) → is_pcie x ≡ b → (b || list_any is_pcie found) ≡ false → (list_any is_pcie found ≡ false → taken_from name found ≡ [])
        → taken_from name (x ∷ found) ≡ []
    by true is none rest = absurd (true≢false none)
    by false is none rest = rw is (rest none)

none-fresh : (names : List Name) (name : Name) (found : List Found) → list_any is_pcie found ≡ false → fresh_sections names (report name found) ≡ []
none-fresh names name found none = by (list_any (same_name name) names) (none-taken name found none)
  where
    by : (b : Bool) → taken_from name found ≡ [] → (if b then [] else taken_from name found) ≡ []
    by true is = refl
    by false is = is

pub counted-none : (counted : Counted) (name : Name) (found : List Found) → list_any is_pcie found ≡ false → counted ≡ counted_with counted (report name found)
counted-none counted name found none = sym whole
  where
    names : names_with counted.names (pcie_name (report name found)) ≡ counted.names
    names = ap (λ b. names_with counted.names (if b then Some name else None)) none

    totals : totals_after counted.totals (read_sections (fresh_sections counted.names (report name found))) ≡ counted.totals
    totals = ap (λ (t : List Taken). totals_after counted.totals (read_sections t)) (none-fresh counted.names name found none)

    whole : counted_with counted (report name found) ≡ counted
    whole = λ i. record { names = names i; totals = totals i }

pub text-none : (names : List Name) (text : List ℕ) (name : Name) (found : List Found) → list_any is_pcie found ≡ false
    → text ≡ text ++ sections_lines (fresh_sections names (report name found))
text-none names text name found none =
    sym (append-nil text) ∙ ap (λ (t : List Taken). text ++ sections_lines t) (sym (none-fresh names name found none))

-- a report whose name counts already adds no name
known : (names : List Name) (name : Name) (b : Bool) → list_any (same_name name) names ≡ true → names_with names (if b then Some name else None) ≡ names
known names name true is = rw is refl
known names name false is = refl

pub counted-known : (counted : Counted) (name : Name) (found : List Found) → list_any (same_name name) counted.names ≡ true → counted ≡ counted_with counted (report name found)
counted-known counted name found is = sym whole
  where
    names : names_with counted.names (pcie_name (report name found)) ≡ counted.names
    names = known counted.names name (list_any is_pcie found) is

    totals : totals_after counted.totals (read_sections (fresh_sections counted.names (report name found))) ≡ counted.totals
    totals = ap (λ b. totals_after counted.totals (read_sections (if b then [] else taken_from name found))) is

    whole : counted_with counted (report name found) ≡ counted
    whole = λ i. record { names = names i; totals = totals i }

pub text-known : (names : List Name) (text : List ℕ) (name : Name) (found : List Found) → list_any (same_name name) names ≡ true
    → text ≡ text ++ sections_lines (fresh_sections names (report name found))
text-known names text name found is =
    sym (append-nil text) ∙ ap (λ b. text ++ sections_lines (if b then [] else taken_from name found)) (sym is)

-- a report that counts
pub counted-fresh : (counted after : Counted) (name : Name) (found : List Found) → list_any is_pcie found ≡ true → list_any (same_name name) counted.names ≡ false
    → after.names ≡ counted.names ++ name ∷ [] → after.totals ≡ totals_after counted.totals (read_sections (taken_from name found))
    → after ≡ counted_with counted (report name found)
counted-fresh counted after name found some fresh names-is totals-is = λ i. record { names = names i; totals = totals i }
  where
    names : after.names ≡ names_with counted.names (pcie_name (report name found))
    names = names-is ∙ ap (λ b. if b then counted.names else counted.names ++ name ∷ []) (sym fresh)
        ∙ ap (λ b. names_with counted.names (if b then Some name else None)) (sym some)

    totals : after.totals ≡ totals_after counted.totals (read_sections (fresh_sections counted.names (report name found)))
    totals = totals-is ∙ ap (λ b. totals_after counted.totals (read_sections (if b then [] else taken_from name found))) (sym fresh)

pub text-fresh : (names : List Name) (old new : List ℕ) (name : Name) (found : List Found) → list_any (same_name name) names ≡ false
    → new ≡ old ++ sections_lines (taken_from name found) → new ≡ old ++ sections_lines (fresh_sections names (report name found))
text-fresh names old new name found fresh is =
    is ∙ ap (λ b. old ++ sections_lines (if b then [] else taken_from name found)) (sym fresh)
