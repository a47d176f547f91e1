-- The filter, which reads line by line, makes of each line what the line gives at its place.
use Rattle.std.proofs.Common.{◌≡◌, ℕ, ◌+◌, Bool, true, false, ◌||◌, if◌then◌else◌, List, [], ◌∷◌, ◌++◌, length, map, Option, None, Some, Result, Ok, Err, refl, sym, ap, ◌∙◌, append-nil, append_assoc, length-append, arith}
use Rattle.std.specs.List.{filter_map, flat_map, list_any, sum_by}
use Rattle.std.specs.Option.{option_and_then, option_map_or}
use Rattle.std.proofs.lemmas.List.Elements.{filter_map-append}
use Rattle.std.proofs.lemmas.List.Folds.{list_any-append}
use Rattle.std.proofs.lemmas.List.Sums.{sum_by-append}
use Rattle.row_tables.proofs.TableLemmas.{table-more}
use Rattle.ras_base.specs.Places.{places_behind}
use Rattle.ras_facts.specs.Steps.NameLemmas.{same_name-exact}
use Rattle.ras_facts.specs.Names.{same_name}
use Rattle.ras_facts.specs.declared.name.Name.{Name}
use Rattle.ras_script.specs.Line.{line_of}
use Rattle.ras_script.specs.declared.line.Line.{Line}
use Rattle.ras_script.specs.declared.line.LineRefused.{LineRefused}
use Rattle.cper_pcie.specs.Bits.{error_count}
use Rattle.cper_pcie.specs.Counts.{counted_device}
use Rattle.cper_pcie.specs.Steps.DeviceLemmas.{same_device-exact, same_device-refl}
use Rattle.cper_pcie.specs.Devices.{same_device}
use Rattle.cper_pcie.specs.Filter.{text_or_refusal, pcie_filter, pcie_text, place_answer, to_first_refusal}
use Rattle.cper_pcie.specs.Reports.{LinePlace, FirmwareReport, Taken, first_sections, is_known, line_name, line_report, pcie_name, pcie_sections, report_read, line_report_in, taken_at}
use Rattle.cper_pcie.specs.Along.{Counted, answers_from, counted_after, counted_from, filter_from, fresh_sections, line_answer, names_with, sections_lines, sums_with, text_with, then_answers, totals_after, totals_with}
use Rattle.cper_pcie.specs.Steps.Filtering.{none_counted}
use Rattle.cper_pcie.specs.Texts.{read_sections, totals_text}
use Rattle.cper_pcie.specs.Totals.{Totals, sums_in, totals_of}
use Rattle.cper_pcie.specs.declared.section.PcieSection.{PcieSection}
use Rattle.cper_pcie.proofs.ReportLemmas.{read-append}
use Rattle.cper_pcie.proofs.TotalLemmas.{totals-append}

-- ---- names

-- the names that count are the names of the lines before
abbrev Holds : List (List ℕ) → List Name → Type 0
Holds before names = (name : Name) → list_any (same_name name) names ≡ is_known before name

abbrev in_list : Option Name → List Name
in_list None = []
in_list (Some name) = name ∷ []

or_false : (b : Bool) → (b || false) ≡ b
or_false true = refl
or_false false = refl

there : (b t : Bool) → (t ≡ true → b ≡ true) → b ≡ (b || (t || false))
there true t same = refl
there false true same = same refl
there false false same = refl

named-any : (names : List Name) (name : Option Name) (other : Name) → list_any (same_name other) (names_with names name) ≡ (list_any (same_name other) names || list_any (same_name other) (in_list name))
named-any names None other = sym (or_false (list_any (same_name other) names))
named-any names (Some name) other = by (list_any (same_name name) names) refl
  where
    by : (b : Bool) → list_any (same_name name) names ≡ b
        → list_any (same_name other) (if b then names else names ++ name ∷ []) ≡ (list_any (same_name other) names || (same_name other name || false))
    by true is = there (list_any (same_name other) names) (same_name other name) (λ same. ap (λ n. list_any (same_name n) names) (same_name-exact other name same) ∙ is)
    by false is = list_any-append (same_name other) names (name ∷ [])

one_name : (line : List ℕ) → filter_map line_name (line ∷ []) ≡ in_list (line_name line)
one_name line = by (line_name line) refl
  where
    by : (name : Option Name) → line_name line ≡ name → filter_map line_name (line ∷ []) ≡ in_list name
    by None is = rw is refl
    by (Some name) is = rw is refl

-- the names after a report
abbrev names_after : List Name → Option FirmwareReport → List Name
names_after names report = names_with names (option_and_then pcie_name report)

after_is : (counted : Counted) (report : Option FirmwareReport) → (counted_after counted report).names ≡ names_after counted.names report
after_is counted None = refl
after_is counted (Some report) = refl

holds-next : (before : List (List ℕ)) (line : List ℕ) (counted : Counted) → Holds before counted.names
    → Holds (before ++ line ∷ []) (counted_after counted (line_report_in line)).names
holds-next before line counted holds = λ name.
    ap (list_any (same_name name)) (after_is counted (line_report_in line))
    ∙ named-any counted.names (line_name line) name
    ∙ ap (λ b. b || list_any (same_name name) (in_list (line_name line))) (holds name)
    ∙ ap (λ (names : List Name). is_known before name || list_any (same_name name) names) (sym (one_name line))
    ∙ sym (list_any-append (same_name name) (filter_map line_name before) (filter_map line_name (line ∷ [])))
    ∙ ap (list_any (same_name name)) (sym (filter_map-append line_name before (line ∷ [])))

-- ---- sections

taken_of_report : (before : List (List ℕ)) (names : List Name) (report : Option FirmwareReport) → Holds before names
    → option_map_or (fresh_sections names) report [] ≡ option_map_or (first_sections before) report []
taken_of_report before names None holds = refl
taken_of_report before names (Some report) holds = ap (λ b. if b then [] else pcie_sections report) (holds report.name)

text_is : (names : List Name) (report : Option FirmwareReport) → text_with names report ≡ sections_lines (option_map_or (fresh_sections names) report [])
text_is names None = refl
text_is names (Some report) = refl

totals_is : (counted : Counted) (report : Option FirmwareReport) → (counted_after counted report).totals ≡ totals_after counted.totals (read_sections (option_map_or (fresh_sections counted.names) report []))
totals_is counted None = refl
totals_is counted (Some report) = refl

-- ---- answers

pub answers-at : (before lines : List (List ℕ)) (counted : Counted) → Holds before counted.names
    → answers_from counted lines ≡ to_first_refusal (map place_answer (places_behind before lines))
answers-at before [] counted holds = refl
answers-at before (line ∷ lines) counted holds =
    by (line_of line) refl (answers-at (before ++ line ∷ []) lines (counted_after counted (line_report_in line)) (holds-next before line counted holds))
  where
    place : LinePlace
    place = (before, line)

    after : List (Result (List ℕ) LineRefused)
    after = map place_answer (places_behind (before ++ line ∷ []) lines)

    by : (read : Result Line LineRefused) → line_of line ≡ read
        → answers_from (counted_after counted (line_report_in line)) lines ≡ to_first_refusal after
        → then_answers (line_answer counted.names read) (answers_from (counted_after counted (line_report_in line)) lines)
        ≡ to_first_refusal (text_or_refusal place read ∷ after)
    by (Err why) is rest = refl
    by (Ok asked) is rest = λ i. Ok (text i) ∷ rest i
      where
        text : text_with counted.names (line_report asked) ≡ pcie_text place
        text = text_is counted.names (line_report asked)
            ∙ ap (λ read. sections_lines (option_map_or (fresh_sections counted.names) (report_read read) [])) (sym is)
            ∙ ap sections_lines (taken_of_report before counted.names (line_report_in line) holds)

-- ---- totals

totals-at : (before lines : List (List ℕ)) (counted : Counted) → Holds before counted.names
    → (counted_from counted lines).totals ≡ totals_after counted.totals (read_sections (flat_map taken_at (places_behind before lines)))
totals-at before [] counted holds = refl
totals-at before (line ∷ lines) counted holds =
    let place : LinePlace = (before, line) in
    let rest : List Taken = flat_map taken_at (places_behind (before ++ line ∷ []) lines) in
    totals-at (before ++ line ∷ []) lines (counted_after counted (line_report_in line)) (holds-next before line counted holds)
    ∙ ap (λ (t : Totals). totals_after t (read_sections rest))
    (totals_is counted (line_report_in line) ∙ ap (λ (t : List Taken). totals_after counted.totals (read_sections t)) (taken_of_report before counted.names (line_report_in line) holds))
    ∙ sym (totals-append counted.totals (read_sections (taken_at place)) (read_sections rest))
    ∙ ap (totals_after counted.totals) (sym (read-append (taken_at place) rest))

sums-more : (sections : List PcieSection) (section : PcieSection) → sums_in (sections ++ section ∷ []) ≡ sums_with (sums_in sections) section
sums-more sections section = λ i. record { uncor = one i; cor = other i }
  where
    one : sum_by (λ (s : PcieSection). error_count s.uncor) (sections ++ section ∷ []) ≡ sum_by (λ (s : PcieSection). error_count s.uncor) sections + error_count section.uncor
    one = sum_by-append (λ (s : PcieSection). error_count s.uncor) sections (section ∷ []) ∙ omega arith

    other : sum_by (λ (s : PcieSection). error_count s.cor) (sections ++ section ∷ []) ≡ sum_by (λ (s : PcieSection). error_count s.cor) sections + error_count section.cor
    other = sum_by-append (λ (s : PcieSection). error_count s.cor) sections (section ∷ []) ∙ omega arith

totals-more : (sections : List PcieSection) (section : PcieSection) → totals_with (totals_of sections) section ≡ totals_of (sections ++ section ∷ [])
totals-more sections section = sym (λ i. record { rows = rows i; sections = count i })
  where
    rows : (totals_of (sections ++ section ∷ [])).rows ≡ (totals_with (totals_of sections) section).rows
    rows = table-more same_device same_device-exact same_device-refl counted_device sums_in (λ s. sums_with (record { uncor = 0; cor = 0 }) s) sums_with
        (λ s. sums-more [] s) (λ before s some. sums-more before s) sections section

    count : length (sections ++ section ∷ []) ≡ length sections + 1
    count = omega (arith, length-append sections (section ∷ []))

totals-all : (before sections : List PcieSection) → totals_after (totals_of before) sections ≡ totals_of (before ++ sections)
totals-all before [] = ap totals_of (sym (append-nil before))
totals-all before (section ∷ sections) =
    ap (λ (t : Totals). totals_after t sections) (totals-more before section) ∙ totals-all (before ++ section ∷ []) sections
    ∙ ap totals_of (append_assoc before (section ∷ []) sections)

pub filter-is : filter_from none_counted ≡ pcie_filter
filter-is = λ i. record {
  answers = λ lines. answers-at [] lines none_counted (λ name. refl) i;
  rest = λ lines. [];
  last = λ lines. last lines i;
}
  where
    last : (lines : List (List ℕ)) → totals_text (counted_from none_counted lines).totals ≡ totals_text (totals_of (read_sections (flat_map taken_at (places_behind [] lines))))
    last lines = ap totals_text (totals-at [] lines none_counted (λ name. refl) ∙ totals-all [] (read_sections (flat_map taken_at (places_behind [] lines))))
