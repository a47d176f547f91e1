-- What the parser of metrics makes of the parts of a text.
use Rattle.std.proofs.Common.{◌≡◌, ℕ, ◌<◌, ◌≤◌, ◌^◌, Bool, true, false, ◌&&◌, ◌||◌, not, List, [], ◌∷◌, ◌++◌, map, fold, length, codes, decimal, Some, refl, ap, sym, ◌∙◌, append-nil, append_assoc, eqb-true, le-leb, arith, ◌==◌}
use Rattle.std.specs.List.{flat_map, join_with_byte, list_all}
use Rattle.std.specs.Str.Parse.{AllDigits, digits_value}
use Rattle.std.proofs.lemmas.Fmt.{decimal_is_IsNumeral}
use Rattle.std.proofs.lemmas.Str.Parse.{digit_from_value}
use Rattle.std.proofs.lemmas.List.Sums.{fold-append}
use Rattle.dimm_topology.specs.Labels.{Bytes}
use Rattle.listing_texts.specs.Metrics.{Sample, escape, labels_text, pair_text, sample_text}
use Rattle.listing_texts.specs.MetricsReader.{IsSample, Named, Place, Reader, begin, behind_backslash, behind_value, in_label, in_name, in_number, in_value, is_in_line, is_name, is_name_sign, read_byte, read_samples, samples_at, with_label, with_line}

-- a parser at this place, with these samples
abbrev pub at : List Sample → Place → Reader
at samples place = record { samples = samples; place = place }

abbrev pub after : Reader → List ℕ → Reader
after reader text = fold read_byte reader text

-- One text after the other.
pub then_reads : (a b c : Reader) (xs ys : List ℕ) → after a xs ≡ b → after b ys ≡ c → after a (xs ++ ys) ≡ c
then_reads a b c xs ys first second = fold-append read_byte a xs ys ∙ ap (λ r. after r ys) first ∙ second

both : (a b : Bool) → (a && b) ≡ true → (a ≡ true) × (b ≡ true)
both true b is = (refl, is)
both false b is = absurd cc

-- ---- names

-- A sign of a name differs from signs that can't be in a name.
no_sign : (s n : ℕ) → is_name_sign s ≡ true → is_name_sign n ≡ false → (s == n) ≡ false
no_sign s n is none = by (s == n) refl
  where
    by : (b : Bool) → (s == n) ≡ b → (s == n) ≡ false
    by false e = e
    by true e = (let bad : true ≡ false = sym is ∙ ap is_name_sign (eqb-true s n e) ∙ none in absurd cc)

name_step : (done : List Sample) (front : Bytes) (s : ℕ) → is_name_sign s ≡ true → read_byte (at done (in_name front)) s ≡ at done (in_name (front ++ s ∷ []))
name_step done front s is = rw (no_sign s 10 is refl, is) refl

pub name_read : (done : List Sample) (front name : Bytes) → list_all is_name_sign name ≡ true → after (at done (in_name front)) name ≡ at done (in_name (front ++ name))
name_read done front [] is = ap (λ n. at done (in_name n)) (sym (append-nil front))
name_read done front (s ∷ name) is =
    let parts = both (is_name_sign s) (list_all is_name_sign name) is in
    ap (λ r. after r name) (name_step done front s parts.0) ∙ name_read done (front ++ s ∷ []) name parts.1
    ∙ ap (λ n. at done (in_name n)) (append_assoc front (s ∷ []) name)

label_step : (done : List Sample) (named : Named) (front : Bytes) (s : ℕ) → is_name_sign s ≡ true → read_byte (at done (in_label named front)) s ≡ at done (in_label named (front ++ s ∷ []))
label_step done named front s is = rw (no_sign s 10 is refl, is) refl

pub label_read : (done : List Sample) (named : Named) (front name : Bytes) → list_all is_name_sign name ≡ true → after (at done (in_label named front)) name ≡ at done (in_label named (front ++ name))
label_read done named front [] is = ap (λ n. at done (in_label named n)) (sym (append-nil front))
label_read done named front (s ∷ name) is =
    let parts = both (is_name_sign s) (list_all is_name_sign name) is in
    ap (λ r. after r name) (label_step done named front s parts.0) ∙ label_read done named (front ++ s ∷ []) name parts.1
    ∙ ap (λ n. at done (in_label named n)) (append_assoc front (s ∷ []) name)

-- The first sign of a line that begins with a name.
first_step : (done : List Sample) (s : ℕ) → is_name_sign s ≡ true → read_byte (at done begin) s ≡ at done (in_name (s ∷ []))
first_step done s is = rw (no_sign s 10 is refl, no_sign s 35 is refl, is) refl

pub first_name : (done : List Sample) (name : Bytes) → is_name name ≡ true → after (at done begin) name ≡ at done (in_name name)
first_name done [] is = absurd cc
first_name done (s ∷ name) is =
    let parts = both (is_name_sign s) (list_all is_name_sign name) is in
    ap (λ r. after r name) (first_step done s parts.0) ∙ name_read done (s ∷ []) name parts.1

-- ---- values

not_true : (b : Bool) → not b ≡ true → b ≡ false
not_true true is = absurd cc
not_true false is = refl

value_step : (done : List Sample) (named : Named) (label front : Bytes) (s : ℕ) → (s == 10) ≡ false → (s == 34) ≡ false → (s == 92) ≡ false
    → read_byte (at done (in_value named label front)) s ≡ at done (in_value named label (front ++ s ∷ []))
value_step done named label front s feed quote back = rw (feed, quote, back) refl

back_step : (done : List Sample) (named : Named) (label front : Bytes) (s : ℕ) → (s == 10) ≡ false → (s == 34 || s == 92) ≡ true
    → read_byte (at done (behind_backslash named label front)) s ≡ at done (in_value named label (front ++ s ∷ []))
back_step done named label front s feed is = rw (feed, is) refl

-- A byte of a value, as it is printed.
sign_read : (done : List Sample) (named : Named) (label front : Bytes) (s : ℕ) → (s == 10) ≡ false → after (at done (in_value named label front)) (escape s) ≡ at done (in_value named label (front ++ s ∷ []))
sign_read done named label front s feed = by (s == 34) (s == 92) refl refl
  where
    by : (quote back : Bool) → (s == 34) ≡ quote → (s == 92) ≡ back → after (at done (in_value named label front)) (escape s) ≡ at done (in_value named label (front ++ s ∷ []))
    by true back q b = rw q (back_step done named label front s feed (rw q refl))
    by false true q b = rw (q, b) (back_step done named label front s feed (rw (q, b) refl))
    by false false q b = rw (q, b) (value_step done named label front s feed q b)

pub value_read : (done : List Sample) (named : Named) (label front value : Bytes) → is_in_line value ≡ true → after (at done (in_value named label front)) (flat_map escape value) ≡ at done (in_value named label (front ++ value))
value_read done named label front [] is = ap (λ v. at done (in_value named label v)) (sym (append-nil front))
value_read done named label front (s ∷ value) is =
    let parts = both (not (s == 10)) (is_in_line value) is in
    then_reads _ _ _ (escape s) (flat_map escape value) (sign_read done named label front s (not_true (s == 10) parts.0)) (value_read done named label (front ++ s ∷ []) value parts.1)
    ∙ ap (λ v. at done (in_value named label v)) (append_assoc front (s ∷ []) value)

-- ---- labels

-- the name with these labels after its own
abbrev pub with_labels : Named → List (Bytes × Bytes) → Named
with_labels named pairs = record named { labels = named.labels ++ pairs }

abbrev pub is_pair : Bytes × Bytes → Bool
is_pair pair = is_name pair.0 && is_in_line pair.1

is_signs : (name : Bytes) → is_name name ≡ true → list_all is_name_sign name ≡ true
is_signs [] is = absurd cc
is_signs (s ∷ name) is = is

pair_pieces : (a f : List ℕ) → a ++ codes "=" ++ 34 ∷ f ++ 34 ∷ [] ≡ a ++ (61 ∷ 34 ∷ (f ++ 34 ∷ []))
pair_pieces a f = simp append_assoc refl

pub pair_read : (done : List Sample) (named : Named) (pair : Bytes × Bytes) → is_pair pair ≡ true → after (at done (in_label named [])) (pair_text pair) ≡ at done (behind_value (with_label named pair.0 pair.1))
pair_read done named pair is =
    let parts = both (is_name pair.0) (is_in_line pair.1) is in
    ap (after (at done (in_label named []))) (pair_pieces pair.0 (flat_map escape pair.1))
    ∙ then_reads _ (at done (in_label named pair.0)) _ pair.0 (61 ∷ 34 ∷ (flat_map escape pair.1 ++ 34 ∷ [])) (label_read done named [] pair.0 (is_signs pair.0 parts.0))
    (then_reads (at done (in_value named pair.0 [])) (at done (in_value named pair.0 pair.1)) _ (flat_map escape pair.1) (34 ∷ []) (value_read done named pair.0 [] pair.1 parts.1) refl)

pub pairs_read : (done : List Sample) (named : Named) (pair : Bytes × Bytes) (pairs : List (Bytes × Bytes)) → list_all is_pair (pair ∷ pairs) ≡ true
    → after (at done (in_label named [])) (join_with_byte 44 (map pair_text (pair ∷ pairs))) ≡ at done (behind_value (with_labels named (pair ∷ pairs)))
pairs_read done named pair [] is = pair_read done named pair (both (is_pair pair) true is).0
pairs_read done named pair (other ∷ pairs) is =
    let parts = both (is_pair pair) (list_all is_pair (other ∷ pairs)) is in
    let next_named : Named = with_label named pair.0 pair.1 in
    then_reads _ (at done (behind_value next_named)) _ (pair_text pair) (44 ∷ join_with_byte 44 (map pair_text (other ∷ pairs))) (pair_read done named pair parts.0)
    (pairs_read done next_named other pairs parts.1)
    ∙ ap (λ (labels : List (Bytes × Bytes)). at done (behind_value (record named { labels = labels }))) (append_assoc named.labels (pair ∷ []) (other ∷ pairs))

pub labels_read : (done : List Sample) (name : Bytes) (pairs : List (Bytes × Bytes)) → list_all is_pair pairs ≡ true
    → after (at done (in_name name)) (labels_text pairs ++ codes " ") ≡ at done (in_number (record { name = name; labels = pairs }) [])
labels_read done name [] is = refl
labels_read done name (pair ∷ pairs) is =
    let named : Named = record { name = name; labels = [] } in
    let all : List ℕ = join_with_byte 44 (map pair_text (pair ∷ pairs)) in
    ap (after (at done (in_label named []))) (append_assoc all (codes "}") (codes " "))
    ∙ then_reads (at done (in_label named [])) (at done (behind_value (record { name = name; labels = pair ∷ pairs }))) _ all (codes "} ") (pairs_read done named pair pairs is) refl

-- ---- numbers

no_feed : (s : ℕ) → 48 ≤ s → (s == 10) ≡ false
no_feed s above = by (s == 10) refl
  where
    by : (b : Bool) → (s == 10) ≡ b → (s == 10) ≡ false
    by false e = e
    by true e = absurd (omega (arith, eqb-true s 10 e, above))

digit_step : (done : List Sample) (named : Named) (front : Bytes) (s : ℕ) → (48 ≤ s) × (s ≤ 57) → read_byte (at done (in_number named front)) s ≡ at done (in_number named (front ++ s ∷ []))
digit_step done named front s within =
    rw (no_feed s within.0, le-leb 48 s within.0, le-leb s 57 within.1) refl

pub digits_read : (done : List Sample) (named : Named) (front digits : Bytes) → AllDigits 10 digits → after (at done (in_number named front)) digits ≡ at done (in_number named (front ++ digits))
digits_read done named front [] are = ap (λ n. at done (in_number named n)) (sym (append-nil front))
digits_read done named front (s ∷ digits) are =
    ap (λ r. after r digits) (digit_step done named front s (digit_from_value s are.0)) ∙ digits_read done named (front ++ s ∷ []) digits are.1
    ∙ ap (λ n. at done (in_number named n)) (append_assoc front (s ∷ []) digits)

line_end : (done : List Sample) (named : Named) (digits : Bytes) → 0 < length digits
    → with_line done (in_number named digits) ≡ at (done ++ record { name = named.name; labels = named.labels; number = digits_value 10 digits } ∷ []) begin
line_end done named [] some = absurd (omega arith)
line_end done named (digit ∷ digits) some = refl

-- The number of a sample and its line feed.
pub number_read : (done : List Sample) (named : Named) (number : ℕ) → number < 2 ^ 64
    → after (at done (in_number named [])) (decimal number ++ 10 ∷ []) ≡ at (done ++ record { name = named.name; labels = named.labels; number = number } ∷ []) begin
number_read done named number small =
    let is = decimal_is_IsNumeral number small in
    then_reads _ (at done (in_number named (decimal number))) _ (decimal number) (10 ∷ []) (digits_read done named [] (decimal number) is.0.1)
    (line_end done named (decimal number) is.0.0
    ∙ ap (λ (n : ℕ). at (done ++ record { name = named.name; labels = named.labels; number = n } ∷ []) begin) is.1)

-- ---- samples

pieces : (a b c d e : List ℕ) → a ++ b ++ c ++ d ++ e ≡ a ++ ((b ++ c) ++ (d ++ e))
pieces a b c d e = simp append_assoc refl

pub sample_read : (done : List Sample) (sample : Sample) → IsSample sample → after (at done begin) (sample_text sample) ≡ at (done ++ sample ∷ []) begin
sample_read done sample is =
    ap (after (at done begin)) (pieces sample.name (labels_text sample.labels) (codes " ") (decimal sample.number) (10 ∷ []))
    ∙ then_reads _ (at done (in_name sample.name)) _ sample.name ((labels_text sample.labels ++ codes " ") ++ (decimal sample.number ++ 10 ∷ [])) (first_name done sample.name is.name)
    (then_reads _ (at done (in_number (record { name = sample.name; labels = sample.labels }) [])) _ (labels_text sample.labels ++ codes " ") (decimal sample.number ++ 10 ∷ [])
    (labels_read done sample.name sample.labels is.labels) (number_read done (record { name = sample.name; labels = sample.labels }) sample.number is.number))

-- A single sample.
pub line_read : (sample : Sample) → IsSample sample → read_samples (sample_text sample) ≡ Some (sample ∷ [])
line_read sample is = ap samples_at (sample_read [] sample is)
