-- The lines of metrics, joined.
use Rattle.std.proofs.Common.{◌≡◌, ℕ, ◌+◌, ◌<◌, ◌≤◌, List, [], ◌∷◌, ◌++◌, Some, take, get_or, length, refl, sym, ap, ◌∙◌, append_assoc, append-nil, codes, if◌then◌else◌}
use Rattle.std.specs.List.{flat_map, zip}
use Rattle.std.proofs.lemmas.List.Concat.{flat_map-append}
use Rattle.std.proofs.lemmas.List.Folds.{flat_map-map}
use Rattle.std.proofs.lemmas.Option.{slice_get-get_or}
use Rattle.mca_status.specs.Classes.{classes}
use Rattle.dimm_topology.specs.Labels.{Bytes}
use Rattle.ras_account.specs.Modules.{Module}
use Rattle.listing_texts.specs.Metrics.{Sample, bucket_sample, bucket_samples, error_sample, error_samples, replace_sample, replace_samples, sample_of, sample_text}
use Rattle.std.proofs.lemmas.List.{take_all}
use Rattle.page_policy.specs.declared.buckets.Bucket.{Bucket}
use Rattle.ras_texts.specs.Text.{label_text}
use Rattle.listing_texts.specs.declared.metrics.Metric.TheVariants.{ModuleBucket, ModuleReplace}
use Rattle.ras_texts.proofs.TextLemmas.{line_more}

-- the lines of a row
abbrev pub error_lines : Bytes × Module → List ℕ
error_lines row = flat_map sample_text (error_samples row)

abbrev pub replace_lines : Bytes × Module → List ℕ
replace_lines row = flat_map sample_text (replace_samples row)

abbrev pub bucket_lines : Bytes × Module → List ℕ
bucket_lines row = flat_map sample_text (bucket_samples row)

-- The lines of all rows are the lines of all their samples.
pub flat_in_flat : {X : Type 0} (f : X → List Sample) (xs : List X) → flat_map (λ x. flat_map sample_text (f x)) xs ≡ flat_map sample_text (flat_map f xs)
flat_in_flat f [] = refl
flat_in_flat f (x ∷ xs) = ap (λ (t : List ℕ). flat_map sample_text (f x) ++ t) (flat_in_flat f xs) ∙ sym (flat_map-append sample_text (f x) (flat_map f xs))

-- the lines of a module's classes
pub class_lines : (row : Bytes × Module) → flat_map (λ sum. sample_text (error_sample row.0 sum)) (zip classes row.1.sums) ≡ error_lines row
class_lines row = sym (flat_map-map sample_text (error_sample row.0) (zip classes row.1.sums))

-- The line of one more element.
pub element_more : {X : Type 0} (line : X → List ℕ) (front : List ℕ) (xs : List X) (i : ℕ) (x : X) → i < length xs → x ≡ get_or xs i x
    → (front ++ flat_map line (take i xs)) ++ line x ≡ front ++ flat_map line (take (i + 1) xs)
element_more {X} line front xs i x within is = line_more line front xs i x (slice_get-get_or xs i x within ∙ ap (λ (found : X). Some found) (sym is))

-- the lines of all rows
pub all_rows : {X : Type 0} (f : X → List Sample) (front : List ℕ) (xs : List X) (i : ℕ) → length xs ≤ i
    → front ++ flat_map (λ x. flat_map sample_text (f x)) (take i xs) ≡ front ++ flat_map sample_text (flat_map f xs)
all_rows f front xs i all = ap (λ ys. front ++ flat_map (λ x. flat_map sample_text (f x)) ys) (take_all i xs all) ∙ ap (λ (t : List ℕ). front ++ t) (flat_in_flat f xs)

-- The line of only one sample.
pub one_line : (front : List ℕ) (s : Sample) → front ++ sample_text s ≡ front ++ flat_map sample_text (s ∷ [])
one_line front s = ap (λ (t : List ℕ). front ++ t) (sym (append-nil (sample_text s)))

-- The lines of a module that has a bucket.
pub one_bucket : (front : List ℕ) (row : Bytes × Module) (bucket : Bucket) (value : Bytes) (n : ℕ) → row.1.bucket ≡ Some bucket → value ≡ label_text row.0 → n ≡ bucket.count
    → front ++ sample_text (sample_of ModuleBucket ((codes "label", value) ∷ []) n) ≡ front ++ flat_map sample_text (bucket_samples row)
one_bucket front row bucket value n has is count = rw (has, is, count) (one_line front (bucket_sample row.0 bucket))

pub one_replace : (front : List ℕ) (row : Bytes × Module) (bucket : Bucket) (value : Bytes) (n : ℕ) → row.1.bucket ≡ Some bucket → value ≡ label_text row.0 → n ≡ (if row.1.replace then 1 else 0)
    → front ++ sample_text (sample_of ModuleReplace ((codes "label", value) ∷ []) n) ≡ front ++ flat_map sample_text (replace_samples row)
one_replace front row bucket value n has is count = rw (has, is, count) (one_line front (replace_sample row.0 row.1.replace))

pub three_lines : (front a b c : List ℕ) → front ++ a ++ b ++ c ≡ front ++ (a ++ (b ++ (c ++ [])))
three_lines front a b c = simp (append_assoc, append-nil) refl
