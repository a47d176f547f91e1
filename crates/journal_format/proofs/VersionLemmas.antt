-- What the two versions of a checkpoint have in common.
use Rattle.std.proofs.Common.{◌≡◌, ℕ, cond, eqb, List, [], ◌∷◌, ◌++◌, length, map, None, refl, sym, ap, ◌∙◌, append-nil}
use Rattle.std.specs.List.{flat_map, AllByRecursion}
use Rattle.std.proofs.lemmas.List.{length-map}
use Rattle.std.proofs.lemmas.List.Elements.{recursion_from_All}
use Rattle.ras_base.specs.LittleEndian.{u64_bytes}
use Rattle.dimm_topology.specs.Labels.{Bytes}
use Rattle.ras_account.specs.declared.limits.TheConstants.{FIRST_MODULE_LIMIT}
use Rattle.ras_account.specs.Modules.{Module}
use Rattle.ras_account.specs.Account.{State}
use Rattle.entry_format.specs.declared.version.Version.TheVariants.{One, Two}
use Rattle.entry_format.specs.Spelling.{name_bytes, label_bytes, limit_bytes}
use Rattle.journal_format.specs.Checkpoints.{replacement_bytes, module_bytes, page_row_bytes, list_bytes, front_bytes, end_bytes, checkpoint_bytes, HasNoBuckets}
use Rattle.journal_format.specs.Versions.{InBothVersions}

row_in_both : (row : Bytes × Module) → row.1.bucket ≡ None → module_bytes Two row ≡ module_bytes One row ++ 0 ∷ []
unfolding module_bytes replacement_bytes
row_in_both row none =
    let text = label_bytes row.0 ++ flat_map u64_bytes row.1.sums in
    ap (λ bucket. text ++ replacement_bytes bucket row.1.replace) none ∙ ap (λ w. w ++ 0 ∷ []) (sym (append-nil text))

abbrev with_end : List ℕ → List ℕ
with_end row = row ++ 0 ∷ []

rows_of : List (Bytes × Module) → List (List ℕ)
rows_of rows = map (module_bytes One) rows

rows_in_two : (rows : List (Bytes × Module)) → AllByRecursion (λ row. row.1.bucket ≡ None) rows → flat_map (module_bytes Two) rows ≡ flat_map with_end (rows_of rows)
unfolding rows_of
rows_in_two [] none = refl
rows_in_two (row ∷ rows) none = ap (λ w. w ++ flat_map (module_bytes Two) rows) (row_in_both row none.0) ∙ ap (λ w. with_end (module_bytes One row) ++ w) (rows_in_two rows none.1)

rows_in_one : (rows : List (Bytes × Module)) → flat_map (module_bytes One) rows ≡ flat_map (λ row. row) (rows_of rows)
unfolding rows_of
rows_in_one [] = refl
rows_in_one (row ∷ rows) = ap (λ w. module_bytes One row ++ w) (rows_in_one rows)

count_of : (rows : List (Bytes × Module)) → u64_bytes (length rows) ≡ u64_bytes (length (rows_of rows))
unfolding rows_of
count_of rows = ap u64_bytes (sym (length-map rows (module_bytes One)))

list_in_two : (a : State) → HasNoBuckets a → list_bytes (module_bytes Two) a.modules ≡ list_bytes with_end (rows_of a.modules)
list_in_two a first =
    ap (λ w. w ++ flat_map (module_bytes Two) a.modules) (count_of a.modules)
    ∙ ap (λ w. u64_bytes (length (rows_of a.modules)) ++ w) (rows_in_two a.modules (recursion_from_All (λ row. row.1.bucket ≡ None) a.modules first.modules))

list_in_one : (a : State) → list_bytes (module_bytes One) a.modules ≡ list_bytes (λ row. row) (rows_of a.modules)
list_in_one a =
    ap (λ w. w ++ flat_map (module_bytes One) a.modules) (count_of a.modules)
    ∙ ap (λ w. u64_bytes (length (rows_of a.modules)) ++ w) (rows_in_one a.modules)

pub in_both_versions : (a : State) → HasNoBuckets a → InBothVersions (checkpoint_bytes One a) (checkpoint_bytes Two a) a
unfolding checkpoint_bytes front_bytes end_bytes
in_both_versions a first =
    let names = list_bytes name_bytes a.names in
    let pages = list_bytes page_row_bytes a.pages in
    let last = cond (eqb a.floor 0) [] (u64_bytes a.floor) in
    let numbers = u64_bytes a.entries in
    let floor = u64_bytes a.floor in
    record {
      names = names;
      rows = rows_of a.modules;
      pages = pages;
      one_is = ap (λ rows. (limit_bytes a.limit ++ numbers) ++ names ++ rows ++ pages ++ last) (list_in_one a);
      two_is =
          append-nil ((limit_bytes a.limit ++ limit_bytes a.module_limit ++ numbers ++ floor) ++ names ++ list_bytes (module_bytes Two) a.modules ++ pages)
          ∙ ap (λ limit. (limit_bytes a.limit ++ limit_bytes limit ++ numbers ++ floor) ++ names ++ list_bytes (module_bytes Two) a.modules ++ pages) first.limit
          ∙ ap (λ rows. (limit_bytes a.limit ++ limit_bytes FIRST_MODULE_LIMIT ++ numbers ++ floor) ++ names ++ rows ++ pages) (list_in_two a first);
    }
