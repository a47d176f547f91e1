-- How many bytes a checkpoint has.
use Rattle.std.proofs.Common.{◌≡◌, ℕ, ◌+◌, ◌*◌, List, [], ◌∷◌, ◌++◌, length, refl, ap, ◌∙◌, arith, length-append}
use Rattle.std.specs.List.{flat_map}
use Rattle.ras_base.specs.LittleEndian.{u64_bytes}
use Rattle.ras_base.specs.Steps.LittleEndianLemmas.{length-u64_bytes}
use Rattle.page_policy.specs.declared.rows.PageRow.{PageRow}
use Rattle.ras_account.specs.Account.{State}
use Rattle.entry_format.specs.declared.version.Version.TheVariants.{Two}
use Rattle.entry_format.specs.Spelling.{name_bytes, limit_bytes}
use Rattle.journal_format.specs.Checkpoints.{bucket_bytes, module_bytes, page_row_bytes, front_bytes, end_bytes, checkpoint_bytes}

-- Each number has 8 bytes.
pub numbers_size : (numbers : List ℕ) → length (flat_map u64_bytes numbers) ≡ 8 * length numbers
numbers_size [] = refl
numbers_size (n ∷ numbers) = omega (arith, length-append (u64_bytes n) (flat_map u64_bytes numbers), length-u64_bytes n, numbers_size numbers)

pub ruleset row_sizes = (length-append, length-u64_bytes, numbers_size)

page_size : (row : ℕ × PageRow) → length (page_row_bytes row) ≡ 25
unfolding page_row_bytes bucket_bytes
page_size row = simp (length-append, length-u64_bytes) refl

pages_size : (rows : List (ℕ × PageRow)) → length (flat_map page_row_bytes rows) ≡ 25 * length rows
pages_size [] = refl
pages_size (row ∷ rows) = omega (arith, length-append (page_row_bytes row) (flat_map page_row_bytes rows), page_size row, pages_size rows)

front_size : (a : State) → length (front_bytes Two a) ≡ 48
unfolding front_bytes limit_bytes
front_size a = simp (length-append, length-u64_bytes) refl

pub checkpoint_size : (a : State)
    → length (checkpoint_bytes Two a) ≡ 72 + length (flat_map name_bytes a.names) + length (flat_map (module_bytes Two) a.modules) + 25 * length a.pages
unfolding checkpoint_bytes end_bytes
checkpoint_size a =
    let names = u64_bytes (length a.names) ++ flat_map name_bytes a.names in
    let modules = u64_bytes (length a.modules) ++ flat_map (module_bytes Two) a.modules in
    let pages = u64_bytes (length a.pages) ++ flat_map page_row_bytes a.pages in
    simp (length-append, length-u64_bytes) (omega (arith, front_size a, pages_size a.pages))
