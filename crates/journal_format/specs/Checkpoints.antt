-- How the checkpoint of an account is spelled, in both versions. Each number has 8 bytes, the lowest first, unless
-- another number of bytes is given.
use Rattle.std.specs.Prelude.{◌≡◌, ℕ, ◌<◌, ◌^◌, Bool, ◌==◌, if◌then◌else◌, Option, None, Some, List, [], ◌∷◌, ◌++◌, length, All}
use Rattle.std.specs.List.{flat_map}
use Rattle.ras_base.specs.LittleEndian.{u64_bytes}
use Rattle.dimm_topology.specs.Labels.{Bytes}
use Rattle.page_policy.specs.declared.buckets.Bucket.{Bucket}
use Rattle.page_policy.specs.declared.rows.PageState.{PageState}
use Rattle.page_policy.specs.declared.rows.PageState.TheVariants.{Kept, Soft, Hard}
use Rattle.page_policy.specs.declared.rows.PageRow.{PageRow}
use Rattle.ras_account.specs.declared.limits.TheConstants.{FIRST_MODULE_LIMIT}
use Rattle.ras_account.specs.Modules.{Module}
use Rattle.ras_account.specs.Account.{State}
use Rattle.ras_account.specs.Accounts.{IsAccount}
use Rattle.entry_format.specs.declared.version.Version.{Version}
use Rattle.entry_format.specs.declared.version.Version.TheVariants.{One, Two}
use Rattle.entry_format.specs.Spelling.{name_bytes, label_bytes, limit_bytes}

-- the number of a page's state
abbrev pub state_number : PageState → ℕ
state_number Kept = 0
state_number Soft = 1
state_number Hard = 2

-- whether a module is to be replaced, as a byte
abbrev pub replace_byte : Bool → ℕ
replace_byte replace = if replace then 1 else 0

-- rows of one kind: how many there are, and each in order
abbrev pub list_bytes : {A : Type 0} → (A → List ℕ) → List A → List ℕ
list_bytes spell rows = u64_bytes (length rows) ++ flat_map spell rows

-- a bucket: the errors in it, and its stamp
unfoldable pub bucket_bytes : Bucket → List ℕ
bucket_bytes bucket = u64_bytes bucket.count ++ u64_bytes bucket.stamp

-- A module's replacement: whether it has a bucket (1 byte) and, if so, the bucket, and whether the module is to be
-- replaced (1).
unfoldable pub replacement_bytes : Option Bucket → Bool → List ℕ
replacement_bytes None replace = 0 ∷ []
replacement_bytes (Some bucket) replace = 1 ∷ bucket_bytes bucket ++ replace_byte replace ∷ []

-- A module's replacement in a version. Version 1 has no replacements.
abbrev pub replacement_part : Version → Module → List ℕ
replacement_part One counted = []
replacement_part Two counted = replacement_bytes counted.bucket counted.replace

-- a module's row: its label after the number of its bytes (1), its ten sums in the order of the
-- class numbers, and its replacement
unfoldable pub module_bytes : Version → Bytes × Module → List ℕ
module_bytes version row = label_bytes row.0 ++ flat_map u64_bytes row.1.sums ++ replacement_part version row.1

-- a page's row: its number, its bucket, and its state (1)
unfoldable pub page_row_bytes : ℕ × PageRow → List ℕ
page_row_bytes row = u64_bytes row.0 ++ bucket_bytes row.1.bucket ++ state_number row.1.state ∷ []

-- the numbers at the front: the limit for pages, in version 2 the limit for modules, the number of
-- entries, and in version 2 the floor
unfoldable pub front_bytes : Version → State → List ℕ
front_bytes One a = limit_bytes a.limit ++ u64_bytes a.entries
front_bytes Two a = limit_bytes a.limit ++ limit_bytes a.module_limit ++ u64_bytes a.entries ++ u64_bytes a.floor

-- the end of a checkpoint in version 1: the floor, if it isn't 0
unfoldable pub end_bytes : Version → State → List ℕ
end_bytes One a = if a.floor == 0 then [] else u64_bytes a.floor
end_bytes Two a = []

-- a checkpoint: the numbers at the front, the names, the rows of modules, and the rows of pages
unfoldable pub checkpoint_bytes : Version → State → List ℕ
checkpoint_bytes version a =
    front_bytes version a ++ list_bytes name_bytes a.names ++ list_bytes (module_bytes version) a.modules
    ++ list_bytes page_row_bytes a.pages ++ end_bytes version a

-- A checkpoint of version 1 can spell this account: the limit for modules is the first limit, and no module has a
-- bucket.
pub record HasNoBuckets (a : State) : Type 0 where
  pub limit : a.module_limit ≡ FIRST_MODULE_LIMIT
  pub modules : All (λ row. row.1.bucket ≡ None) a.modules

-- A checkpoint of this version can spell this account.
abbrev pub CanTell : Version → State → Type 0
CanTell One a = HasNoBuckets a
CanTell Two a = Unit {0}

-- The bytes are the checkpoint of this account in this version, which can spell it.
pub record IsCheckpoint (version : Version) (a : State) (bytes : List ℕ) : Type 0 where
  pub account : IsAccount a
  pub told : CanTell version a
  pub module_count : length a.modules < 2 ^ 64
  pub page_count : length a.pages < 2 ^ 64
  pub spelled : bytes ≡ checkpoint_bytes version a
