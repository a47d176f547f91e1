-- What every account is, whether it was counted or read: its rows can be written and read again.
use Rattle.std.specs.Prelude.{◌≡◌, ℕ, ◌<◌, ◌≤◌, ◌^◌, nat_eq, None, [], length, All, IfSome, IsTrue}
use Rattle.std.specs.Bool.{IsFalse}
use Rattle.std.specs.List.{IsDistinct}
use Rattle.std.specs.Map.{keys_of}
use Rattle.mca_status.specs.declared.classes.TheConstants.{CLASS_COUNT}
use Rattle.dimm_topology.specs.Labels.{Bytes, same_label, is_label_or_none}
use Rattle.page_policy.specs.declared.buckets.Bucket.{Bucket}
use Rattle.page_policy.specs.declared.rows.PageRow.{PageRow}
use Rattle.page_policy.specs.Buckets.{IsLimit}
use Rattle.page_policy.specs.declared.buckets.TheConstants.{MOST_COUNT}
use Rattle.ras_facts.specs.declared.name.Name.{Name}
use Rattle.ras_facts.specs.Names.{same_name}
use Rattle.ras_facts.specs.Valid.{IsValidName, IsPage}
use Rattle.ras_account.specs.History.{is_retired}
use Rattle.ras_account.specs.Modules.{Module}
use Rattle.ras_account.specs.Account.{State, weight_in}
use Rattle.ras_account.specs.Numbers.{IsWithin}

-- An account with this floor may have this name: each number fits its field, and the name's boot isn't retired.
pub record IsKeptName (floor : ℕ) (name : Name) : Type 0 where
  pub valid : IsValidName name
  pub kept : IsFalse (is_retired floor name)

-- A bucket has at most the most errors, and its stamp is a time of 64 bits.
pub record IsBucket (bucket : Bucket) : Type 0 where
  pub count : bucket.count ≤ MOST_COUNT
  pub stamp : bucket.stamp < 2 ^ 64

-- A row of a module is valid: ten sums, no bucket without a label, and nothing to replace without a bucket.
pub record IsModuleRow (row : Bytes × Module) : Type 0 where
  pub label : IsTrue (is_label_or_none row.0)
  pub ten : length row.1.sums ≡ CLASS_COUNT
  pub bucket : IfSome row.1.bucket IsBucket
  pub unlabeled : row.0 ≡ [] → row.1.bucket ≡ None
  pub replace : row.1.bucket ≡ None → IsFalse row.1.replace

-- A row of a page is valid: its page is one that 64 bits can address.
pub record IsPageRow (row : ℕ × PageRow) : Type 0 where
  pub page : IsPage row.0
  pub bucket : IsBucket row.1.bucket

-- An account is valid: no name, label or page is there twice, each row is valid, the numbers are within their bounds,
-- and the rows of modules add up to the total weight.
pub record IsAccount (a : State) : Type 0 where
  pub within : IsWithin a
  pub limit : IsLimit a.limit
  pub module_limit : IsLimit a.module_limit
  pub floor : a.floor < 2 ^ 64
  pub names : All (IsKeptName a.floor) a.names
  pub names_once : IsDistinct same_name a.names
  pub modules : All IsModuleRow a.modules
  pub labels_once : IsDistinct same_label (keys_of a.modules)
  pub pages : All IsPageRow a.pages
  pub pages_once : IsDistinct nat_eq (keys_of a.pages)
  pub total : weight_in a.modules ≡ a.total
