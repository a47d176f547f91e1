-- What the two versions of a checkpoint have in common.
use Rattle.std.specs.Prelude.{◌≡◌, ℕ, ◌==◌, if◌then◌else◌, List, [], ◌∷◌, ◌++◌}
use Rattle.ras_base.specs.LittleEndian.{u64_bytes}
use Rattle.ras_account.specs.declared.limits.TheConstants.{FIRST_MODULE_LIMIT}
use Rattle.ras_account.specs.Account.{State}
use Rattle.entry_format.specs.Spelling.{limit_bytes}
use Rattle.journal_format.specs.Checkpoints.{list_bytes}

-- the checkpoints of an account without buckets of modules: the first version is the second one without the limit for
-- modules, which is the first limit, and without the byte 0 that ends each row of a module; its floor is at the end, if
-- it isn't 0, and not at the front
pub record InBothVersions (one two : List ℕ) (a : State) : Type 0 where
  pub names : List ℕ
  pub rows : List (List ℕ)
  pub pages : List ℕ
  pub one_is : one ≡ limit_bytes a.limit ++ u64_bytes a.entries ++ names ++ list_bytes (λ row. row) rows ++ pages ++ (if a.floor == 0 then [] else u64_bytes a.floor)
  pub two_is : two ≡ limit_bytes a.limit ++ limit_bytes FIRST_MODULE_LIMIT ++ u64_bytes a.entries ++ u64_bytes a.floor ++ names ++ list_bytes (λ row. row ++ 0 ∷ []) rows ++ pages
