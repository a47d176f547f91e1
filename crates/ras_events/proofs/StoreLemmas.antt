-- What a poll leaves of the record store.
use Rattle.std.proofs.Common.{◌≡◌, ◌∙◌, ℕ, Bool, true, false, not, nat_eq, cond, if◌then◌else◌, List, [], ◌∷◌, Some, refl, ap, arith}
use Rattle.std.specs.Result.{is_ok}
use Rattle.std.proofs.lemmas.Bool.Decides.{nat_tests}
use Rattle.cper_records.specs.Readable.{filled, read_under}
use Rattle.erst_store.specs.Store.{Stored, bytes_under}
use Rattle.ras_events.specs.Stores.{is_readable, unreadable}

pub same_id : (a b : ℕ) → nat_eq a b ≡ true → a ≡ b
same_id a b is = grind (arith, nat_tests)

pub same_bytes : (xs ys : List ℕ) → Some xs ≡ Some ys → xs ≡ ys
same_bytes xs ys is = cc

-- A poll leaves a record that can't be read.
module _ (k : ℕ) (bytes : List ℕ) (not_read : is_ok (read_under k (filled bytes)) ≡ false) where
  pub unreadable-leaves : (rs : List Stored) → bytes_under k rs ≡ Some bytes → bytes_under k (unreadable rs) ≡ Some bytes
  unreadable-leaves [] found = found
  unreadable-leaves (r ∷ rs) found = by (nat_eq r.id k) refl found (unreadable-leaves rs)
    where
      kept : List Stored → Bool → List Stored
      kept qs b = cond (not b) (r ∷ qs) qs

      by : (b : Bool) → nat_eq r.id k ≡ b → (if b then Some r.bytes else bytes_under k rs) ≡ Some bytes → (bytes_under k rs ≡ Some bytes → bytes_under k (unreadable rs) ≡ Some bytes)
          → bytes_under k (unreadable (r ∷ rs)) ≡ Some bytes
      by true is here ih =
          let unread : is_readable r ≡ false =
          (λ i. is_ok (read_under (same_id r.id k is i) (filled (same_bytes r.bytes bytes here i)))) ∙ not_read in
          ap (λ b. bytes_under k (kept (unreadable rs) b)) unread
          ∙ (ap (λ c. if c then Some r.bytes else bytes_under k (unreadable rs)) is ∙ here)
      by false is there ih = apart (is_readable r)
        where
          apart : (b : Bool) → bytes_under k (kept (unreadable rs) b) ≡ Some bytes
          apart true = ih there
          apart false = ap (λ c. if c then Some r.bytes else bytes_under k (unreadable rs)) is ∙ ih there
