-- What a call over a kernel counts, by the results of the kernel's calls.
use Rattle.std.proofs.Common.{◌≡◌, ◌∙◌, ℕ, ◌+◌, refl, sym, subst, arith}
use Rattle.std.specs.Prelude.{Option, Result, Ok, Err, OnOk, OnErr}
use Rattle.std.specs.Result.{result_or}
use Rattle.host_system.specs.Folder.{FolderChange}
use Rattle.host_system.specs.FolderPast.{FolderPast, Did}
use Rattle.host_system.specs.Kernel.{failed_any, failed_sync}
use Rattle.host_system.specs.declared.kernel.Held.TheVariants.{Kept}
use Rattle.host_system.specs.declared.kernel.Refusal.{Refusal}
use Rattle.host_system.specs.declared.kernel.Refusal.TheVariants.{Exists, NotPermitted, Unsupported, NotOpen, Interrupted, Other}
use Rattle.host_system.specs.declared.system.FileName.{FileName}

kept_one : (name : FileName) (why : Refusal) → failed_sync (Kept name) (Err why) ≡ 1
kept_one name Exists = refl
kept_one name NotPermitted = refl
kept_one name Unsupported = refl
kept_one name NotOpen = refl
kept_one name Interrupted = refl
kept_one name Other = refl

-- A sync of a kept file, after a call for its length.
pub kept_counts : {T : Type 0} (name : FileName) (found : Result T Refusal) (result : Result (Unit {0}) Refusal) (old mid new : ℕ) → mid ≡ old + failed_any found
    → OnOk found (new ≡ mid + failed_sync (Kept name) result) → OnErr found ((result ≡ Err Other) × (new ≡ mid)) → new ≡ old + failed_any result
kept_counts name (Ok b) (Ok done) old mid new asked ok err = omega (arith, asked, ok)
kept_counts name (Ok b) (Err why) old mid new asked ok err = omega (arith, asked, ok, kept_one name why)
kept_counts name (Err e) result old mid new asked ok err = subst (λ (r : Result (Unit {0}) Refusal). new ≡ old + failed_any r) (sym err.0) (omega (arith, asked, err.1))

err_ok : {T : Type 0} {E : Type 0} (why : E) (value : T) → Err why ≡ Ok value → ⊥
err_ok why value e = cc

-- A call whose result is `Ok` if the kernel's call is.
pub or_ok : {T E F : Type 0} (A : Type 0) (answer : Result T E) (why : F) (result : Result T F) (value : T) → result ≡ result_or answer (Err why) → result ≡ Ok value → OnOk answer A → A
or_ok A (Ok v) why result value is ok holds = holds
or_ok A (Err e) why result value is ok holds = absurd (err_ok why value (sym is ∙ ok))

-- ---- a call after one that only looked

pub moved_did : (change : FolderChange) (mid old new : Option FolderPast) → mid ≡ old → Did change mid new → Did change old new
moved_did change mid old new same did = subst (λ (t : Option FolderPast). Did change t new) same did

pub moved_ok : {T E : Type 0} (change : FolderChange) (result : Result T E) (mid old new : Option FolderPast) → mid ≡ old → OnOk result (Did change mid new) → OnOk result (Did change old new)
moved_ok change result mid old new same did = subst (λ (t : Option FolderPast). OnOk result (Did change t new)) same did

pub moved_err : {T E : Type 0} (change : FolderChange) (result : Result T E) (mid old new : Option FolderPast) → mid ≡ old → OnErr result (Did change mid new) → OnErr result (Did change old new)
moved_err change result mid old new same did = subst (λ (t : Option FolderPast). OnErr result (Did change t new)) same did
