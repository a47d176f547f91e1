-- The cases of a command's task, folder and input in which a clause says something.
use Rattle.std.proofs.Common.{◌≡◌, ℕ, List, refl, None, Some}
use Rattle.std.specs.Prelude.{◌⊎◌, Option, IfSome, IsSomeAnd}
use Rattle.host_system.specs.FolderPast.{FolderPast}
use Rattle.host_system.specs.View.{seen_now}
use Rattle.ras_account.specs.Account.{State}
use Rattle.ras_cli.specs.OverFolder.{AheadOver, Ends, KeepsFew, NeverOpened, OpenedOver, Outlives, OutlivesOpened, OverDamaged, OverFolder, RanOver, begun_over}
use Rattle.ras_daemon.specs.RunStatus.{start_of}
use Rattle.ras_daemon.specs.declared.word.Task.{Task}
use Rattle.ras_daemon.specs.declared.word.Task.TheVariants.{Run, Report, Load, Pcie, Klog, TraceFeed, LogFeed, TraceLines, KlogLines, GhesLines, MceLine, Help, Version}
use Rattle.ras_exit.specs.declared.exit.Exit.{Exit}
use Rattle.ras_journal.specs.Recovered.{Recovers}
use Rattle.ras_run.specs.Files.{files_refusal}
use Rattle.ras_run.specs.Sites.{Start}

pub over_folder : (P : Start → List ℕ → FolderPast → Type 0) (task : Option Task) (left : Option (List ℕ)) (past : Option FolderPast)
    → ((account : State) (script : List ℕ) (p : FolderPast) → task ≡ Some Run → left ≡ Some script → past ≡ Some p → Recovers account (seen_now p) → P (start_of account (begun_over p)) script p)
    → OverFolder P task left past
over_folder P (Some Run) (Some script) (Some p) gives = λ account recovers. gives account script p refl refl refl recovers
over_folder P (Some Run) (Some script) None gives = tt
over_folder P (Some Run) None past gives = tt
over_folder P (Some (Report listing)) left past gives = tt
over_folder P (Some (Load n)) left past gives = tt
over_folder P (Some Pcie) left past gives = tt
over_folder P (Some (Klog boot cap)) left past gives = tt
over_folder P (Some (TraceFeed boot cap began drivers)) left past gives = tt
over_folder P (Some (LogFeed boot cap began borders)) left past gives = tt
over_folder P (Some (TraceLines boot)) left past gives = tt
over_folder P (Some (KlogLines boot cap)) left past gives = tt
over_folder P (Some (GhesLines boot began)) left past gives = tt
over_folder P (Some (MceLine boot)) left past gives = tt
over_folder P (Some Help) left past gives = tt
over_folder P (Some Version) left past gives = tt
over_folder P None left past gives = tt

-- what a run does over a folder that is modelled at its end
pub ran_over : (exit : Exit) (start : Start) (script : List ℕ) (left : Option (List ℕ)) (p : FolderPast) (now : Option FolderPast) → IsSomeAnd now (AheadOver exit script left p) → IsSomeAnd now (OpenedOver start script left p) → IsSomeAnd now (KeepsFew p) → IsSomeAnd now (Outlives start script p) → IsSomeAnd now (λ q. OutlivesOpened start script p q ⊎ NeverOpened exit start p q)
    → IsSomeAnd now (Ends exit start script p) → IsSomeAnd now (RanOver exit start script left p)
ran_over exit start script left p None ahead opened few outlives settled ended = absurd outlives
ran_over exit start script left p (Some q) ahead opened few outlives settled ended = record { headline = outlives; settled = settled; ends = ended; ahead = ahead; opened = opened; few = few }

pub over_damaged : (P : Exit → FolderPast → Type 0) (task : Option Task) (past : Option FolderPast)
    → ((p : FolderPast) → task ≡ Some Run → past ≡ Some p → IfSome (files_refusal (seen_now p)) (λ why. P why p))
    → OverDamaged P task past
over_damaged P (Some Run) (Some p) gives = gives p refl refl
over_damaged P (Some Run) None gives = tt
over_damaged P (Some (Report listing)) past gives = tt
over_damaged P (Some (Load n)) past gives = tt
over_damaged P (Some Pcie) past gives = tt
over_damaged P (Some (Klog boot cap)) past gives = tt
over_damaged P (Some (TraceFeed boot cap began drivers)) past gives = tt
over_damaged P (Some (LogFeed boot cap began borders)) past gives = tt
over_damaged P (Some (TraceLines boot)) past gives = tt
over_damaged P (Some (KlogLines boot cap)) past gives = tt
over_damaged P (Some (GhesLines boot began)) past gives = tt
over_damaged P (Some (MceLine boot)) past gives = tt
over_damaged P (Some Help) past gives = tt
over_damaged P (Some Version) past gives = tt
over_damaged P None past gives = tt
