use Rattle.std.proofs.Common.{◌≡◌, ℕ, subst}
use Rattle.std.specs.Prelude.{IfSome, Option}
use Rattle.host_system.specs.FolderPast.{length_told}
use Rattle.host_system.specs.declared.system.FileName.TheVariants.{Store}
use Rattle.ras_host.proofs.BegunLemmas.{if_or, read_whole}
use Rattle.ras_host.proofs.saved.read_store.Goals as goal

pub returns-in-Some-2-clause-read : goal.returns-in-Some-2-clause-read
returns-in-Some-2-clause-read g c =
    rw c.or.ensures (if_or _ c.read.result _ (read_whole _ c.read.result _ c.in-Some.length _ _ c.find.ensures.told c.requires
    (subst (λ (o : Option ℕ). IfSome (g.S.System.told c.args.system.now) (λ p. o ≡ length_told Store p)) c.in-Some.is c.in_ok-length.ensures.found)
    c.if-length-gt-LONGEST_STORE.false c.read.ensures.read))
