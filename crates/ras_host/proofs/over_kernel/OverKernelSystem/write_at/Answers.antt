use Rattle.std.proofs.Common.{arith}
use Rattle.std.specs.Prelude.{length}
use Rattle.host_system.specs.Folder.{wrote}
use Rattle.ras_host.proofs.CountLemmas.{moved_did, or_ok}
use Rattle.ras_host.proofs.LongLemmas.{written_long}
use Rattle.ras_host.proofs.over_kernel.OverKernelSystem.write_at.Goals as goal

pub invariant_of-self-then-saturating_add-gt-INLINE_LENGTH : goal.invariant_of-self-then-saturating_add-gt-INLINE_LENGTH
invariant_of-self-then-saturating_add-gt-INLINE_LENGTH g c =
    let did = moved_did (wrote c.args.name c.args.place (length c.args.bytes.now) c.args.bytes.now) _ _ _ c.check_to_write.ensures.looks.told
    (or_ok _ c.pwrite.result _ c.or-2.result _ c.or-2.ensures c.in_ok-or-2.was c.pwrite.ensures.told) in
    record {
      known = written_long c.args.name c.args.place c.args.bytes.now (omega (arith, c.saturating_add.ensures, c.if-saturating_add-gt-INLINE_LENGTH.true)) _ _ c.set.ensures _ _ c.requires.there c.requires.within did c.args.self.now.known;
    }
