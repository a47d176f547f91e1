use Rattle.std.proofs.Common.{◌≡◌, ◌∷◌, ◌++◌, ap, refl, subst}
use Rattle.dimm_topology.specs.Labels.{Bytes}
use Rattle.ras_account.specs.Modules.{Module}
use Rattle.ras_account.specs.Rows.{row_of}
use Rattle.ras_account.specs.Account.{State}
use Rattle.entry_format.specs.declared.refused.EntryRefused.TheVariants.{Bad}
use Rattle.journal_format.specs.CheckpointReading.{list_at, module_at}
use Rattle.entry_format.proofs.LoopLemmas.{goes_on, ends, is_done}
use Rattle.journal_format.specs.Steps.Decoding.{AreModules}
use Rattle.journal_format.proofs.DecodingLemmas.{refused_amid, unread_amid, unlisted, list_begins, same_row, module_put}
use Rattle.journal_format.proofs.decoding.modules_at.Goals as goal

pub returns-in-Err-clause-bad : goal.returns-in-Err-clause-bad
returns-in-Err-clause-bad c e rows rest all are =
    let is : c.in-Err.refused ≡ Bad = cc in
    unread_amid (list_at (module_at c.args.version) c.args.bytes.now) c.in-Err.refused rows rest (unlisted (module_at c.args.version) c.args.bytes.now c.in-Err.refused c.in-Err.ensures) is all

pub loop-init : goal.loop-init
loop-init c = record {
  state = refl;
  so_far = list_begins (module_at c.args.version) c.args.account.now.modules c.args.bytes.now c.in-Ok.found.0 c.in-Ok.found.1.now c.requires c.in-Ok.ensures;
}

pub returns-in-Err-module_at-clause-bad : goal.returns-in-Err-module_at-clause-bad
returns-in-Err-module_at-clause-bad c e rows rest all are =
    let total = list_at (module_at c.args.version) c.args.bytes.now in
    let is : c.in-Err-module_at.refused ≡ Bad = cc in
    unread_amid total c.in-Err-module_at.refused rows rest
    (ends (module_at c.args.version) c.in-Err-module_at.refused c.loop.account.modules c.in-Ok.found.0 c.loop.counter c.loop.rest.now total c.loop-test.true c.in-Err-module_at.ensures.read c.loop.invariant.so_far) is all

pub returns-in-Err-put_module-clause-bad : goal.returns-in-Err-put_module-clause-bad
returns-in-Err-put_module-clause-bad c e rows rest all are =
    let total = list_at (module_at c.args.version) c.args.bytes.now in
    let held = c.loop.account.modules in
    refused_amid (module_at c.args.version) AreModules held c.in-Ok.found.0 c.loop.counter c.loop.rest.now total c.loop-test.true
    (λ x later after read sound.
    let same = same_row (module_at c.args.version c.loop.rest.now) (row_of c.in-Ok-module_at.found.0) x c.in-Ok-module_at.found.1.now after c.in-Ok-module_at.ensures.read read in
    c.in-Err-put_module.ensures.bad (let is : c.in-Err-put_module.refused ≡ Bad = cc in cc) later (subst (λ (y : Bytes × Module). AreModules (held ++ y ∷ later)) same sound))
    c.loop.invariant.so_far rows rest all are

pub loop-preserved : goal.loop-preserved
loop-preserved c =
    let put = c.in-Ok-put_module.ensures.ok in
    let rows = ap (λ (a : State). a.modules) put in
    record {
      state = module_put c.args.account.now c.loop.account c.put_module.new.account (row_of c.in-Ok-module_at.found.0) c.loop.invariant.state put;
      so_far =
          rw rows
          (goes_on (module_at c.args.version) c.loop.account.modules c.in-Ok.found.0 c.loop.counter c.loop.rest.now (row_of c.in-Ok-module_at.found.0) c.in-Ok-module_at.found.1.now (list_at (module_at c.args.version) c.args.bytes.now) c.loop-test.true c.in-Ok-module_at.ensures.read c.loop.invariant.so_far);
    }

pub returns-clause-read : goal.returns-clause-read
returns-clause-read c = is_done (module_at c.args.version) c.loop.account.modules c.in-Ok.found.0 c.loop.counter c.loop.rest.now (list_at (module_at c.args.version) c.args.bytes.now) c.loop-test.false c.loop.invariant.so_far
