use Rattle.std.proofs.Common.{◌≡◌, ◌∷◌, ◌++◌, ◌∙◌, ap, sym, subst}
use Rattle.ras_facts.specs.declared.name.Name.{Name}
use Rattle.ras_account.specs.Account.{State}
use Rattle.entry_format.specs.declared.refused.EntryRefused.TheVariants.{Bad}
use Rattle.entry_format.specs.Reading.{name_at}
use Rattle.journal_format.specs.CheckpointReading.{list_at}
use Rattle.entry_format.proofs.LoopLemmas.{goes_on, ends, is_done, is_failed}
use Rattle.journal_format.specs.Steps.Decoding.{AreNames}
use Rattle.journal_format.proofs.DecodingLemmas.{refused_amid, unread_amid, unlisted, list_begins, same_row, name_put}
use Rattle.journal_format.proofs.decoding.names_at.Goals as goal

pub returns-in-Err-clause-bad : goal.returns-in-Err-clause-bad
returns-in-Err-clause-bad c e names rest all are =
    let is : c.in-Err.refused ≡ Bad = cc in
    unread_amid (list_at name_at c.args.bytes.now) c.in-Err.refused names rest (unlisted name_at c.args.bytes.now c.in-Err.refused c.in-Err.ensures) is all

pub loop-init : goal.loop-init
loop-init c =
    let stays : c.make_room.new.account ≡ c.args.account.now = c.make_room.ensures in
    record {
      state = stays ∙ ap (λ (a : State). record c.args.account.now { names = a.names }) (sym stays);
      so_far =
          list_begins name_at c.make_room.new.account.names c.args.bytes.now c.in-Ok.found.0 c.in-Ok.found.1.now
          (ap (λ (a : State). a.names) stays ∙ c.requires.none) c.in-Ok.ensures;
    }

pub returns-in-Err-name_at-clause-bad : goal.returns-in-Err-name_at-clause-bad
returns-in-Err-name_at-clause-bad c e names rest all are =
    let total = list_at name_at c.args.bytes.now in
    let is : c.in-Err-name_at.refused ≡ Bad = cc in
    unread_amid total c.in-Err-name_at.refused names rest
    (ends name_at c.in-Err-name_at.refused c.loop.account.names c.in-Ok.found.0 c.loop.counter c.loop.rest.now total c.loop-test.true (is_failed c.in-Err-name_at.refused (name_at c.loop.rest.now) c.in-Err-name_at.ensures) c.loop.invariant.so_far) is all

pub returns-in-Err-put_name-clause-bad : goal.returns-in-Err-put_name-clause-bad
returns-in-Err-put_name-clause-bad c e names rest all are =
    let total = list_at name_at c.args.bytes.now in
    let held = c.loop.account.names in
    refused_amid name_at AreNames held c.in-Ok.found.0 c.loop.counter c.loop.rest.now total c.loop-test.true
    (λ x later after read sound.
    let same = same_row (name_at c.loop.rest.now) c.in-Ok-name_at.found.0 x c.in-Ok-name_at.found.1.now after c.in-Ok-name_at.ensures read in
    c.in-Err-put_name.ensures.bad (let is : c.in-Err-put_name.refused ≡ Bad = cc in cc) later (subst (λ (y : Name). AreNames (held ++ y ∷ later)) same sound))
    c.loop.invariant.so_far names rest all are

pub loop-preserved : goal.loop-preserved
loop-preserved c =
    let put = c.in-Ok-put_name.ensures.ok in
    let names = ap (λ (a : State). a.names) put in
    record {
      state = name_put c.args.account.now c.loop.account c.put_name.new.account c.in-Ok-name_at.found.0 c.loop.invariant.state put;
      so_far =
          rw names
          (goes_on name_at c.loop.account.names c.in-Ok.found.0 c.loop.counter c.loop.rest.now c.in-Ok-name_at.found.0 c.in-Ok-name_at.found.1.now (list_at name_at c.args.bytes.now) c.loop-test.true c.in-Ok-name_at.ensures c.loop.invariant.so_far);
    }

pub returns-clause-read : goal.returns-clause-read
returns-clause-read c = is_done name_at c.loop.account.names c.in-Ok.found.0 c.loop.counter c.loop.rest.now (list_at name_at c.args.bytes.now) c.loop-test.false c.loop.invariant.so_far
