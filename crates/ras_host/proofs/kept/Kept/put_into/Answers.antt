use Rattle.std.proofs.Common.{◌∙◌, refl, subst, sym}
use Rattle.board_core.specs.Told.{after_put}
use Rattle.erst_store.specs.DeviceLaws.{IsDevice}
use Rattle.ras_host.proofs.KeptLemmas.{put_is, turned_put, turned_unwritten}
use Rattle.ras_host.proofs.kept.Kept.put_into.Goals as goal

pub returns-in_default-clause-turned : goal.returns-in_default-clause-turned
returns-in_default-clause-turned g c =
    let made = c.in-Ok.ensures in
    turned_unwritten (after_put c.args.id c.args.bytes.now) c.args.saved c.in-Ok.made.0 c.put_alone.new.device _ _ _ _
    refl c.requires made.ok.1 (put_is c.args.id c.args.bytes.now c.args.saved.device c.put_alone.new.device made.ok.0 made.refused)
    c.store.ensures.kept refl

pub returns-clause-turned : goal.returns-clause-turned
returns-clause-turned g c =
    let made = c.in-Ok.ensures in
    let step = after_put c.args.id c.args.bytes.now in
    let change = c.change_to-change.ensures in
    rw c.or.ensures (turned_put step _ c.save.new.self c.save.result _ _ _
    (c.save.ensures.turned step c.args.saved (record {
      before = change.devices.0 ∙ made.ok.1;
      made = change.devices.1 ∙ put_is c.args.id c.args.bytes.now c.args.saved.device c.put_alone.new.device made.ok.0 made.refused;
      device = subst IsDevice (sym change.devices.1) c.store.ensures.kept;
      same = change.same;
    }) c.requires))
