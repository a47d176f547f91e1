use Rattle.std.proofs.Common.{ap, sym, ◌∙◌}
use Rattle.erst_store.specs.StoreFile.{store_bytes}
use Rattle.ras_host.proofs.KeptLemmas.{action_acts, action_stays}
use Rattle.ras_host.proofs.kept.Kept.act_alone.Goals as goal

pub invariant_of-saved : goal.invariant_of-saved
invariant_of-saved c =
    let a = c.write_action-answer in
    record { same = c.args.saved.same ∙ ap store_bytes (sym (action_stays c.args.action c.args.saved.device a.new.self a.result c.requires a.ensures.ok a.ensures.err)) }

pub returns-clause-ok : goal.returns-clause-ok
returns-clause-ok c =
    let a = c.write_action-answer in
    rw c.or.ensures (action_acts c.args.action c.args.saved.device _ c.put_back.new.self a.result _ c.requires a.ensures.ok c.put_back.ensures.here c.put_back.ensures.device)
