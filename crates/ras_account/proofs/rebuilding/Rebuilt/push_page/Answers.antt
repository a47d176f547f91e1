use Rattle.ras_account.specs.Account.{State}
use Rattle.ras_account.proofs.StateLemmas.{of_parts}
use Rattle.ras_account.proofs.PushLemmas.{page-taken}
use Rattle.ras_account.proofs.rebuilding.Rebuilt.push_page.Goals as goal

pub invariant_of-self-inside : goal.invariant_of-self-inside
invariant_of-self-inside c =
    let a = c.self-inside.inside.0.0 in
    let before : State = of_parts a.names.held a.in_force.floor a.in_force.limit a.in_force.module_limit a.entries a.total a.modules.rows a.pages.rows in
    page-taken before c.push_row.new.self.rows (c.args.page, record { bucket = c.args.bucket; state = c.args.state }) c.push_row.result c.self-inside.invariant
    (record { page = c.requires.page; bucket = record { count = c.requires.count; stamp = c.tell_valid_bucket.ensures } })
    c.push_row.ensures.ok c.push_row.ensures.err c.push_row.ensures.repeated
