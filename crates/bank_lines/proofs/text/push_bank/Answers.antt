use Rattle.std.proofs.Common.{decimal}
use Rattle.ras_script.specs.LineLaws.{hexadecimal}
use Rattle.bank_lines.proofs.TextLemmas.{report_pieces}
use Rattle.bank_lines.proofs.text.push_bank.Goals as goal

pub returns : goal.returns
returns c =
    let r = c.args.report.now in
    report_pieces c.args.text.now.items (decimal r.boot) (decimal r.seconds) (decimal r.cpu) (decimal r.bank) (decimal r.tsc)
    (hexadecimal r.cap) (hexadecimal r.mcg) (hexadecimal r.status) (hexadecimal r.addr) (hexadecimal r.misc)
    c.push_named.new.text.items c.push_named-2.new.text.items c.push_named-3.new.text.items c.push_named-4.new.text.items c.push_named-5.new.text.items
    c.push_register.new.text.items c.push_register-2.new.text.items c.push_register-3.new.text.items c.push_register-4.new.text.items c.push_register-5.new.text.items
    c.push_register-5.result
    c.in_ok-push_named.ensures c.in_ok-push_named-2.ensures (rw c.from.ensures at c.in_ok-push_named-3.ensures) (rw c.from-2.ensures at c.in_ok-push_named-4.ensures) c.in_ok-push_named-5.ensures
    c.in_ok-push_register.ensures c.in_ok-push_register-2.ensures c.in_ok-push_register-3.ensures c.in_ok-push_register-4.ensures c.push_register-5.ensures
