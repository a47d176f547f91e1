use Rattle.std.proofs.Common.{◌≡◌, ◌-◌, nat_eq, drop, sym, ap, ◌∙◌, arith}
use Rattle.std.specs.List.{starts_with}
use Rattle.bank_lines.proofs.LogHeadLemmas.{at_starts, rest_is, starts_at}
use Rattle.bank_lines.proofs.log_heads.stands_round.Goals as goal

pub returns-then-place-pivot : goal.returns-then-place-pivot
returns-then-place-pivot c =
    let line = c.args.within.now in
    let text = c.args.text.now in
    let place = c.args.place - c.args.pivot in
    let is : c.starts_with.result ≡ starts_with nat_eq (drop place line) text =
    c.starts_with.ensures.value ∙ ap (λ rest. starts_with nat_eq rest text) (rest_is place line) in
    (λ starts. (omega arith, starts_at c.args.pivot text line place (omega arith) (sym is ∙ starts)), λ both. is ∙ at_starts c.args.pivot text line place both.1)
