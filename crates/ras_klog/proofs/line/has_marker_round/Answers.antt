use Rattle.std.proofs.Common.{◌≡◌, ◌-◌, nat_eq, drop, sym, ap, ◌∙◌, arith}
use Rattle.std.specs.List.{starts_with}
use Rattle.ras_klog.specs.Reading.{marker}
use Rattle.ras_klog.proofs.LineLemmas.{at-starts, rest_is, starts-at}
use Rattle.ras_klog.proofs.line.has_marker_round.Goals as goal

pub returns-then-second-ge1 : goal.returns-then-second-ge1
returns-then-second-ge1 c =
    let line = c.args.line.now in
    let place = c.args.second - 1 in
    let is : c.starts_with.result ≡ starts_with nat_eq (drop place line) marker =
    c.starts_with.ensures.value ∙ ap (λ text. starts_with nat_eq text marker) (rest_is place line) in
    (λ starts. (omega arith, starts-at line place (omega arith) (sym is ∙ starts)), λ both. is ∙ at-starts line place both.1)
