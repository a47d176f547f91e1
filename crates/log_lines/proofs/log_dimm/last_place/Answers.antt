use Rattle.std.proofs.Common.{◌≡◌, ℕ, ◌+◌, ◌<◌, ◌≤◌, Bool, List, drop, length, sym, ap, ◌∙◌, arith, subst, IfSome, Option, Some, if◌then◌else◌}
use Rattle.std.specs.List.{starts_with}
use Rattle.std.specs.Prelude.{nat_eq}
use Rattle.bank_lines.proofs.LogHeadLemmas.{rest_is}
use Rattle.log_lines.specs.LogDimm.{last_place}
use Rattle.log_lines.proofs.LogDimmLemmas.{last_from, last_goes_on, within_on}
use Rattle.log_lines.proofs.log_dimm.last_place.Goals as goal

pub loop-place-preserved : goal.loop-place-preserved
loop-place-preserved c =
    let l = c.loop-place in
    let text : List ℕ = c.args.text.now in
    let mark : List ℕ = c.args.mark.now in
    let starts : Bool = starts_with nat_eq (drop l.place text) mark in
    let inside : l.place < length text = omega (arith, c.loop-place-test.true, l.auto.place-end) in
    let chosen : c.later-found.result ≡ (if starts then Some l.place else l.found) =
    c.later-found.ensures
    ∙ ap (λ (is : Bool). if is then Some l.place else l.found)
    (c.starts_with.ensures.value ∙ ap (λ (rest : List ℕ). starts_with nat_eq rest mark) (rest_is l.place text)) in
    record {
      last =
          ap (λ (found : Option ℕ). last_from (l.place + 1) found (last_place mark (drop (l.place + 1) text))) chosen
          ∙ last_goes_on mark text l.place l.found inside ∙ l.invariant.last;
      within =
          subst (λ (found : Option ℕ). IfSome found (λ place. place + 1 ≤ length text)) (sym chosen)
          (within_on starts l.place (length text) l.found inside l.invariant.within);
    }
