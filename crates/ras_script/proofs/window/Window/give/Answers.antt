use Rattle.std.proofs.Common.{◌≡◌, ◌+◌, ◌∙◌, ap, slice_range, arith, ℕ}
use Rattle.std.proofs.lemmas.List.{length-take, length-drop}
use Rattle.ras_script.proofs.WindowLemmas.{dropped}
use Rattle.ras_script.proofs.window.Window.give.Goals as goal

pub returns-clause-held : goal.returns-clause-held
returns-clause-held c =
    let w = c.args.self.now in
    let sum : w.start + c.args.size + c.args.dropped ≡ w.start + (c.args.size + c.args.dropped) = omega arith in
    ap (λ j. slice_range w.bytes.items j w.end) sum ∙ dropped w.bytes.items w.start w.end (c.args.size + c.args.dropped) (omega (arith, length-take {A = ℕ}, length-drop {A = ℕ}))
