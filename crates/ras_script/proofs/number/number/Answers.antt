use Rattle.std.proofs.Common.{◌≤◌, ◌+◌, ◌*◌, ◌^◌, ◌∙◌, get_or, ap, sym, arith}
use Rattle.std.specs.Char.{digit_value}
use Rattle.ras_script.proofs.NumberLemmas.{room, past, digits_step}
use Rattle.ras_script.proofs.number.number.Goals as goal
use Rattle.ras_script.proofs.number.number.Goals.{then-fits, else-fits+in_ok-checked_mul+in_ok-value}

pub overflow_mul-value : goal.overflow_mul-value
overflow_mul-value c =
    let l = c.loop-byte in
    omega (arith, room c.args.radix c.args.word.now l.byte-index l.value c.from.result (omega arith) c.requires.small_radix (omega arith) c.loop-byte-test.true l.invariant.0 l.invariant.1 c.from.ensures)

pub overflow_add-value : goal.overflow_add-value
overflow_add-value c =
    let l = c.loop-byte in
    omega (arith, room c.args.radix c.args.word.now l.byte-index l.value c.from.result (omega arith) c.requires.small_radix (omega arith) c.loop-byte-test.true l.invariant.0 l.invariant.1 c.from.ensures, c.in_ok-digit.ensures.0)

pub returns-in_err-checked_mul-clause-value : goal.returns-in_err-checked_mul-clause-value
returns-in_err-checked_mul-clause-value c =
    let l = c.loop-byte in
    let large : 2 ^ 64 ≤ l.value * c.from-else-fits.result + digit_value (get_or c.args.word.now l.byte-index 0) = omega (arith, c.in_err-checked_mul.ensures) in
    c.from_residual-in_err-checked_mul.ensures ∙ sym (past c.args.radix c.args.longest c.args.most c.args.word.now l.byte-index l.value c.from-else-fits.result (omega arith) (omega arith) c.loop-byte-test.true l.invariant.1 c.from-else-fits.ensures large)

pub returns-in_err-value-clause-value : goal.returns-in_err-value-clause-value
returns-in_err-value-clause-value c =
    let l = c.loop-byte in
    let large : 2 ^ 64 ≤ l.value * c.from-else-fits.result + digit_value (get_or c.args.word.now l.byte-index 0) = omega (arith, c.in_err-value.ensures, c.in_ok-checked_mul.ensures.1, c.in_ok-digit.ensures.1) in
    c.from_residual-in_err-value.ensures ∙ sym (past c.args.radix c.args.longest c.args.most c.args.word.now l.byte-index l.value c.from-else-fits.result (omega arith) (omega arith) c.loop-byte-test.true l.invariant.1 c.from-else-fits.ensures large)

pub loop-byte-preserved : goal.loop-byte-preserved
loop-byte-preserved c = elim c.if-fits.branch [
  | then-fits w ↦
      digits_step c.args.radix c.args.word.now c.loop-byte.byte-index c.loop-byte.value w.from.result c.in_ok-digit.digit _ c.loop-byte-test.true c.loop-byte.invariant.0 c.loop-byte.invariant.1 w.from.ensures c.in_ok-digit.ensures w.value-is
  | else-fits+in_ok-checked_mul+in_ok-value w ↦
      digits_step c.args.radix c.args.word.now c.loop-byte.byte-index c.loop-byte.value w.from-else-fits.result c.in_ok-digit.digit _ c.loop-byte-test.true c.loop-byte.invariant.0 c.loop-byte.invariant.1 w.from-else-fits.ensures c.in_ok-digit.ensures (w.value-is ∙ w.in_ok-value.ensures.1 ∙ ap (λ product. product + c.in_ok-digit.digit) w.in_ok-checked_mul.ensures.1)
]
