use Rattle.std.proofs.Common.{◌∙◌, ◌++◌, sym, ap, append-nil, string_bytes, arith, map, ◌≡◌, ◌-◌, ◌+◌}
use Rattle.ras_load.specs.LoadScript.{load_bank, generated, next_number}
use Rattle.ras_load.proofs.ScriptLemmas.{first_number, no_lines, number_step, other_more, tenth_more}
use Rattle.ras_script.specs.LineLaws.{line_text}
use Rattle.ras_script.specs.SplittingLaws.{script_of}
use Rattle.ras_load.proofs.script.push_banks.Goals as goal
use Rattle.ras_load.proofs.script.push_banks.Goals.{then-i-eq0+in_ok-push_bank, else-i-eq0+in_ok-push_bank-2}

pub loop-done-init : goal.loop-done-init
loop-done-init c =
    (sym (append-nil (string_bytes c.args.script.now)) ∙ ap (λ lines. string_bytes c.args.script.now ++ script_of (map line_text lines)) (sym no_lines), sym first_number)

pub loop-done-preserved : goal.loop-done-preserved
loop-done-preserved c =
    let before = c.loop-done.invariant in
    let n = c.loop-done.done in
    let number : c.next_number-number.result ≡ generated (n + 1) = c.next_number-number.ensures ∙ ap next_number before.1 ∙ sym (number_step n) in
    elim c.if-i-eq0.branch [
      | then-i-eq0+in_ok-push_bank w ↦
          let is : n + 1 - 1 ≡ n = omega arith in (
            ap string_bytes w.script-is ∙ tenth_more (string_bytes c.args.script.now) (string_bytes c.loop-done.script) _ n _ before.0 w.in_ok-push_bank.ensures w.if-i-eq0.true
                (w.load_bank.ensures ∙ (λ k. load_bank (is k) (before.1 k))),
            number,
          )
      | else-i-eq0+in_ok-push_bank-2 w ↦ (
        ap string_bytes w.script-is ∙ other_more (string_bytes c.args.script.now) (string_bytes c.loop-done.script) _ n _ before.0 w.in_ok-push_bank-2.ensures w.if-i-eq0.false
            (w.load_bank-else-i-eq0.ensures ∙ ap (load_bank (n + 1)) number),
        number,
      )
    ]
