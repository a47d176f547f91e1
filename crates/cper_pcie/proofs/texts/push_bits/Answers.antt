use Rattle.std.proofs.Common.{◌≡◌, ℕ, Bool, List, sym, subst, ap, ◌∙◌, arith}
use Rattle.ras_base.specs.Bits.{is_set}
use Rattle.cper_pcie.specs.Texts.{bit_name}
use Rattle.cper_pcie.specs.Steps.TextSteps.{bit_names_of}
use Rattle.cper_pcie.proofs.TextLemmas.{Names, names-more, names-same, names-none, names-some}
use Rattle.cper_pcie.proofs.texts.push_bits.Goals as goal
use Rattle.cper_pcie.proofs.texts.push_bits.Goals.{then-is_set+in_ok-push_next_bit, else-is_set}

pub loop-bit-preserved : goal.loop-bit-preserved
loop-bit-preserved c =
    let p : ℕ → Bool = λ bit. is_set bit c.args.status in
    let name : ℕ → List ℕ = bit_name (bit_names_of c.args.kind) in
    let tested : c.is_set.result ≡ p c.loop-bit.bit = c.is_set.ensures ∙ ap (is_set c.loop-bit.bit) c.from.ensures in
    elim c.if-is_set.branch [
      | then-is_set+in_ok-push_next_bit w ↦
          names-more p name c.loop-bit.bit c.loop-bit.is_first c.if-is_set.is_first c.args.text.now.items c.loop-bit.text.items c.if-is_set.text.items
          (sym tested ∙ w.if-is_set.true) c.loop-bit.invariant w.is_first-is (ap (λ (t : _). t.items) w.text-is ∙ w.in_ok-push_next_bit.ensures)
      | else-is_set w ↦
          names-same p name c.loop-bit.bit c.loop-bit.is_first c.if-is_set.is_first c.args.text.now.items c.loop-bit.text.items c.if-is_set.text.items
          (sym tested ∙ w.if-is_set.false) c.loop-bit.invariant w.is_first-is (ap (λ (t : _). t.items) w.text-is)
    ]

pub returns-in_ok-extend_from_slice : goal.returns-in_ok-extend_from_slice
returns-in_ok-extend_from_slice c =
    let p : ℕ → Bool = λ bit. is_set bit c.args.status in
    let name : ℕ → List ℕ = bit_name (bit_names_of c.args.kind) in
    let all : c.loop-bit.bit ≡ 32 = omega (arith, c.loop-bit-test.false, c.loop-bit.auto.bit-end) in
    c.in_ok-extend_from_slice.ensures.items
    ∙ names-none p name c.loop-bit.bit c.args.text.now.items c.loop-bit.text.items all
    (subst (λ b. Names p name c.loop-bit.bit b c.args.text.now.items c.loop-bit.text.items) c.if-is_first.true c.loop-bit.invariant)

pub returns-else-is_first : goal.returns-else-is_first
returns-else-is_first c =
    let p : ℕ → Bool = λ bit. is_set bit c.args.status in
    let name : ℕ → List ℕ = bit_name (bit_names_of c.args.kind) in
    let all : c.loop-bit.bit ≡ 32 = omega (arith, c.loop-bit-test.false, c.loop-bit.auto.bit-end) in
    names-some p name c.loop-bit.bit c.args.text.now.items c.loop-bit.text.items all
    (subst (λ b. Names p name c.loop-bit.bit b c.args.text.now.items c.loop-bit.text.items) c.if-is_first.false c.loop-bit.invariant)
