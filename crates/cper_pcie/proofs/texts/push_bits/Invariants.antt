-- The text so far has the names of the bits so far.
use Rattle.ras_base.specs.Bits.{is_set}
use Rattle.cper_pcie.specs.Texts.{bit_name}
use Rattle.cper_pcie.specs.Steps.TextSteps.{bit_names_of}
use Rattle.cper_pcie.proofs.TextLemmas.{Names}
use Rattle.cper_pcie.proofs.texts.push_bits.Given as goal

abbrev pub invariant-loop-bit : goal.invariant-loop-bit
invariant-loop-bit l = Names (λ bit. is_set bit l.fn.status) (bit_name (bit_names_of l.fn.kind)) l.bit l.is_first l.fn.text.items l.text.items
