use Rattle.std.proofs.Common.{◌≡◌, ◌+◌, ◌-◌, ◌^◌, ◌<◌, ◌≤◌, length, drop, false}
use Rattle.std.specs.Fmt.{digits_onto, digits}
use Rattle.bank_lines.specs.declared.text.TheConstants.{WORD_BYTES}
use Rattle.bank_lines.proofs.text.write_word.Given as goal

-- The digits from `place` on are the number's last ones, and the rest of the number fits the bytes before them. The
-- definition of digits takes at most 64 steps.
abbrev pub invariant-loop-rest : goal.invariant-loop-rest
invariant-loop-rest l = record {
  inside : (2 ≤ l.place) × (l.place ≤ WORD_BYTES);
  size : length l.word ≡ WORD_BYTES;
  small : l.rest < 16 ^ (l.place - 1);
  written : digits_onto (l.place + 47) 16 false l.rest (drop l.place l.word) ≡ digits 16 false l.number;
}

abbrev pub decreases-loop-rest : goal.decreases-loop-rest
decreases-loop-rest l = l.place
