-- The last eight bytes are unchanged.
use Rattle.std.proofs.Common.{ℕ, ◌≡◌, List, length, drop, arith, refl}
use Rattle.std.proofs.lemmas.List.{drop_more, drop_all}
use Rattle.uuid.specs.Parts.{swap_fields}
use Rattle.cper_sections.proofs.guids.guid_at.Goals as goal

last_eight : (xs : List ℕ) → length xs ≡ 16 → drop 8 (swap_fields xs) ≡ drop 8 xs
last_eight xs whole =
    rw (
      drop_more xs 8 0 (omega arith),
      drop_more xs 9 0 (omega arith),
      drop_more xs 10 0 (omega arith),
      drop_more xs 11 0 (omega arith),
      drop_more xs 12 0 (omega arith),
      drop_more xs 13 0 (omega arith),
      drop_more xs 14 0 (omega arith),
      drop_more xs 15 0 (omega arith),
      drop_all 16 xs (omega arith),
    ) refl

pub returns-clause-rest : goal.returns-clause-rest
returns-clause-rest c = rw c.from_bytes_le.ensures (last_eight c.args.bytes.now (grind arith))
