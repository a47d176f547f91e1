use Rattle.std.proofs.Common.{◌++◌, ◌∙◌, ap, sym, length, arith}
use Rattle.std.specs.Map.{keys_of}
use Rattle.row_tables.proofs.HeldLemmas.{length-keys}
use Rattle.entry_format.specs.Spelling.{name_bytes}
use Rattle.ras_account.proofs.SpelledLemmas.{first_names_most, rows_next}
use Rattle.ras_account.proofs.spelled.Spelled.spell.Goals as goal

pub add-requires : goal.add-requires
add-requires c =
    let rows = c.args.table.now.rows in
    omega (
      arith,
      first_names_most c.loop-place.place (keys_of rows) (omega (arith, length-keys rows)),
      length-keys rows,
      ap length c.loop-place.invariant.spelled,
      c.loop-place.invariant.kept,
      c.requires,
      c.loop-place.self.bytes.ok,
    )

pub loop-place-preserved : goal.loop-place-preserved
loop-place-preserved c =
    let rows = c.args.table.now.rows in
    record {
      spelled = c.add.ensures.bytes
          ∙ (ap (λ w. w ++ name_bytes c.key.result.now) c.loop-place.invariant.spelled
          ∙ sym (rows_next name_bytes (keys_of rows) c.loop-place.place c.key.result.now c.key.ensures));
      kept = omega (arith, c.loop-place.invariant.kept, c.add.ensures.kept);
    }
