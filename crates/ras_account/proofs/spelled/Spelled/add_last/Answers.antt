use Rattle.std.proofs.Common.{◌≡◌, ◌++◌, ◌-◌, ◌∙◌, ap, subst, length, slice_get, Some, arith}
use Rattle.std.specs.Map.{keys_of}
use Rattle.row_tables.proofs.HeldLemmas.{length-keys}
use Rattle.entry_format.specs.Spelling.{name_bytes}
use Rattle.ras_account.proofs.SpelledLemmas.{first_names_most, last_row}
use Rattle.ras_account.proofs.spelled.Spelled.add_last.Goals as goal

pub add-requires : goal.add-requires
add-requires c =
    let rows = c.args.table.now.rows in
    omega (
      arith,
      first_names_most (length rows - 1) (keys_of rows) (omega (arith, length-keys rows)),
      length-keys rows,
      ap length c.requires.spelled,
      c.requires.last,
      c.requires.room,
      c.args.self.now.bytes.ok,
    )

pub returns-clause-bytes : goal.returns-clause-bytes
returns-clause-bytes c =
    let rows = c.args.table.now.rows in
    let place : c.len.result - 1 ≡ length rows - 1 = ap (λ n. n - 1) c.len.ensures in
    let last : slice_get (keys_of rows) (length rows - 1) ≡ Some c.key.result.now = subst (λ n. slice_get (keys_of rows) n ≡ Some c.key.result.now) place c.key.ensures in
    c.add.ensures.bytes
    ∙ (ap (λ w. w ++ name_bytes c.key.result.now) c.requires.spelled
    ∙ last_row name_bytes (keys_of rows) (length rows - 1) c.key.result.now (omega (arith, length-keys rows, c.requires.last)) last)
