-- Refusals: the numbers that the program prints, and what a reader that allocates memory returns.
use Rattle.std.specs.Prelude.{◌≡◌, ℕ, Option, Some, None, Result, Ok, Err}
use Rattle.apei_sources.specs.declared.refusals.TableRefused.{TableRefused}
use Rattle.apei_sources.specs.declared.refusals.TableRefused as Tables
use Rattle.apei_sources.specs.declared.refusals.BlockRefused.{BlockRefused}
use Rattle.apei_sources.specs.declared.refusals.BlockRefused as Blocks

-- The number of a table's refusal. Running out of memory has no number.
abbrev pub table_number : TableRefused → Option ℕ
table_number Tables.TheVariants.Short = Some 1
table_number Tables.TheVariants.Signature = Some 2
table_number Tables.TheVariants.Length = Some 3
table_number Tables.TheVariants.Sum = Some 4
table_number Tables.TheVariants.SourceType = Some 5
table_number Tables.TheVariants.SourceOut = Some 6
table_number Tables.TheVariants.RepeatedId = Some 7
table_number Tables.TheVariants.NoMemory = None

-- the number of a block's refusal
abbrev pub block_number : BlockRefused → ℕ
block_number Blocks.TheVariants.Short = 1
block_number Blocks.TheVariants.EntryOut = 2
block_number Blocks.TheVariants.Section = 3

-- The result is the expected one, unless memory ran out.
abbrev pub AnswersTable : {X : Type 0} → Result X TableRefused → Result X TableRefused → Type 0
AnswersTable (Ok value) answer = answer ≡ Ok value
AnswersTable (Err Tables.TheVariants.NoMemory) answer = Unit {0}
AnswersTable (Err why) answer = answer ≡ Err why
