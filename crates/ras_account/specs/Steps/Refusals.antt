-- How a refused row is reported.
use Rattle.row_tables.specs.declared.row_table.RowRefused.{RowRefused}
use Rattle.row_tables.specs.declared.row_table.RowRefused.TheVariants.{Repeated, NoMemory}
use Rattle.ras_account.specs.declared.rebuilding.PushRefused.{PushRefused}
use Rattle.ras_account.specs.declared.rebuilding.PushRefused as Push

-- the refusal of a name or of a module's row, if its table refuses it
abbrev pub push_refused : RowRefused → PushRefused
push_refused Repeated = Push.TheVariants.Repeated
push_refused NoMemory = Push.TheVariants.NoMemory
