-- The numbers at the front of a checkpoint, as the code stores them.
use Rattle.journal_format.specs.CheckpointReading.{CheckpointFront}
use Rattle.journal_format.specs.declared.row_reading.CheckpointFront as code

-- the numbers in the order in which they are read
abbrev pub front_of : code.CheckpointFront → CheckpointFront
front_of front = (front.limit, (front.module_limit, (front.entries, front.floor)))
