-- The model of a board over a system. It exists if the system is modelled.
use Rattle.std.specs.Prelude.{Option}
use Rattle.std.specs.Option.{option_map}
use Rattle.board_core.specs.Clock.{Clock}
use Rattle.board_core.specs.Doing.{Seen}
use Rattle.board_core.specs.Stop.{Left}
use Rattle.board_core.specs.Told.{Told}
use Rattle.host_system.specs.View.{told_over, clock_over}
use Rattle.ras_host.specs.BoardState.{BoardState}
use Rattle.ras_host.specs.Steps.KeptDevice.{volatile_in}
use Rattle.ras_host.specs.Steps.Listed.{disk_calls_noted, accesses_noted}

-- the board's model, given what it sees of the folder
abbrev pub told_with : BoardState → Left → Told
told_with b here = record {
  here = here;
  volatile = volatile_in b.kept here.store;
  disk_calls = disk_calls_noted b.disk_calls;
  accesses = accesses_noted b.accesses;
}

abbrev pub told_of : BoardState → Option Told
told_of b = option_map (told_with b) (told_over b.past)

-- the board's clock
abbrev pub clock_of : BoardState → Clock
clock_of b = clock_over b.past

-- the board as contracts see it
abbrev pub seen_of : BoardState → Seen
seen_of b = record { told = told_of b; clock = clock_of b; faults = b.faults }
