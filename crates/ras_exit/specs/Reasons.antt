-- The word and the number that are printed as the reason why a line is rejected.
use Rattle.std.specs.Prelude.{ℕ, List, [], ◌++◌, Option, None, Some, codes, decimal}
use Rattle.std.specs.Option.{option_map_or}
use Rattle.apei_sources.specs.Refusals.{block_number, table_number}
use Rattle.dimm_topology.specs.Refusals.{topology_number}
use Rattle.erst_interp.specs.Refusals.{erst_number}
use Rattle.erst_store.specs.declared.store.PutRefused.{PutRefused}
use Rattle.erst_store.specs.declared.store.PutRefused.TheVariants as put
use Rattle.ras_panic.specs.declared.making.PanicRefused.{PanicRefused}
use Rattle.ras_panic.specs.declared.making.PanicRefused.TheVariants as panics
use Rattle.ras_script.specs.Refusals.{line_number}
use Rattle.ras_exit.specs.declared.reason.Reason.{Reason}
use Rattle.ras_exit.specs.declared.reason.Reason.TheVariants.{Line, LongLine, Topology, Hest, Bert, Block, Source, Erst, Put, Panic}

-- the word for the reader that rejects the line
abbrev pub reason_word : Reason → List ℕ
reason_word (Line why) = codes "line"
reason_word LongLine = codes "line"
reason_word (Topology why) = codes "topology"
reason_word (Hest why) = codes "hest"
reason_word (Bert why) = codes "bert"
reason_word (Block why) = codes "block"
reason_word Source = codes "source"
reason_word (Erst why) = codes "erst"
reason_word (Put why) = codes "put"
reason_word (Panic why) = codes "panic"

-- The numbers of refusals by the record store, and of refusals to make a panic record. Running out of memory has no
-- number.
abbrev pub put_number : PutRefused → Option ℕ
put_number put.ReservedId = Some 1
put_number put.TooLong = Some 2
put_number put.StoreFull = Some 3
put_number put.NoMemory = None

abbrev pub panic_number : PanicRefused → ℕ
panic_number panics.ReservedId = 1
panic_number panics.NotValid = 2

-- the number of the refusal, if the reader gives one
abbrev pub reason_number : Reason → Option ℕ
reason_number (Line why) = line_number why
reason_number LongLine = Some 5
reason_number (Topology why) = topology_number why
reason_number (Hest why) = table_number why
reason_number (Bert why) = table_number why
reason_number (Block why) = Some (block_number why)
reason_number Source = None
reason_number (Erst why) = erst_number why
reason_number (Put why) = put_number why
reason_number (Panic why) = Some (panic_number why)

-- the word, and the number after a point
abbrev pub reason_text : Reason → List ℕ
reason_text why = reason_word why ++ option_map_or (λ number. codes "." ++ decimal number) (reason_number why) []
