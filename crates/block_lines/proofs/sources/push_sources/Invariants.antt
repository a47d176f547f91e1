-- The sources so far were appended.
use Rattle.std.proofs.Common.{◌≡◌, ◌++◌, take}
use Rattle.std.specs.List.{flat_map}
use Rattle.block_lines.specs.Sources.{source_bytes}
use Rattle.block_lines.proofs.sources.push_sources.Given as goal

abbrev pub invariant-loop-source : goal.invariant-loop-source
invariant-loop-source l = l.bytes.items ≡ l.fn.bytes.items ++ flat_map source_bytes (take l.source-index l.sources)
