-- The bytes so far.
use Rattle.std.proofs.Common.{◌≡◌, ◌++◌, map, take}
use Rattle.log_lines.specs.Comments.{shown_byte}
use Rattle.log_lines.proofs.comments.push_shown.Given as goal

abbrev pub invariant-loop-byte : goal.invariant-loop-byte
invariant-loop-byte l = l.shown.items ≡ l.fn.shown.items ++ map shown_byte (take l.byte-index l.bytes)
