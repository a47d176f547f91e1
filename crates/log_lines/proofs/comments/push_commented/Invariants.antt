-- What is written, with the rest as it will be, is the whole.
use Rattle.std.proofs.Common.{◌≡◌, ◌++◌, drop}
use Rattle.log_lines.specs.Comments.{commented, with_shown}
use Rattle.log_lines.proofs.comments.push_commented.Given as goal

abbrev pub invariant-loop-byte : goal.invariant-loop-byte
invariant-loop-byte l =
    l.text.items ++ commented l.shown l.begins l.inside (drop l.byte-index l.said)
    ≡ l.fn.text.items ++ with_shown l.shown l.said
