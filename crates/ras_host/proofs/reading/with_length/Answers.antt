use Rattle.std.proofs.Common.{arith}
use Rattle.ras_host.proofs.ReadLemmas.{told_found, told_short}
use Rattle.ras_host.proofs.reading.with_length.Goals as goal

pub returns-then-length-lt-MOST_READ-clause-read : goal.returns-then-length-lt-MOST_READ-clause-read
returns-then-length-lt-MOST_READ-clause-read g c =
    let size = c.len-length.ensures in
    let short = c.if-length-lt-MOST_READ.true in
    told_short c.args.file (record { length = c.len-length.result; bytes = c.args.bytes }) _ (omega arith) (omega arith) c.requires

pub returns-clause-read : goal.returns-clause-read
returns-clause-read g c =
    told_found c.args.file (record { length = c.in_ok-length.length; bytes = c.args.bytes }) c.in_ok-found.found _ c.ok_or.result _
    c.ok_or.ensures.value c.in_ok-length.was c.in_ok-found.ensures.found c.requires
