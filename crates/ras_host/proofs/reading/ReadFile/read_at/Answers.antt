use Rattle.std.proofs.Common.{arith, refl, ◌∙◌}
use Rattle.ras_host.specs.JournalFiles.{most_read}
use Rattle.ras_host.proofs.ReadLemmas.{reads_found}
use Rattle.ras_host.proofs.reading.ReadFile.read_at.Goals as goal

pub returns-then-count-eq0-clause-read : goal.returns-then-count-eq0-clause-read
returns-then-count-eq0-clause-read c = λ file is. (let size = is.size in let left = c.saturating_sub-left.ensures in let count = c.min-count.ensures in let zero = c.if-count-eq0.true in record { count = omega arith; bytes = refl })

pub returns-clause-read : goal.returns-clause-read
returns-clause-read c = λ file is.
    (let found = c.in-Some.ensures.lookup.0 in
    let size = is.size in
    let left = c.saturating_sub-left.ensures in
    let count = c.min-count.ensures in
    reads_found c.args.place c.min-count.result most_read c.args.buf.now c.in-Some.found.now c.copy_from_slice.new.self
    c.deref.result.now file (c.deref.ensures.value ∙ is.items) found.1 found.2 found.3 c.copy_from_slice.ensures.after
    (omega arith) (omega arith))
