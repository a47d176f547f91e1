use Rattle.std.proofs.Common.{◌≡◌, ◌+◌, ◌-◌, ◌≤◌, ◌∙◌, length, arith, length-drop, length-take, ℕ}
use Rattle.bank_lines.proofs.saved.ReadingLemmas.{holds_on, long_on, reads_all}
use Rattle.bank_lines.proofs.saved.printing.read_front.Goals as goal

pub loop-count-preserved : goal.loop-count-preserved
loop-count-preserved g c =
    let l = c.loop-count in
    let piece = c.read.new.buf in
    let size : length piece ≡ length l.buffer - l.count = omega (arith, c.read.auto.buf, length-take {A = ℕ}, length-drop {A = ℕ}, l.invariant.long, l.invariant.room) in
    let room : l.count + c.in_ok-read.read ≤ 129 = omega (arith, c.in_ok-read.ensures.within, length-take {A = ℕ}, length-drop {A = ℕ}, l.invariant.long, l.invariant.room) in
    record {
      room = room;
      long = long_on l.count (129 - l.count) l.buffer piece (omega (arith, l.invariant.long, l.invariant.room)) size (omega (arith, l.invariant.long)) ∙ l.invariant.long;
      holds = holds_on l.count c.in_ok-read.read (129 - l.count) l.buffer piece (g.S.Source.left c.args.source.now) (g.S.Source.left l.source) (g.S.Source.left c.read.new.self) l.invariant.holds
          (omega (arith, l.invariant.long, l.invariant.room)) room (omega (arith, c.in_ok-read.ensures.within, size, length-take {A = ℕ}, length-drop {A = ℕ}, l.invariant.long)) c.in_ok-read.ensures.taken;
      faults = c.in_ok-read.ensures.cause.same ∙ l.invariant.faults;
    }

pub returns-then-read-eq0-clause-reads : goal.returns-then-read-eq0-clause-reads
returns-then-read-eq0-clause-reads g c =
    let l = c.loop-count in
    reads_all l.count c.in_ok-read.read (129 - l.count) l.buffer c.read.new.buf (g.S.Source.left c.args.source.now) (g.S.Source.left l.source) (g.S.Source.left c.read.new.self) l.invariant.holds
    (omega (arith, l.invariant.long, l.invariant.room)) c.if-read-eq0.true c.in_ok-read.ensures.taken
