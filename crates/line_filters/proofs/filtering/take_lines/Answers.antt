use Rattle.std.proofs.Common.{◌≡◌, sym, ap, ◌∙◌}
use Rattle.ras_exit.specs.declared.exit.Exit.TheVariants.{PrintFault}
use Rattle.ras_exit.proofs.DeviceLemmas.{device_goes_on}
use Rattle.line_filters.specs.Steps.Filtering.{has_failed}
use Rattle.line_filters.proofs.BothLemmas.{failed_both, printed_both, unprinted_both}
use Rattle.line_filters.proofs.CallLemmas.{causes_of, causes_printed, causes_unprinted, takes_fault}
use Rattle.line_filters.proofs.PrintedLemmas.{not_all_printed, text_printed}
use Rattle.line_filters.proofs.filtering.take_lines.Goals as goal

pub gather-ended-requires : goal.gather-ended-requires
gather-ended-requires g c = record { begins = (c.requires.begins.0, c.requires.begins.1, c.new-waiting.ensures.items) }

-- ---- a call failed

pub returns-then-has_failed-clause-ends : goal.returns-then-has_failed-clause-ends
returns-then-has_failed-clause-ends g c = λ script t left told.
    failed_both (g.F.LineFilter.makes c.args.filter.now) script t (g.B.Board.seen c.args.board.now).clock c.exit_of-exit.result (g.F.LineFilter.makes c.gather-ended.new.filter) c.gather-ended.new.waiting.items c.gather-ended.new.lines.reader (g.S.Source.left c.gather-ended.new.source) (g.B.Board.seen c.gather-ended.new.board).told (g.B.Board.seen c.gather-ended.new.board).clock (sym c.has_failed.ensures ∙ c.if-has_failed.true) (rw c.exit_of-exit.ensures (c.gather-ended.ensures.ends script t left told))

pub returns-then-has_failed-clause-takes : goal.returns-then-has_failed-clause-takes
returns-then-has_failed-clause-takes g c = rw c.exit_of-exit.ensures c.gather-ended.ensures.takes

pub returns-then-has_failed-clause-few : goal.returns-then-has_failed-clause-few
returns-then-has_failed-clause-few g c = rw c.exit_of-exit.ensures c.gather-ended.ensures.few

pub returns-then-has_failed-clause-causes : goal.returns-then-has_failed-clause-causes
returns-then-has_failed-clause-causes g c = rw c.exit_of-exit.ensures (causes_of c.gather-ended.result _ _ _ _ c.gather-ended.ensures.causes)

-- ---- what waits was printed

pub returns-in-Ok-clause-ends : goal.returns-in-Ok-clause-ends
returns-in-Ok-clause-ends g c = λ script t left told.
    printed_both (g.F.LineFilter.makes c.args.filter.now) script t (g.B.Board.seen c.args.board.now).clock c.exit_of-exit.result (g.F.LineFilter.makes c.gather-ended.new.filter) c.gather-ended.new.waiting.items c.gather-ended.new.lines.reader g.B.Board.seen c.gather-ended.new.board c.print.new.board (g.S.Source.left c.gather-ended.new.source) (sym c.has_failed.ensures ∙ c.if-has_failed.false) (rw c.exit_of-exit.ensures (c.gather-ended.ensures.ends script t left told))
    (text_printed g.B.Board.seen c.gather-ended.new.board c.print.new.board c.gather-ended.new.waiting.items
    (rw (← c.deref.ensures.value) c.in-Ok.ensures.does) (rw (← c.deref.ensures.value) c.in-Ok.ensures.stops) (rw (← c.deref.ensures.value) c.in-Ok.ensures.printed))

pub returns-in-Ok-clause-takes : goal.returns-in-Ok-clause-takes
returns-in-Ok-clause-takes g c = rw c.exit_of-exit.ensures c.gather-ended.ensures.takes

pub returns-in-Ok-clause-few : goal.returns-in-Ok-clause-few
returns-in-Ok-clause-few g c = rw c.exit_of-exit.ensures c.gather-ended.ensures.few

pub returns-in-Ok-clause-causes : goal.returns-in-Ok-clause-causes
returns-in-Ok-clause-causes g c =
    rw c.exit_of-exit.ensures (causes_printed c.gather-ended.result _ _ _ _ _ c.gather-ended.ensures.causes c.in-Ok.ensures.does.faults)

pub returns-in-Ok-clause-device : goal.returns-in-Ok-clause-device
returns-in-Ok-clause-device g c = device_goes_on _ _ _ _ _ _ c.gather-ended.ensures.device c.in-Ok.ensures.device

-- ---- printing it failed

pub returns-clause-ends : goal.returns-clause-ends
returns-clause-ends g c = λ script t left told.
    unprinted_both (g.F.LineFilter.makes c.args.filter.now) script t (g.B.Board.seen c.args.board.now).clock c.exit_of-exit.result (g.F.LineFilter.makes c.gather-ended.new.filter) c.gather-ended.new.waiting.items c.gather-ended.new.lines.reader g.B.Board.seen c.in-Err.fault c.gather-ended.new.board c.print.new.board (g.S.Source.left c.gather-ended.new.source) (sym c.has_failed.ensures ∙ c.if-has_failed.false) (rw c.exit_of-exit.ensures (c.gather-ended.ensures.ends script t left told))
    (let same : c.in-Err.fault ≡ PrintFault = (let e = c.in-Err.ensures.exit in cc) in same)
    (not_all_printed g.B.Board.seen c.gather-ended.new.board c.print.new.board c.in-Err.fault c.gather-ended.new.waiting.items (rw (← c.deref.ensures.value) c.in-Err.ensures.does) (rw (← c.deref.ensures.value) c.in-Err.ensures.stops))

pub returns-clause-takes : goal.returns-clause-takes
returns-clause-takes g c = takes_fault c.in-Err.fault _ _ _ (let same : c.in-Err.fault ≡ PrintFault = (let e = c.in-Err.ensures.exit in cc) in same) c.gather-ended.ensures.takes

pub returns-clause-few : goal.returns-clause-few
returns-clause-few g c =
    let same : c.in-Err.fault ≡ PrintFault = (let e = c.in-Err.ensures.exit in cc) in
    (c.gather-ended.ensures.few.0, rw same tt)

pub returns-clause-causes : goal.returns-clause-causes
returns-clause-causes g c =
    let same : c.in-Err.fault ≡ PrintFault = (let e = c.in-Err.ensures.exit in cc) in
    rw same
    (causes_unprinted c.gather-ended.result _ _ _ _ _ (sym (ap has_failed c.exit_of-exit.ensures) ∙ sym c.has_failed.ensures ∙ c.if-has_failed.false) c.gather-ended.ensures.few.1 c.gather-ended.ensures.causes c.in-Err.ensures.does.faults)

pub returns-clause-device : goal.returns-clause-device
returns-clause-device g c = device_goes_on _ _ _ _ _ _ c.gather-ended.ensures.device c.in-Err.ensures.device
