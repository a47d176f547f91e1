use Rattle.std.proofs.Common.{◌≡◌, ◌-◌, ◌+◌, ◌<◌, ℕ, zero, suc, List, [], ◌∷◌, Some, inl, refl, sym, ap, subst, arith, get_or, length}
use Rattle.std.specs.Prelude.{Ok, Err, slice_get}
use Rattle.std.proofs.lemmas.Option.{slice_get_past}
use Rattle.std.proofs.lemmas.Result.{err_from_is_err_and}
use Rattle.board_core.specs.Doing.{Seen}
use Rattle.erst_interp.specs.declared.entries.InstructionEntry.{InstructionEntry}
use Rattle.erst_interp.specs.declared.machine.Variables.{Variables}
use Rattle.erst_interp.specs.declared.refusals.RunRefused.TheVariants.{Fuel}
use Rattle.erst_interp.specs.Machine.{most_turns}
use Rattle.erst_interp.proofs.AdmittedRunLemmas.{acts_as, runs_as}
use Rattle.erst_interp.proofs.ReachLemmas.{Reaches, admitted_uses, device_failed, reaches_end, reaches_failed, reaches_next}
use Rattle.erst_interp.proofs.RunLemmas.{Way, run_ended, run_out, run_refused, way_begins, way_on}
use Rattle.erst_interp.proofs.StraightLemmas.{admitted_straight, at_place, refused_alone}
use Rattle.erst_interp.proofs.table.Table.run.Goals as goal

found : (list : List InstructionEntry) (i : ℕ) (e : InstructionEntry) → i < length list → e ≡ get_or list i e → slice_get list i ≡ Some e
found [] i e inside is = absurd (omega (arith, inside))
found (x ∷ xs) zero e inside is = ap (λ (y : InstructionEntry). Some y) (sym is)
found (x ∷ xs) (suc i) e inside is = found xs i e (omega (arith, inside)) is

-- This many turns are left.
left_as : (list : List InstructionEntry) (turns left input : ℕ) (v : Variables) (a b : Seen) → turns ≡ left → Way list turns input v a b → Way list left input v a b
left_as list turns left input v a b is way = subst (λ (n : ℕ). Way list n input v a b) is way

pub loop-init : goal.loop-init
loop-init g c =
    let see = g.B.Board.seen in
    let list = c.list-list.result.now in
    rw c.new-variables.ensures (record {
      way = way_begins list c.args.input (see c.args.board.now);
      straight = λ are. refl;
      reached = λ are. inl (record { same = refl; unused = refl });
    })

pub loop-preserved : goal.loop-preserved
loop-preserved g c =
    let see = g.B.Board.seen in
    let list = c.list-list.result.now in
    let v = c.loop.variables in
    let w = c.in_ok-variables.variables in
    let e = c.in-Some.entry.now in
    let a = see c.args.board.now in
    let b = see c.loop.board in
    let next : slice_get list v.index ≡ Some e = found list v.index e c.in-Some.ensures.lookup.3.0 c.in-Some.ensures.lookup.1 in
    let left : most_turns - c.loop.counter ≡ suc (most_turns - (c.loop.counter + 1)) = omega (arith, c.loop-test.true) in
    let way = left_as list (most_turns - c.loop.counter) (suc (most_turns - (c.loop.counter + 1))) c.args.input v a b left c.loop.invariant.way in
    record {
      way = way_on list c.args.input a b (most_turns - (c.loop.counter + 1)) e v (see c.turn.new.board) next way w c.in_ok-variables.ensures.turns;
      straight = λ are. (let here = c.loop.invariant.straight are in let on = c.in_ok-variables.ensures.straight (at_place list v.index e next are) in omega (arith, here, on));
      reached = λ are. (let on = c.in_ok-variables.ensures.straight (at_place list v.index e next are) in
          subst (λ (i : ℕ). Reaches list i a.told (g.B.Board.seen c.turn.new.board).told) (omega (arith, on))
          (reaches_next list v.index e (Ok w) a.told b.told (g.B.Board.seen c.turn.new.board).told next (c.loop.invariant.reached are) c.in_ok-variables.ensures.device));
    }

pub returns-in_default-clause-runs : goal.returns-in_default-clause-runs
returns-in_default-clause-runs g c =
    let see = g.B.Board.seen in
    let list = c.list-list.result.now in
    let v = c.loop.variables in
    let a = see c.args.board.now in
    let b = see c.loop.board in
    runs_as list _ c.list-list.ensures c.args.input (Ok v.value) a b (run_ended list c.args.input a b (most_turns - c.loop.counter) v (slice_get_past list v.index c.in_default.ensures.lookup.3) c.loop.invariant.way)

pub returns-in_default-clause-admitted : goal.returns-in_default-clause-admitted
returns-in_default-clause-admitted g c =
    let see = g.B.Board.seen in
    let list = c.list-list.result.now in
    let v = c.loop.variables in
    let a = see c.args.board.now in
    let b = see c.loop.board in
    acts_as list _ c.list-list.ensures c.args.input (Ok v.value) a b (run_ended list c.args.input a b (most_turns - c.loop.counter) v (slice_get_past list v.index c.in_default.ensures.lookup.3) c.loop.invariant.way)
    c.args.action (omega (arith, c.ranges.action.fits)) (λ is. tt)
    (λ is. reaches_end list v.index a.told b.told (c.loop.invariant.reached (admitted_straight c.args.action list is)) c.in_default.ensures.lookup.3 (admitted_uses c.args.action list is))

pub returns-in-None-clause-runs : goal.returns-in-None-clause-runs
returns-in-None-clause-runs g c =
    let see = g.B.Board.seen in
    let list = c.list-list.result.now in
    let v = c.loop.variables in
    let a = see c.args.board.now in
    let b = see c.loop.board in
    runs_as list _ c.list-list.ensures c.args.input (Ok v.value) a b (run_ended list c.args.input a b (most_turns - c.loop.counter) v (slice_get_past list v.index c.in-None.ensures.lookup.3) c.loop.invariant.way)

pub returns-in-None-clause-admitted : goal.returns-in-None-clause-admitted
returns-in-None-clause-admitted g c =
    let see = g.B.Board.seen in
    let list = c.list-list.result.now in
    let v = c.loop.variables in
    let a = see c.args.board.now in
    let b = see c.loop.board in
    acts_as list _ c.list-list.ensures c.args.input (Ok v.value) a b (run_ended list c.args.input a b (most_turns - c.loop.counter) v (slice_get_past list v.index c.in-None.ensures.lookup.3) c.loop.invariant.way)
    c.args.action (omega (arith, c.ranges.action.fits)) (λ is. tt)
    (λ is. reaches_end list v.index a.told b.told (c.loop.invariant.reached (admitted_straight c.args.action list is)) c.in-None.ensures.lookup.3 (admitted_uses c.args.action list is))

pub returns-in-Some-get-clause-runs : goal.returns-in-Some-get-clause-runs
returns-in-Some-get-clause-runs g c =
    let see = g.B.Board.seen in
    let list = c.list-list.result.now in
    let v = c.loop.variables in
    let e = c.in-Some-get.field-0.now in
    let a = see c.args.board.now in
    let b = see c.loop.board in
    let left : most_turns - c.loop.counter ≡ zero = omega (arith, c.loop-test.false) in
    runs_as list _ c.list-list.ensures c.args.input (Err Fuel) a b
    (run_out list c.args.input a b e v (found list v.index e c.in-Some-get.ensures.lookup.3.0 c.in-Some-get.ensures.lookup.1) (left_as list (most_turns - c.loop.counter) zero c.args.input v a b left c.loop.invariant.way))

pub returns-in-Some-get-clause-admitted : goal.returns-in-Some-get-clause-admitted
returns-in-Some-get-clause-admitted g c = λ is_here.
    let list = c.list-list.result.now in
    let is = rw (sym c.list-list.ensures) at is_here in
    let here = c.loop.invariant.straight (admitted_straight c.args.action list is) in
    let short = is.short in
    absurd (omega (arith, here, short, c.loop-test.false, c.in-Some-get.ensures.lookup.3.0))

pub returns-in_err-variables-clause-runs : goal.returns-in_err-variables-clause-runs
returns-in_err-variables-clause-runs g c =
    let see = g.B.Board.seen in
    let list = c.list-list.result.now in
    let v = c.loop.variables in
    let e = c.in-Some.entry.now in
    let why = c.in_err-variables.field-0.0 in
    let a = see c.args.board.now in
    let b = see c.loop.board in
    let d = see c.turn.new.board in
    let next : slice_get list v.index ≡ Some e = found list v.index e c.in-Some.ensures.lookup.3.0 c.in-Some.ensures.lookup.1 in
    let left : most_turns - c.loop.counter ≡ suc (most_turns - suc c.loop.counter) = omega (arith, c.loop-test.true) in
    let p = err_from_is_err_and c.from_residual.result c.from_residual.ensures.1 in
    rw (p.1, p.2) (runs_as list _ c.list-list.ensures c.args.input (Err why) a d
    (run_refused list c.args.input a b (most_turns - suc c.loop.counter) e v d next (left_as list (most_turns - c.loop.counter) (suc (most_turns - suc c.loop.counter)) c.args.input v a b left c.loop.invariant.way)
    why c.in_err-variables.ensures.turns))

pub returns-in_err-variables-clause-admitted : goal.returns-in_err-variables-clause-admitted
returns-in_err-variables-clause-admitted g c =
    let see = g.B.Board.seen in
    let list = c.list-list.result.now in
    let v = c.loop.variables in
    let e = c.in-Some.entry.now in
    let why = c.in_err-variables.field-0.0 in
    let a = see c.args.board.now in
    let b = see c.loop.board in
    let d = see c.turn.new.board in
    let next : slice_get list v.index ≡ Some e = found list v.index e c.in-Some.ensures.lookup.3.0 c.in-Some.ensures.lookup.1 in
    let left : most_turns - c.loop.counter ≡ suc (most_turns - suc c.loop.counter) = omega (arith, c.loop-test.true) in
    let p = err_from_is_err_and c.from_residual.result c.from_residual.ensures.1 in
    rw (p.1, p.2) (acts_as list _ c.list-list.ensures c.args.input (Err why) a d
    (run_refused list c.args.input a b (most_turns - suc c.loop.counter) e v d next (left_as list (most_turns - c.loop.counter) (suc (most_turns - suc c.loop.counter)) c.args.input v a b left c.loop.invariant.way)
    why c.in_err-variables.ensures.turns)
    c.args.action (omega (arith, c.ranges.action.fits))
    (λ is. refused_alone v why (c.in_err-variables.ensures.straight (at_place list v.index e next (admitted_straight c.args.action list is))))
    (λ is. reaches_failed list v.index a.told b.told (c.loop.invariant.reached (admitted_straight c.args.action list is))
    (device_failed e why b.told d.told (refused_alone v why (c.in_err-variables.ensures.straight (at_place list v.index e next (admitted_straight c.args.action list is)))) c.in_err-variables.ensures.device)))
