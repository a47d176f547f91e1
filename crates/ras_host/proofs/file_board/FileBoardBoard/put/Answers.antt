use Rattle.std.proofs.Common.{refl}
use Rattle.erst_store.specs.DeviceLaws.{IsDevice}
use Rattle.ras_host.specs.Steps.Failures.{call_answer, put_answer}
use Rattle.ras_host.specs.Steps.Listed.{accesses_noted, disk_calls_noted}
use Rattle.std.proofs.lemmas.Result.{on_err_weaker, on_ok_weaker}
use Rattle.board_core.specs.Told.{AnswersPut, after_put}
use Rattle.erst_store.specs.Store.{refusal_of}
use Rattle.ras_host.proofs.BlameLemmas.{caused_device, put_here}
use Rattle.ras_host.proofs.ReadingLemmas.{reading_off}
use Rattle.ras_host.proofs.ToldLemmas.{device_kept, held_turned, may_turn_told, of_device, put_made, put_went, puts_saved, settled_turned, spared_then, stops_refused, store_stops, store_stored, told_refused, turned_told}
use Rattle.ras_host.proofs.file_board.FileBoardBoard.put.Goals as goal

pub returns-clause-answers : goal.returns-clause-answers
returns-clause-answers g c =
    let b = c.self.inside in
    let r = c.put-answer in
    rw c.counted_put.ensures.answer (rw (← c.self.view_is) (of_device (λ d. AnswersPut (put_answer r.result) (refusal_of c.args.id c.args.bytes.now d.store)) _ b.kept (disk_calls_noted b.disk_calls.calls) (accesses_noted b.accesses.calls) r.ensures.answers))

pub returns-clause-does : goal.returns-clause-does
returns-clause-does g c =
    let b = c.self.inside in
    let r = c.put-answer in
    let step = after_put c.args.id c.args.bytes.now in
    let calls = disk_calls_noted b.disk_calls.calls in
    let accesses = accesses_noted b.accesses.calls in
    rw c.counted_put.ensures.answer (rw (← c.self.view_is) (put_made c.args.id c.args.bytes.now (put_answer r.result) _ _
    (on_ok_weaker (put_answer r.result) (turned_told step _ _ b.kept r.new.self calls accesses) r.ensures.turned.ok)
    (on_err_weaker (put_answer r.result) (may_turn_told step _ _ b.kept r.new.self calls accesses) r.ensures.turned.err)
    (told_refused (put_answer r.result) _ _ b.kept r.new.self calls accesses r.ensures.refused)
    (store_stops step _ _ b.kept calls accesses r.ensures.turned.stops)
    (stops_refused (put_answer r.result) _ _ b.kept r.new.self r.ensures.refused)
    (put_went (put_answer r.result) _ _ r.ensures.puts
    (λ puts. store_stored _ _ b.kept r.new.self calls accesses accesses r.ensures.turned.saved (puts_saved c.args.id c.args.bytes.now (put_answer r.result) b.kept r.new.self puts)))
    (record { own = rw (← c.counted_put.ensures.answer) c.counted_put.ensures.cause; others = refl })))

pub returns-clause-device : goal.returns-clause-device
returns-clause-device g c =
    let b = c.self.inside in
    rw (← c.self.view_is) (of_device IsDevice _ b.kept (disk_calls_noted b.disk_calls.calls) (accesses_noted b.accesses.calls) (device_kept b.kept _ c.self.invariant.1))

pub invariant_of-self : goal.invariant_of-self
invariant_of-self g c =
    let b = c.self.inside in
    let r = c.put-answer in
    let turned = r.ensures.turned in (
      held_turned b.files (after_put c.args.id c.args.bytes.now) b.kept r.new.self (put_answer r.result) _ _ turned c.self.invariant.0,
      turned.in_step,
      settled_turned b.files b.kept r.new.self _ _ turned.saved c.self.invariant.2,
      caused_device g.U.Use.HOW b.files b.kept r.new.self _ _ _ _ _ _ (call_answer r.result) c.self.invariant.3 r.ensures.cause (put_here c.args.id c.args.bytes.now b.kept r.new.self r.result r.ensures.puts) c.counted_put.ensures.counts c.counted_put.ensures.refused,
      spared_then g.B.Found.past _ _ c.self.invariant.4 turned.spares,
      (λ is. reading_off b.kept r.new.self g.B.Found.past _ _ (c.self.invariant.5 is) r.ensures.off),
    )
