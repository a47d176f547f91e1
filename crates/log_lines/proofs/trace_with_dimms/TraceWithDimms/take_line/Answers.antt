use Rattle.std.proofs.Common.{◌≡◌, ℕ, List, ◌++◌, Option, OnOk, ap, subst, ◌∙◌}
use Rattle.ras_script.specs.Inputs.{line}
use Rattle.log_lines.specs.Dimms.{DimmsState, Part, heard, part_at, part_text, range_told, slot_line}
use Rattle.log_lines.specs.TraceFeed.{TraceFeedState, trace_after, trace_text, trace_waits}
use Rattle.log_lines.specs.TraceWithDimms.{TraceDimmsState, trace_dimms_after, trace_saying, trace_told}
use Rattle.log_lines.proofs.DimmLemmas.{after_is, part_is, told_to_listener}
use Rattle.log_lines.proofs.JoinLemmas.{on_ok}
use Rattle.log_lines.proofs.trace_with_dimms.TraceWithDimms.take_line.Goals as goal

pub returns-clause-text : goal.returns-clause-text
returns-clause-text c =
    let bytes : List ℕ = c.args.bytes.now in
    let feed : TraceFeedState = c.self.inside.feed in
    let told : Option (ℕ × List ℕ) = trace_told feed bytes in
    let said : c.deref.result.now ≡ trace_text feed (line bytes) =
    c.deref.ensures.value ∙ c.in_ok-waits.ensures.text ∙ ap (λ (text : List ℕ). text ++ trace_text feed (line bytes)) c.new-said.ensures.items in
    subst (λ (state : TraceDimmsState). OnOk c.pass.result (c.pass.new.text.items ≡ c.args.text.now.items ++ part_text (part_at state.dimms (trace_saying state.feed (line bytes))))) c.self.view_is
    (on_ok c.pass.result c.pass.ensures.text (λ out.
    out ∙ ap (λ (part : Part). c.args.text.now.items ++ part_text part)
    (part_is c.hear.new.self (heard c.self.inside.dimms (slot_line bytes)) _ told c.deref.result.now (trace_text feed (line bytes)) c.in_ok-waits.waits (trace_waits feed bytes)
    (ap (range_told c.hear.new.self) c.told-told.ensures ∙ told_to_listener c.hear.new.self told) c.in_ok-hear.ensures said c.in_ok-waits.ensures.waits)))

pub returns-clause-after : goal.returns-clause-after
returns-clause-after c =
    let bytes : List ℕ = c.args.bytes.now in
    let feed : TraceFeedState = c.self.inside.feed in
    let told : Option (ℕ × List ℕ) = trace_told feed bytes in
    let said : c.deref.result.now ≡ trace_text feed (line bytes) =
    c.deref.ensures.value ∙ c.in_ok-waits.ensures.text ∙ ap (λ (text : List ℕ). text ++ trace_text feed (line bytes)) c.new-said.ensures.items in
    let with_feed : TraceFeedState → DimmsState → TraceDimmsState = (λ feed dimms. record { feed = feed; dimms = dimms }) in
    on_ok c.pass.result c.pass.ensures.after (λ after.
    subst (λ (state : TraceDimmsState). with_feed c.take_line.new.self c.pass.new.self ≡ trace_dimms_after state (line bytes)) c.self.view_is
    (ap (λ (x : TraceFeedState). with_feed x c.pass.new.self) c.in_ok-waits.ensures.after
    ∙ ap (with_feed (trace_after feed (line bytes))) (after
    ∙ after_is c.hear.new.self (heard c.self.inside.dimms (slot_line bytes)) _ told c.deref.result.now (trace_text feed (line bytes)) c.in_ok-waits.waits (trace_waits feed bytes)
    (ap (range_told c.hear.new.self) c.told-told.ensures ∙ told_to_listener c.hear.new.self told) c.in_ok-hear.ensures said c.in_ok-waits.ensures.waits)))
