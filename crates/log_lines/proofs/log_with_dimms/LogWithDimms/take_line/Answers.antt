use Rattle.std.proofs.Common.{◌≡◌, ℕ, Bool, List, ◌++◌, Option, OnOk, ap, subst, ◌∙◌}
use Rattle.ras_script.specs.Inputs.{line}
use Rattle.log_lines.specs.Dimms.{DimmsState, Part, heard, listens, part_at, part_text, range_told, slot_line}
use Rattle.log_lines.specs.LogDimm.{told_after_if, told_if}
use Rattle.log_lines.specs.LogFeed.{LogFeedState, log_after, log_text, log_waits}
use Rattle.log_lines.specs.LogWithDimms.{LogDimmsState, listens_to, log_dimms_after, log_saying}
use Rattle.log_lines.specs.declared.log_dimm.ToldInLog.{ToldInLog}
use Rattle.log_lines.proofs.DimmLemmas.{after_is, part_is}
use Rattle.log_lines.proofs.JoinLemmas.{on_ok}
use Rattle.log_lines.proofs.log_with_dimms.LogWithDimms.take_line.Goals as goal

pub returns-clause-text : goal.returns-clause-text
returns-clause-text c =
    let bytes : List ℕ = c.args.bytes.now in
    let feed : LogFeedState = c.self.inside.feed in
    let listening : c.listens-listening.result ≡ listens_to c.self.inside.dimms bytes = c.listens-listening.ensures ∙ ap listens c.in_ok-hear.ensures in
    let told : Option (ℕ × List ℕ) = told_if (listens_to c.self.inside.dimms bytes) c.self.inside.told bytes in
    let said : c.deref.result.now ≡ log_text feed (line bytes) =
    c.deref.ensures.value ∙ c.in_ok-waits.ensures.text ∙ ap (λ (text : List ℕ). text ++ log_text feed (line bytes)) c.new-said.ensures.items in
    subst (λ (state : LogDimmsState). OnOk c.pass.result (c.pass.new.text.items ≡ c.args.text.now.items ++ part_text (part_at state.dimms (log_saying state (line bytes))))) c.self.view_is
    (on_ok c.pass.result c.pass.ensures.text (λ out.
    out ∙ ap (λ (part : Part). c.args.text.now.items ++ part_text part)
    (part_is c.hear.new.self (heard c.self.inside.dimms (slot_line bytes)) _ told c.deref.result.now (log_text feed (line bytes)) c.in_ok-waits.waits (log_waits feed bytes)
    (ap (range_told c.hear.new.self) (c.take_if-told.ensures.told ∙ ap (λ (is : Bool). told_if is c.self.inside.told bytes) listening)) c.in_ok-hear.ensures said c.in_ok-waits.ensures.waits)))

pub returns-clause-after : goal.returns-clause-after
returns-clause-after c =
    let bytes : List ℕ = c.args.bytes.now in
    let feed : LogFeedState = c.self.inside.feed in
    let listening : c.listens-listening.result ≡ listens_to c.self.inside.dimms bytes = c.listens-listening.ensures ∙ ap listens c.in_ok-hear.ensures in
    let told : Option (ℕ × List ℕ) = told_if (listens_to c.self.inside.dimms bytes) c.self.inside.told bytes in
    let said : c.deref.result.now ≡ log_text feed (line bytes) =
    c.deref.ensures.value ∙ c.in_ok-waits.ensures.text ∙ ap (λ (text : List ℕ). text ++ log_text feed (line bytes)) c.new-said.ensures.items in
    let state_of : LogFeedState → ToldInLog → DimmsState → LogDimmsState = (λ feed told dimms. record { feed = feed; told = told; dimms = dimms }) in
    on_ok c.pass.result c.pass.ensures.after (λ after.
    subst (λ (state : LogDimmsState). state_of c.take_line.new.self c.take_if-told.new.self c.pass.new.self ≡ log_dimms_after state (line bytes)) c.self.view_is
    (ap (λ (x : LogFeedState). state_of x c.take_if-told.new.self c.pass.new.self) c.in_ok-waits.ensures.after
    ∙ ap (λ (x : ToldInLog). state_of (log_after feed (line bytes)) x c.pass.new.self)
    (c.take_if-told.ensures.after ∙ ap (λ (is : Bool). told_after_if is c.self.inside.told bytes) listening)
    ∙ ap (state_of (log_after feed (line bytes)) (told_after_if (listens_to c.self.inside.dimms bytes) c.self.inside.told bytes)) (after
    ∙ after_is c.hear.new.self (heard c.self.inside.dimms (slot_line bytes)) _ told c.deref.result.now (log_text feed (line bytes)) c.in_ok-waits.waits (log_waits feed bytes)
    (ap (range_told c.hear.new.self) (c.take_if-told.ensures.told ∙ ap (λ (is : Bool). told_if is c.self.inside.told bytes) listening)) c.in_ok-hear.ensures said c.in_ok-waits.ensures.waits)))
