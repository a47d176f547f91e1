use Rattle.std.proofs.Common.{◌≡◌, ℕ, List, OnOk, subst, sym}
use Rattle.line_filters.specs.Feed.{TookInput, input_in}
use Rattle.line_filters.specs.declared.input_filter.InputLine.{InputLine}
use Rattle.ras_script.specs.Inputs.{Input, line, long}
use Rattle.log_lines.specs.LogWithDimms.{LogDimmsState, log_dimms_after, log_dimms_makes}
use Rattle.log_lines.proofs.JoinLemmas.{on_both}
use Rattle.log_lines.proofs.TookLemmas.{log_took}
use Rattle.log_lines.proofs.log_with_dimms.LogWithDimmsInputFilter.take.Goals as goal

-- the filter took an input after which it goes on
took : (state now : LogDimmsState) (input : Input) (old new : List ℕ) → now ≡ log_dimms_after state input
    → TookInput input (log_dimms_makes state) (log_dimms_makes (log_dimms_after state input)) old new
    → TookInput input (log_dimms_makes state) (log_dimms_makes now) old new
took state now input old new after did =
    subst (λ (s : LogDimmsState). TookInput input (log_dimms_makes state) (log_dimms_makes s) old new) (sym after) did

pub returns-in-Line-clause-takes : goal.returns-in-Line-clause-takes
returns-in-Line-clause-takes c =
    let old : List ℕ = c.args.text.now.items in
    let new : List ℕ = c.take_line.new.text.items in
    let input : Input = line c.in-Line.line.now in
    subst (λ (given : InputLine). OnOk c.take_line.result (TookInput (input_in given) (log_dimms_makes c.args.self.now) (log_dimms_makes c.take_line.new.self) old new))
    (sym c.in-Line.is)
    (on_both c.take_line.result c.take_line.ensures.text c.take_line.ensures.after (λ text after.
    took c.args.self.now c.take_line.new.self input old new after (log_took c.args.self.now input old new c.requires.few text)))

pub returns-in-Long-clause-takes : goal.returns-in-Long-clause-takes
returns-in-Long-clause-takes c =
    let old : List ℕ = c.args.text.now.items in
    let new : List ℕ = c.take_long.new.text.items in
    subst (λ (given : InputLine). OnOk c.take_long.result (TookInput (input_in given) (log_dimms_makes c.args.self.now) (log_dimms_makes c.take_long.new.self) old new))
    (sym c.in-Long.is)
    (on_both c.take_long.result c.take_long.ensures.text c.take_long.ensures.after (λ text after.
    took c.args.self.now c.take_long.new.self long old new after (log_took c.args.self.now long old new c.requires.few text)))
