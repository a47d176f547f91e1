use Rattle.std.proofs.Common.{◌≡◌, ◌++◌, ◌∙◌, sym, subst, OnOk}
use Rattle.block_lines.specs.Filter.{BlockProgress}
use Rattle.event_lines.specs.Driver.{any_event_of}
use Rattle.event_lines.specs.Filter.{after_by, event_text_by}
use Rattle.event_lines.proofs.FilterLemmas.{absent_after, absent_text}
use Rattle.event_lines.proofs.filter.ReportFilter.take_line.Goals as goal

pub returns-in-Absent-clause-text : goal.returns-in-Absent-clause-text
returns-in-Absent-clause-text c =
    subst (λ (p : BlockProgress). OnOk c.take_line.result (c.take_line.new.text.items ≡ c.args.text.now.items ++ event_text_by p c.args.line.now (any_event_of c.args.drivers c.args.line.now))) c.self.view_is
    (absent_text c.take_line.result c.self.inside.log c.args.line.now c.args.text.now.items c.take_line.new.text.items (any_event_of c.args.drivers c.args.line.now)
    (sym c.any_event.ensures ∙ c.in-Absent.is) c.take_line.ensures.text)

pub returns-in-Absent-clause-after : goal.returns-in-Absent-clause-after
returns-in-Absent-clause-after c =
    subst (λ (p : BlockProgress). OnOk c.take_line.result (c.take_line.new.self ≡ after_by p c.args.line.now (any_event_of c.args.drivers c.args.line.now))) c.self.view_is
    (absent_after c.take_line.result c.self.inside.log c.take_line.new.self c.args.line.now (any_event_of c.args.drivers c.args.line.now)
    (sym c.any_event.ensures ∙ c.in-Absent.is) c.take_line.ensures.after)
