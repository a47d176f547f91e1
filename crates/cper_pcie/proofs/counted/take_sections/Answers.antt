use Rattle.std.proofs.Common.{List, sym, ap, ◌∙◌}
use Rattle.cper_pcie.specs.Reports.{Found}
use Rattle.cper_pcie.specs.Steps.Filtering.{sections_in}
use Rattle.cper_pcie.proofs.ReportLemmas.{took-next, took-same}
use Rattle.cper_pcie.proofs.counted.take_sections.Goals as goal
use Rattle.cper_pcie.proofs.counted.take_sections.Goals.{then-is_pcie+in_ok-take_section, else-is_pcie}

pub loop-i-preserved : goal.loop-i-preserved
loop-i-preserved c =
    let found : List Found = sections_in c.args.sections.now in
    let section : Found = record { guid = c.get-section.result.guid; severity = c.get-section.result.severity; bytes = c.get-section.result.bytes.now } in
    elim c.if-is_pcie.branch [
      | then-is_pcie+in_ok-take_section w ↦
          took-next c.args.name.now found c.loop-i.i c.args.totals.now c.loop-i.totals c.if-is_pcie.totals c.args.text.now.items c.loop-i.text.items c.if-is_pcie.text.items
          section c.get-section.ensures (sym c.is_pcie.ensures ∙ w.if-is_pcie.true) c.loop-i.invariant
          (w.totals-is ∙ w.in_ok-take_section.ensures.totals) (ap (λ (t : _). t.items) w.text-is ∙ w.in_ok-take_section.ensures.text)
          (rw w.totals-is w.in_ok-take_section.ensures.few)
      | else-is_pcie w ↦
          took-same c.args.name.now found c.loop-i.i c.args.totals.now c.loop-i.totals c.if-is_pcie.totals c.args.text.now.items c.loop-i.text.items c.if-is_pcie.text.items
          section c.get-section.ensures (sym c.is_pcie.ensures ∙ w.if-is_pcie.false) c.loop-i.invariant
          w.totals-is (ap (λ (t : _). t.items) w.text-is)
    ]
