use Rattle.ras_recover.specs.Steps.Windows.{read_end}
use Rattle.ras_recover.proofs.LooksLemmas.{looks_weaker, part_held}
use Rattle.ras_recover.proofs.window.Window.hold.Goals as goal

pub returns-clause-looks : goal.returns-clause-looks
returns-clause-looks g c = looks_weaker (read_end c.read.result) _ _ _ _ (part_held c.read.result c.args.file.no _ _ _ _ c.requires.covers.spans.upto c.read.ensures.within) c.read.ensures.looks
