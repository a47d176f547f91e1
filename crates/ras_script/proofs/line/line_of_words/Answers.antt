use Rattle.std.proofs.Common.{map, arith}
use Rattle.std.proofs.lemmas.Grind.{common_steps}
use Rattle.ras_script.specs.Line.{GivesLine, line_of_words}
use Rattle.ras_script.proofs.HeldLineLemmas.{reads_held}
use Rattle.ras_script.proofs.LineRangeLemmas.{read_within}
use Rattle.ras_script.proofs.line.line_of_words.Goals as goal

pub returns-clause-line : goal.returns-clause-line
returns-clause-line c =
    let read : GivesLine c.event_of.result (line_of_words (map (λ word. word.now) c.args.words.now)) = grind (arith, common_steps) in
    λ bytes held. reads_held (map (λ word. word.now) c.args.words.now) bytes c.event_of.result held read

pub returns-clause-range : goal.returns-clause-range
returns-clause-range c =
    let read : GivesLine c.event_of.result (line_of_words (map (λ word. word.now) c.args.words.now)) = grind (arith, common_steps) in
    read_within (map (λ word. word.now) c.args.words.now) c.event_of.result read
