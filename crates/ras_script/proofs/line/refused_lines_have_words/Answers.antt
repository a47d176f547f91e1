use Rattle.ras_script.specs.Splitting.{words_of}
use Rattle.ras_script.proofs.LineRangeLemmas.{refused_has_words}
use Rattle.ras_script.proofs.line.refused_lines_have_words.Goals as goal

pub returns : goal.returns
returns c = λ bytes. refused_has_words (words_of bytes)
