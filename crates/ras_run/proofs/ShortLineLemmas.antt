-- A line that isn't too long is parsed to a short line.
use Rattle.std.proofs.Common.{ℕ, ◌≤◌, List, length, subst, arith, Result, Ok, IfOk}
use Rattle.ras_script.specs.declared.line.ErrorReport.TheVariants.{Bank, Block, Boot}
use Rattle.ras_script.specs.declared.line.Line.{Line}
use Rattle.ras_script.specs.declared.line.Line.TheVariants as asks
use Rattle.ras_script.specs.declared.line.LineRefused.{LineRefused}
use Rattle.ras_script.specs.declared.reader.TheConstants.{LONGEST_LINE}
use Rattle.ras_script.specs.Line.{ReadsLine}
use Rattle.ras_script.specs.LineLaws.{HasFewBytes}
use Rattle.ras_script.proofs.LineRangeLemmas.{few_of_line}
use Rattle.ras_events.specs.Sizes.{IsShortLine}

short_line : (most : ℕ) (line : Line) → most ≤ LONGEST_LINE → HasFewBytes most line → IsShortLine line
short_line most (asks.Report (Bank bank)) le few = tt
short_line most (asks.Report (Block boot seconds source number bytes)) le few = omega arith
short_line most (asks.Report (Boot boot seconds table region)) le few = omega arith
short_line most line le few = tt

pub read_short : (bytes : List ℕ) (line : Line) → length bytes ≤ LONGEST_LINE → ReadsLine (Ok line) bytes → IsShortLine line
read_short bytes line le read =
    short_line (length bytes) line le (subst (λ (r : Result Line LineRefused). IfOk r (HasFewBytes (length bytes))) read (few_of_line bytes))
