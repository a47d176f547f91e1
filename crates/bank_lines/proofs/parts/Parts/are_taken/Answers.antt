use Rattle.bank_lines.proofs.PartsLemmas.{taken_by}
use Rattle.bank_lines.proofs.parts.Parts.are_taken.Goals as goal

pub returns : goal.returns
returns c = taken_by c.args.self.now.separator (λ text. text.now) c.args.self.now.rest c.is_none.result c.is_none.ensures
