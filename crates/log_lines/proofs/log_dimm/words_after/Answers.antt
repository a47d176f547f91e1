use Rattle.std.proofs.Common.{List, ℕ, sym, ap, ◌∙◌, Option}
use Rattle.std.specs.Option.{option_map, option_map_or}
use Rattle.log_lines.specs.LogDimm.{placed, unless_over}
use Rattle.log_lines.proofs.log_dimm.words_after.Goals as goal

pub returns-in-Some : goal.returns-in-Some
returns-in-Some c =
    c.placed.ensures
    ∙ ap (λ (o : Option (List ℕ)). option_map_or (λ digits. placed c.args.report digits) o (unless_over c.args.place c.args.words.now))
    (sym (sym c.value_after.ensures ∙ ap (option_map (λ digits. digits.now)) c.in-Some.is))
