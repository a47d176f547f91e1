use Rattle.std.proofs.Common.{◌≡◌}
use Rattle.ras_script.specs.Steps.Window.{held_in}
use Rattle.ras_script.proofs.InputLemmas.{gained_count}
use Rattle.ras_script.proofs.input.InputReader.read_more.Goals as goal

pub returns-clause-count : goal.returns-clause-count
returns-clause-count g c =
    let same : held_in c.move_to_front.new.self ≡ c.args.self.now.held = cc in
    gained_count c.read_from.result c.args.self.now.held _ _ _ _ same c.read_from.ensures.gained
