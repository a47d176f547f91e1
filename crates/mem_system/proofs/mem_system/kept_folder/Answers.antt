use Rattle.std.proofs.Common.{List, ℕ, ap, ◌∙◌}
use Rattle.mem_system.specs.Steps.MemFiles.{held_in}
use Rattle.mem_system.proofs.mem_system.kept_folder.Goals as goal

pub returns : goal.returns
returns c = λ uses. ap (λ (text : List ℕ). held_in c.in-Ok.files text uses) c.in-Ok-from_slice.ensures.items ∙ c.in-Ok.ensures c.args.out.now uses
