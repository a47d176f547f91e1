use Rattle.std.proofs.Common.{◌∙◌, ap}
use Rattle.erst_store.specs.StoreFile.{store_bytes}
use Rattle.erst_store.specs.Steps.StoreLemmas.{without-absent}
use Rattle.erst_store.proofs.file.StoreFile.remove.Goals as goal

pub returns-in-None-clause-rest : goal.returns-in-None-clause-rest
returns-in-None-clause-rest c = c.requires ∙ ap store_bytes (without-absent c.args.id c.args.store.now c.in-None.ensures.place)
