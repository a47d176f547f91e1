use Rattle.std.proofs.Common.{refl}
use Rattle.erst_store.proofs.FileLemmas.{cut_fits, cut_long, removed}
use Rattle.erst_store.proofs.file.StoreFile.remove_at.Goals as goal

pub cut-requires : goal.cut-requires
cut-requires c =
    cut_fits c.args.id c.bytes.result.now c.args.store.now c.args.place _ _ c.requires.kept c.requires.there c.bytes.ensures.there c.length_before-before.ensures refl c.args.self.now c.requires.file

pub set_count-requires : goal.set_count-requires
set_count-requires c =
    rw c.cut.ensures (cut_long c.args.id c.bytes.result.now c.args.store.now c.args.place _ _ c.requires.kept c.requires.there c.bytes.ensures.there c.length_before-before.ensures refl c.args.self.now c.requires.file)

pub returns : goal.returns
returns c =
    removed c.args.id c.bytes.result.now c.args.store.now c.args.place _ _ c.requires.kept c.requires.there c.bytes.ensures.there c.length_before-before.ensures refl
    c.args.self.now c.cut.new.self c.set_count.new.self c.requires.file c.cut.ensures (rw (← c.len.ensures.count) c.set_count.ensures)
