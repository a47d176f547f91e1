use Rattle.std.proofs.Common.{◌∙◌}
use Rattle.mem_system.specs.declared.mem_files.MemFile.{MemFile}
use Rattle.mem_system.proofs.LeftLemmas.{copied_file, copied_ranges}
use Rattle.mem_system.proofs.mem_files.MemFile.copy.Goals as goal

pub returns : goal.returns
returns c =
    let copied : MemFile = record { bytes = c.in_ok-bytes.bytes; synced = c.in_ok-synced.synced; written = c.in_ok-written.written } in
    copied_file c.args.self.now copied (c.in_ok-bytes.ensures.items ∙ c.deref.ensures.value) c.in_ok-synced.ensures (copied_ranges c.args.self.now.written.items c.in_ok-written.written.items c.in_ok-written.ensures.cases.0)
