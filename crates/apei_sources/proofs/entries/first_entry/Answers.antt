-- The entry at the front is as long as its header and its data.
use Rattle.std.proofs.Common.{◌≡◌, List, ℕ, take, sym, ap, subst}
use Rattle.apei_sources.specs.Entries.{entry_length}
use Rattle.apei_sources.specs.Laid.{IsEntry}
use Rattle.apei_sources.proofs.EntryLemmas.{first_is}
use Rattle.apei_sources.proofs.entries.first_entry.Goals as goal

pub returns-clause-whole : goal.returns-clause-whole
returns-clause-whole c =
    let bytes : List ℕ = c.args.bytes.now in
    let is : take (entry_length bytes) bytes ≡ take c.entry_length.result bytes =
    ap (λ n. take n bytes) (sym c.entry_length.ensures) in
    subst IsEntry is (first_is bytes c.requires)
