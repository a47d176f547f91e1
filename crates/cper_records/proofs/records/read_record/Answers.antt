-- The record's own bytes have its header.
use Rattle.std.proofs.Common.{◌∙◌, sym}
use Rattle.cper_records.proofs.FrontLemmas.{own_header}
use Rattle.cper_records.proofs.records.read_record.Goals as goal

pub sections_of-requires : goal.sections_of-requires
sections_of-requires c =
    own_header c.args.bytes.now c.u32_at-length.result c.u32_at-length.ensures c.if-length-lt-HEADER_LENGTH.false
    c.if-bytes-length.false (sym c.has_signatures.ensures ∙ c.if-not-has_signatures.false)
