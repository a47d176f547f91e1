-- A record by its bytes, or the first reason why it can't be read. specs/Laid.antt says the same without the order of
-- reading.
use Rattle.std.specs.Prelude.{ℕ, not, nat_lt, List, length, take, Result, Ok, Err, if◌then◌else◌}
use Rattle.cper_records.specs.Header.{section_count, record_length, has_signatures, has_record_length}
use Rattle.cper_records.specs.Descriptors.{descriptor_at, is_out, is_section_refused, some_below}
use Rattle.cper_records.specs.declared.records.TheConstants.{HEADER_LENGTH}
use Rattle.cper_records.specs.declared.refusals.RecordRefused.{RecordRefused}
use Rattle.cper_records.specs.declared.refusals.RecordRefused.TheVariants.{Short, Signature, Length, DescriptorOut, SectionOut, Section}

-- The bytes of a record, if its descriptors and sections lie inside them and each section can be read.
unfoldable pub sections_of : List ℕ → Result (List ℕ) RecordRefused
sections_of bytes =
    if nat_lt (length bytes) (descriptor_at (section_count bytes)) then Err DescriptorOut
    else (if some_below (section_count bytes) (is_out bytes) then Err SectionOut
    else (if some_below (section_count bytes) (is_section_refused bytes) then Err Section else Ok bytes))

-- the record at the front of bytes: the first bytes, as many as its length says
unfoldable pub record_of : List ℕ → Result (List ℕ) RecordRefused
record_of bytes =
    if nat_lt (length bytes) HEADER_LENGTH then Err Short
    else (if not (has_signatures bytes) then Err Signature
    else (if not (has_record_length bytes) then Err Length else sections_of (take (record_length bytes) bytes)))
