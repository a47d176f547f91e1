-- The line of a record of the store that can't be read.
use Rattle.std.specs.Prelude.{ℕ, List, ◌++◌, codes}
use Rattle.std.specs.Int.{to_be_bytes, w64}
use Rattle.hex.specs.Hex.{encode_lower}
use Rattle.ras_base.specs.Text.{line_with}
use Rattle.cper_records.specs.declared.refusals.RecordRefused.TheVariants.{Short, Signature, Length, DescriptorOut, SectionOut, Section}
use Rattle.cper_records.specs.declared.refusals.Unreadable.{Unreadable}
use Rattle.cper_records.specs.declared.refusals.Unreadable.TheVariants.{NoRecord, OtherId}

-- the reason why a record can't be read
abbrev pub unreadable_word : Unreadable → List ℕ
unreadable_word (NoRecord Short) = codes "short"
unreadable_word (NoRecord Signature) = codes "signature"
unreadable_word (NoRecord Length) = codes "length"
unreadable_word (NoRecord DescriptorOut) = codes "descriptor"
unreadable_word (NoRecord SectionOut) = codes "section-out"
unreadable_word (NoRecord Section) = codes "section"
unreadable_word OtherId = codes "identifier"

-- the line: the record's identifier in 16 hexadecimal digits, and the reason
unfoldable pub unreadable_line : ℕ → Unreadable → List ℕ
unreadable_line id why = line_with (
    codes "unreadable record=" ++ encode_lower (to_be_bytes w64 id)
    ++ codes " reason=" ++ unreadable_word why)
