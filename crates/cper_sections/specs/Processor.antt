-- The processor generic section of UEFI, appendix N, "Generic Processor Error Section".
use Rattle.std.specs.Prelude.{ℕ, List, slice_index}
use Rattle.ras_base.specs.LittleEndian.{number_at}
use Rattle.cper_sections.specs.declared.processor.ProcSection.{ProcSection}

-- a processor section by its table, whatever the validation bits say
unfoldable pub processor_of : List ℕ → ProcSection
processor_of bytes = record {
  kind = slice_index bytes 8;
  isa = slice_index bytes 9;
  error = slice_index bytes 10;
  operation = slice_index bytes 11;
  flags = slice_index bytes 12;
  level = slice_index bytes 13;
  version = number_at 16 8 bytes;
  id = number_at 152 8 bytes;
  target = number_at 160 8 bytes;
  requestor = number_at 168 8 bytes;
  responder = number_at 176 8 bytes;
  ip = number_at 184 8 bytes;
}
