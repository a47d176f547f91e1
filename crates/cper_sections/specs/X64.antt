-- The IA32/X64 section of UEFI, appendix N, "IA32/X64 Processor Error Section", and its contexts,
-- "IA32/X64 Processor Context Information Structure". That the contexts end at the first that
-- doesn't fit is this project's own.
use Rattle.std.specs.Prelude.{ℕ, zero, suc, ◌+◌, ◌*◌, nat_le, Bool, List, [], ◌∷◌, length, take, drop, sum_by, if◌then◌else◌}
use Rattle.ras_base.specs.Bits.{bits}
use Rattle.ras_base.specs.LittleEndian.{number_at}
use Rattle.cper_sections.specs.Fields.{if_valid}
use Rattle.cper_sections.specs.declared.x64.TheConstants.{FIXED_LENGTH, STRUCTURE_LENGTH, CONTEXT_HEADER_LENGTH}
use Rattle.cper_sections.specs.declared.x64.X64Section.{X64Section}
use Rattle.cper_sections.specs.declared.x64.Context.{Context}

-- the validation bits, which contain the two counts
abbrev pub x64_validation : List ℕ → ℕ
x64_validation bytes = number_at 0 8 bytes

-- bits 7:2, the count of error structures
abbrev pub structures_of : ℕ → ℕ
structures_of validation = bits 2 6 validation

-- bits 13:8, the stated count of contexts
abbrev pub stated_contexts : ℕ → ℕ
stated_contexts validation = bits 8 6 validation

-- where the contexts begin: after the fixed fields and after the structures
abbrev pub contexts_at : List ℕ → ℕ
contexts_at bytes = FIXED_LENGTH + STRUCTURE_LENGTH * structures_of (x64_validation bytes)

-- a context without its address in memory
pub record ContextParts : Type 0 where
  pub kind : ℕ
  pub msr : ℕ
  pub mapped : ℕ
  pub array : List ℕ

-- the fields of a context
abbrev pub parts_of : Context → ContextParts
parts_of context = record { kind = context.kind; msr = context.msr; mapped = context.mapped; array = context.array.now }

-- how many bytes such a context has, its header and its array
abbrev pub bytes_taken : ContextParts → ℕ
bytes_taken context = CONTEXT_HEADER_LENGTH + length context.array

-- the bytes of the context at the front: a header, with the size of the array at byte 2, and the array
abbrev pub context_length : List ℕ → ℕ
context_length bytes = CONTEXT_HEADER_LENGTH + number_at 2 2 bytes

-- whether the context at the front fits
abbrev pub has_context : List ℕ → Bool
has_context bytes = nat_le (context_length bytes) (length bytes)

-- the context at the front
unfoldable pub context_of : List ℕ → ContextParts
context_of bytes = record {
  kind = number_at 0 2 bytes;
  msr = number_at 4 4 bytes;
  mapped = number_at 8 8 bytes;
  array = take (number_at 2 2 bytes) (drop CONTEXT_HEADER_LENGTH bytes);
}

-- The contexts that fit, of the stated ones: the first that doesn't fit ends the list.
unfoldable pub contexts_in : ℕ → List ℕ → List ContextParts
contexts_in zero bytes = []
contexts_in (suc stated) bytes =
    if has_context bytes
    then context_of bytes ∷ contexts_in stated (drop (context_length bytes) bytes)
    else []

-- the contexts of a section that fit
abbrev pub contexts_of : List ℕ → List ContextParts
contexts_of bytes = contexts_in (stated_contexts (x64_validation bytes)) (drop (contexts_at bytes) bytes)

-- the bytes from a context on: it begins where the context before it ends
abbrev pub context_bytes : List ℕ → ℕ → List ℕ
context_bytes bytes i = drop (contexts_at bytes + sum_by bytes_taken (take i (contexts_of bytes))) bytes

-- an IA32/X64 section by its table
unfoldable pub x64_of : List ℕ → X64Section
x64_of bytes = record {
  apic = if_valid 0 (x64_validation bytes) (number_at 8 8 bytes);
  structures = structures_of (x64_validation bytes);
  contexts = length (contexts_of bytes);
}
