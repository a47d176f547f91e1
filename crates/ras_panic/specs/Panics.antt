-- A panic record: the report of a machine-check bank as a record of two sections. Its layout is
-- this project's own, after UEFI, appendix N.
use Rattle.std.specs.Prelude.{ℕ, ◌+◌, ◌*◌, ◌^◌, ◌-◌, ◌==◌, ◌||◌, Bool, List, [], ◌∷◌, codes, replicate}
use Rattle.ras_base.specs.LittleEndian.{u16_bytes, u32_bytes, u64_bytes}
use Rattle.ras_facts.specs.declared.bank.BankReport.{BankReport}
use Rattle.ras_panic.specs.Runs.{with_runs}

-- the type of the section with the report, as in a descriptor: 7a6d1f02-52c4-4d1e-9b0a-3c5e8f714d20
unfoldable pub report_type : List ℕ
report_type =
    0x02 ∷ 0x1f ∷ 0x6d ∷ 0x7a ∷ 0xc4 ∷ 0x52 ∷ 0x1e ∷ 0x4d ∷ 0x9b ∷ 0x0a ∷ 0x3c ∷ 0x5e ∷ 0x8f ∷ 0x71 ∷ 0x4d ∷ 0x20 ∷ []

-- the type of IA32/X64 sections, as in a descriptor
unfoldable pub x64_type : List ℕ
x64_type =
    0xb0 ∷ 0xa0 ∷ 0x3e ∷ 0xdc ∷ 0x44 ∷ 0xa1 ∷ 0x97 ∷ 0x47 ∷ 0xb9 ∷ 0x5b ∷ 0x53 ∷ 0xfa ∷ 0x24 ∷ 0x2b ∷ 0x6e ∷ 0x1d ∷ []

-- Whether no record may have this identifier.
abbrev pub is_reserved_identifier : ℕ → Bool
is_reserved_identifier id = (id == 0) || (id == 2 ^ 64 - 1)

-- the header of a record of 456 bytes and two sections, with the severity fatal
abbrev pub header_bytes : ℕ → List ℕ
header_bytes id = with_runs (
    (0, codes "CPER") ∷ (4, 0x00 ∷ 0x01 ∷ 0xff ∷ 0xff ∷ 0xff ∷ 0xff ∷ [])
    ∷ (10, u16_bytes 2) ∷ (12, u32_bytes 1) ∷ (20, u32_bytes 456) ∷ (96, u64_bytes id) ∷ []
    ) (replicate 128 0)

-- the descriptor of a fatal section of this type
abbrev pub descriptor_bytes : ℕ → ℕ → List ℕ → List ℕ
descriptor_bytes offset length guid =
    with_runs ((0, u32_bytes offset) ∷ (4, u32_bytes length) ∷ (16, guid) ∷ (48, u32_bytes 1) ∷ []) (replicate 72 0)

-- the section with the report
unfoldable pub report_bytes : BankReport → List ℕ
report_bytes bank = with_runs (
    (0, u64_bytes bank.boot) ∷ (8, u64_bytes bank.seconds) ∷ (16, u64_bytes bank.tsc) ∷ (24, u64_bytes bank.cap)
    ∷ (32, u64_bytes bank.mcg) ∷ (40, u64_bytes bank.status) ∷ (48, u64_bytes bank.addr) ∷ (56, u64_bytes bank.misc)
    ∷ (64, u16_bytes bank.cpu) ∷ (66, bank.bank ∷ []) ∷ []
    ) (replicate 72 0)

-- an IA32/X64 section with one context, the bank's registers from IA32_MCi_CTL on: 0, its status,
-- its address and its miscellaneous register
unfoldable pub saved_bytes : BankReport → List ℕ
saved_bytes bank = with_runs (
    (0, u64_bytes 0x100) ∷ (64, u16_bytes 1) ∷ (66, u16_bytes 32) ∷ (68, u32_bytes (0x400 + 4 * bank.bank))
    ∷ (88, u64_bytes bank.status) ∷ (96, u64_bytes bank.addr) ∷ (104, u64_bytes bank.misc) ∷ []
    ) (replicate 112 0)

-- the record: header, two descriptors, and the two sections
unfoldable pub panic_bytes : ℕ → BankReport → List ℕ
panic_bytes id bank = with_runs (
    (0, header_bytes id) ∷ (128, descriptor_bytes 272 72 report_type) ∷ (200, descriptor_bytes 344 112 x64_type)
    ∷ (272, report_bytes bank) ∷ (344, saved_bytes bank) ∷ []
    ) (replicate 456 0)
