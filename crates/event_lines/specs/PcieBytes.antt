-- The PCI Express section of an event: UEFI, appendix N, "PCI Express Error Section". The fields that the event
-- doesn't give, such as the vendor's and the device's ids, are 0.
use Rattle.std.specs.Prelude.{ℕ, List, [], ◌∷◌, ◌++◌, replicate}
use Rattle.ras_base.specs.LittleEndian.{u16_bytes, u32_bytes, u64_bytes}
use Rattle.event_lines.specs.declared.aer.AerDevice.{AerDevice}
use Rattle.event_lines.specs.declared.aer.AerEvent.{AerEvent}
use Rattle.event_lines.specs.declared.aer.AerSeverity.{AerSeverity}
use Rattle.event_lines.specs.declared.aer.AerSeverity.TheVariants.{Corrected}
use Rattle.event_lines.specs.declared.aer.TlpHeader.{TlpHeader}
use Rattle.event_lines.specs.declared.aer.TlpHeader.TheVariants.{Missing, Logged}

-- d995e954-bbc1-430f-ad91-b44dcb3c6f35, as a block has it
abbrev pub pcie_type : List ℕ
pcie_type =
    0x54 ∷ 0xe9 ∷ 0x95 ∷ 0xd9 ∷ 0xc1 ∷ 0xbb ∷ 0x0f ∷ 0x43 ∷ 0xad ∷ 0x91 ∷ 0xb4 ∷ 0x4d ∷ 0xcb ∷ 0x3c ∷ 0x6f ∷ 0x35 ∷ []

-- The 16 bytes of a function: the ids and the class code; the function, the device, the segment and the bus; a
-- bridge's second bus and the slot.
unfoldable pub device_bytes : AerDevice → List ℕ
device_bytes at =
    replicate 7 0 ++ (at.function ∷ at.device ∷ []) ++ u16_bytes at.segment ++ at.bus ∷ replicate 4 0

-- the 16 bytes of a packet's header
unfoldable pub tlp_bytes : TlpHeader → List ℕ
tlp_bytes Missing = replicate 16 0
tlp_bytes (Logged one two three four) = u32_bytes one ++ u32_bytes two ++ u32_bytes three ++ u32_bytes four

abbrev pub correctable_by : AerSeverity → ℕ → ℕ
correctable_by Corrected status = status
correctable_by severity status = 0

abbrev pub uncorrectable_by : AerSeverity → ℕ → ℕ
uncorrectable_by Corrected status = 0
uncorrectable_by severity status = status

-- The 96 bytes of the capability for advanced error reporting: the status of uncorrectable errors at byte 4, of
-- correctable errors at byte 16, and the packet's header at byte 28.
unfoldable pub aer_bytes : AerEvent → List ℕ
aer_bytes event =
    replicate 4 0 ++ u32_bytes (uncorrectable_by event.severity event.status)
    ++ replicate 8 0 ++ u32_bytes (correctable_by event.severity event.status)
    ++ replicate 8 0 ++ tlp_bytes event.header ++ replicate 52 0

-- The validation bits 3 and 7, for the function and the capability; the function at byte 24, the capability at
-- byte 112.
unfoldable pub pcie_section_bytes : AerEvent → List ℕ
pcie_section_bytes event =
    u64_bytes 136 ++ replicate 16 0 ++ device_bytes event.device ++ replicate 72 0 ++ aer_bytes event
