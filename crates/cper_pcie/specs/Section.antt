-- The PCI Express section of UEFI, appendix N, "PCI Express Error Section".
use Rattle.std.specs.Prelude.{ℕ, List, [], ◌∷◌, length, nat_lt, slice_index, Result, Ok, Err, if◌then◌else◌}
use Rattle.ras_base.specs.LittleEndian.{number_at}
use Rattle.cper_sections.specs.Fields.{if_valid}
use Rattle.cper_pcie.specs.declared.section.TheConstants.{PCIE_LENGTH}
use Rattle.cper_pcie.specs.declared.section.PcieDevice.{PcieDevice}
use Rattle.cper_pcie.specs.declared.section.PcieSection.{PcieSection}
use Rattle.cper_pcie.specs.declared.section.PcieRefused.{PcieRefused}
use Rattle.cper_pcie.specs.declared.section.PcieRefused.TheVariants.{Short}

-- PCI Express: d995e954-bbc1-430f-ad91-b44dcb3c6f35
unfoldable pub pcie_guid : List ℕ
pcie_guid =
    0xd9 ∷ 0x95 ∷ 0xe9 ∷ 0x54 ∷ 0xbb ∷ 0xc1 ∷ 0x43 ∷ 0x0f ∷ 0xad ∷ 0x91 ∷ 0xb4 ∷ 0x4d ∷ 0xcb ∷ 0x3c ∷ 0x6f ∷ 0x35 ∷ []

-- the validation bits
abbrev pub pcie_validation : List ℕ → ℕ
pcie_validation bytes = number_at 0 8 bytes

-- The device identification, at byte 24: the vendor and the device's id, then the class code (3), which isn't read,
-- then the numbers of function, device, segment and primary bus.
unfoldable pub pcie_device_of : List ℕ → PcieDevice
pcie_device_of bytes = record {
  segment = number_at 33 2 bytes;
  bus = slice_index bytes 35;
  device = slice_index bytes 32;
  function = slice_index bytes 31;
  vendor = number_at 24 2 bytes;
  id = number_at 26 2 bytes;
}

-- The two status words of the extended capability for advanced error reporting, which begins at byte 112:
-- uncorrectable errors at its byte 4, correctable errors at its byte 16.
abbrev pub uncorrectable_of : List ℕ → ℕ
uncorrectable_of bytes = number_at 116 4 bytes

abbrev pub correctable_of : List ℕ → ℕ
correctable_of bytes = number_at 128 4 bytes

-- a section by its fixed fields: bit 3 says that the device identification is valid, bit 7 that the capability is
-- valid
unfoldable pub pcie_of : List ℕ → Result PcieSection PcieRefused
pcie_of bytes =
    if nat_lt (length bytes) PCIE_LENGTH then Err Short
    else Ok (record {
      device = if_valid 3 (pcie_validation bytes) (pcie_device_of bytes);
      uncor = if_valid 7 (pcie_validation bytes) (uncorrectable_of bytes);
      cor = if_valid 7 (pcie_validation bytes) (correctable_of bytes);
    })
