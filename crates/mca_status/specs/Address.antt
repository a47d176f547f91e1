-- The address that a bank's report names, and its page: the Intel SDM, volume 3, chapter
-- "Machine-Check Architecture", sections "IA32_MCi_ADDR MSRs" and "IA32_MCi_MISC MSRs". The rule
-- for which addresses are used is this project's own.
use Rattle.std.specs.Prelude.{ℕ, Bool, ◌&&◌, ◌==◌, nat_le, Option, Some, None, ◌*◌, ◌/◌, ◌^◌, if◌then◌else◌}
use Rattle.std.specs.Option.{option_map}
use Rattle.mca_status.specs.Registers.{recovers_in_software, address_valid, misc_valid, address_mode, least_bit}
use Rattle.mca_status.specs.declared.registers.Cap.{Cap}
use Rattle.mca_status.specs.declared.registers.Status.{Status}
use Rattle.mca_status.specs.declared.registers.Misc.{Misc}

-- Whether the address can be used: the registers have an address, it is a physical address (mode 2), and its valid
-- bits give the page (4,096 is 2 ^ 12).
abbrev pub has_usable_address : Cap → Status → Misc → Bool
has_usable_address cap status misc =
    recovers_in_software cap && address_valid status && misc_valid status
    && address_mode misc == 2 && nat_le (least_bit misc) 12

-- an address rounded down to a multiple of 2 to the power of its least valid bit
abbrev pub rounded_address : ℕ → ℕ → ℕ
rounded_address address least = address / 2 ^ least * 2 ^ least

-- the usable address, if any
abbrev pub usable_address_of : Cap → Status → ℕ → Misc → Option ℕ
usable_address_of cap status address misc =
    if has_usable_address cap status misc then Some (rounded_address address (least_bit misc)) else None

-- the number of the page of 4,096 bytes that contains an address
abbrev pub page_of_address : ℕ → ℕ
page_of_address address = address / 4096

-- the usable page, if any
abbrev pub usable_page_of : Cap → Status → ℕ → Misc → Option ℕ
usable_page_of cap status address misc = option_map page_of_address (usable_address_of cap status address misc)
