-- When two sections are of one function.
use Rattle.std.specs.Prelude.{◌==◌, Bool, true, false, ◌&&◌, Option, Some, None}
use Rattle.cper_pcie.specs.declared.section.PcieDevice.{PcieDevice}

-- Two functions are the same if all their fields are, including vendor and device id. If neither section names a
-- function, both count as of one function.
abbrev pub same_device : Option PcieDevice → Option PcieDevice → Bool
same_device (Some one) (Some other) =
    (one.segment == other.segment) && ((one.bus == other.bus) && ((one.device == other.device)
    && ((one.function == other.function) && ((one.vendor == other.vendor) && (one.id == other.id)))))
same_device None None = true
same_device _ _ = false
