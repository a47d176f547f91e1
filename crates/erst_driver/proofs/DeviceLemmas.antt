-- If device calls were made, the device in the model before them is a device.
use Rattle.std.proofs.Common.{◌≡◌, ℕ, ◌+◌, ◌<◌, List, Option, Some, None, refl, subst, inl, inr, arith}
use Rattle.std.specs.Prelude.{◌⊎◌, IfSome}
use Rattle.board_core.specs.Told.{Told, device_of}
use Rattle.erst_store.specs.DeviceLaws.{IsDevice}
use Rattle.erst_interp.specs.declared.entries.InstructionEntry.{InstructionEntry}
use Rattle.erst_driver.specs.Steps.Operating.{Over, HasDevice, Called}

pub device_before : (lists : List (List InstructionEntry)) → (old now : Option Told) → (now ≡ old) ⊎ HasDevice lists old → HasDevice lists now → HasDevice lists old
device_before lists old now (inl same) device = subst (HasDevice lists) same device
device_before lists old now (inr before) device = before

pub called_none : (lists : List (List InstructionEntry)) → (told : Option Told) → Called lists 0 told told
called_none lists told = inl (refl, refl)

pub called_device : (lists : List (List InstructionEntry)) → (count : ℕ) (old now : Option Told) → Called lists count old now → HasDevice lists now → HasDevice lists old
called_device lists count old now (inl none) device = subst (HasDevice lists) none.1 device
called_device lists count old now (inr before) device = before

pub called_next : (lists : List (List InstructionEntry)) → (count : ℕ) (old now new : Option Told) → Called lists count old now → HasDevice lists now → Called lists (count + 1) old new
called_next lists count old now new called device = inr (called_device lists count old now called device)

pub called_some : (lists : List (List InstructionEntry)) → (count : ℕ) (old now : Option Told) → 0 < count → Called lists count old now → HasDevice lists old
called_some lists count old now more (inl none) = (let zero_is = none.0 in absurd (omega (arith, more, zero_is)))
called_some lists count old now more (inr before) = before

pub called_all : (lists : List (List InstructionEntry)) → (count : ℕ) (old now : Option Told) → Called lists count old now → (now ≡ old) ⊎ HasDevice lists old
called_all lists count old now (inl none) = inl none.1
called_all lists count old now (inr before) = inr before

-- A property of the device in the model.
pub over_device_told : (P : Told → Type 0) (told : Option Told) → IfSome told (λ t. IsDevice (device_of t)) → Over P told → IfSome told P
over_device_told P None device over = tt
over_device_told P (Some t) device over = over device

pub over_told : (lists : List (List InstructionEntry)) (P : Told → Type 0) (told : Option Told) → HasDevice lists told → Over P told → IfSome told P
over_told lists P told has over = over_device_told P told has.device over
