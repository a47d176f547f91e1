-- What private functions of the device return.
use Rattle.std.specs.Prelude.{◌≡◌, ℕ, ◌≤◌, true, false, List, length, Option, None, Some}
use Rattle.erst_store.specs.Store.{most_bytes}
use Rattle.erst_store.specs.Device.{is_record_out, id_at, record_at}

-- A whole record is in the range at an offset.
pub record FoundRecord (range : List ℕ) (offset id : ℕ) (bytes : List ℕ) : Type 0 where
  pub inside : is_record_out range offset ≡ false
  pub id_is : id_at range offset ≡ id
  pub bytes_are : record_at range offset ≡ bytes
  pub short : length bytes ≤ most_bytes

abbrev pub FindsRecord : List ℕ → ℕ → Option (ℕ × List ℕ) → Type 0
FindsRecord range offset (Some x) = FoundRecord range offset x.0 x.1
FindsRecord range offset None = is_record_out range offset ≡ true
