-- A panic record can be saved under its identifier.
use Rattle.std.proofs.Common.{◌≡◌, ℕ, ◌<◌, ◌^◌, Bool, true, false, List, IsTrue, refl, ap, ◌∙◌}
use Rattle.cper_records.specs.Header.{record_id, record_length}
use Rattle.erst_store.specs.Store.{is_reserved}
use Rattle.ras_facts.specs.declared.bank.BankReport.{BankReport}
use Rattle.ras_panic.specs.Panics.{is_reserved_identifier, panic_bytes}
use Rattle.ras_panic.proofs.RecordLemmas.{is_named, tells_length}

pub tells_its_length : (id : ℕ) (bank : BankReport) (bytes : List ℕ) → bytes ≡ panic_bytes id bank → record_length bytes ≡ 456
tells_its_length id bank bytes is = ap record_length is ∙ tells_length id bank

pub is_named_so : (id : ℕ) (bank : BankReport) (bytes : List ℕ) → bytes ≡ panic_bytes id bank → id < 2 ^ 64 → record_id bytes ≡ id
is_named_so id bank bytes is within = ap record_id is ∙ is_named id bank within

is_false : (b : Bool) → (IsTrue b → ⊥) → b ≡ false
is_false true not = absurd (not refl)
is_false false not = refl

pub is_not_reserved : (id : ℕ) → (IsTrue (is_reserved_identifier id) → ⊥) → is_reserved id ≡ false
is_not_reserved id not = is_false (is_reserved id) not
