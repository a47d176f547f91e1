-- The class of a machine-check bank's error, as a table of rows: the Intel SDM, volume 3, chapter
-- "Machine-Check Architecture", section "UCR Error Classification". Two things are this project's
-- own: the class Uc if the processor has no software error recovery, and the class Odd of the
-- settings that the manual's table doesn't give.
use Rattle.std.specs.Prelude.{ℕ, ◌≡◌, Bool, true, ◌&&◌, not, Option, Some, None, List, [], ◌∷◌}
use Rattle.std.specs.List.{find}
use Rattle.std.specs.Option.{option_and_then}
use Rattle.mca_status.specs.Registers.{AgreeApartFrom, valid, uncorrected, context_corrupt, recovers_in_software, signaled, enabled, action_required}
use Rattle.mca_status.specs.declared.registers.Cap.{Cap}
use Rattle.mca_status.specs.declared.registers.Status.{Status}
use Rattle.mca_status.specs.declared.classes.Class.{Class}
use Rattle.mca_status.specs.declared.classes.Class.TheVariants.{Ce, Ucna, Srao, Srar, Uc, Odd}
use Rattle.mca_status.specs.declared.classes.ItemClass.{ItemClass}
use Rattle.mca_status.specs.declared.classes.ItemClass as Item

-- what a row of the table requires of a bit
pub data Asked : Type 0 where
  any : Asked
  is0 : Asked
  is1 : Asked

-- whether a bit is as asked
abbrev pub meets : Asked → Bool → Bool
meets any bit = true
meets is0 bit = not bit
meets is1 bit = bit

-- a row: what it requires of VAL, UC, PCC, MCG_SER_P, S, EN and AR, and the class it gives
pub data ClassRow : Type 0 where
  row : Asked → Asked → Asked → Asked → Asked → Asked → Asked → Option Class → ClassRow

-- the table; the first row that fits gives the class
abbrev pub class_rows : List ClassRow
class_rows =
    --  VAL UC  PCC SER S   EN  AR
    row is0 any any any any any any None
    ∷ row is1 is0 any any any any any (Some Ce)
    ∷ row is1 is1 is1 any any any any (Some Uc)
    ∷ row is1 is1 is0 is0 any any any (Some Uc)
    ∷ row is1 is1 is0 is1 is0 any is0 (Some Ucna)
    ∷ row is1 is1 is0 is1 is0 any is1 (Some Odd)
    ∷ row is1 is1 is0 is1 is1 is0 any (Some Odd)
    ∷ row is1 is1 is0 is1 is1 is1 is0 (Some Srao)
    ∷ row is1 is1 is0 is1 is1 is1 is1 (Some Srar)
    ∷ []

-- whether a row fits the registers
abbrev pub fits_class : Cap → Status → ClassRow → Bool
fits_class cap status (row val uc pcc ser s en ar class) =
    meets val (valid status) && meets uc (uncorrected status) && meets pcc (context_corrupt status)
    && meets ser (recovers_in_software cap) && meets s (signaled status) && meets en (enabled status)
    && meets ar (action_required status)

-- the class that a row gives
abbrev pub class_in : ClassRow → Option Class
class_in (row val uc pcc ser s en ar class) = class

-- the class of the registers, by the first row that fits
abbrev pub class_of_rows : Cap → Status → Option Class
class_of_rows cap status = option_and_then class_in (find (fits_class cap status) class_rows)

-- The class stays the same whatever bits a status has at these positions.
abbrev pub ClassIgnores : List ℕ → Cap → Status → Type 0
ClassIgnores places cap status =
    (other : ℕ) → AgreeApartFrom places status.0 other →
    class_of_rows cap (record { 0 = other }) ≡ class_of_rows cap status

-- an item's class by the class of a bank's error
abbrev pub item_class_of : Class → ItemClass
item_class_of Ce = Item.TheVariants.Ce
item_class_of Ucna = Item.TheVariants.Ucna
item_class_of Srao = Item.TheVariants.Srao
item_class_of Srar = Item.TheVariants.Srar
item_class_of Uc = Item.TheVariants.Uc
item_class_of Odd = Item.TheVariants.Odd

-- the number of an item's class, its index among the ten classes
abbrev pub class_number : ItemClass → ℕ
class_number Item.TheVariants.Ce = 0
class_number Item.TheVariants.Ucna = 1
class_number Item.TheVariants.Srao = 2
class_number Item.TheVariants.Srar = 3
class_number Item.TheVariants.Uc = 4
class_number Item.TheVariants.Odd = 5
class_number Item.TheVariants.Corrected = 6
class_number Item.TheVariants.Recoverable = 7
class_number Item.TheVariants.Fatal = 8
class_number Item.TheVariants.Informational = 9

-- the ten classes of items, in the order of their numbers
abbrev pub classes : List ItemClass
classes =
    Item.TheVariants.Ce ∷ Item.TheVariants.Ucna ∷ Item.TheVariants.Srao ∷ Item.TheVariants.Srar
    ∷ Item.TheVariants.Uc ∷ Item.TheVariants.Odd ∷ Item.TheVariants.Corrected
    ∷ Item.TheVariants.Recoverable ∷ Item.TheVariants.Fatal ∷ Item.TheVariants.Informational ∷ []
