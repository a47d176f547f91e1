-- When two names are the same, which boot a name has, and whether that boot is retired.
use Rattle.std.specs.Prelude.{ℕ, ◌==◌, nat_lt, Bool, false, ◌&&◌, Option, Some, None}
use Rattle.std.specs.Option.{option_map_or}
use Rattle.ras_facts.specs.declared.name.Name.{Name}
use Rattle.ras_facts.specs.declared.name.Name.TheVariants.{Bank, Record, Block, Boot}

-- Two names are the same if they are of one kind and all their fields are the same.
abbrev pub same_name : Name → Name → Bool
same_name (Bank boot cpu bank tsc) (Bank boot' cpu' bank' tsc') =
    (boot == boot') && ((cpu == cpu') && ((bank == bank') && (tsc == tsc')))
same_name (Record id) (Record id') = id == id'
same_name (Block boot source number) (Block boot' source' number') =
    (boot == boot') && ((source == source') && (number == number'))
same_name (Boot boot) (Boot boot') = boot == boot'
same_name _ _ = false

-- The boot of a name. A record's name has no boot.
abbrev pub boot_of : Name → Option ℕ
boot_of (Bank boot cpu bank tsc) = Some boot
boot_of (Record id) = None
boot_of (Block boot source number) = Some boot
boot_of (Boot boot) = Some boot

-- Whether a name's boot is below a floor. A name without a boot is never retired.
abbrev pub is_retired : ℕ → Name → Bool
is_retired floor name = option_map_or (λ boot. nat_lt boot floor) (boot_of name) false
