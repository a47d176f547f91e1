-- Which codes the manual gives to recoverable errors: the Intel SDM, volume 3, chapter
-- "Machine-Check Architecture", section "Architecturally Defined UCR Errors".
use Rattle.std.specs.Prelude.{ℕ, Bool, ◌&&◌, ◌||◌, ◌==◌, nat_le, ◌-◌, ◌*◌, ◌^◌, if◌then◌else◌}
use Rattle.ras_base.specs.Bits.{bits}
use Rattle.mca_codes.specs.declared.codes.Code.{Code}
use Rattle.mca_codes.specs.declared.codes.Code.TheVariants.{Memory, Cache}
use Rattle.mca_codes.specs.declared.marks.Mark.{Mark}
use Rattle.mca_codes.specs.declared.marks.Mark as Marked

-- a code with bit 12, the filter, cleared
abbrev pub unfiltered_code : ℕ → ℕ
unfiltered_code code = code - bits 12 1 code * 2 ^ 12

-- the codes of errors whose recovery is optional: memory scrubbing, and an explicit writeback
abbrev pub is_srao_code : ℕ → Bool
is_srao_code code = nat_le 0x00c0 code && nat_le code 0x00cf || code == 0x017a

-- the codes of errors whose recovery is required: a data load, and an instruction fetch
abbrev pub is_srar_code : ℕ → Bool
is_srar_code code = code == 0x0134 || code == 0x0150

-- the mark of a code whose filter is cleared
abbrev pub unfiltered_mark : ℕ → Mark
unfiltered_mark code =
    if is_srao_code code then Marked.TheVariants.Srao
    else (if is_srar_code code then Marked.TheVariants.Srar else Marked.TheVariants.Neither)

-- the mark of a code, whatever its filter is
abbrev pub mark_of_number : ℕ → Mark
mark_of_number code = unfiltered_mark (unfiltered_code code)

-- the mark of a code by its kind and fields: memory scrubbing (MMM 4) and an eviction (RRRR 7) of any type from level
-- 2 are Srao; a data read (RRRR 3, TT 1) and an instruction fetch (RRRR 5, TT 0) at level 0 are Srar
abbrev pub mark_of_kind : Code → Mark
mark_of_kind (Memory mmm channel filter) =
    if mmm == 4 then Marked.TheVariants.Srao else Marked.TheVariants.Neither
mark_of_kind (Cache rrrr tt ll filter) =
    if rrrr == 7 && tt == 2 && ll == 2 then Marked.TheVariants.Srao
    else (if (rrrr == 3 && tt == 1 || rrrr == 5 && tt == 0) && ll == 0 then Marked.TheVariants.Srar
    else Marked.TheVariants.Neither)
mark_of_kind _ = Marked.TheVariants.Neither
