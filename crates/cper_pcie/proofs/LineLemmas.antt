-- The block of a line has no more bytes than the line, and no more entries than bytes.
use Rattle.std.proofs.Common.{◌≡◌, ℕ, zero, suc, ◌≤◌, ◌==◌, Bool, true, false, if◌then◌else◌, List, [], ◌∷◌, length, drop, nat_eq, nat_lt, ◌+◌, subst, Option, None, Some, Result, Ok, Err, IfOk, arith, length-drop, length-take}
use Rattle.std.specs.List.{list_any}
use Rattle.std.specs.Option.{option_map}
use Rattle.std.specs.Prelude.{IfSome, OnOk}
use Rattle.apei_sources.specs.Blocks.{BlockParts, block_of, block_status, block_with, data_length, data_of}
use Rattle.apei_sources.specs.Entries.{block_entries_in, entries_of, first_of, has_entry, is_refused, rest_of}
use Rattle.apei_sources.specs.declared.refusals.BlockRefused.{BlockRefused}
use Rattle.apei_sources.specs.declared.refusals.BlockRefused.TheVariants.{Section, Short}
use Rattle.ras_base.specs.declared.NoMemory.{NoMemory}
use Rattle.ras_script.specs.Line.{line_of}
use Rattle.ras_script.specs.LineLaws.{HasFewBytes}
use Rattle.ras_script.proofs.LineRangeLemmas.{few_of_line}
use Rattle.ras_script.specs.declared.line.ErrorReport.TheVariants as reports
use Rattle.ras_script.specs.declared.line.Line.{Line}
use Rattle.ras_script.specs.declared.line.LineRefused.{LineRefused}
use Rattle.cper_pcie.specs.Reports.{block_sections}
use Rattle.cper_pcie.proofs.ReportLemmas.{block-count}

-- ---- the block of a line

few-more : (less more : ℕ) (line : Line) → less ≤ more → HasFewBytes less line → HasFewBytes more line
few-more less more (Line.Report (reports.Block boot seconds source number bytes)) le few = omega (arith, few)
few-more less more (Line.Report (reports.Boot boot seconds table region)) le few = omega (arith, few)
few-more less more (Line.Report (reports.Bank bank)) le few = tt
few-more less more line le few = tt

pub line-few : (most : ℕ) (line : List ℕ) (asked : Line) → length line ≤ most → line_of line ≡ Ok asked → HasFewBytes most asked
line-few most line asked short is =
    few-more (length line) most asked short (subst (λ (read : Result Line LineRefused). IfOk read (HasFewBytes (length line))) is (few_of_line line))

-- ---- entries

abbrev MostEntries : ℕ → Option (List (List ℕ)) → Type 0
MostEntries most entries = IfSome entries (λ es. length es ≤ most)

entries-few : (most : ℕ) (bytes : List ℕ) → MostEntries most (block_entries_in most bytes)
unfolding block_entries_in
entries-few zero bytes = by (nat_eq (length bytes) 0)
  where
    by : (b : Bool) → MostEntries zero (if b then Some [] else None)
    by true = omega arith
    by false = tt
entries-few (suc most) bytes = by (nat_eq (length bytes) 0) (has_entry bytes) (block_entries_in most (rest_of bytes)) (entries-few most (rest_of bytes))
  where
    by : (b c : Bool) (rest : Option (List (List ℕ))) → MostEntries most rest
        → MostEntries (suc most) (if b then Some [] else (if c then option_map (λ behind. first_of bytes ∷ behind) rest else None))
    by true c rest few = omega arith
    by false true None few = tt
    by false true (Some es) few = omega (arith, few)
    by false false rest few = tt

abbrev FewEntries : ℕ → Result BlockParts BlockRefused → Type 0
FewEntries most read = IfOk read (λ (block : BlockParts). length block.entries ≤ most)

with-few : (most status : ℕ) (entries : Option (List (List ℕ))) → MostEntries most entries → FewEntries most (block_with status entries)
with-few most status None few = tt
with-few most status (Some entries) few = by (list_any is_refused entries)
  where
    by : (b : Bool) → FewEntries most (if b then Err Section else Ok (record { status = status; entries = entries }))
    by true = tt
    by false = few

data-short : (bytes : List ℕ) → length (data_of bytes) ≤ length bytes
data-short bytes = omega (arith, length-take (data_length bytes) (drop 20 bytes), length-drop 20 bytes)

pub block-few : (bytes : List ℕ) → FewEntries (length bytes) (block_of bytes)
unfolding block_of
block-few bytes =
    by (nat_lt (length bytes) 20) (block_status bytes == 0) (nat_lt (length bytes) (20 + data_length bytes))
    (block_with (block_status bytes) (entries_of (data_of bytes)))
    (with-few (length bytes) (block_status bytes) (entries_of (data_of bytes)) (more (entries_of (data_of bytes)) (entries-few (length (data_of bytes)) (data_of bytes))))
  where
    more : (entries : Option (List (List ℕ))) → MostEntries (length (data_of bytes)) entries → MostEntries (length bytes) entries
    more None few = tt
    more (Some es) few = omega (arith, few, data-short bytes)

    by : (a b c : Bool) (read : Result BlockParts BlockRefused) → FewEntries (length bytes) read
        → FewEntries (length bytes) (if a then Err Short else (if b then Ok (record { status = 0; entries = [] }) else (if c then Err Short else read)))
    by true b c read few = tt
    by false true c read few = omega arith
    by false false true read few = tt
    by false false false read few = few

pub sections-few : (most : ℕ) (bytes : List ℕ) (block : BlockParts) → block_of bytes ≡ Ok block → length bytes ≤ most → length (block_sections block) ≤ most
sections-few most bytes block is short =
    let few : length block.entries ≤ length bytes = subst (FewEntries (length bytes)) is (block-few bytes) in
    omega (arith, block-count block, few)

-- at most `more` more are at most 65,536 more
pub few-on-ok : (result : Result (Unit {0}) NoMemory) (new old more : ℕ) → OnOk result (new ≤ old + more) → more ≤ 65536 → OnOk result (new ≤ old + 65536)
few-on-ok (Ok done) new old more few small = omega (arith, few)
few-on-ok (Err why) new old more few small = tt
