-- The pieces of a line can be one link.
use Rattle.std.proofs.Common.{◌≡◌, ◌==◌, ℕ, ◌+◌, ◌≤◌, nat_lt, Bool, true, false, List, [], ◌∷◌, ◌++◌, length, drop, Option, Some, None, Result, Ok, Err, IfSome, arith, length-append, length-take, length-drop, inr, ap, refl, subst, sym, if◌then◌else◌}
use Rattle.std.specs.List.{concat, list_any, AllByRecursion}
use Rattle.std.specs.Option.{option_map_or}
use Rattle.std.proofs.lemmas.List.Elements.{All-from_recursion}
use Rattle.ras_base.specs.LittleEndian.{u32_bytes}
use Rattle.ras_base.specs.Steps.LittleEndianLemmas.{length-u32_bytes}
use Rattle.apei_sources.specs.declared.blocks.TheConstants.{BLOCK_HEADER_LENGTH}
use Rattle.apei_sources.specs.declared.refusals.BlockRefused.{BlockRefused}
use Rattle.apei_sources.specs.declared.refusals.BlockRefused.TheVariants.{Short, Section}
use Rattle.apei_sources.specs.Blocks.{BlockParts, block_of, block_status, block_with, data_length, data_of}
use Rattle.apei_sources.specs.Entries.{entries_of, is_refused}
use Rattle.apei_sources.specs.Laid.{IsEntry}
use Rattle.apei_sources.proofs.EntryLemmas.{cuts}
use Rattle.ras_facts.specs.declared.entry.Entry.{Entry}
use Rattle.ras_facts.specs.declared.entry.Entry.TheVariants as entry
use Rattle.ras_facts.specs.Entries.{IsValidEntry}
use Rattle.ras_facts.specs.Valid.{IsValidFact}
use Rattle.ras_facts.specs.declared.details.Report.{Report}
use Rattle.ras_script.specs.LineLaws.{IsEntryInRange}
use Rattle.entry_format.specs.Spelling.{entry_bytes}
use Rattle.entry_format.proofs.SizeLemmas.{entry_most}
use Rattle.journal_format.specs.Links.{payload_bytes}
use Rattle.ras_events.specs.Making.{made_by_report, made_of_entry}
use Rattle.ras_events.specs.Sizes.{IsFit}

payload_most : (e : Entry) → IsValidEntry e → length (payload_bytes (e ∷ [])) ≤ 67108864
unfolding payload_bytes
payload_most e valid =
    omega (arith, length-append (u32_bytes 1) (entry_bytes e ++ []), length-u32_bytes 1, length-append (entry_bytes e) [], entry_most e valid)

nothing_short : length (payload_bytes []) ≤ 67108864
unfolding payload_bytes
nothing_short = omega (arith, length-append (u32_bytes 0) [], length-u32_bytes 0)

pub nothing_fits : IsFit []
nothing_fits = record { valid = All-from_recursion IsValidEntry [] tt; few = omega arith; short = nothing_short; alike = inr (omega arith) }

pub entry_fits : (e : Entry) → IsValidEntry e → IsFit (made_of_entry e)
entry_fits e valid = record {
  valid = All-from_recursion IsValidEntry (e ∷ []) (valid, tt);
  few = omega arith;
  short = payload_most e valid;
  alike = inr (omega arith);
}

pub report_fits : (report : Option Report) → IfSome report (λ r. IsValidFact r.fact) → IsFit (option_map_or made_by_report report [])
report_fits None valid = nothing_fits
report_fits (Some report) valid = record {
  valid = All-from_recursion IsValidEntry (entry.Fact report.fact ∷ []) (valid, tt);
  few = omega arith;
  short = payload_most (entry.Fact report.fact) valid;
  alike = inr (omega arith);
}

-- ---- how many entries a status block has

abbrev entries_got : Result BlockParts BlockRefused → List (List ℕ)
entries_got (Ok block) = block.entries
entries_got (Err why) = []

count_most : (es : List (List ℕ)) → AllByRecursion IsEntry es → length es ≤ length (concat es)
count_most [] all = omega arith
count_most (e ∷ es) all = omega (arith, length-append e (concat es), all.0.header, count_most es all.1)

with_few : (status n : ℕ) (entries : Option (List (List ℕ))) → IfSome entries (λ es. length es ≤ n) → length (entries_got (block_with status entries)) ≤ n
with_few status n None few =
    let none : length (entries_got (block_with status None)) ≡ 0 = refl in
    omega (arith, none)
with_few status n (Some es) few = by (list_any is_refused es)
  where
    by : (b : Bool) → length (entries_got (if b then Err Section else Ok (record { status = status; entries = es }))) ≤ n
    by true = omega arith
    by false = few

few_entries : (bytes : List ℕ) → length (entries_got (block_of bytes)) ≤ length bytes
unfolding block_of
few_entries bytes = one (nat_lt (length bytes) BLOCK_HEADER_LENGTH)
  where
    some : (o : Option (List (List ℕ))) → entries_of (data_of bytes) ≡ o → IfSome o (λ es. length es ≤ length bytes)
    some None is = tt
    some (Some es) is =
        let c = cuts (data_of bytes) es is in
        omega (arith, count_most es c.each, ap (λ (xs : List ℕ). length xs) c.laid, length-take (data_length bytes) (drop BLOCK_HEADER_LENGTH bytes), length-drop BLOCK_HEADER_LENGTH bytes)

    three : (b : Bool) → length (entries_got (if b then Err Short else block_with (block_status bytes) (entries_of (data_of bytes)))) ≤ length bytes
    three true = omega arith
    three false = with_few (block_status bytes) (length bytes) (entries_of (data_of bytes)) (some (entries_of (data_of bytes)) refl)

    two : (b : Bool) → length (entries_got (if b then Ok (record { status = 0; entries = [] }) else (if nat_lt (length bytes) (BLOCK_HEADER_LENGTH + data_length bytes) then Err Short else block_with (block_status bytes) (entries_of (data_of bytes))))) ≤ length bytes
    two true = omega arith
    two false = three (nat_lt (length bytes) (BLOCK_HEADER_LENGTH + data_length bytes))

    one : (b : Bool) → length (entries_got (if b then Err Short else (if block_status bytes == 0 then Ok (record { status = 0; entries = [] }) else (if nat_lt (length bytes) (BLOCK_HEADER_LENGTH + data_length bytes) then Err Short else block_with (block_status bytes) (entries_of (data_of bytes)))))) ≤ length bytes
    one true = omega arith
    one false = two (block_status bytes == 0)

-- A block has no more entries than bytes.
pub block_few : (bytes : List ℕ) (block : BlockParts) → Ok block ≡ block_of bytes → length block.entries ≤ length bytes
block_few bytes block is = subst (λ (r : Result BlockParts BlockRefused). length (entries_got r) ≤ length bytes) (sym is) (few_entries bytes)

-- An entry that a line asks for is valid.
pub asked_valid : (e : Entry) → IsEntryInRange e → IsValidEntry e
asked_valid (entry.Fact fact) range = absurd range
asked_valid (entry.Limit limit) range = range
asked_valid (entry.Retire boot) range = range
asked_valid (entry.ModuleLimit limit) range = range
