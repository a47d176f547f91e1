-- The block and the line of a memory error are read back.
use Rattle.std.proofs.Common.{◌≡◌, ℕ, ◌^◌, ◌<◌, ◌≤◌, ◌==◌, ◌&&◌, Bool, true, false, [], ◌∷◌, refl, arith, lit<, Ok}
use Rattle.std.proofs.lemmas.Bool.Decides.{nat_tests}
use Rattle.apei_sources.specs.Blocks.{block_of}
use Rattle.ras_facts.specs.Names.{same_name}
use Rattle.ras_script.proofs.LineTextLemmas.{text_read}
use Rattle.ras_script.specs.Line.{line_of}
use Rattle.ras_script.specs.LineLaws.{line_text}
use Rattle.bank_lines.specs.declared.log_line.TheConstants.{LAST_SECOND}
use Rattle.block_lines.specs.Blocks.{error_entry_bytes, made_status}
use Rattle.block_lines.specs.ReadBack.{IsError}
use Rattle.block_lines.specs.declared.memory.MemoryError.{MemoryError}
use Rattle.block_lines.proofs.LineLemmas.{block_all}
use Rattle.block_lines.proofs.ReadBackLemmas.{block_is}
use Rattle.event_lines.specs.Filter.{memory_block}
use Rattle.event_lines.specs.ReadBack.{memory_asked, memory_name}
use Rattle.event_lines.specs.declared.traced.FoundMemory.{FoundMemory}

pub memory_block_is : (error : MemoryError) → IsError error
    → block_of (memory_block error) ≡ Ok (record { status = made_status error.severity 1; entries = error_entry_bytes error ∷ [] })
memory_block_is error is = block_is error.severity (error ∷ []) (is, tt) (lit< tt) (omega arith)

pub memory_line_asks : (boot began : ℕ) (found : FoundMemory) → boot < 2 ^ 64 → began ≤ LAST_SECOND → found.stamp < 2 ^ 64 → IsError found.error
    → line_of (line_text (memory_asked boot began found)) ≡ Ok (memory_asked boot began found)
memory_line_asks boot began found boots begins stamps is =
    text_read (memory_asked boot began found) (
      boots,
      omega (arith, begins, stamps),
      lit< tt,
      stamps,
      block_all found.error.severity (found.error ∷ []) (is, tt),
    )

and_false : (a b c : Bool) → c ≡ false → (a && (b && c)) ≡ false
and_false true true c is = is
and_false true false c is = refl
and_false false b c is = refl

pub memory_names_apart : (boot : ℕ) (one other : FoundMemory) → ¬ (one.stamp ≡ other.stamp)
    → same_name (memory_name boot one) (memory_name boot other) ≡ false
memory_names_apart boot one other apart =
    let stamps : (one.stamp == other.stamp) ≡ false = grind (arith, nat_tests, apart) in
    and_false (boot == boot) true (one.stamp == other.stamp) stamps
