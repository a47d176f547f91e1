-- The line of a report's block asks for that block.
use Rattle.std.proofs.Common.{◌≡◌, ℕ, zero, suc, ◌*◌, ◌^◌, ◌<◌, ◌&&◌, ◌==◌, nat_lt, Bool, true, false, List, [], ◌∷◌, ◌++◌, length, refl, arith, length-append, lit<, Option, Some, None, Ok}
use Rattle.std.specs.Prelude.{replicate, unwrap_or, IfSome}
use Rattle.std.specs.Int.{byte_at, bytes_low_first}
use Rattle.std.specs.List.{AllByRecursion, flat_map, list_all}
use Rattle.std.proofs.lemmas.Bool.Decides.{nat_tests}
use Rattle.ras_base.specs.LittleEndian.{u16_bytes, u32_bytes, u64_bytes}
use Rattle.ras_facts.specs.Names.{same_name}
use Rattle.ras_script.proofs.LineTextLemmas.{text_read}
use Rattle.ras_script.specs.Bytes.{AreBytes}
use Rattle.ras_script.specs.Line.{line_of}
use Rattle.block_lines.specs.Blocks.{address_bytes, block_bytes, block_front, entry_header_bytes, error_entry_bytes, kind_bytes, location_bytes, made_status, memory_section_bytes, memory_type, validation_of}
use Rattle.block_lines.specs.ReadBack.{IsError, IsNamed, block_asked, block_name, report_errors}
use Rattle.block_lines.specs.Reports.{Reporting}
use Rattle.block_lines.specs.Texts.{ghes_line}
use Rattle.block_lines.specs.declared.memory.ErrorLocation.{ErrorLocation}
use Rattle.block_lines.specs.declared.memory.MemoryError.{MemoryError}
use Rattle.block_lines.specs.declared.report.OpenReport.{OpenReport}

-- ---- bytes

abbrev pub AllBytes : List ℕ → Type 0
AllBytes bytes = AllByRecursion (λ b. b < 256) bytes

byte_small : (i n : ℕ) → byte_at i n < 256
byte_small zero n = omega arith
byte_small (suc i) n = omega arith

low_bytes : (i k n : ℕ) → AllBytes (bytes_low_first i k n)
low_bytes i zero n = tt
low_bytes i (suc k) n = (byte_small i n, low_bytes (suc i) k n)

pub joined : (xs ys : List ℕ) → AllBytes xs → AllBytes ys → AllBytes (xs ++ ys)
joined [] ys one other = other
joined (x ∷ xs) ys one other = (one.0, joined xs ys one.1 other)

pub zeros : (k : ℕ) → AllBytes (replicate k 0)
zeros zero = tt
zeros (suc k) = (lit< tt, zeros k)

-- a literal consists of bytes, by computing
pub literal : (xs : List ℕ) → list_all (λ b. nat_lt b 256) xs ≡ true → AllBytes xs
literal [] all = tt
literal (x ∷ xs) all = by (nat_lt x 256) refl all (λ rest. literal xs rest)
  where
    by : (t : Bool) → nat_lt x 256 ≡ t → (t && list_all (λ b. nat_lt b 256) xs) ≡ true
        → (list_all (λ b. nat_lt b 256) xs ≡ true → AllBytes xs) → (x < 256) × AllBytes xs
    by true less all rest = (grind (arith, nat_tests, less), rest all)
    by false less all rest = absurd cc

pub u16_all : (n : ℕ) → AllBytes (u16_bytes n)
unfolding u16_bytes
u16_all n = low_bytes 0 2 n

pub u32_all : (n : ℕ) → AllBytes (u32_bytes n)
unfolding u32_bytes
u32_all n = low_bytes 0 4 n

pub u64_all : (n : ℕ) → AllBytes (u64_bytes n)
unfolding u64_bytes
u64_all n = low_bytes 0 8 n

-- ---- a block

kind_small : (o : Option ℕ) → IfSome o (λ n. n < 2 ^ 8) → unwrap_or o 0 < 256
kind_small None small = lit< tt
kind_small (Some n) small = small

address_all : (e : MemoryError) → AllBytes (address_bytes e)
unfolding address_bytes
address_all e =
    joined (u64_bytes (validation_of e) ++ replicate 8 0 ++ u64_bytes (unwrap_or e.physical 0)) (u64_bytes (unwrap_or e.mask 0))
    (joined (u64_bytes (validation_of e) ++ replicate 8 0) (u64_bytes (unwrap_or e.physical 0))
    (joined (u64_bytes (validation_of e)) (replicate 8 0) (u64_all (validation_of e)) (zeros 8))
    (u64_all (unwrap_or e.physical 0)))
    (u64_all (unwrap_or e.mask 0))

location_all : (l : ErrorLocation) → AllBytes (location_bytes l)
unfolding location_bytes
location_all l =
    joined (u16_bytes (unwrap_or l.node 0) ++ u16_bytes (unwrap_or l.card 0)) (u16_bytes (unwrap_or l.«module» 0))
    (joined (u16_bytes (unwrap_or l.node 0)) (u16_bytes (unwrap_or l.card 0)) (u16_all (unwrap_or l.node 0)) (u16_all (unwrap_or l.card 0)))
    (u16_all (unwrap_or l.«module» 0))

kind_all : (o : Option ℕ) → IfSome o (λ n. n < 2 ^ 8) → AllBytes (kind_bytes o)
unfolding kind_bytes
kind_all o small = joined (replicate 34 0) (unwrap_or o 0 ∷ replicate 7 0) (zeros 34) (kind_small o small, zeros 7)

section_all : (e : MemoryError) → IsError e → AllBytes (memory_section_bytes e)
unfolding memory_section_bytes
section_all e h =
    joined (address_bytes e ++ location_bytes e.location) (kind_bytes e.kind)
    (joined (address_bytes e) (location_bytes e.location) (address_all e) (location_all e.location))
    (kind_all e.kind h.kind)

pub header_all : (kind : List ℕ) (severity size : ℕ) → AllBytes kind → AllBytes (entry_header_bytes kind severity size)
unfolding entry_header_bytes
header_all kind severity size bytes =
    let revision : List ℕ = 0 ∷ 3 ∷ 0 ∷ 0 ∷ [] in
    joined (kind ++ u32_bytes severity ++ revision ++ u32_bytes size) (replicate 44 0)
    (joined (kind ++ u32_bytes severity ++ revision) (u32_bytes size)
    (joined (kind ++ u32_bytes severity) revision
    (joined kind (u32_bytes severity) bytes (u32_all severity))
    (literal revision refl))
    (u32_all size))
    (zeros 44)

entry_all : (e : MemoryError) → IsError e → AllBytes (error_entry_bytes e)
unfolding error_entry_bytes
entry_all e h =
    joined (entry_header_bytes memory_type e.severity 80) (memory_section_bytes e)
    (header_all memory_type e.severity 80 (literal memory_type refl)) (section_all e h)

entries_all : (es : List MemoryError) → AllByRecursion IsError es → AllBytes (flat_map error_entry_bytes es)
entries_all [] all = tt
entries_all (e ∷ es) all = joined (error_entry_bytes e) (flat_map error_entry_bytes es) (entry_all e all.0) (entries_all es all.1)

pub front_all : (severity count size : ℕ) → AllBytes (block_front severity count size)
unfolding block_front
front_all severity count size =
    joined (u32_bytes (made_status severity count) ++ replicate 8 0 ++ u32_bytes size) (u32_bytes severity)
    (joined (u32_bytes (made_status severity count) ++ replicate 8 0) (u32_bytes size)
    (joined (u32_bytes (made_status severity count)) (replicate 8 0) (u32_all (made_status severity count)) (zeros 8))
    (u32_all size))
    (u32_all severity)

pub front_long : (severity count size : ℕ) → length (block_front severity count size) ≡ 20
unfolding block_front u32_bytes
front_long severity count size = refl

pub block_all : (severity : ℕ) (es : List MemoryError) → AllByRecursion IsError es → AreBytes (block_bytes severity es)
unfolding block_bytes
block_all severity es all = (
  omega (arith, front_long severity (length es) (152 * length es), length-append (block_front severity (length es) (152 * length es)) (flat_map error_entry_bytes es)),
  joined (block_front severity (length es) (152 * length es)) (flat_map error_entry_bytes es) (front_all severity (length es) (152 * length es)) (entries_all es all),
)

-- ---- its line

pub line_asks : (r : Reporting) (report : OpenReport) → IsNamed r report → AllByRecursion IsError (report_errors r report)
    → line_of (ghes_line r report) ≡ Ok (block_asked r report)
line_asks r report h all =
    text_read (block_asked r report) (
      h.boot,
      omega (arith, h.began, h.begun),
      h.source,
      h.begun,
      block_all report.severity (report_errors r report) all,
    )

-- ---- its name

and_false : (a b c : Bool) → c ≡ false → (a && (b && c)) ≡ false
and_false true true c is = is
and_false true false c is = refl
and_false false b c is = refl

pub names_apart : (r : Reporting) (one other : OpenReport) → ¬ (one.begun ≡ other.begun) → same_name (block_name r one) (block_name r other) ≡ false
names_apart r one other apart =
    let stamps : (one.begun == other.begun) ≡ false = grind (arith, nat_tests, apart) in
    and_false (r.boot == r.boot) (one.source == other.source) (one.begun == other.begun) stamps
