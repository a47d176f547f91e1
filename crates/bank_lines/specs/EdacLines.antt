-- The lines that EDAC's drivers for Intel's memory controllers print of a machine check: skx_edac and i10nm_edac
-- (drivers/edac/skx_common.c), sb_edac.c and pnd2_edac.c. The first two print `0x` before a number in hexadecimal.
use Rattle.std.specs.Prelude.{ℕ, ◌-◌, ◌^◌, ◌||◌, Bool, List, [], ◌∷◌, codes, drop, length, nat_lt, Option, Some, is_some, if◌then◌else◌}
use Rattle.std.specs.List.{list_all, list_any}
use Rattle.std.specs.Option.{option_map, option_map_or}
use Rattle.std.specs.Str.{bytes_eq}
use Rattle.ras_klog.specs.Reading.{colon_number, is_empty, provided, read_then, word}
use Rattle.ras_script.specs.Number.{decimal_of, hexadecimal_of}
use Rattle.bank_lines.specs.LogHeads.{after, is_number, up_to}
use Rattle.bank_lines.specs.Parts.{cut_at, value_after}
use Rattle.bank_lines.specs.declared.edac_line.EdacLine.{EdacLine}
use Rattle.bank_lines.specs.declared.edac_line.EdacLine.TheVariants.{Start, Tsc, Addr, Misc, Processor}

-- ---- the text before a line's words

-- the prefix of EDAC's lines
abbrev pub edac_mark : List ℕ
edac_mark = codes "EDAC "

-- whether a driver prints this name; i10nm_edac prints the name that skx_edac prints
abbrev pub is_driver : List ℕ → Bool
is_driver name = bytes_eq name (codes "skx") || (bytes_eq name (codes "sbridge") || bytes_eq name (codes "pnd2"))

-- the text after `<driver> MC<number>: `
abbrev pub driver_text : List ℕ → Option (List ℕ)
driver_text text =
    provided (is_driver (up_to 32 text)) (read_then (value_after (codes "MC") (after 32 text)) (λ named.
    provided (is_number (up_to 58 named)) (value_after (codes " ") (after 58 named))))

-- ---- words

-- a hexadecimal number, with or without `0x` before it
unfoldable pub edac_number : List ℕ → Option ℕ
edac_number word = hexadecimal_of (option_map_or (λ digits. digits) (value_after (codes "0x") word) word)

-- whether a word is `Event:` or `Exception:`
abbrev pub is_check : List ℕ → Bool
is_check word = bytes_eq word (codes "Event:") || bytes_eq word (codes "Exception:")

-- the vendor's number in `<vendor>:<id>`
abbrev pub edac_vendor : List ℕ → Option ℕ
edac_vendor word =
    provided (is_some (edac_number (after 58 word))) (decimal_of (2 ^ 64 - 1) (up_to 58 word))

-- ---- lines, after their first word

-- `<register>`, followed only by spaces
unfoldable pub edac_register : List (List ℕ) → Option ℕ
edac_register words =
    read_then (edac_number (word words 0)) (λ register.
    provided (list_all is_empty (drop 1 words)) (Some register))

-- `<mcg> Bank <bank>: <status>`, followed only by spaces
unfoldable pub edac_bank : ℕ → List (List ℕ) → Option EdacLine
edac_bank cpu words =
    read_then (edac_number (word words 0)) (λ mcg.
    provided (bytes_eq (word words 1) (codes "Bank")) (
    read_then (colon_number 255 (word words 2)) (λ bank.
    read_then (edac_register (drop 3 words)) (λ status. Some (Start cpu mcg bank status)))))

-- `<cpu>: Machine Check Event: ` or `<cpu>: Machine Check Exception: `, followed by the bank
unfoldable pub edac_start : List (List ℕ) → Option EdacLine
edac_start words =
    read_then (colon_number 65535 (word words 0)) (λ cpu.
    provided (bytes_eq (word words 1) (codes "Machine")) (
    provided (bytes_eq (word words 2) (codes "Check")) (
    provided (is_check (word words 3)) (edac_bank cpu (drop 4 words)))))

-- `<vendor>:<id> TIME <seconds>`, followed by at least one space: the kernel prints more, so a line that ends with
-- the time was cut off
unfoldable pub edac_processor : List (List ℕ) → Option EdacLine
edac_processor words =
    read_then (edac_vendor (word words 0)) (λ vendor.
    provided (bytes_eq (word words 1) (codes "TIME")) (
    read_then (decimal_of (2 ^ 64 - 1) (word words 2)) (λ seconds.
    provided (nat_lt 3 (length words)) (Some (Processor vendor seconds)))))

-- ---- a line

-- whether a text begins like a line of a report
abbrev pub is_of_edac : List ℕ → Bool
is_of_edac text =
    list_any (λ kind. bytes_eq (up_to 32 text) kind)
    (codes "CPU" ∷ codes "TSC" ∷ codes "ADDR" ∷ codes "MISC" ∷ codes "PROCESSOR" ∷ [])

-- the line that these words give; the first word is its kind
abbrev pub edac_by_words : List (List ℕ) → Option EdacLine
edac_by_words words =
    let kind = word words 0 in
    if bytes_eq kind (codes "CPU") then edac_start (drop 1 words)
    else (if bytes_eq kind (codes "PROCESSOR") then edac_processor (drop 1 words)
    else (if bytes_eq kind (codes "TSC") then option_map (λ n. Tsc n) (edac_register (drop 1 words))
    else (if bytes_eq kind (codes "ADDR") then option_map (λ n. Addr n) (edac_register (drop 1 words))
    else option_map (λ n. Misc n) (edac_register (drop 1 words)))))

abbrev pub edac_line_of : List ℕ → Option EdacLine
edac_line_of text = edac_by_words (cut_at 32 text)
