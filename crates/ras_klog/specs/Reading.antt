-- What a line of a kernel log says.
use Rattle.std.specs.Prelude.{ℕ, ◌+◌, ◌-◌, ◌^◌, ◌==◌, ◌&&◌, Bool, List, [], ◌∷◌, codes, drop, take, length, slice_index_or, nat_eq, Option, None, Some, is_some, unwrap_or, if◌then◌else◌}
use Rattle.std.specs.List.{ends_with, list_all, position_or_len, slice_split, starts_with}
use Rattle.std.specs.Str.{bytes_eq}
use Rattle.ras_script.specs.Number.{decimal_of, hexadecimal_of}
use Rattle.ras_klog.specs.declared.line.KlogLine.{KlogLine}
use Rattle.ras_klog.specs.declared.line.KlogLine.TheVariants.{Start, Tsc, Processor, Other}

-- ---- words

-- words between single spaces: two spaces have an empty word between them
abbrev pub parts_of : List ℕ → List (List ℕ)
parts_of text = slice_split (λ b. b == 32) text

abbrev pub is_empty : List ℕ → Bool
is_empty word = length word == 0

-- the word at an index, or an empty word after the last
abbrev pub word : List (List ℕ) → ℕ → List ℕ
word words place = slice_index_or words place []

-- ---- numbers

-- what is read next, if a value was read before
abbrev pub read_then : {A B : Type 0} → Option A → (A → Option B) → Option B
read_then None next = None
read_then (Some x) next = next x

-- the answer, if something holds
abbrev pub provided : {A : Type 0} → Bool → Option A → Option A
provided holds answer = if holds then answer else None

-- a decimal number with a colon after it
abbrev pub colon_number : ℕ → List ℕ → Option ℕ
colon_number most word =
    if ends_with nat_eq word (codes ":") then decimal_of most (take (length word - 1) word) else None

-- whether a word is a decimal number, a colon and a hexadecimal number
abbrev pub is_vendor_and_model : List ℕ → Bool
is_vendor_and_model word =
    let colon = position_or_len (λ b. b == 58) word in
    is_some (decimal_of (2 ^ 64 - 1) (take colon word)) && is_some (hexadecimal_of (drop (colon + 1) word))

-- ---- lines

-- `<mcg> Bank <bank>: <status>`, followed only by spaces
unfoldable pub bank_of : ℕ → List (List ℕ) → Option KlogLine
bank_of cpu words =
    read_then (hexadecimal_of (word words 0)) (λ mcg.
    provided (bytes_eq (word words 1) (codes "Bank")) (
    read_then (colon_number 255 (word words 2)) (λ bank.
    read_then (hexadecimal_of (word words 3)) (λ status.
    provided (list_all is_empty (drop 4 words)) (Some (Start cpu mcg bank status))))))

-- `Check: ` or `Check Exception: `, followed by the bank
unfoldable pub check_of : ℕ → List (List ℕ) → Option KlogLine
check_of cpu words =
    if bytes_eq (word words 0) (codes "Check:") then bank_of cpu (drop 1 words)
    else provided (bytes_eq (word words 0) (codes "Check"))
    (provided (bytes_eq (word words 1) (codes "Exception:")) (bank_of cpu (drop 2 words)))

-- `<cpu>: Machine `, followed by the check
unfoldable pub start_line_of : List (List ℕ) → Option KlogLine
start_line_of words =
    read_then (colon_number 65535 (word words 0)) (λ cpu.
    provided (bytes_eq (word words 1) (codes "Machine")) (check_of cpu (drop 2 words)))

-- A hexadecimal number after its name, and the words after the number. If the name or the number can't be read, the
-- number is 0 and no word is used.
unfoldable pub named : List ℕ → List (List ℕ) → ℕ × List (List ℕ)
named name words =
    if bytes_eq (word words 0) name then told (hexadecimal_of (word words 1)) else (0, words)
  where
    told : Option ℕ → ℕ × List (List ℕ)
    told None = (0, words)
    told (Some number) = (number, drop 2 words)

-- `<tsc>`, then ` ADDR <addr>` if this can be read, then ` MISC <misc>` if this can be read, then anything
unfoldable pub tsc_of : List (List ℕ) → Option KlogLine
tsc_of words =
    read_then (hexadecimal_of (word words 0)) (λ tsc.
    Some (with_addr tsc (named (codes "ADDR") (drop 1 words))))
  where
    with_addr : ℕ → ℕ × List (List ℕ) → KlogLine
    with_addr tsc addr = Tsc tsc addr.0 (named (codes "MISC") addr.1).0

-- `<n>:<m> TIME <seconds>`, then anything
unfoldable pub processor_line_of : List (List ℕ) → Option KlogLine
processor_line_of words =
    provided (is_vendor_and_model (word words 0)) (provided (bytes_eq (word words 1) (codes "TIME")) (
    read_then (decimal_of (2 ^ 64 - 1) (word words 2)) (λ seconds. Some (Processor seconds))))

-- the line that these words give; the first word is its kind
abbrev pub told_by_words : List (List ℕ) → Option KlogLine
told_by_words words =
    if bytes_eq (word words 0) (codes "CPU") then start_line_of (drop 1 words)
    else (if bytes_eq (word words 0) (codes "TSC") then tsc_of (drop 1 words)
    else provided (bytes_eq (word words 0) (codes "PROCESSOR")) (processor_line_of (drop 1 words)))

-- the prefix of the words about a machine check
abbrev pub marker : List ℕ
marker = codes "[Hardware Error]: "

-- the text after the first prefix of a line, if the line has one
abbrev pub after_marker : List ℕ → Option (List ℕ)
after_marker [] = None
after_marker (b ∷ line) =
    if starts_with nat_eq (b ∷ line) marker then Some (drop (length marker) (b ∷ line)) else after_marker line

-- what a text after the prefix says
abbrev pub klog_line_after : List ℕ → KlogLine
klog_line_after text = unwrap_or (told_by_words (parts_of text)) Other

-- what a line of a kernel log says: only the text after its first prefix matters
abbrev pub klog_line_of : List ℕ → KlogLine
klog_line_of bytes = unwrap_or (read_then (after_marker bytes) (λ text. told_by_words (parts_of text))) Other
