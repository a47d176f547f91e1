-- The text that kernels print of a machine check in their log is read, word by word.
use Rattle.std.proofs.Common.{◌≡◌, ℕ, zero, suc, ◌+◌, ◌-◌, ◌^◌, ◌<◌, ◌≤◌, ◌==◌, ◌&&◌, Bool, true, false, not, nat_eq, List, [], ◌∷◌, ◌++◌, codes, decimal, take, drop, length, refl, ap, subst, ◌∙◌, arith, length-append, Option, Some, None, if◌then◌else◌}
use Rattle.std.proofs.Math.Seq.{take-append_seam}
use Rattle.std.proofs.lemmas.Bool.Decides.{nat_tests}
use Rattle.std.proofs.lemmas.Bool.{lt-ltb}
use Rattle.std.proofs.lemmas.Fmt.{decimal_is_IsNumeral, decimal_nonempty}
use Rattle.std.proofs.lemmas.List.{drop_at}
use Rattle.std.proofs.lemmas.Slice.Eq.{bytes_eq-Decides}
use Rattle.std.specs.Cmp.Lexicographic.{pointwise}
use Rattle.std.specs.List.{AllByRecursion, join_with_byte, list_all, position_or_len}
use Rattle.std.specs.Char.{digit_value, is_digit}
use Rattle.std.specs.Option.{option_map_or}
use Rattle.std.specs.Str.Parse.{AllDigits}
use Rattle.std.specs.Str.{bytes_eq}
use Rattle.ras_klog.specs.Reading.{colon_number}
use Rattle.ras_script.proofs.LineAndWordLemmas.{split_between, split_lacking}
use Rattle.ras_script.proofs.WrittenNumberLemmas.{decimal_read, hexadecimal_read}
use Rattle.ras_script.specs.LineLaws.{hexadecimal}
use Rattle.ras_script.specs.Number.{decimal_of, hexadecimal_of}
use Rattle.ras_script.specs.SplittingLaws.{Lacks}
use Rattle.bank_lines.specs.EdacLines.{edac_number}
use Rattle.bank_lines.specs.Kernel.{register}
use Rattle.bank_lines.specs.LogHeads.{after, is_number, up_to}
use Rattle.bank_lines.specs.LogKernel.{Driver, edac_hex, edac_status, pnd2, sbridge, skx}
use Rattle.bank_lines.specs.Parts.{cut_at, value_after}
use Rattle.bank_lines.proofs.KernelLemmas.{padded_lacks, register_read}
use Rattle.bank_lines.proofs.NumeralLemmas.{decimal_lacks, hexadecimal_lacks, lack_both}

-- ---- words

-- words that are joined by spaces are split into these words
pub words_split : (words : List (List ℕ)) → 0 < length words → AllByRecursion (Lacks 32) words → cut_at 32 (join_with_byte 32 words) ≡ words
words_split [] some all = absurd (omega arith)
words_split (word ∷ []) some all = split_lacking 32 word all.0
words_split (word ∷ next ∷ words) some all =
    split_between 32 word (join_with_byte 32 (next ∷ words))
    ∙ ap (λ (parts : List (List ℕ)). parts ++ cut_at 32 (join_with_byte 32 (next ∷ words))) (split_lacking 32 word all.0)
    ∙ ap (λ (parts : List (List ℕ)). word ∷ parts) (words_split (next ∷ words) (omega arith) all.1)

-- a text up to its first such byte, and the text after it
place_is : (byte : ℕ) (word rest : List ℕ) → Lacks byte word → position_or_len (λ b. b == byte) (word ++ byte ∷ rest) ≡ length word
place_is byte [] rest lacks = let same : (byte == byte) ≡ true = grind (arith, nat_tests) in rw same refl
place_is byte (b ∷ word) rest lacks =
    let other : (b == byte) ≡ false = grind (arith, nat_tests, lacks.0) in
    let one : 1 + length word ≡ length (b ∷ word) = omega arith in
    rw other (ap (λ (n : ℕ). 1 + n) (place_is byte word rest lacks.1) ∙ one)

pub up_to_is : (byte : ℕ) (word rest : List ℕ) → Lacks byte word → up_to byte (word ++ byte ∷ rest) ≡ word
up_to_is byte word rest lacks = ap (λ (n : ℕ). take n (word ++ byte ∷ rest)) (place_is byte word rest lacks) ∙ take-append_seam word (byte ∷ rest)

pub after_is : (byte : ℕ) (word rest : List ℕ) → Lacks byte word → after byte (word ++ byte ∷ rest) ≡ rest
after_is byte word rest lacks =
    let size : length word + 1 ≡ length (word ++ byte ∷ []) = omega (arith, length-append word (byte ∷ [])) in
    ap (λ (n : ℕ). drop (n + 1) (word ++ byte ∷ rest)) (place_is byte word rest lacks)
    ∙ drop_behind word
  where
    drop_behind : (front : List ℕ) → drop (length front + 1) (front ++ byte ∷ rest) ≡ rest
    drop_behind [] = refl
    drop_behind (b ∷ front) =
        let next : length (b ∷ front) + 1 ≡ suc (length front + 1) = omega arith in
        ap (λ (n : ℕ). drop n (b ∷ (front ++ byte ∷ rest))) next ∙ drop_behind front

-- ---- numbers

pub colon_read : (most n : ℕ) → n ≤ most → most < 2 ^ 64 → colon_number most (decimal n ++ 58 ∷ []) ≡ Some n
colon_read most n small fits =
    let word : List ℕ = decimal n in
    let whole : List ℕ = word ++ 58 ∷ [] in
    let size : length whole - 1 ≡ length word = omega (arith, length-append word (58 ∷ [])) in
    let behind : drop (length whole - 1) whole ≡ 58 ∷ [] = ap (λ (k : ℕ). drop k whole) size ∙ drop_at word (58 ∷ []) (length word) refl in
    let front : take (length whole - 1) whole ≡ word = ap (λ (k : ℕ). take k whole) size ∙ take-append_seam word (58 ∷ []) in
    ap (λ (rest : List ℕ). if pointwise nat_eq (codes ":") rest then decimal_of most (take (length whole - 1) whole) else None) behind
    ∙ ap (decimal_of most) front ∙ decimal_read most n small fits

-- a beginning of a text lacks a byte that the text lacks
take_lacks : (byte n : ℕ) (text : List ℕ) → Lacks byte text → Lacks byte (take n text)
take_lacks byte zero text lacks = tt
take_lacks byte (suc n) [] lacks = tt
take_lacks byte (suc n) (b ∷ text) lacks = (lacks.0, take_lacks byte n text lacks.1)

no_prefix : (word : List ℕ) → Lacks 120 word → value_after (codes "0x") word ≡ None
no_prefix word lacks = by (bytes_eq (take 2 word) (codes "0x")) refl
  where
    by : (is : Bool) → bytes_eq (take 2 word) (codes "0x") ≡ is → (if is then Some (drop 2 word) else None) ≡ None
    by false is = refl
    by true is = absurd (let front : take 2 word ≡ codes "0x" = (bytes_eq-Decides (take 2 word) (codes "0x")).0 is in (subst (Lacks 120) front (take_lacks 120 2 word lacks)).1.0 refl)

plain_number : (word : List ℕ) (n : ℕ) → Lacks 120 word → hexadecimal_of word ≡ Some n → edac_number word ≡ Some n
unfolding edac_number
plain_number word n lacks reads = ap (λ (digits : Option (List ℕ)). hexadecimal_of (option_map_or (λ d. d) digits word)) (no_prefix word lacks) ∙ reads

no_zero_x : ¬ (◌≡◌ {A = ℕ} 48 120)
no_zero_x e = omega (arith, e)

pub hex_read : (driver : Driver) (n : ℕ) → n < 2 ^ 64 → edac_number (edac_hex driver n) ≡ Some n
unfolding edac_number
hex_read skx n small = hexadecimal_read false n small
hex_read sbridge n small = plain_number (hexadecimal n) n (hexadecimal_lacks 120 n (omega arith) small) (hexadecimal_read false n small)
hex_read pnd2 n small = plain_number (hexadecimal n) n (hexadecimal_lacks 120 n (omega arith) small) (hexadecimal_read false n small)

pub status_read : (driver : Driver) (n : ℕ) → n < 2 ^ 64 → edac_number (edac_status driver n) ≡ Some n
status_read skx n small = hex_read skx n small
status_read sbridge n small = plain_number (register n) n (padded_lacks 120 16 n (omega arith) no_zero_x small) (register_read n small)
status_read pnd2 n small = hex_read pnd2 n small

-- ---- what words lack

-- a byte that is neither a hexadecimal digit nor `x`
module _ (byte : ℕ) (high : 16 ≤ digit_value byte) (zero_not : ¬ (48 ≡ byte)) (x_not : ¬ (120 ≡ byte)) where
  pub hex_lacks : (driver : Driver) (n : ℕ) → n < 2 ^ 64 → Lacks byte (edac_hex driver n)
  hex_lacks skx n small = (zero_not, (x_not, hexadecimal_lacks byte n high small))
  hex_lacks sbridge n small = hexadecimal_lacks byte n high small
  hex_lacks pnd2 n small = hexadecimal_lacks byte n high small

  pub status_lacks : (driver : Driver) (n : ℕ) → n < 2 ^ 64 → Lacks byte (edac_status driver n)
  status_lacks skx n small = hex_lacks skx n small
  status_lacks sbridge n small = padded_lacks byte 16 n high zero_not small
  status_lacks pnd2 n small = hex_lacks pnd2 n small

  pub colon_lacks : (n : ℕ) → ¬ (58 ≡ byte) → n < 2 ^ 64 → Lacks byte (decimal n ++ 58 ∷ [])
  colon_lacks n colon small = lack_both byte (decimal n) (58 ∷ []) (decimal_lacks byte n high small) (colon, tt)

  pub vendor_lacks : (driver : Driver) (v n : ℕ) → ¬ (58 ≡ byte) → v < 2 ^ 64 → n < 2 ^ 64 → Lacks byte (decimal v ++ 58 ∷ edac_hex driver n)
  vendor_lacks driver v n colon small few =
      lack_both byte (decimal v) (58 ∷ edac_hex driver n) (decimal_lacks byte v high small) (colon, hex_lacks driver n few)

digits_pass : (word : List ℕ) → AllDigits 10 word → list_all (λ b. is_digit b 10) word ≡ true
digits_pass [] all = refl
digits_pass (c ∷ cs) all = rw (lt-ltb _ _ all.0, digits_pass cs all.1) refl

pub decimal_is_number : (n : ℕ) → n < 2 ^ 64 → is_number (decimal n) ≡ true
decimal_is_number n small =
    let some : (length (decimal n) == 0) ≡ false = grind (arith, nat_tests, decimal_nonempty n small) in
    rw (some, digits_pass (decimal n) (decimal_is_IsNumeral n small).0.1) refl

-- a text with a space isn't joined
pub not_joined : (word rest : List ℕ) → list_all (λ b. not (b == 32)) (word ++ 32 ∷ rest) ≡ false
not_joined [] rest = refl
not_joined (b ∷ word) rest = by (not (b == 32)) (not_joined word rest)
  where
    by : (t : Bool) → list_all (λ b. not (b == 32)) (word ++ 32 ∷ rest) ≡ false → (t && list_all (λ b. not (b == 32)) (word ++ 32 ∷ rest)) ≡ false
    by true ih = ih
    by false ih = refl

pub joined_lack : (byte : ℕ) (words : List (List ℕ)) → ¬ (32 ≡ byte) → AllByRecursion (Lacks byte) words → Lacks byte (join_with_byte 32 words)
joined_lack byte [] space all = tt
joined_lack byte (word ∷ []) space all = all.0
joined_lack byte (word ∷ next ∷ words) space all =
    lack_both byte word (32 ∷ join_with_byte 32 (next ∷ words)) all.0 (space, joined_lack byte (next ∷ words) space all.1)
