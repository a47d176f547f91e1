-- Numbers that are written and read again, and the offsets of a number's bytes.
use Rattle.std.proofs.Common.{◌≡◌, ◌∙◌, ℕ, zero, suc, ◌+◌, ◌*◌, ◌^◌, ◌<◌, ◌≤◌, List, ◌++◌, length, take, drop, get_or, refl, sym, ap, arith, inl, inr}
use Rattle.std.proofs.lemmas.Bool.{cases_lt}
use Rattle.std.specs.Int.{w16, w32, w64, from_le_bytes}
use Rattle.std.proofs.lemmas.List.{get_or-drop, get_or-take, get_or_append_left, get_or-append-add, length-take, length-drop}
use Rattle.std.proofs.lemmas.List.{get_or_past}
use Rattle.std.proofs.Math.Nat.{pow-suc}
use Rattle.std.proofs.lemmas.Nat.{le_bytes_2, le_bytes_4, le_bytes_8, from_le_bytes-to_le_bytes_2, from_le_bytes-to_le_bytes_4, from_le_bytes-to_le_bytes_8}
use Rattle.ras_base.specs.LittleEndian.{AreBytes, u16_bytes, u32_bytes, u64_bytes, number_at}

-- ---- how many bytes

pub length-u16_bytes : (number : ℕ) → length (u16_bytes number) ≡ 2
unfolding u16_bytes
length-u16_bytes number = refl

pub length-u32_bytes : (number : ℕ) → length (u32_bytes number) ≡ 4
unfolding u32_bytes
length-u32_bytes number = refl

pub length-u64_bytes : (number : ℕ) → length (u64_bytes number) ≡ 8
unfolding u64_bytes
length-u64_bytes number = refl

-- ---- the same numbers by std's words

pub from_le_bytes-at_2 : (bytes : List ℕ) → from_le_bytes w16 bytes ≡ number_at 0 2 bytes
unfolding number_at
from_le_bytes-at_2 bytes = omega arith

pub from_le_bytes-at_4 : (bytes : List ℕ) → from_le_bytes w32 bytes ≡ number_at 0 4 bytes
unfolding number_at
from_le_bytes-at_4 bytes = omega arith

pub from_le_bytes-at_8 : (bytes : List ℕ) → from_le_bytes w64 bytes ≡ number_at 0 8 bytes
unfolding number_at
from_le_bytes-at_8 bytes = omega arith

-- ---- where a number stands

number_at-none : (place : ℕ) (bytes : List ℕ) → number_at place 0 bytes ≡ 0
unfolding number_at
number_at-none place bytes = refl

number_at-more : (place width : ℕ) (bytes : List ℕ)
    → number_at place (suc width) bytes ≡ get_or bytes place 0 + 256 * number_at (place + 1) width bytes
unfolding number_at
number_at-more place width bytes = refl

-- A number after the first n bytes.
pub number_at-drop : (n place width : ℕ) (bytes : List ℕ) → number_at place width (drop n bytes) ≡ number_at (n + place) width bytes
number_at-drop n place zero bytes = number_at-none place (drop n bytes) ∙ sym (number_at-none (n + place) bytes)
number_at-drop n place (suc width) bytes =
    let byte : get_or (drop n bytes) place 0 ≡ get_or bytes (n + place) 0 = get_or-drop n bytes place 0 in
    let rest : number_at (place + 1) width (drop n bytes) ≡ number_at (n + (place + 1)) width bytes = number_at-drop n (place + 1) width bytes in
    let next : n + (place + 1) ≡ n + place + 1 = omega arith in
    let moved : number_at (n + (place + 1)) width bytes ≡ number_at (n + place + 1) width bytes = ap (λ i. number_at i width bytes) next in
    omega (arith, number_at-more place width (drop n bytes), number_at-more (n + place) width bytes)

-- A number within the first n bytes.
pub number_at-take : (n place width : ℕ) (bytes : List ℕ) → place + width ≤ n → number_at place width (take n bytes) ≡ number_at place width bytes
number_at-take n place zero bytes inside = number_at-none place (take n bytes) ∙ sym (number_at-none place bytes)
number_at-take n place (suc width) bytes inside =
    let byte : get_or (take n bytes) place 0 ≡ get_or bytes place 0 = get_or-take n bytes place 0 (omega arith) in
    let rest : number_at (place + 1) width (take n bytes) ≡ number_at (place + 1) width bytes = number_at-take n (place + 1) width bytes (omega arith) in
    omega (arith, number_at-more place width (take n bytes), number_at-more place width bytes)

-- Bytes after a number don't change it.
pub number_at-append : (place width : ℕ) (bytes after : List ℕ) → place + width ≤ length bytes → number_at place width (bytes ++ after) ≡ number_at place width bytes
number_at-append place zero bytes after inside = number_at-none place (bytes ++ after) ∙ sym (number_at-none place bytes)
number_at-append place (suc width) bytes after inside =
    let byte : get_or (bytes ++ after) place 0 ≡ get_or bytes place 0 = get_or_append_left bytes after 0 place (omega arith) in
    let rest : number_at (place + 1) width (bytes ++ after) ≡ number_at (place + 1) width bytes = number_at-append (place + 1) width bytes after (omega arith) in
    omega (arith, number_at-more place width (bytes ++ after), number_at-more place width bytes)

-- Bytes before a number add their length to its offset.
pub number_at-behind : (place width : ℕ) (before bytes : List ℕ) → number_at (length before + place) width (before ++ bytes) ≡ number_at place width bytes
number_at-behind place zero before bytes = number_at-none (length before + place) (before ++ bytes) ∙ sym (number_at-none place bytes)
number_at-behind place (suc width) before bytes =
    let byte : get_or (before ++ bytes) (length before + place) 0 ≡ get_or bytes place 0 = get_or-append-add before bytes place 0 in
    let rest : number_at (length before + (place + 1)) width (before ++ bytes) ≡ number_at (place + 1) width bytes = number_at-behind (place + 1) width before bytes in
    let next : length before + (place + 1) ≡ length before + place + 1 = omega arith in
    let moved : number_at (length before + (place + 1)) width (before ++ bytes) ≡ number_at (length before + place + 1) width (before ++ bytes) = ap (λ i. number_at i width (before ++ bytes)) next in
    omega (arith, number_at-more (length before + place) width (before ++ bytes), number_at-more place width bytes)

-- A number is read from its own bytes.
pub number_at-cut : (place width : ℕ) (bytes : List ℕ) → number_at place width bytes ≡ number_at 0 width (take width (drop place bytes))
number_at-cut place width bytes =
    ap (λ i. number_at i width bytes) (omega arith)
    ∙ sym (number_at-drop place 0 width bytes)
    ∙ sym (number_at-take width 0 width (drop place bytes) (omega arith))

-- The standard library reads the same number.
pub number_at-le_2 : (place : ℕ) (bytes : List ℕ) → number_at place 2 bytes ≡ from_le_bytes w16 (take 2 (drop place bytes))
number_at-le_2 place bytes = number_at-cut place 2 bytes ∙ sym (from_le_bytes-at_2 (take 2 (drop place bytes)))

pub number_at-le_4 : (place : ℕ) (bytes : List ℕ) → number_at place 4 bytes ≡ from_le_bytes w32 (take 4 (drop place bytes))
number_at-le_4 place bytes = number_at-cut place 4 bytes ∙ sym (from_le_bytes-at_4 (take 4 (drop place bytes)))

pub number_at-le_8 : (place : ℕ) (bytes : List ℕ) → number_at place 8 bytes ≡ from_le_bytes w64 (take 8 (drop place bytes))
number_at-le_8 place bytes = number_at-cut place 8 bytes ∙ sym (from_le_bytes-at_8 (take 8 (drop place bytes)))

-- A number of n bytes fits n bytes.
pub number_at-lt : (place width : ℕ) (bytes : List ℕ) → AreBytes bytes → number_at place width bytes < 256 ^ width
number_at-lt place zero bytes fits = omega (arith, number_at-none place bytes)
number_at-lt place (suc width) bytes fits =
    let byte : get_or bytes place 0 < 256 = fits place in
    let rest : number_at (place + 1) width bytes < 256 ^ width = number_at-lt (place + 1) width bytes fits in
    let wide = pow-suc 256 width in
    omega (arith, wide, number_at-more place width bytes)

-- ---- a number that is written reads again

pub number_at-u16_bytes : (number : ℕ) (rest : List ℕ) → number < 2 ^ 16 → number_at 0 2 (u16_bytes number ++ rest) ≡ number
number_at-u16_bytes number rest fits =
    number_at-append 0 2 (u16_bytes number) rest (omega (arith, length-u16_bytes number))
    ∙ sym (from_le_bytes-at_2 (u16_bytes number))
    ∙ (unfold u16_bytes in from_le_bytes-to_le_bytes_2 number fits)

pub number_at-u32_bytes : (number : ℕ) (rest : List ℕ) → number < 2 ^ 32 → number_at 0 4 (u32_bytes number ++ rest) ≡ number
number_at-u32_bytes number rest fits =
    number_at-append 0 4 (u32_bytes number) rest (omega (arith, length-u32_bytes number))
    ∙ sym (from_le_bytes-at_4 (u32_bytes number))
    ∙ (unfold u32_bytes in from_le_bytes-to_le_bytes_4 number fits)

pub number_at-u64_bytes : (number : ℕ) (rest : List ℕ) → number < 2 ^ 64 → number_at 0 8 (u64_bytes number ++ rest) ≡ number
number_at-u64_bytes number rest fits =
    number_at-append 0 8 (u64_bytes number) rest (omega (arith, length-u64_bytes number))
    ∙ sym (from_le_bytes-at_8 (u64_bytes number))
    ∙ (unfold u64_bytes in from_le_bytes-to_le_bytes_8 number fits)

-- ---- the bytes of a number that is read are those that stand there

pub AreBytes-drop : (n : ℕ) (bytes : List ℕ) → AreBytes bytes → AreBytes (drop n bytes)
AreBytes-drop n bytes fits i = rw get_or-drop (fits (n + i))

pub AreBytes-take : (n : ℕ) (bytes : List ℕ) → AreBytes bytes → AreBytes (take n bytes)
AreBytes-take n bytes fits i =
    elim (cases_lt i n) [
      | inl lt ↦ rw (get_or-take n bytes i 0 lt) (fits i)
      | inr le ↦ rw (get_or_past (take n bytes) i 0 (omega (arith, length-take n bytes))) (omega arith)
    ]

length-cut : (n place : ℕ) (bytes : List ℕ) → place + n ≤ length bytes → length (take n (drop place bytes)) ≡ n
length-cut n place bytes inside = omega (arith, length-take n (drop place bytes), length-drop place bytes)

AreBytes-cut : (n place : ℕ) (bytes : List ℕ) → AreBytes bytes → AreBytes (take n (drop place bytes))
AreBytes-cut n place bytes fits = AreBytes-take n (drop place bytes) (AreBytes-drop place bytes fits)

pub u16_bytes-number_at : (place : ℕ) (bytes : List ℕ) → AreBytes bytes → place + 2 ≤ length bytes → u16_bytes (number_at place 2 bytes) ≡ take 2 (drop place bytes)
unfolding u16_bytes
u16_bytes-number_at place bytes fits inside =
    le_bytes_2 (take 2 (drop place bytes)) _ (length-cut 2 place bytes inside) (AreBytes-cut 2 place bytes fits) (number_at-le_2 place bytes)

pub u32_bytes-number_at : (place : ℕ) (bytes : List ℕ) → AreBytes bytes → place + 4 ≤ length bytes → u32_bytes (number_at place 4 bytes) ≡ take 4 (drop place bytes)
unfolding u32_bytes
u32_bytes-number_at place bytes fits inside =
    le_bytes_4 (take 4 (drop place bytes)) _ (length-cut 4 place bytes inside) (AreBytes-cut 4 place bytes fits) (number_at-le_4 place bytes)

pub u64_bytes-number_at : (place : ℕ) (bytes : List ℕ) → AreBytes bytes → place + 8 ≤ length bytes → u64_bytes (number_at place 8 bytes) ≡ take 8 (drop place bytes)
unfolding u64_bytes
u64_bytes-number_at place bytes fits inside =
    le_bytes_8 (take 8 (drop place bytes)) _ (length-cut 8 place bytes inside) (AreBytes-cut 8 place bytes fits) (number_at-le_8 place bytes)
