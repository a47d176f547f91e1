-- Which bytes numerals lack, and how long they are.
use Rattle.std.proofs.Common.{◌≡◌, ℕ, ◌+◌, ◌*◌, ◌/◌, ◌%◌, ◌^◌, ◌<◌, ◌≤◌, ◌==◌, ◌-◌, suc, zero, cond, drop, Bool, true, false, List, [], ◌∷◌, ◌++◌, length, refl, ap, ◌∙◌, subst, arith, eq-eqb, lit<, length-append}
use Rattle.std.specs.Prelude.{not, ◌&&◌}
use Rattle.std.proofs.Math.ListN.{set, length-set}
use Rattle.std.proofs.Math.Nat.{pow-suc}
use Rattle.std.proofs.lemmas.List.{get_or-set_same, drop-set-lt}
use Rattle.std.proofs.Math.Seq.{drop-cons}
use Rattle.std.proofs.lemmas.Bool.Decides.{nat_tests}
use Rattle.std.specs.Char.{digit_value}
use Rattle.std.specs.Fmt.{decimal, digit_glyph, digits, digits_onto}
use Rattle.std.specs.List.{AllByRecursion, join_with_byte, list_all}
use Rattle.std.specs.Str.Parse.{AllDigits}
use Rattle.std.proofs.lemmas.Fmt.{decimal_is_IsNumeral, digits_is_IsNumeral}
use Rattle.ras_script.specs.LineLaws.{hexadecimal}
use Rattle.ras_script.specs.SplittingLaws.{Lacks}

-- a numeral lacks each byte that isn't a digit
digits_lack : (byte radix : ℕ) (word : List ℕ) → radix ≤ digit_value byte → AllDigits radix word → Lacks byte word
digits_lack byte radix [] high all = tt
digits_lack byte radix (c ∷ cs) high all =
    ((λ same. let digit : digit_value byte < radix = subst (λ b. digit_value b < radix) same all.0 in omega arith), digits_lack byte radix cs high all.1)

pub decimal_lacks : (byte n : ℕ) → 16 ≤ digit_value byte → n < 2 ^ 64 → Lacks byte (decimal n)
decimal_lacks byte n high small = digits_lack byte 10 (decimal n) (omega arith) (decimal_is_IsNumeral n small).0.1

pub hexadecimal_lacks : (byte n : ℕ) → 16 ≤ digit_value byte → n < 2 ^ 64 → Lacks byte (hexadecimal n)
hexadecimal_lacks byte n high small =
    let fits : n < 16 ^ 64 = omega arith in
    digits_lack byte 16 (hexadecimal n) high (digits_is_IsNumeral 16 false (lit< tt) (lit< tt) n fits).0.1

pub both : {X : Type 0} (P : X → Type 0) (xs ys : List X) → AllByRecursion P xs → AllByRecursion P ys → AllByRecursion P (xs ++ ys)
both P [] ys one other = other
both P (x ∷ xs) ys one other = (one.0, both P xs ys one.1 other)

-- two texts lack a byte together if each lacks it
pub lack_both : (byte : ℕ) (xs ys : List ℕ) → Lacks byte xs → Lacks byte ys → Lacks byte (xs ++ ys)
lack_both byte xs ys one other = both (λ b. ¬ (b ≡ byte)) xs ys one other

-- a literal lacks a byte, by computing
pub literal_lacks : (byte : ℕ) (word : List ℕ) → list_all (λ b. not (b == byte)) word ≡ true → Lacks byte word
literal_lacks byte [] all = tt
literal_lacks byte (b ∷ bs) all = by (b == byte) refl all (λ rest. literal_lacks byte bs rest)
  where
    by : (t : Bool) → (b == byte) ≡ t → (not t && list_all (λ b. not (b == byte)) bs) ≡ true → (list_all (λ b. not (b == byte)) bs ≡ true → Lacks byte bs) → (¬ (b ≡ byte)) × Lacks byte bs
    by true is all rest = absurd cc
    by false is all rest = ((λ same. grind (arith, nat_tests, is, same)), rest all)

-- there are at most as many digits as steps
few_last : (i d : ℕ) (acc rest : List ℕ) (last : Bool) → length rest ≤ length acc + 1 + i → length (cond last (d ∷ acc) rest) ≤ length acc + suc i
few_last i d acc rest true more = omega arith
few_last i d acc rest false more = omega arith

few_digits : (k radix n : ℕ) (acc : List ℕ) → length (digits_onto k radix false n acc) ≤ length acc + k
few_digits zero radix n acc = omega arith
few_digits (suc k) radix n acc =
    let d : ℕ = digit_glyph false (n % radix) in
    few_last k d acc (digits_onto k radix false (n / radix) (d ∷ acc)) (n / radix == 0) (omega (arith, few_digits k radix (n / radix) (d ∷ acc)))

pub short_numeral : (radix n : ℕ) → length (digits radix false n) ≤ 64
unfolding digits
short_numeral radix n = few_digits 64 radix n []

-- a word of a script has no line feed, and is short
abbrev pub WordOk : List ℕ → Type 0
WordOk word = Lacks 10 word × (length word ≤ 64)

pub decimal_ok : (n : ℕ) → n < 2 ^ 64 → WordOk (decimal n)
decimal_ok n small = (decimal_lacks 10 n (omega arith) small, short_numeral 10 n)

pub hexadecimal_ok : (n : ℕ) → n < 2 ^ 64 → WordOk (hexadecimal n)
hexadecimal_ok n small = (hexadecimal_lacks 10 n (omega arith) small, short_numeral 16 n)

-- words joined by spaces have no line feed
pub joined_lack : (words : List (List ℕ)) → AllByRecursion WordOk words → Lacks 10 (join_with_byte 32 words)
joined_lack [] all = tt
joined_lack (word ∷ []) all = all.0.0
joined_lack (word ∷ next ∷ words) all =
    let space : ◌≡◌ {A = ℕ} 32 10 → ⊥ = λ e. omega (arith, e) in
    lack_both 10 word (32 ∷ join_with_byte 32 (next ∷ words)) all.0.0 (space, joined_lack (next ∷ words) all.1)

pub joined_short : (words : List (List ℕ)) → AllByRecursion WordOk words → length (join_with_byte 32 words) ≤ 65 * length words
joined_short [] all = omega arith
joined_short (word ∷ []) all = omega (arith, all.0.1)
joined_short (word ∷ next ∷ words) all =
    let rest : length (join_with_byte 32 (next ∷ words)) ≤ 65 * length (next ∷ words) = joined_short (next ∷ words) all.1 in
    let here : length word ≤ 64 = all.0.1 in
    omega (arith, rest, here, length-append word (32 ∷ join_with_byte 32 (next ∷ words)))

-- ---- digits, the last one first

pub onto_nil : (n : ℕ) → digits_onto 64 16 false n [] ≡ digits 16 false n
unfolding digits
onto_nil n = refl

module _ (base : ℕ) (upper : Bool) (n : ℕ) (acc : List ℕ) where
  spelled_suc : (k : ℕ) (t : Bool) → (n / base == 0) ≡ t → digits_onto (suc k) base upper n acc ≡ cond t (digit_glyph upper (n % base) ∷ acc) (digits_onto k base upper (n / base) (digit_glyph upper (n % base) ∷ acc))
  spelled_suc k t e = ap (λ (b : Bool). cond b (digit_glyph upper (n % base) ∷ acc) (digits_onto k base upper (n / base) (digit_glyph upper (n % base) ∷ acc))) e

  pub onto_last : (i : ℕ) → 0 < i → n / base ≡ 0 → digits_onto i base upper n acc ≡ digit_glyph upper (n % base) ∷ acc
  onto_last zero h e = absurd (omega arith)
  onto_last (suc k) h e = spelled_suc k true (eq-eqb _ 0 e)

  pub onto_step : (i : ℕ) → 0 < i → (n / base ≡ 0 → ⊥) → digits_onto i base upper n acc ≡ digits_onto (i - 1) base upper (n / base) (digit_glyph upper (n % base) ∷ acc)
  onto_step zero h e = absurd (omega arith)
  onto_step (suc k) h e = spelled_suc k false (grind (arith, nat_tests, e)) ∙ ap (λ (j : ℕ). digits_onto j base upper (n / base) (digit_glyph upper (n % base) ∷ acc)) {x = k} {y = suc k - 1} (omega arith)

-- writing at the index before i prepends to the bytes from i on
pub drop-set_cons : (out : List ℕ) (i x g : ℕ) → 0 < i → i ≤ length out → x ≡ g → drop (i - 1) (set out (i - 1) x) ≡ g ∷ drop i out
drop-set_cons out zero x g h k e = absurd (omega arith)
drop-set_cons out (suc j) x g h k e =
    ap (λ (m : ℕ). drop m (set out m x)) {x = suc j - 1} {y = j} (omega arith) ∙ drop-cons (set out j x) j 0 (omega (arith, length-set out j x))
    ∙ (λ t. (get_or-set_same out j x 0 k ∙ e) t ∷ drop-set-lt (suc j) out j x (omega arith) t)

-- a number without its last digit has one digit less
pub few_left : (rest room : ℕ) → 0 < room → rest < 16 ^ room → rest / 16 < 16 ^ (room - 1)
few_left rest zero some small = absurd (omega arith)
few_left rest (suc room) some small =
    let power : 16 ^ suc room ≡ 16 ^ room * 16 = pow-suc 16 room in
    let less : rest / 16 < 16 ^ room = omega (arith, power, small) in
    let same : room ≡ suc room - 1 = omega arith in
    subst (λ n. rest / 16 < 16 ^ n) same less

pub room_left : (rest room : ℕ) → rest < 16 ^ room → ¬ (rest ≡ 0) → 0 < room
room_left rest zero small some = absurd (some (omega arith))
room_left rest (suc room) small some = omega arith
