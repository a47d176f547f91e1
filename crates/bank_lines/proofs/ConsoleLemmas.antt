-- A head as the console prints it, a time in brackets and a space, shows its line to be the kernel's own.
use Rattle.std.proofs.Common.{◌≡◌, ℕ, zero, suc, ◌+◌, ◌*◌, ◌-◌, ◌<◌, ◌==◌, ◌&&◌, ◌||◌, Bool, true, false, not, nat_eq, nat_lt, nat_le, List, [], ◌∷◌, ◌++◌, codes, drop, length, refl, sym, ap, subst, ◌∙◌, arith, append_assoc, length-append, inl, inr, Option, Some, None, if◌then◌else◌}
use Rattle.std.proofs.lemmas.Bool.{cases_eq}
use Rattle.std.proofs.lemmas.Bool.Decides.{nat_tests}
use Rattle.std.proofs.lemmas.List.{drop_at}
use Rattle.std.specs.Char.{is_digit}
use Rattle.std.specs.Cmp.Lexicographic.{pointwise}
use Rattle.std.specs.List.{AllByRecursion, ends_with, list_all, list_any, position_or_len, starts_with}
use Rattle.std.specs.Option.{option_map}
use Rattle.std.specs.Prelude.{IfSome}
use Rattle.std.specs.Str.Parse.{digits_value}
use Rattle.ras_klog.specs.Reading.{read_then}
use Rattle.ras_script.specs.Number.{decimal_of}
use Rattle.ras_script.specs.SplittingLaws.{Lacks}
use Rattle.bank_lines.specs.LogHeads.{after, are_clock_signs, has_digit, is_after_brackets, is_bracketed, is_clock, is_iso_time, is_leveled, is_name_sign, is_own, is_own_by, is_record, mark_place, record_time, up_to, without_spaces}
use Rattle.bank_lines.specs.LogLines.{bracket_stamp, log_stamp_of, micros_of}
use Rattle.bank_lines.specs.Steps.Times.{IsTime}
use Rattle.bank_lines.specs.declared.log_line.TheConstants.{LAST_SECOND, LAST_STAMP, MICROSECONDS}
use Rattle.bank_lines.proofs.LogTextLemmas.{after_is, up_to_is}
use Rattle.bank_lines.proofs.NumeralLemmas.{both}

-- ---- bytes: spaces and digits

abbrev is_plain : ℕ → Bool
is_plain b = b == 32 || is_digit b 10

abbrev IsPlain : ℕ → Type 0
IsPlain b = is_plain b ≡ true

abbrev ArePlain : List ℕ → Type 0
ArePlain text = AllByRecursion IsPlain text

true≢false : true ≡ false → ⊥
true≢false e = absurd cc

plain_other : (b byte : ℕ) → IsPlain b → is_plain byte ≡ false → ¬ (b ≡ byte)
plain_other b byte plain other same = true≢false (sym plain ∙ ap is_plain same ∙ other)

plain_lacks : (byte : ℕ) (text : List ℕ) → is_plain byte ≡ false → ArePlain text → Lacks byte text
plain_lacks byte [] other plain = tt
plain_lacks byte (b ∷ text) other plain = (plain_other b byte plain.0 other, plain_lacks byte text other plain.1)

-- whether a test holds of each number below another, by computing
holds_below : (ℕ → Bool) → ℕ → Bool
holds_below test zero = true
holds_below test (suc n) = test n && holds_below test n

both_of : (t rest : Bool) → (t && rest) ≡ true → (t ≡ true) × (rest ≡ true)
both_of true rest h = (refl, h)
both_of false rest h = absurd cc

holds_at : (test : ℕ → Bool) (n : ℕ) → holds_below test n ≡ true → (b : ℕ) → b < n → test b ≡ true
unfolding holds_below
holds_at test zero h b less = absurd (omega (arith, less))
holds_at test (suc n) h b less =
    let parts = both_of (test n) (holds_below test n) h in
    elim (cases_eq b n) [
      | inl same ↦ ap test same ∙ parts.0
      | inr other ↦ holds_at test n parts.1 b (omega (arith, less, other))
    ]

abbrev is_clock_sign : ℕ → Bool
is_clock_sign b = is_name_sign b || list_any (λ sign. sign == b) (codes " :+<>")

-- a space, a digit or a point may be in a time
plain_small : (b : ℕ) → IsPlain b → b < 58
plain_small b plain = by (b == 32) refl plain
  where
    by : (space : Bool) → (b == 32) ≡ space → (space || is_digit b 10) ≡ true → b < 58
    by true is h = grind (arith, nat_tests, is)
    by false is h = grind (arith, nat_tests, h)

plain_sign : (b : ℕ) → IsPlain b → is_clock_sign b ≡ true
unfolding holds_below
plain_sign b plain = by (is_plain b) plain (holds_at (λ c. not (is_plain c) || is_clock_sign c) 58 refl b (plain_small b plain))
  where
    by : (p : Bool) → p ≡ true → (not p || is_clock_sign b) ≡ true → is_clock_sign b ≡ true
    by true is h = h
    by false is h = absurd cc

plain_signs : (text : List ℕ) → ArePlain text → are_clock_signs text ≡ true
plain_signs [] plain = refl
plain_signs (b ∷ text) plain = (λ i. plain_sign b plain.0 i && plain_signs text plain.1 i)

signs_both : (xs ys : List ℕ) → are_clock_signs xs ≡ true → are_clock_signs ys ≡ true → are_clock_signs (xs ++ ys) ≡ true
signs_both [] ys one other = other
signs_both (x ∷ xs) ys one other =
    let parts = both_of (is_clock_sign x) (are_clock_signs xs) one in
    (λ i. parts.0 i && signs_both xs ys parts.1 other i)

-- ---- numerals

numeral_digits : (most : ℕ) (word : List ℕ) (n : ℕ) → decimal_of most word ≡ Some n → (0 < length word) × (list_all (λ b. is_digit b 10) word ≡ true)
numeral_digits most word n h =
    let is = by (nat_lt 0 (length word)) (nat_le (length word) 20) (list_all (λ b. is_digit b 10) word) (nat_le (digits_value 10 word) most) h in
    (grind (arith, nat_tests, is.0), is.1)
  where
    by : (some few digits fits : Bool) → (if (some && (few && digits)) && fits then Some (digits_value 10 word) else None) ≡ Some n → (some ≡ true) × (digits ≡ true)
    by true true true fits e = (refl, refl)
    by true true false fits e = absurd cc
    by true false digits fits e = absurd cc
    by false few digits fits e = absurd cc

or_right : (a b : Bool) → b ≡ true → (a || b) ≡ true
or_right true b is = refl
or_right false b is = is

digits_plain : (word : List ℕ) → list_all (λ b. is_digit b 10) word ≡ true → ArePlain word
digits_plain [] all = tt
digits_plain (b ∷ word) all =
    let parts = both_of (is_digit b 10) (list_all (λ c. is_digit c 10) word) all in
    (or_right (b == 32) (is_digit b 10) parts.0, digits_plain word parts.1)

-- a text without its first byte, if this byte is a space
spaces_step : (b : ℕ) (text : List ℕ) (space : Bool) → (b == 32) ≡ space → without_spaces (b ∷ text) ≡ (if space then without_spaces text else b ∷ text)
spaces_step b text true is =
    let further : 1 + position_or_len (λ c. not (c == 32)) text ≡ suc (position_or_len (λ c. not (c == 32)) text) = omega arith in
    rw is (ap (λ (n : ℕ). drop n (b ∷ text)) further)
spaces_step b text false is = rw is refl

-- if only digits follow a text's spaces, the text consists of spaces and digits
front_plain : (front : List ℕ) → list_all (λ b. is_digit b 10) (without_spaces front) ≡ true → ArePlain front
front_plain [] all = tt
front_plain (b ∷ front) all = by (b == 32) refl (front_plain front)
  where
    by : (space : Bool) → (b == 32) ≡ space → (list_all (λ c. is_digit c 10) (without_spaces front) ≡ true → ArePlain front) → ArePlain (b ∷ front)
    by true is ih =
        let passed : without_spaces (b ∷ front) ≡ without_spaces front = spaces_step b front true is in
        (ap (λ (space : Bool). space || is_digit b 10) is, ih (ap (λ (t : List ℕ). list_all (λ c. is_digit c 10) t) (sym passed) ∙ all))
    by false is ih =
        digits_plain (b ∷ front) (ap (λ (t : List ℕ). list_all (λ c. is_digit c 10) t) (sym (spaces_step b front false is)) ∙ all)

-- text after a word doesn't change how the spaces before the word are dropped
words_behind : (front rest : List ℕ) → 0 < length (without_spaces front) → without_spaces (front ++ rest) ≡ without_spaces front ++ rest
words_behind [] rest some = absurd (omega (arith, some))
words_behind (b ∷ front) rest some = by (b == 32) refl (words_behind front rest) some
  where
    by : (space : Bool) → (b == 32) ≡ space → (0 < length (without_spaces front) → without_spaces (front ++ rest) ≡ without_spaces front ++ rest)
        → 0 < length (without_spaces (b ∷ front)) → without_spaces (b ∷ (front ++ rest)) ≡ without_spaces (b ∷ front) ++ rest
    by true is ih some =
        spaces_step b (front ++ rest) true is ∙ ih (subst (λ (t : List ℕ). 0 < length t) (spaces_step b front true is) some)
        ∙ ap (λ (t : List ℕ). t ++ rest) (sym (spaces_step b front true is))
    by false is ih some = spaces_step b (front ++ rest) false is ∙ ap (λ (t : List ℕ). t ++ rest) (sym (spaces_step b front false is))

-- ---- a time

micros_digits : (word : List ℕ) (n : ℕ) → micros_of word ≡ Some n → (0 < length word) × (list_all (λ b. is_digit b 10) word ≡ true)
micros_digits word n h = by (length word == 6) h
  where
    by : (six : Bool) → (if six then decimal_of (MICROSECONDS - 1) word else None) ≡ Some n → (0 < length word) × (list_all (λ b. is_digit b 10) word ≡ true)
    by true e = numeral_digits (MICROSECONDS - 1) word n e
    by false e = absurd cc

digit_first : (word : List ℕ) → 0 < length word → list_all (λ b. is_digit b 10) word ≡ true → has_digit word ≡ true
digit_first [] some all = absurd (omega (arith, some))
digit_first (b ∷ word) some all =
    let parts = both_of (is_digit b 10) (list_all (λ c. is_digit c 10) word) all in
    ap (λ (digit : Bool). digit || has_digit word) parts.0

digit_behind : (xs ys : List ℕ) → has_digit ys ≡ true → has_digit (xs ++ ys) ≡ true
digit_behind [] ys is = is
digit_behind (x ∷ xs) ys is = or_right (is_digit x 10) (has_digit (xs ++ ys)) (digit_behind xs ys is)

-- without a colon the head names no device and no process
no_mark : (text : List ℕ) → Lacks 58 text → mark_place (codes ": ") text ≡ None
no_mark [] lacks = refl
no_mark (b ∷ text) lacks =
    let other : (58 == b) ≡ false = grind (arith, nat_tests, lacks.0) in
    by (starts_with nat_eq (b ∷ text) (codes ": ")) (no_start b text other) (no_mark text lacks.1)
  where
    by : (starts : Bool) → starts ≡ false → mark_place (codes ": ") text ≡ None → (if starts then Some 0 else option_map (λ (place : ℕ). place + 1) (mark_place (codes ": ") text)) ≡ None
    by true is none = absurd cc
    by false is none = ap (option_map (λ (place : ℕ). place + 1)) none

    no_start : (b : ℕ) (text : List ℕ) → (58 == b) ≡ false → starts_with nat_eq (b ∷ text) (codes ": ") ≡ false
    no_start b [] other = rw other refl
    no_start b (c ∷ text) other = rw other refl

module _ (time : List ℕ) (stamp : ℕ) (h : IsTime time stamp) where
  abbrev head : List ℕ
  head = 91 ∷ (time ++ 93 ∷ 32 ∷ [])

  word : (0 < length (without_spaces h.front)) × (list_all (λ b. is_digit b 10) (without_spaces h.front) ≡ true)
  word = numeral_digits LAST_SECOND (without_spaces h.front) h.seconds h.read

  micros : (0 < length h.behind) × (list_all (λ b. is_digit b 10) h.behind ≡ true)
  micros = micros_digits h.behind h.micros h.behind_read

  front : ArePlain h.front
  front = front_plain h.front word.1

  behind : ArePlain h.behind
  behind = digits_plain h.behind micros.1

  time_lacks : (byte : ℕ) → is_plain byte ≡ false → ¬ (46 ≡ byte) → Lacks byte time
  time_lacks byte other point =
      subst (λ (t : List ℕ). Lacks byte t) (sym h.is)
      (both (λ b. ¬ (b ≡ byte)) h.front (46 ∷ h.behind) (plain_lacks byte h.front other front) (point, plain_lacks byte h.behind other behind))

  no_bracket : Lacks 93 time
  no_bracket = time_lacks 93 refl (λ e. omega (arith, e))

  clock : is_clock time ≡ true
  clock =
      let digit : has_digit time ≡ true =
      ap has_digit h.is ∙ digit_behind h.front (46 ∷ h.behind) (or_right (is_digit 46 10) (has_digit h.behind) (digit_first h.behind micros.0 micros.1)) in
      let signs : are_clock_signs time ≡ true =
      ap are_clock_signs h.is ∙ signs_both h.front (46 ∷ h.behind) (plain_signs h.front front) (plain_signs h.behind behind) in
      (λ i. digit i && signs i)

  bracketed : is_bracketed head ≡ true
  bracketed =
      let open_lacks : Lacks 93 (91 ∷ time) = ((λ e. omega (arith, e)), no_bracket) in
      ap (λ (t : List ℕ). is_clock (drop 1 t) && is_after_brackets (after 93 head)) (up_to_is 93 (91 ∷ time) (32 ∷ []) open_lacks)
      ∙ ap (λ (t : List ℕ). is_clock time && is_after_brackets t) (after_is 93 (91 ∷ time) (32 ∷ []) open_lacks)
      ∙ ap (λ (b : Bool). b && true) clock

  no_colon : Lacks 58 head
  no_colon =
      ((λ e. omega (arith, e)), both (λ b. ¬ (b ≡ 58)) time (93 ∷ 32 ∷ []) (time_lacks 58 refl (λ e. omega (arith, e))) ((λ e. omega (arith, e)), ((λ e. omega (arith, e)), tt)))

  pub own_head : is_own head ≡ true
  own_head =
      let some : (length head == 0) ≡ false = grind (arith, nat_tests) in
      ap (λ (place : Option ℕ). is_own_by head place) (no_mark head no_colon)
      ∙ (λ i. (some i || (bracketed i || (is_leveled head || is_iso_time head))) || is_record head)

  not_record : ends_with nat_eq head (codes ";") ≡ false
  not_record =
      let size : length (91 ∷ (time ++ 93 ∷ [])) ≡ length head - 1 = omega (arith, length-append time (93 ∷ 32 ∷ []), length-append time (93 ∷ [])) in
      let last : drop (length head - 1) head ≡ 32 ∷ [] =
      ap (λ (t : List ℕ). drop (length head - 1) (91 ∷ t)) (sym (append_assoc time (93 ∷ []) (32 ∷ [])))
      ∙ drop_at (91 ∷ (time ++ 93 ∷ [])) (32 ∷ []) (length head - 1) size in
      ap (λ (t : List ℕ). pointwise nat_eq (codes ";") t) last

  pub stamp_head : log_stamp_of head ≡ Some stamp
  stamp_head =
      let inner : up_to 93 (time ++ 93 ∷ 32 ∷ []) ≡ time = up_to_is 93 time (32 ∷ []) no_bracket in
      let text : without_spaces time ≡ without_spaces h.front ++ 46 ∷ h.behind =
      ap without_spaces h.is ∙ words_behind h.front (46 ∷ h.behind) word.0 in
      let lacks : Lacks 46 (without_spaces h.front) = plain_lacks 46 (without_spaces h.front) refl (digits_plain (without_spaces h.front) word.1) in
      ap (λ (ends : Bool). if ends then decimal_of LAST_STAMP (record_time head) else bracket_stamp head) not_record
      ∙ ap (λ (t : List ℕ). told (without_spaces t)) inner
      ∙ ap told text
      ∙ ap (λ (t : List ℕ). read_then (decimal_of LAST_SECOND t) (λ s. read_then (micros_of (after 46 (without_spaces h.front ++ 46 ∷ h.behind))) (λ m. Some (s * MICROSECONDS + m)))) (up_to_is 46 (without_spaces h.front) h.behind lacks)
      ∙ ap (λ (t : List ℕ). read_then (decimal_of LAST_SECOND (without_spaces h.front)) (λ s. read_then (micros_of t) (λ m. Some (s * MICROSECONDS + m)))) (after_is 46 (without_spaces h.front) h.behind lacks)
      ∙ ap (λ (o : Option ℕ). read_then o (λ s. read_then (micros_of h.behind) (λ m. Some (s * MICROSECONDS + m)))) h.read
      ∙ ap (λ (o : Option ℕ). read_then o (λ m. Some (h.seconds * MICROSECONDS + m))) h.behind_read
      ∙ ap Some (sym h.stamp_is)
    where
      told : List ℕ → Option ℕ
      told t = read_then (decimal_of LAST_SECOND (up_to 46 t)) (λ s. read_then (micros_of (after 46 t)) (λ m. Some (s * MICROSECONDS + m)))

pub head_told : (text time : List ℕ) (o : Option ℕ) → text ≡ 91 ∷ (time ++ 93 ∷ 32 ∷ []) → IfSome o (λ stamp. IsTime time stamp)
    → IfSome o (λ stamp. (is_own text ≡ true) × (log_stamp_of text ≡ Some stamp))
head_told text time None is h = tt
head_told text time (Some stamp) is h = (ap is_own is ∙ own_head time stamp h, ap log_stamp_of is ∙ stamp_head time stamp h)
