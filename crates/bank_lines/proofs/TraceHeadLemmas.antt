-- Text that tracers print before an event is recognized as theirs, and gives its time stamp.
use Rattle.std.proofs.Common.{◌≡◌, ℕ, zero, suc, ◌+◌, ◌-◌, ◌*◌, ◌^◌, ◌<◌, ◌≤◌, ◌==◌, ◌&&◌, ◌||◌, Bool, true, false, not, nat_eq, nat_le, nat_lt, List, [], ◌∷◌, ◌++◌, codes, decimal, take, drop, length, get_or, refl, sym, ap, ◌∙◌, arith, append_assoc, length-append, Some}
use Rattle.std.specs.Prelude.{replicate, slice_index, if◌then◌else◌}
use Rattle.std.proofs.Math.Seq.{take-append_seam}
use Rattle.std.proofs.lemmas.Bool.{lt-ltb}
use Rattle.std.proofs.lemmas.Bool.Decides.{nat_tests}
use Rattle.std.proofs.lemmas.Fmt.{decimal_is_IsNumeral, decimal_nonempty, length-decimal-le}
use Rattle.std.proofs.lemmas.List.{drop_at, drop-append-le, length-replicate}
use Rattle.std.proofs.Math.ListN.{get_or-append}
use Rattle.std.proofs.Math.Seq.{get_or-append_right}
use Rattle.std.specs.Char.{digit_value, is_digit}
use Rattle.std.specs.List.{list_all, list_any, prefix_len}
use Rattle.std.specs.Str.{bytes_eq}
use Rattle.std.specs.Str.Parse.{AllDigits, digits_value}
use Rattle.ras_script.proofs.LineAndWordLemmas.{split_between, split_lacking}
use Rattle.ras_script.proofs.WrittenNumberLemmas.{decimal_read}
use Rattle.ras_script.specs.Number.{decimal_of}
use Rattle.ras_script.specs.SplittingLaws.{Lacks}
use Rattle.bank_lines.specs.LogHeads.{begins, has_digit, mark_place, without_spaces}
use Rattle.bank_lines.specs.LogKernel.{HasNo}
use Rattle.bank_lines.specs.Parts.{cut_at}
use Rattle.bank_lines.specs.Stamp.{stamp_of}
use Rattle.bank_lines.specs.Trace.{are_count_signs, behind_name, is_count, is_in_columns, is_system, is_traced, is_traced_by, last_word}
use Rattle.bank_lines.specs.TraceHeads.{IsFront, Tracer, clock, digits_of, head_of, perf, pipe_front, system_of, trace_cmd, trace_pipe}
use Rattle.bank_lines.proofs.LogMarkLemmas.{first_behind}
use Rattle.bank_lines.proofs.NumeralLemmas.{decimal_lacks, lack_both, literal_lacks}

-- ---- digits

zeros_value : (k : ℕ) (word : List ℕ) → digits_value 10 (replicate k 48 ++ word) ≡ digits_value 10 word
zeros_value zero word = refl
zeros_value (suc k) word = zeros_value k word

zeros_digits : (k : ℕ) (word : List ℕ) → list_all (λ c. is_digit c 10) (replicate k 48 ++ word) ≡ list_all (λ c. is_digit c 10) word
zeros_digits zero word = refl
zeros_digits (suc k) word = zeros_digits k word

zeros_lack : (byte k : ℕ) → ¬ (48 ≡ byte) → Lacks byte (replicate k 48)
zeros_lack byte zero other = tt
zeros_lack byte (suc k) other = (other, zeros_lack byte k other)

digits_pass : (word : List ℕ) → AllDigits 10 word → list_all (λ c. is_digit c 10) word ≡ true
digits_pass [] all = refl
digits_pass (c ∷ cs) all = rw (lt-ltb _ _ all.0, digits_pass cs all.1) refl

all_digits : (n : ℕ) → n < 2 ^ 64 → list_all (λ c. is_digit c 10) (decimal n) ≡ true
all_digits n small = digits_pass (decimal n) (decimal_is_IsNumeral n small).0.1

module _ (m : ℕ) (low : m < 1000000) where
  abbrev word : List ℕ
  word = decimal m

  abbrev six : List ℕ
  six = digits_of 6 m

  short : length word ≤ 6
  short = length-decimal-le 6 m (omega arith) (omega arith) (omega arith)

  six_long : length six ≡ 6
  six_long = omega (arith, short, length-append (replicate (6 - length word) 48) word, length-replicate {A = ℕ} (6 - length word) 48)

  six_digits : list_all (λ c. is_digit c 10) six ≡ true
  six_digits = zeros_digits (6 - length word) word ∙ all_digits m (omega (arith, low))

  six_read : decimal_of 999999 six ≡ Some m
  six_read =
      let some : nat_lt 0 (length six) ≡ true = grind (arith, nat_tests, six_long) in
      let few : nat_le (length six) 20 ≡ true = grind (arith, nat_tests, six_long) in
      let value : digits_value 10 six ≡ m = zeros_value (6 - length word) word ∙ (decimal_is_IsNumeral m (omega (arith, low))).1 in
      let within : nat_le (digits_value 10 six) 999999 ≡ true = grind (arith, nat_tests, value, low) in
      rw (some, few, six_digits, within) (ap Some value)

  six_lacks : (byte : ℕ) → 16 ≤ digit_value byte → ¬ (48 ≡ byte) → Lacks byte six
  six_lacks byte high other = lack_both byte (replicate (6 - length word) 48) word (zeros_lack byte (6 - length word) other) (decimal_lacks byte m high (omega (arith, low)))

-- ---- the clock

module _ (seconds micros : ℕ) (most : seconds ≤ 18446744073708) (low : micros < 1000000) where
  abbrev before : List ℕ
  before = decimal seconds

  abbrev six_micros : List ℕ
  six_micros = digits_of 6 micros

  small : seconds < 2 ^ 64
  small = omega (arith, most)

  abbrev shown : List ℕ
  shown = clock seconds micros

  abbrev stamp_word : List ℕ
  stamp_word = shown ++ 58 ∷ []

  pub clock_lacks : (byte : ℕ) → 16 ≤ digit_value byte → ¬ (48 ≡ byte) → ¬ (46 ≡ byte) → Lacks byte shown
  clock_lacks byte high other point = lack_both byte before (46 ∷ six_micros) (decimal_lacks byte seconds high small) (point, six_lacks micros low byte high other)

  clock_long : length shown ≡ length before + 7
  clock_long = omega (arith, length-append before (46 ∷ six_micros), six_long micros low)

  stamp_long : length stamp_word ≡ length before + 8
  stamp_long = omega (arith, length-append shown (58 ∷ []), clock_long)

  some_before : 0 < length before
  some_before = decimal_nonempty seconds small

  stamp_is : stamp_word ≡ before ++ 46 ∷ (six_micros ++ 58 ∷ [])
  stamp_is = append_assoc before (46 ∷ six_micros) (58 ∷ [])

  -- the pieces of the stamp's word
  point_at : slice_index stamp_word (length before) ≡ 46
  point_at = ap (λ (text : List ℕ). get_or text (length before) 0) stamp_is ∙ at before (six_micros ++ 58 ∷ [])
    where
      at : (front back : List ℕ) → get_or (front ++ 46 ∷ back) (length front) 0 ≡ 46
      at [] back = refl
      at (b ∷ front) back = at front back

  colon_at : slice_index stamp_word (length before + 7) ≡ 58
  colon_at = ap (λ (i : ℕ). get_or stamp_word i 0) (sym clock_long) ∙ at shown
    where
      at : (front : List ℕ) → get_or (front ++ 58 ∷ []) (length front) 0 ≡ 58
      at [] = refl
      at (b ∷ front) = at front

  front_is : take (length before) stamp_word ≡ before
  front_is = ap (take (length before)) stamp_is ∙ take-append_seam before (46 ∷ (six_micros ++ 58 ∷ []))

  micros_are : take 6 (drop (length before + 1) stamp_word) ≡ six_micros
  micros_are =
      let point : length (before ++ 46 ∷ []) ≡ length before + 1 = omega (arith, length-append before (46 ∷ [])) in
      let split : stamp_word ≡ (before ++ 46 ∷ []) ++ (six_micros ++ 58 ∷ []) = stamp_is ∙ sym (append_assoc before (46 ∷ []) (six_micros ++ 58 ∷ [])) in
      ap (λ (text : List ℕ). take 6 (drop (length before + 1) text)) split
      ∙ ap (take 6) (drop_at (before ++ 46 ∷ []) (six_micros ++ 58 ∷ []) (length before + 1) point)
      ∙ ap (λ (n : ℕ). take n (six_micros ++ 58 ∷ [])) (sym (six_long micros low)) ∙ take-append_seam six_micros (58 ∷ [])

  pub stamp_read : stamp_of stamp_word ≡ Some (1000000 * seconds + micros)
  stamp_read =
      let point : length stamp_word - 8 ≡ length before = omega (arith, stamp_long) in
      let enough : nat_lt 8 (length stamp_word) ≡ true = grind (arith, nat_tests, stamp_long, some_before) in
      let is_point : (slice_index stamp_word (length stamp_word - 8) == 46) ≡ true = ap (λ (i : ℕ). slice_index stamp_word i == 46) point ∙ ap (λ (b : ℕ). b == 46) point_at in
      let is_colon : (slice_index stamp_word (length stamp_word - 8 + 7) == 58) ≡ true = ap (λ (i : ℕ). slice_index stamp_word (i + 7) == 58) point ∙ ap (λ (b : ℕ). b == 58) colon_at in
      let seconds_read : decimal_of 18446744073708 (take (length stamp_word - 8) stamp_word) ≡ Some seconds =
      ap (λ (i : ℕ). decimal_of 18446744073708 (take i stamp_word)) point ∙ ap (decimal_of 18446744073708) front_is ∙ decimal_read 18446744073708 seconds most (omega arith) in
      let micros_read : decimal_of 999999 (take 6 (drop (length stamp_word - 8 + 1) stamp_word)) ≡ Some micros =
      ap (λ (i : ℕ). decimal_of 999999 (take 6 (drop (i + 1) stamp_word))) point ∙ ap (decimal_of 999999) micros_are ∙ six_read micros low in
      rw (enough, is_point, is_colon, seconds_read, micros_read) refl

  -- the clock's word is recognized
  has_some : (word rest : List ℕ) → 0 < length word → list_all (λ b. is_digit b 10) word ≡ true → has_digit (word ++ rest) ≡ true
  has_some [] rest some all = absurd (omega (arith, some))
  has_some (b ∷ word) rest some all = by (is_digit b 10) all
    where
      by : (is : Bool) → (is && list_all (λ c. is_digit c 10) word) ≡ true → (is || list_any (λ c. is_digit c 10) (word ++ rest)) ≡ true
      by true all = refl
      by false all = absurd cc

  signs : (word rest : List ℕ) → list_all (λ b. is_digit b 10) word ≡ true → are_count_signs rest ≡ true → are_count_signs (word ++ rest) ≡ true
  signs [] rest all more = more
  signs (b ∷ word) rest all more = by (is_digit b 10) (b == 46) all (signs word rest)
    where
      by : (is point : Bool) → (is && list_all (λ c. is_digit c 10) word) ≡ true → (list_all (λ c. is_digit c 10) word ≡ true → are_count_signs rest ≡ true → are_count_signs (word ++ rest) ≡ true)
          → ((point || is) && are_count_signs (word ++ rest)) ≡ true
      by true true all ih = ih all more
      by true false all ih = ih all more
      by false point all ih = absurd cc

  six_signs : are_count_signs six_micros ≡ true
  six_signs = ap are_count_signs (sym (nil six_micros)) ∙ signs six_micros [] (six_digits micros low) refl
    where
      nil : (xs : List ℕ) → xs ++ [] ≡ xs
      nil [] = refl
      nil (x ∷ xs) = ap (λ (rest : List ℕ). x ∷ rest) (nil xs)

  pub counts : is_count shown ≡ true
  counts =
      let enough : nat_lt 3 (length shown) ≡ true = grind (arith, nat_tests, clock_long) in
      rw (enough, has_some before (46 ∷ six_micros) some_before (all_digits seconds small), signs before (46 ∷ six_micros) (all_digits seconds small) six_signs) refl

-- ---- words

pub last_behind : (first : List ℕ) (words : List (List ℕ)) (word : List ℕ) → last_word first (words ++ word ∷ []) ≡ word
last_behind first [] behind = refl
last_behind first (w ∷ words) behind = last_behind w words behind

abbrev is_name_of : List ℕ → Bool
is_name_of name = length name == 0 || bytes_eq name (codes "mce:")

system_is : (tracer : Tracer) (spaces : ℕ) → is_system (32 ∷ (replicate spaces 32 ++ system_of tracer)) ≡ true
system_is tracer spaces = ap is_name_of (skipped spaces) ∙ by tracer
  where
    by : (t : Tracer) → is_name_of (without_spaces (system_of t)) ≡ true
    by trace_pipe = refl
    by trace_cmd = refl
    by perf = refl

    passes : (text : List ℕ) → without_spaces (32 ∷ text) ≡ without_spaces text
    passes text =
        let next : 1 + prefix_len (λ b. not (not (b == 32))) text ≡ suc (prefix_len (λ b. not (not (b == 32))) text) = omega arith in
        ap (λ (n : ℕ). drop n (32 ∷ text)) next

    skipped : (n : ℕ) → without_spaces (32 ∷ (replicate n 32 ++ system_of tracer)) ≡ without_spaces (system_of tracer)
    skipped zero = passes (system_of tracer)
    skipped (suc n) = passes (32 ∷ (replicate n 32 ++ system_of tracer)) ∙ skipped n

other : (b : ℕ) → ¬ (b ≡ 58) → nat_eq 58 b ≡ false
other b not_colon = grind (arith, nat_tests, not_colon)

and_false : (t u : Bool) → t ≡ false → (t && u) ≡ false
and_false true u is = absurd cc
and_false false u is = refl

-- ---- a name in columns

-- none of the first 16 bytes is `-`
abbrev pub NoDash : List ℕ → Type 0
NoDash text = (i : ℕ) → i < 16 → ¬ (slice_index text i ≡ 45)

pub lacks_dash : (text : List ℕ) → Lacks 45 text → (i : ℕ) → ¬ (slice_index text i ≡ 45)
lacks_dash [] lacks i is = absurd (omega (arith, is))
lacks_dash (b ∷ text) lacks zero is = lacks.0 is
lacks_dash (b ∷ text) lacks (suc i) is = lacks_dash text lacks.1 i is

pub front_plain : (region rest : List ℕ) → Lacks 45 region → 16 ≤ length region → NoDash (region ++ rest)
front_plain region rest lacks reaches i low is =
    lacks_dash region lacks i (sym (get_or-append region rest 0 i (omega (arith, low, reaches))) ∙ is)

pub clock_reaches : (seconds micros : ℕ) → seconds ≤ 18446744073708 → micros < 1000000 → 8 ≤ length (clock seconds micros)
clock_reaches seconds micros most low = omega (arith, clock_long seconds micros most low, some_before seconds micros most low)

and_nothing : (t : Bool) → (t && false) ≡ false
and_nothing true = refl
and_nothing false = refl

both_true : (t u : Bool) → (t && u) ≡ true → t ≡ true
both_true true u is = refl
both_true false u is = absurd cc

not_dash : (b : ℕ) (more : Bool) → ¬ (b ≡ 45) → ((b == 45) && more) ≡ false
not_dash b more other = let is : (b == 45) ≡ false = grind (arith, nat_tests, other) in rw is refl

module _ (front tail : List ℕ) (plain : NoDash tail) where
  abbrev whole : List ℕ
  whole = front ++ 32 ∷ tail

  short_front : length front ≤ 17 → behind_name front ≡ front
  short_front short =
      let few : nat_lt 17 (length front) ≡ false = grind (arith, nat_tests, short) in
      rw few refl

  -- the byte in the column of the `-`, after a front that doesn't reach it
  plain_there : length front ≤ 16 → ¬ (slice_index whole 16 ≡ 45)
  plain_there short is =
      let right : get_or whole 16 0 ≡ get_or (32 ∷ tail) (16 - length front) 0 = get_or-append_right front (32 ∷ tail) 16 0 short in
      by (16 - length front) (omega arith) (sym right ∙ is)
    where
      by : (i : ℕ) → i ≤ 16 → ¬ (get_or (32 ∷ tail) i 0 ≡ 45)
      by zero small is = omega (arith, is)
      by (suc i) small is = plain i (omega (arith, small)) is

  not_in_columns : length front ≤ 17 → is_in_columns whole ≡ false
  not_in_columns short = by (nat_le (length front) 16) refl
    where
      by : (below : Bool) → nat_le (length front) 16 ≡ below → is_in_columns whole ≡ false
      by true is =
          let low : length front ≤ 16 = grind (arith, nat_tests, is) in
          ap (λ (columns : Bool). nat_lt 17 (length whole) && columns) (not_dash (slice_index whole 16) (is_digit (slice_index whole 17) 10) (plain_there low))
          ∙ and_nothing (nat_lt 17 (length whole))
      by false is =
          let full : length front ≡ 17 = let above : ¬ (length front ≤ 16) = grind (arith, nat_tests, is) in omega (arith, short, above) in
          let here : slice_index whole 17 ≡ 32 = get_or-append_right front (32 ∷ tail) 17 0 (omega (arith, full)) ∙ ap (λ (i : ℕ). get_or (32 ∷ tail) (17 - i) 0) full in
          ap (λ (b : ℕ). nat_lt 17 (length whole) && ((slice_index whole 16 == 45) && is_digit b 10)) here
          ∙ ap (λ (columns : Bool). nat_lt 17 (length whole) && columns) (and_nothing (slice_index whole 16 == 45))
          ∙ and_nothing (nat_lt 17 (length whole))

  long_front : 17 < length front → behind_name whole ≡ behind_name front ++ 32 ∷ tail
  long_front long = same ∙ by (is_in_columns front)
    where
      enough : nat_lt 17 (length front) ≡ true
      enough = grind (arith, nat_tests, long)

      more : nat_lt 17 (length whole) ≡ true
      more = let sum : length whole ≡ length front + length (32 ∷ tail) = length-append front (32 ∷ tail) in grind (arith, nat_tests, long, sum)

      columns_same : is_in_columns whole ≡ is_in_columns front
      columns_same =
          ap (λ (b : ℕ). nat_lt 17 (length whole) && ((b == 45) && is_digit (slice_index whole 17) 10)) (get_or-append front (32 ∷ tail) 0 16 (omega (arith, long)))
          ∙ ap (λ (b : ℕ). nat_lt 17 (length whole) && ((slice_index front 16 == 45) && is_digit b 10)) (get_or-append front (32 ∷ tail) 0 17 long)
          ∙ ap (λ (t : Bool). t && ((slice_index front 16 == 45) && is_digit (slice_index front 17) 10)) (more ∙ sym enough)

      same : behind_name whole ≡ (if is_in_columns front then drop 17 whole else whole)
      same = ap (λ (columns : Bool). if columns then drop 17 whole else whole) columns_same

      by : (columns : Bool) → (if columns then drop 17 whole else whole) ≡ (if columns then drop 17 front else front) ++ 32 ∷ tail
      by true = drop-append-le 17 front (32 ∷ tail) (omega (arith, long))
      by false = refl

  -- the text after the name, if a text continues after its front
  pub named_front : behind_name whole ≡ behind_name front ++ 32 ∷ tail
  named_front = by (nat_le (length front) 17) refl
    where
      by : (below : Bool) → nat_le (length front) 17 ≡ below → behind_name whole ≡ behind_name front ++ 32 ∷ tail
      by true is =
          let short : length front ≤ 17 = grind (arith, nat_tests, is) in
          ap (λ (columns : Bool). if columns then drop 17 whole else whole) (not_in_columns short)
          ∙ ap (λ (text : List ℕ). text ++ 32 ∷ tail) (sym (short_front short))
      by false is = long_front (let above : ¬ (length front ≤ 17) = grind (arith, nat_tests, is) in omega (arith, above))

spaces_lack : (n : ℕ) (text : List ℕ) → Lacks 45 text → Lacks 45 (replicate n 32 ++ text)
spaces_lack zero text lacks = lacks
spaces_lack (suc n) text lacks = ((λ (e : ◌≡◌ {A = ℕ} 32 45). omega (arith, e)), spaces_lack n text lacks)

system_lacks : (tracer : Tracer) → Lacks 45 (system_of tracer)
system_lacks trace_pipe = tt
system_lacks trace_cmd = tt
system_lacks perf = literal_lacks 45 (codes "mce:") refl

-- a name in the 16 columns, followed by a number
pub behind_columns : (name rest : List ℕ) → length name ≡ 16 → is_digit (slice_index rest 0) 10 ≡ true → behind_name (name ++ 45 ∷ rest) ≡ rest
behind_columns name [] long digit = absurd cc
behind_columns name (d ∷ rest) long digit =
    let line : List ℕ = name ++ 45 ∷ d ∷ rest in
    let sum : length line ≡ length name + length (45 ∷ d ∷ rest) = length-append name (45 ∷ d ∷ rest) in
    let enough : nat_lt 17 (length line) ≡ true = grind (arith, nat_tests, long, sum) in
    let dash : slice_index line 16 ≡ 45 = get_or-append_right name (45 ∷ d ∷ rest) 16 0 (omega (arith, long)) ∙ ap (λ (i : ℕ). get_or (45 ∷ d ∷ rest) (16 - i) 0) long in
    let number : slice_index line 17 ≡ d = get_or-append_right name (45 ∷ d ∷ rest) 17 0 (omega (arith, long)) ∙ ap (λ (i : ℕ). get_or (45 ∷ d ∷ rest) (17 - i) 0) long in
    ap (λ (t : Bool). if t && ((slice_index line 16 == 45) && is_digit (slice_index line 17) 10) then drop 17 line else line) enough
    ∙ ap (λ (b : ℕ). if (b == 45) && is_digit (slice_index line 17) 10 then drop 17 line else line) dash
    ∙ ap (λ (b : ℕ). if is_digit b 10 then drop 17 line else line) number
    ∙ ap (λ (t : Bool). if t then drop 17 line else line) digit
    ∙ ap (drop 17) (sym (append_assoc name (45 ∷ []) (d ∷ rest)))
    ∙ drop_at (name ++ 45 ∷ []) (d ∷ rest) 17 (omega (arith, long, length-append name (45 ∷ [])))

-- ---- the head

module _ (tracer : Tracer) (front : List ℕ) (seconds micros spaces : ℕ) (is : IsFront front seconds micros) where
  abbrev mark : List ℕ
  mark = codes ": "

  abbrev shows : List ℕ
  shows = clock seconds micros

  abbrev behind : List ℕ
  behind = replicate spaces 32 ++ system_of tracer

  abbrev head : List ℕ
  head = head_of tracer front seconds micros spaces

  -- the clock and the text after it
  abbrev tail : List ℕ
  tail = shows ++ (mark ++ behind)

  -- the front after a name in columns, up to the colon, and with the text after it
  abbrev unnamed : List ℕ
  unnamed = behind_name front

  abbrev timed : List ℕ
  timed = unnamed ++ 32 ∷ shows

  abbrev named_head : List ℕ
  named_head = unnamed ++ 32 ∷ tail

  tail_plain : NoDash tail
  tail_plain i small = lacks_dash tail
      (lack_both 45 shows (mark ++ behind) (clock_lacks seconds micros is.most is.six 45 (omega arith) (λ (e : ◌≡◌ {A = ℕ} 48 45). omega (arith, e)) (λ (e : ◌≡◌ {A = ℕ} 46 45). omega (arith, e)))
      ((λ (e : ◌≡◌ {A = ℕ} 58 45). omega (arith, e)), ((λ (e : ◌≡◌ {A = ℕ} 32 45). omega (arith, e)), spaces_lack spaces (system_of tracer) (system_lacks tracer))))
      i

  unnamed_is : behind_name head ≡ named_head
  unnamed_is = named_front front tail tail_plain

  head_is : named_head ≡ timed ++ (mark ++ behind)
  head_is = sym (append_assoc unnamed (32 ∷ shows) (mark ++ behind))

  -- the words before the clock, and the clock
  timed_words : cut_at 32 timed ≡ cut_at 32 unnamed ++ shows ∷ []
  timed_words =
      split_between 32 unnamed shows
      ∙ ap (λ (words : List (List ℕ)). cut_at 32 unnamed ++ words) (split_lacking 32 shows (clock_lacks seconds micros is.most is.six 32 (omega arith) (λ (e : ◌≡◌ {A = ℕ} 48 32). omega (arith, e)) (λ (e : ◌≡◌ {A = ℕ} 46 32). omega (arith, e))))

  pub last_is : last_word [] (cut_at 32 timed) ≡ shows
  last_is = ap (last_word []) timed_words ∙ last_behind [] (cut_at 32 unnamed) shows

  -- no colon that a space follows comes before the clock's
  clock_no_colon : Lacks 58 shows
  clock_no_colon = clock_lacks seconds micros is.most is.six 58 (omega arith) (λ (e : ◌≡◌ {A = ℕ} 48 58). omega (arith, e)) (λ (e : ◌≡◌ {A = ℕ} 46 58). omega (arith, e))

  pub none_in_timed : HasNo mark timed
  none_in_timed = by unnamed is.text
    where
      none_here : (text : List ℕ) → Lacks 58 text → (place : ℕ) → begins (drop place text) mark ≡ false
      none_here [] lacks zero = refl
      none_here [] lacks (suc place) = refl
      none_here (b ∷ []) lacks zero = and_false (nat_eq 58 b) false (other b lacks.0)
      none_here (b ∷ c ∷ text) lacks zero = and_false (nat_eq 58 b) (nat_eq 32 c && true) (other b lacks.0)
      none_here (b ∷ text) lacks (suc place) = none_here text lacks.1 place

      by : (front : List ℕ) → HasNo mark (front ++ 32 ∷ []) → HasNo mark (front ++ 32 ∷ shows)
      by [] none zero = refl
      by [] none (suc place) = none_here shows clock_no_colon place
      by (b ∷ []) none zero = none zero
      by (b ∷ c ∷ front) none zero = none zero
      by (b ∷ front) none (suc place) = by front (λ at. none (suc at)) place

  placed : mark_place mark named_head ≡ Some (length timed)
  placed = ap (mark_place mark) head_is ∙ first_behind mark timed behind none_in_timed (omega arith) ((λ (e : ◌≡◌ {A = ℕ} 32 58). omega (arith, e)), tt)

  pub traced : is_traced head ≡ true
  traced =
      let rest : drop (length timed + 1) named_head ≡ 32 ∷ behind =
      ap (drop (length timed + 1)) (head_is ∙ sym (append_assoc timed (58 ∷ []) (32 ∷ behind))) ∙ drop_at (timed ++ 58 ∷ []) (32 ∷ behind) (length timed + 1) (omega (arith, length-append timed (58 ∷ []))) in
      ap (λ (text : List ℕ). is_traced_by text (mark_place mark text)) unnamed_is
      ∙ ap (is_traced_by named_head) placed
      ∙ ap (λ (text : List ℕ). is_count (last_word [] (cut_at 32 text)) && is_system (drop (length timed + 1) named_head)) (ap (take (length timed)) head_is ∙ take-append_seam timed (mark ++ behind))
      ∙ ap (λ (text : List ℕ). is_count text && is_system (drop (length timed + 1) named_head)) last_is
      ∙ ap (λ (counts : Bool). counts && is_system (drop (length timed + 1) named_head)) (counts seconds micros is.most is.six)
      ∙ ap is_system rest
      ∙ system_is tracer spaces

-- ---- a name in columns

module _ (name rest : List ℕ) (process seconds micros : ℕ) (short : length name ≤ 15) (fits : process < 2 ^ 64)
    (none : HasNo (codes ": ") (rest ++ 32 ∷ [])) (most : seconds ≤ 18446744073708) (low : micros < 1000000) where
  abbrev column : List ℕ
  column = replicate (16 - length name) 32 ++ name

  abbrev number : List ℕ
  number = decimal process

  column_long : length column ≡ 16
  column_long = omega (arith, short, length-append (replicate (16 - length name) 32) name, length-replicate {A = ℕ} (16 - length name) 32)

  digit_first : is_digit (slice_index (number ++ 32 ∷ rest) 0) 10 ≡ true
  digit_first = by number (decimal_nonempty process fits) (all_digits process fits)
    where
      by : (word : List ℕ) → 0 < length word → list_all (λ c. is_digit c 10) word ≡ true → is_digit (slice_index (word ++ 32 ∷ rest) 0) 10 ≡ true
      by [] some all = absurd (omega (arith, some))
      by (c ∷ word) some all = both_true (is_digit c 10) (list_all (λ c. is_digit c 10) word) all

  -- a text without a colon in front adds no colon that a space follows
  none_joined : (text : List ℕ) → Lacks 58 text → HasNo (codes ": ") ((text ++ 32 ∷ rest) ++ 32 ∷ [])
  none_joined [] lacks zero = refl
  none_joined [] lacks (suc place) = none place
  none_joined (b ∷ []) lacks zero = and_false (nat_eq 58 b) (true && true) (other b lacks.0)
  none_joined (b ∷ c ∷ text) lacks zero = and_false (nat_eq 58 b) (nat_eq 32 c && true) (other b lacks.0)
  none_joined (b ∷ text) lacks (suc place) = none_joined text lacks.1 place

  pub pipe_is_front : IsFront (pipe_front name process rest) seconds micros
  pipe_is_front = record {
    text = λ (place : ℕ). ap (λ (text : List ℕ). begins (drop place (text ++ 32 ∷ [])) (codes ": ")) (behind_columns column (number ++ 32 ∷ rest) column_long digit_first)
        ∙ none_joined number (decimal_lacks 58 process (omega arith) fits) place;
    most = most;
    six = low;
  }

pub same_by_name : (name other rest : List ℕ) → length name ≡ 16 → length other ≡ 16 → is_digit (slice_index rest 0) 10 ≡ true
    → is_traced (name ++ 45 ∷ rest) ≡ is_traced (other ++ 45 ∷ rest)
same_by_name name other rest long other_long digit =
    ap (λ (text : List ℕ). is_traced_by text (mark_place (codes ": ") text))
    (behind_columns name rest long digit ∙ sym (behind_columns other rest other_long digit))
