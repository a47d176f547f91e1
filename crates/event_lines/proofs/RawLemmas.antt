-- The bytes of a section are read one after another.
use Rattle.std.proofs.Common.{◌≡◌, ℕ, ◌+◌, ◌%◌, ◌<◌, ◌≤◌, ◌==◌, Bool, true, false, List, [], ◌∷◌, ◌++◌, take, length, refl, sym, ap, ◌∙◌, arith, append_assoc, length-append, Option, Some, None, if◌then◌else◌}
use Rattle.std.specs.Prelude.{unwrap_or}
use Rattle.std.specs.Option.{option_map}
use Rattle.ras_klog.specs.Reading.{provided, read_then}
use Rattle.event_lines.specs.SectionEvent.{behind_byte, byte_of, bytes_from}

-- a byte with more text after it is read
step_read : (count : ℕ) (text behind : List ℕ) (b : ℕ) → 2 < length text → byte_of (take 2 text) ≡ Some b → behind_byte (count + 1) text ≡ Some behind
    → bytes_from count text ≡ option_map (λ bytes. b ∷ bytes) (bytes_from (count + 1) behind)
step_read count [] behind b long is next = absurd (omega (arith, long))
step_read count (h ∷ []) behind b long is next = absurd (omega (arith, long))
step_read count (h ∷ l ∷ []) behind b long is next = absurd (omega (arith, long))
step_read count (h ∷ l ∷ n ∷ text) behind b long is next =
    ap (λ (o : Option ℕ). read_then o (λ b. option_map (λ bytes. b ∷ bytes) (if n == 32 then bytes_from (count + 1) text else if (count + 1) % 16 == 0 then bytes_from (count + 1) (n ∷ text) else None))) is
    ∙ ap (option_map (λ bytes. b ∷ bytes)) (by (n == 32) ((count + 1) % 16 == 0) next)
  where
    some_is : (one other : List ℕ) → Some one ≡ Some other → one ≡ other
    some_is one other is = ap (λ (o : Option (List ℕ)). unwrap_or o []) is

    by : (space full : Bool) → (if space then Some text else provided full (Some (n ∷ text))) ≡ Some behind
        → (if space then bytes_from (count + 1) text else if full then bytes_from (count + 1) (n ∷ text) else None) ≡ bytes_from (count + 1) behind
    by true full next = ap (bytes_from (count + 1)) (some_is text behind next)
    by false true next = ap (bytes_from (count + 1)) (some_is (n ∷ text) behind next)
    by false false next = absurd cc

-- two characters that aren't a byte can't be read
pub no_byte : (count : ℕ) (text : List ℕ) → 2 < length text → byte_of (take 2 text) ≡ None → bytes_from count text ≡ None
no_byte count [] long is = absurd (omega (arith, long))
no_byte count (h ∷ []) long is = absurd (omega (arith, long))
no_byte count (h ∷ l ∷ []) long is = absurd (omega (arith, long))
no_byte count (h ∷ l ∷ n ∷ text) long is =
    ap (λ (o : Option ℕ). read_then o (λ b. option_map (λ bytes. b ∷ bytes) (if n == 32 then bytes_from (count + 1) text else if (count + 1) % 16 == 0 then bytes_from (count + 1) (n ∷ text) else None))) is

-- bytes can't be read without a space where one has to be
no_space : (count : ℕ) (text : List ℕ) (b : ℕ) → 2 < length text → byte_of (take 2 text) ≡ Some b → behind_byte (count + 1) text ≡ None → bytes_from count text ≡ None
no_space count [] b long is next = absurd (omega (arith, long))
no_space count (h ∷ []) b long is next = absurd (omega (arith, long))
no_space count (h ∷ l ∷ []) b long is next = absurd (omega (arith, long))
no_space count (h ∷ l ∷ n ∷ text) b long is next =
    ap (λ (o : Option ℕ). read_then o (λ b. option_map (λ bytes. b ∷ bytes) (if n == 32 then bytes_from (count + 1) text else if (count + 1) % 16 == 0 then bytes_from (count + 1) (n ∷ text) else None))) is
    ∙ ap (option_map (λ bytes. b ∷ bytes)) (by (n == 32) ((count + 1) % 16 == 0) next)
  where
    by : (space full : Bool) → (if space then Some text else provided full (Some (n ∷ text))) ≡ None
        → (if space then bytes_from (count + 1) text else if full then bytes_from (count + 1) (n ∷ text) else None) ≡ None
    by true full next = absurd cc
    by false true next = absurd cc
    by false false next = refl

-- the last byte is read
pub last_read : (count : ℕ) (text : List ℕ) → length text ≤ 2 → bytes_from count text ≡ option_map (λ b. b ∷ []) (byte_of text)
last_read count [] short = refl
last_read count (h ∷ []) short = refl
last_read count (h ∷ l ∷ []) short = refl
last_read count (h ∷ l ∷ n ∷ text) short = absurd (omega (arith, short))

-- ---- with the bytes before them

longer : (items : List ℕ) (b : ℕ) → length (items ++ b ∷ []) ≡ length items + 1
longer items b = length-append items (b ∷ [])

pub goes_on : (items rest behind : List ℕ) (b : ℕ) (all : Option (List ℕ)) → option_map (λ more. items ++ more) (bytes_from (length items) rest) ≡ all
    → 2 < length rest → byte_of (take 2 rest) ≡ Some b → behind_byte (length (items ++ b ∷ [])) rest ≡ Some behind
    → option_map (λ more. (items ++ b ∷ []) ++ more) (bytes_from (length (items ++ b ∷ [])) behind) ≡ all
goes_on items rest behind b all before long is next =
    ap (λ (n : ℕ). option_map (λ more. (items ++ b ∷ []) ++ more) (bytes_from n behind)) (longer items b)
    ∙ by (bytes_from (length items + 1) behind)
    ∙ ap (option_map (λ more. items ++ more)) (sym (step_read (length items) rest behind b long is (ap (λ (n : ℕ). behind_byte n rest) (sym (longer items b)) ∙ next)))
    ∙ before
  where
    by : (o : Option (List ℕ)) → option_map (λ more. (items ++ b ∷ []) ++ more) o ≡ option_map (λ more. items ++ more) (option_map (λ bytes. b ∷ bytes) o)
    by None = refl
    by (Some more) = ap (λ (all : List ℕ). Some all) (append_assoc items (b ∷ []) more)

pub stops_at_byte : (items rest : List ℕ) (all : Option (List ℕ)) → option_map (λ more. items ++ more) (bytes_from (length items) rest) ≡ all
    → 2 < length rest → byte_of (take 2 rest) ≡ None → None ≡ all
stops_at_byte items rest all before long is =
    sym (ap (option_map (λ more. items ++ more)) (no_byte (length items) rest long is)) ∙ before

pub stops_at_space : (items rest : List ℕ) (b : ℕ) (all : Option (List ℕ)) → option_map (λ more. items ++ more) (bytes_from (length items) rest) ≡ all
    → 2 < length rest → byte_of (take 2 rest) ≡ Some b → behind_byte (length (items ++ b ∷ [])) rest ≡ None → None ≡ all
stops_at_space items rest b all before long is next =
    sym (ap (option_map (λ more. items ++ more)) (no_space (length items) rest b long is (ap (λ (n : ℕ). behind_byte n rest) (sym (longer items b)) ∙ next))) ∙ before

pub stops_at_last : (items rest : List ℕ) (all : Option (List ℕ)) → option_map (λ more. items ++ more) (bytes_from (length items) rest) ≡ all
    → length rest ≤ 2 → byte_of rest ≡ None → None ≡ all
stops_at_last items rest all before short is =
    sym (ap (option_map (λ more. items ++ more)) (last_read (length items) rest short ∙ ap (option_map (λ b. b ∷ [])) is)) ∙ before

pub ends : (items rest : List ℕ) (b : ℕ) (all : Option (List ℕ)) → option_map (λ more. items ++ more) (bytes_from (length items) rest) ≡ all
    → length rest ≤ 2 → byte_of rest ≡ Some b → Some (items ++ b ∷ []) ≡ all
ends items rest b all before short is =
    sym (ap (option_map (λ more. items ++ more)) (last_read (length items) rest short ∙ ap (option_map (λ b. b ∷ [])) is)) ∙ before
