-- Words, by the indices of spaces, and the text after a prefix.
use Rattle.std.proofs.Common.{◌≡◌, ℕ, zero, suc, ◌+◌, ◌-◌, ◌<◌, ◌≤◌, ◌==◌, ◌&&◌, ◌⊎◌, Bool, true, false, cond, if◌then◌else◌, nat_eq, nat_lt, List, [], ◌∷◌, ◌++◌, length, take, drop, get_or, refl, sym, ap, subst, ◌∙◌, arith, append-nil, inl, inr, Option, Some, None, length-append, length-drop, length-take}
use Rattle.std.specs.Prelude.{not, slice_index_or}
use Rattle.std.proofs.Math.Seq.{drop-append_seam, drop-cons, take-append_seam, take-length, take-suc}
use Rattle.std.proofs.lemmas.Bool.{cases_lt, eq-eqb, false≢true}
use Rattle.std.proofs.lemmas.Bool.Decides.{nat_tests}
use Rattle.std.proofs.lemmas.List.{get_or-drop, get_or-take, take-append-drop}
use Rattle.std.proofs.lemmas.List.Quantifiers.{position-Some}
use Rattle.std.proofs.lemmas.List.Splits.{slice_split_first, slice_split_none}
use Rattle.std.proofs.lemmas.List.Sums.{fails_before_first}
use Rattle.std.specs.List.{All, list_all, onto_first, position, position_or_len, slice_split, starts_with}
use Rattle.std.proofs.lemmas.Slice.Eq.{bytes_eq-Decides}
use Rattle.std.specs.Str.{bytes_eq}
use Rattle.ras_script.proofs.LineAndWordLemmas.{split_between, split_lacking}
use Rattle.ras_script.specs.SplittingLaws.{Lacks}
use Rattle.memchr.specs.Find.{OccursAt, NoneBefore, Nowhere}
use Rattle.memchr.proofs.lemmas.MatchLemmas.{OccursAt-part, OccursAt-from_part}
use Rattle.ras_klog.specs.Reading.{after_marker, is_empty, marker, parts_of}

-- ---- words

-- the index that a search returns
found_place : (place size end : ℕ) → Some end ≡ cond (nat_lt place size) (Some place) None → (end ≡ place) × (place < size)
found_place place size end h = (grind (arith, nat_tests, h), grind (arith, nat_tests, h))

no_place : (place size : ℕ) → None ≡ cond (nat_lt place size) (Some place) None → size ≤ place
no_place place size h = grind (arith, nat_tests, h)

-- the rest as the code cuts it
pub rest_is : (n : ℕ) (text : List ℕ) → take (length text - n) (drop n text) ≡ drop n text
rest_is n text = ap (λ k. take k (drop n text)) (sym (length-drop n text)) ∙ take-length (drop n text)

pub rest_size : (n : ℕ) (text : List ℕ) → length (take (length text - n) (drop n text)) ≡ length text - n
rest_size n text = ap length (rest_is n text) ∙ length-drop n text

-- the first word of a text ends at its first space
pub parts_cut : (text : List ℕ) (end : ℕ) → Some end ≡ position (λ b. b == 32) text → parts_of text ≡ take end text ∷ parts_of (take (length text - (end + 1)) (drop (end + 1) text))
parts_cut text end h =
    let found : (end ≡ position_or_len (λ b. b == 32) text) × (position_or_len (λ b. b == 32) text < length text) = found_place _ _ _ h in
    let parts : slice_split (λ b. b == 32) text ≡ take (position_or_len (λ b. b == 32) text) text ∷ slice_split (λ b. b == 32) (drop (position_or_len (λ b. b == 32) text + 1) text) = slice_split_first (λ b. b == 32) text 0 found.1 in
    (rw (← found.0) at parts) ∙ ap (λ rest. take end text ∷ parts_of rest) (sym (rest_is (end + 1) text))

-- a text without a space is its only word
pub parts_whole : (text : List ℕ) → None ≡ position (λ b. b == 32) text → parts_of text ≡ text ∷ []
parts_whole text h =
    let late : length text ≤ position_or_len (λ b. b == 32) text = no_place _ _ h in
    let none : All (λ b. (b == 32) ≡ false) text = λ k d inside. fails_before_first (λ b. b == 32) text k d (omega arith) in
    slice_split_none (λ b. b == 32) text none

not_zero : (n : ℕ) → nat_eq (suc n) 0 ≡ false
not_zero n = grind (arith, nat_tests)

-- a text has only empty words if and only if it consists of spaces
pub empty_parts : (text : List ℕ) → list_all is_empty (parts_of text) ≡ list_all (λ b. b == 32) text
empty_parts [] = refl
empty_parts (b ∷ text) = by (b == 32) (parts_of text) (empty_parts text)
  where
    by : (is_space : Bool) (parts : List (List ℕ)) → list_all is_empty parts ≡ list_all (λ b. b == 32) text
        → list_all is_empty (cond is_space ([] ∷ parts) (onto_first b parts)) ≡ (is_space && list_all (λ b. b == 32) text)
    by true parts ih = ih
    by false [] ih = refl
    by false (part ∷ parts) ih = ap (λ empty. empty && list_all is_empty parts) (not_zero (length part))

-- ---- the next word, by its name

abbrev first_word : List ℕ → List ℕ
first_word text = slice_index_or (parts_of text) 0 []

pub joined_lacks : (name : List ℕ) → list_all (λ b. not (b == 32)) name ≡ true → Lacks 32 name
joined_lacks [] all = tt
joined_lacks (b ∷ name) all = by (b == 32) refl all (λ rest. joined_lacks name rest)
  where
    by : (t : Bool) → (b == 32) ≡ t → (not t && list_all (λ c. not (c == 32)) name) ≡ true
        → (list_all (λ c. not (c == 32)) name ≡ true → Lacks 32 name) → (¬ (b ≡ 32)) × Lacks 32 name
    by true is all rest = absurd cc
    by false is all rest = ((λ same. grind (arith, nat_tests, is, same)), rest all)

-- a name without spaces is its only word
pub last_word : (name : List ℕ) → list_all (λ b. not (b == 32)) name ≡ true → parts_of name ≡ name ∷ []
last_word name joined = split_lacking 32 name (joined_lacks name joined)

pub next_word : (name rest : List ℕ) → list_all (λ b. not (b == 32)) name ≡ true → parts_of (name ++ 32 ∷ rest) ≡ name ∷ parts_of rest
next_word name rest joined =
    split_between 32 name rest ∙ ap (λ (parts : List (List ℕ)). parts ++ parts_of rest) (last_word name joined)

-- a text is its first word, or a space follows its first word
word_front : (text : List ℕ) → (text ≡ first_word text) ⊎ ((rest : List ℕ) × (text ≡ first_word text ++ 32 ∷ rest))
word_front text = by (position (λ b. b == 32) text) refl
  where
    by : (o : Option ℕ) → o ≡ position (λ b. b == 32) text → (text ≡ first_word text) ⊎ ((rest : List ℕ) × (text ≡ first_word text ++ 32 ∷ rest))
    by None is = inl (sym (ap (λ (parts : List (List ℕ)). slice_index_or parts 0 []) (parts_whole text is)))
    by (Some end) is =
        let found = position-Some (λ b. b == 32) text end 0 (sym is) in
        let word : first_word text ≡ take end text = ap (λ (parts : List (List ℕ)). slice_index_or parts 0 []) (parts_cut text end is) in
        let space : get_or text end 0 ≡ 32 = grind (arith, nat_tests, found.1) in
        inr (
          drop (suc end) text,
          sym (take-append-drop end text)
              ∙ ap (λ (rest : List ℕ). take end text ++ rest) (drop-cons text end 0 found.0 ∙ ap (λ (b : ℕ). b ∷ drop (suc end) text) space)
              ∙ ap (λ (front : List ℕ). front ++ 32 ∷ drop (suc end) text) (sym word),
        )

other_word : (name text : List ℕ) → ¬ (text ≡ name) → ((rest : List ℕ) → ¬ (text ≡ name ++ 32 ∷ rest)) → bytes_eq (first_word text) name ≡ false
other_word name text whole more = by (bytes_eq (first_word text) name) refl
  where
    by : (is : Bool) → bytes_eq (first_word text) name ≡ is → is ≡ false
    by false eq = refl
    by true eq =
        let same : first_word text ≡ name = (bytes_eq-Decides (first_word text) name).0 eq in
        elim (word_front text) [
          | inl is ↦ absurd (whole (is ∙ same))
          | inr (rest, is) ↦ absurd (more rest (is ∙ ap (λ (front : List ℕ). front ++ 32 ∷ rest) same))
        ]

begins_so : (name rest text : List ℕ) → text ≡ name ++ rest → starts_with nat_eq text name ≡ true
begins_so name rest text is =
    (bytes_eq-Decides name (take (length name) text)).1 (sym (ap (λ (t : List ℕ). take (length name) t) is ∙ take-append_seam name rest))

-- a text that doesn't begin with a name has another first word
pub no_word : (name text : List ℕ) → starts_with nat_eq text name ≡ false → bytes_eq (first_word text) name ≡ false
no_word name text none =
    other_word name text
    (λ is. false≢true (sym none ∙ begins_so name [] text (is ∙ sym (append-nil name))))
    (λ rest is. false≢true (sym none ∙ begins_so name (32 ∷ rest) text is))

-- a name is compared byte by byte
pub name_step : (name text : List ℕ) (k : ℕ) → k < length name → length name ≤ length text → take k text ≡ take k name → get_or text k 0 ≡ get_or name k 0 → take (k + 1) text ≡ take (k + 1) name
name_step name text k inside fits so_far same =
    let next : k + 1 ≡ suc k = omega arith in
    ap (λ (n : ℕ). take n text) next
    ∙ take-suc text k 0 (omega (arith, inside, fits))
    ∙ (λ i. so_far i ++ (same i ∷ []))
    ∙ sym (take-suc name k 0 inside)
    ∙ ap (λ (n : ℕ). take n name) (sym next)

pub name_differs : (name text : List ℕ) (k : ℕ) → k < length name → ¬ (get_or text k 0 ≡ get_or name k 0) → starts_with nat_eq text name ≡ false
name_differs name text k inside other = by (starts_with nat_eq text name) refl
  where
    by : (starts : Bool) → starts_with nat_eq text name ≡ starts → starts ≡ false
    by false is = refl
    by true is =
        let front : name ≡ take (length name) text = (bytes_eq-Decides name (take (length name) text)).0 is in
        absurd (other (sym (get_or-take (length name) text k 0 inside) ∙ ap (λ (t : List ℕ). get_or t k 0) (sym front)))

pub name_whole : (name text : List ℕ) → take (length name) text ≡ take (length name) name → text ≡ name ++ take (length text - length name) (drop (length name) text)
name_whole name text same =
    sym (take-append-drop (length name) text)
    ∙ (λ i. (same ∙ take-length name) i ++ sym (rest_is (length name) text) i)

-- a text that is a name has only this word
pub ended_word : (name text behind : List ℕ) → list_all (λ b. not (b == 32)) name ≡ true → text ≡ name ++ behind → length behind ≡ 0 → parts_of text ≡ name ∷ []
ended_word name text [] joined is none = ap parts_of (is ∙ append-nil name) ∙ last_word name joined
ended_word name text (b ∷ behind) joined is none = absurd (omega (arith, none))

pub spaced_word : (name text behind : List ℕ) → list_all (λ b. not (b == 32)) name ≡ true → text ≡ name ++ behind → 0 < length behind → get_or behind 0 0 ≡ 32
    → parts_of text ≡ name ∷ parts_of (take (length behind - 1) (drop 1 behind))
spaced_word name text [] joined is some space = absurd (omega (arith, some))
spaced_word name text (b ∷ behind) joined is some space =
    ap parts_of (is ∙ ap (λ (c : ℕ). name ++ c ∷ behind) space) ∙ next_word name behind joined
    ∙ ap (λ (rest : List ℕ). name ∷ parts_of rest) (sym (rest_is 1 (b ∷ behind)))

pub same_word : (name : List ℕ) (rest : List (List ℕ)) → bytes_eq (slice_index_or (name ∷ rest) 0 []) name ≡ true
same_word name rest = (bytes_eq-Decides name name).1 refl

pub longer_word : (name text behind : List ℕ) → text ≡ name ++ behind → 0 < length behind → ¬ (get_or behind 0 0 ≡ 32) → bytes_eq (first_word text) name ≡ false
longer_word name text behind is some other =
    other_word name text
    (λ whole. omega (arith, some, ap length is, ap length whole, length-append name behind))
    (λ rest spaced. other (ap (λ (t : List ℕ). get_or t 0 0)
    (sym (drop-append_seam name behind) ∙ ap (λ (t : List ℕ). drop (length name) t) (sym is ∙ spaced) ∙ drop-append_seam name (32 ∷ rest))))

-- ---- the marker

starts-occurs : (line : List ℕ) → starts_with nat_eq line marker ≡ true → OccursAt line marker 0
starts-occurs line is =
    let front : marker ≡ take (length marker) line = (bytes_eq-Decides marker (take (length marker) line)).0 is in
    OccursAt-from_part line marker 0 (omega (arith, ap length front, length-take (length marker) line)) (sym front)

occurs-starts : (line : List ℕ) → OccursAt line marker 0 → starts_with nat_eq line marker ≡ true
occurs-starts line occurs = (bytes_eq-Decides marker (take (length marker) line)).1 (sym (OccursAt-part line marker 0 occurs))

-- if a prefix is at an index of a line, it is one further on with one more byte in front
further : (b : ℕ) (line : List ℕ) (k : ℕ) → OccursAt line marker k → OccursAt (b ∷ line) marker (suc k)
further b line k occurs = OccursAt-from_part (b ∷ line) marker (suc k) (omega (arith, occurs.fits)) (OccursAt-part line marker k occurs)

nearer : (b : ℕ) (line : List ℕ) (k : ℕ) → OccursAt (b ∷ line) marker (suc k) → OccursAt line marker k
nearer b line k occurs = OccursAt-from_part line marker k (omega (arith, occurs.fits)) (OccursAt-part (b ∷ line) marker (suc k) occurs)

pub after-none : (line : List ℕ) → Nowhere (OccursAt line marker) 0 (length line + 1) → after_marker line ≡ None
after-none [] nowhere = refl
after-none (b ∷ line) nowhere = by (starts_with nat_eq (b ∷ line) marker) refl (after-none line)
  where
    by : (starts : Bool) → starts_with nat_eq (b ∷ line) marker ≡ starts
        → (Nowhere (OccursAt line marker) 0 (length line + 1) → after_marker line ≡ None)
        → (if starts then Some (drop (length marker) (b ∷ line)) else after_marker line) ≡ None
    by true is ih = absurd (nowhere 0 (omega arith) (omega arith) (starts-occurs (b ∷ line) is))
    by false is ih = ih (λ k low high occurs. nowhere (suc k) (omega arith) (omega (arith, high)) (further b line k occurs))

pub after-at : (line : List ℕ) (k : ℕ) → NoneBefore (OccursAt line marker) 0 (length line + 1) k → OccursAt line marker k
    → after_marker line ≡ Some (drop (k + 18) line)
after-at [] k first occurs = absurd (omega (arith, occurs.fits))
after-at (b ∷ line) zero first occurs =
    ap (λ starts. if starts then Some (drop (length marker) (b ∷ line)) else after_marker line) (occurs-starts (b ∷ line) occurs)
after-at (b ∷ line) (suc k) first occurs = by (starts_with nat_eq (b ∷ line) marker) refl (after-at line k)
  where
    moved : drop (k + 18) line ≡ drop (suc k + 18) (b ∷ line)
    moved = let next : suc (k + 18) ≡ suc k + 18 = omega arith in ap (λ n. drop n (b ∷ line)) next

    by : (starts : Bool) → starts_with nat_eq (b ∷ line) marker ≡ starts
        → (NoneBefore (OccursAt line marker) 0 (length line + 1) k → OccursAt line marker k → after_marker line ≡ Some (drop (k + 18) line))
        → (if starts then Some (drop (length marker) (b ∷ line)) else after_marker line) ≡ Some (drop (suc k + 18) (b ∷ line))
    by true is ih = absurd (first.before 0 (omega arith) (omega arith) (starts-occurs (b ∷ line) is))
    by false is ih =
        ih (record {
          low = omega arith;
          high = omega (arith, first.high);
          before = λ j low high earlier. first.before (suc j) (omega arith) (omega (arith, high)) (further b line j earlier);
        }) (nearer b line k occurs)
        ∙ ap Some moved

-- a prefix occurs at an index if the rest from there on begins with it
pub starts-at : (line : List ℕ) (k : ℕ) → k ≤ length line → starts_with nat_eq (drop k line) marker ≡ true → OccursAt line marker k
starts-at line k inside is =
    let front : marker ≡ take (length marker) (drop k line) = (bytes_eq-Decides marker (take (length marker) (drop k line))).0 is in
    OccursAt-from_part line marker k (omega (arith, inside, ap length front, length-take (length marker) (drop k line), length-drop k line)) (sym front)

pub at-starts : (line : List ℕ) (k : ℕ) → OccursAt line marker k → starts_with nat_eq (drop k line) marker ≡ true
at-starts line k occurs = (bytes_eq-Decides marker (take (length marker) (drop k line))).1 (sym (OccursAt-part line marker k occurs))

-- no prefix has its second byte before this index
abbrev pub NoneBelow : List ℕ → ℕ → Type 0
NoneBelow line end = (k : ℕ) → k + 1 < end → ¬ OccursAt line marker k

-- a search for the second byte skips no prefix
pub none-passed : (line : List ℕ) (from passed : ℕ) → from + passed ≤ length line → NoneBelow line from
    → ((k : ℕ) → k < passed → (get_or (take (length line - from) (drop from line)) k 0 == 72) ≡ false) → NoneBelow line (from + passed)
none-passed line from passed inside before other k below occurs = elim (cases_lt (k + 1) from) [
  | inl early ↦ before k early occurs
  | inr late ↦
      let there : from + (k + 1 - from) ≡ k + 1 = omega arith in
      let second : get_or line (k + 1) 0 ≡ 72 = occurs.reads 1 (omega arith) in
      let byte : get_or (take (length line - from) (drop from line)) (k + 1 - from) 0 ≡ 72 =
      ap (λ text. get_or text (k + 1 - from) 0) (rest_is from line) ∙ get_or-drop from line (k + 1 - from) 0 ∙ ap (λ i. get_or line i 0) there ∙ second in
      false≢true (sym (other (k + 1 - from) (omega arith)) ∙ eq-eqb _ _ byte)
]

-- a step past a second byte that is in no prefix skips none
pub none-round : (line : List ℕ) (second : ℕ) → NoneBelow line second → ¬ ((1 ≤ second) × OccursAt line marker (second - 1)) → NoneBelow line (second + 1)
none-round line second before not k below occurs = elim (cases_lt (k + 1) second) [
  | inl early ↦ before k early occurs
  | inr last ↦ let same : k ≡ second - 1 = omega arith in not (omega arith, subst (OccursAt line marker) same occurs)
]

-- a search for a byte returns its first index
pub passed_at : (byte : ℕ) (text : List ℕ) (place : ℕ) → Some place ≡ position (λ b. b == byte) text → (place < length text) × ((k : ℕ) → k < place → (get_or text k 0 == byte) ≡ false)
passed_at byte text place h =
    let is = position-Some (λ b. b == byte) text place 0 (sym h) in
    (is.0, is.2)

pub passed_all : (byte : ℕ) (text : List ℕ) → None ≡ position (λ b. b == byte) text → (k : ℕ) → k < length text → (get_or text k 0 == byte) ≡ false
passed_all byte text h k low = fails_before_first (λ b. b == byte) text k 0 (omega (arith, no_place _ _ h))

pub none-at-all : (line : List ℕ) → NoneBelow line (length line) → Nowhere (OccursAt line marker) 0 (length line + 1)
none-at-all line none k low high occurs = none k (omega (arith, occurs.fits)) occurs
