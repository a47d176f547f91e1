-- The text of a code is one word.
use Rattle.std.proofs.Common.{ℕ, ◌≡◌, ◌≢◌, ◌+◌, ◌<◌, ◌≤◌, ◌/◌, ◌%◌, ◌==◌, Bool, true, false, List, [], ◌∷◌, ◌++◌, ◌&&◌, codes, decimal, refl, arith, ◌∙◌, suc, zero, inl, inr, if◌then◌else◌}
use Rattle.std.specs.List.{list_all}
use Rattle.std.proofs.lemmas.List.Folds.{list_all-append}
use Rattle.std.proofs.lemmas.List.Sums.{AllPass-from_list_all}
use Rattle.std.proofs.lemmas.Bool.{cases_lt}
use Rattle.std.proofs.lemmas.Fmt.{decimal_digit, decimal_step}
use Rattle.mca_codes.specs.Codes.{HasFieldsInRange}
use Rattle.mca_codes.specs.Texts.{code_text_of, word_at, with_colons, compound_text, channel_word, filter_ending, is_word_byte, IsWord, level_words, transaction_words, request_words, participation_words, timeout_words, target_words, memory_words}
use Rattle.mca_codes.specs.declared.codes.Code.{Code}
use Rattle.mca_codes.specs.declared.codes.Code.TheVariants.{NoError, Unclassified, MicrocodeRom, External, Frc, InternalParity, InternalTimer, InternalUnclassified, GenericIo, Other, GenericCache, Tlb, Memory, Cache, Bus}

-- Whether each byte of a text can be in a word.
abbrev pub passes : List ℕ → Bool
passes bytes = list_all is_word_byte bytes

both : (a b : Bool) → a ≡ true → b ≡ true → (a && b) ≡ true
both a b p q = rw (p, q) refl

first_of : (a b : Bool) → (a && b) ≡ true → a ≡ true
first_of true b h = refl
first_of false b h = h

second_of : (a b : Bool) → (a && b) ≡ true → b ≡ true
second_of true b h = h
second_of false b h = cc

-- If all words of a table pass, the word for any value passes.
word_at_passes : (words : List (List ℕ)) (value : ℕ) → list_all passes words ≡ true → passes (word_at words value) ≡ true
word_at_passes [] value all = refl
word_at_passes (word ∷ words) zero all = first_of (passes word) _ all
word_at_passes (word ∷ words) (suc value) all = word_at_passes words value (second_of (passes word) _ all)

passes-append : (xs ys : List ℕ) → passes xs ≡ true → passes ys ≡ true → passes (xs ++ ys) ≡ true
passes-append xs ys p q = list_all-append is_word_byte xs ys ∙ both _ _ p q

with_colons_passes : (words : List (List ℕ)) → list_all passes words ≡ true → passes (with_colons words) ≡ true
with_colons_passes [] all = refl
with_colons_passes (word ∷ words) all = passes-append word (with_colons words) (first_of (passes word) _ all) (with_colons_passes words (second_of (passes word) _ all))

ending_passes : (filter : Bool) → passes (filter_ending filter) ≡ true
ending_passes true = refl
ending_passes false = refl

compound_passes : (kind : List ℕ) (words : List (List ℕ)) (filter : Bool) → passes kind ≡ true → list_all passes words ≡ true → passes (compound_text kind words filter) ≡ true
compound_passes kind words filter p all =
    passes-append (kind ++ with_colons words) (filter_ending filter)
    (passes-append kind (with_colons words) p (with_colons_passes words all))
    (ending_passes filter)

digit_passes : (n : ℕ) → n < 10 → passes ((48 + n) ∷ []) ≡ true
digit_passes n small = grind arith

one_digit_passes : (n : ℕ) → n < 10 → passes (decimal n) ≡ true
one_digit_passes n small = rw (decimal_digit n small) (digit_passes n small)

two_digits_pass : (n : ℕ) → 10 ≤ n → n < 100 → passes (decimal n) ≡ true
two_digits_pass n low high =
    rw (decimal_step n low (omega arith), decimal_digit (n / 10) (omega arith))
    (passes-append ((48 + n / 10) ∷ []) ((48 + n % 10) ∷ []) (digit_passes (n / 10) (omega arith)) (digit_passes (n % 10) (omega arith)))

decimal_passes : (n : ℕ) → n < 16 → passes (decimal n) ≡ true
decimal_passes n small = elim (cases_lt n 10) [ inl low ↦ one_digit_passes n low | inr high ↦ two_digits_pass n high (omega arith) ]

channel_passes : (channel : ℕ) → channel < 16 → passes (channel_word channel) ≡ true
channel_passes channel small = elim (channel == 15) as (λ b. passes (if b then codes "-" else decimal channel) ≡ true) [ true ↦ refl | false ↦ decimal_passes channel small ]

-- A text that isn't empty and passes is a word.
word_of : (bytes : List ℕ) → bytes ≢ [] → passes bytes ≡ true → IsWord bytes
word_of bytes some p = (some, AllPass-from_list_all is_word_byte bytes p)

-- The text of a compound code is a word if its kind and its fields are.
compound_word : (kind : List ℕ) (words : List (List ℕ)) (filter : Bool) → kind ≢ [] → passes kind ≡ true → list_all passes words ≡ true → IsWord (compound_text kind words filter)
compound_word [] words filter some p all = absurd (some refl)
compound_word (first ∷ rest) words filter some p all = word_of (compound_text (first ∷ rest) words filter) (λ e. cc) (compound_passes (first ∷ rest) words filter p all)

pub text_of_word : (code : Code) → HasFieldsInRange code → IsWord (code_text_of code)
text_of_word NoError _ = word_of (code_text_of NoError) (λ e. cc) refl
text_of_word Unclassified _ = word_of (code_text_of Unclassified) (λ e. cc) refl
text_of_word MicrocodeRom _ = word_of (code_text_of MicrocodeRom) (λ e. cc) refl
text_of_word External _ = word_of (code_text_of External) (λ e. cc) refl
text_of_word Frc _ = word_of (code_text_of Frc) (λ e. cc) refl
text_of_word InternalParity _ = word_of (code_text_of InternalParity) (λ e. cc) refl
text_of_word InternalTimer _ = word_of (code_text_of InternalTimer) (λ e. cc) refl
text_of_word InternalUnclassified _ = word_of (code_text_of InternalUnclassified) (λ e. cc) refl
text_of_word GenericIo _ = word_of (code_text_of GenericIo) (λ e. cc) refl
text_of_word Other _ = word_of (code_text_of Other) (λ e. cc) refl
text_of_word (GenericCache ll filter) _ =
    compound_word (codes "gencache") (word_at level_words ll ∷ []) filter (λ e. cc) refl
    (both _ _ (word_at_passes level_words ll refl) refl)
text_of_word (Tlb type ll filter) _ =
    compound_word (codes "tlb") (word_at transaction_words type ∷ word_at level_words ll ∷ []) filter (λ e. cc) refl
    (both _ _ (word_at_passes transaction_words type refl) (both _ _ (word_at_passes level_words ll refl) refl))
text_of_word (Memory mmm channel filter) range =
    compound_word (codes "memory") (word_at memory_words mmm ∷ channel_word channel ∷ []) filter (λ e. cc) refl
    (both _ _ (word_at_passes memory_words mmm refl) (both _ _ (channel_passes channel range.1) refl))
text_of_word (Cache rrrr type ll filter) _ =
    compound_word (codes "cache") (word_at transaction_words type ∷ word_at level_words ll ∷ word_at request_words rrrr ∷ []) filter (λ e. cc) refl
    (both _ _ (word_at_passes transaction_words type refl) (both _ _ (word_at_passes level_words ll refl)
    (both _ _ (word_at_passes request_words rrrr refl) refl)))
text_of_word (Bus pp t rrrr ii ll filter) _ =
    compound_word (codes "bus") (word_at level_words ll ∷ word_at participation_words pp ∷ word_at request_words rrrr ∷ word_at target_words ii ∷ word_at timeout_words t ∷ []) filter (λ e. cc) refl
    (both _ _ (word_at_passes level_words ll refl) (both _ _ (word_at_passes participation_words pp refl)
    (both _ _ (word_at_passes request_words rrrr refl) (both _ _ (word_at_passes target_words ii refl)
    (both _ _ (word_at_passes timeout_words t refl) refl)))))
