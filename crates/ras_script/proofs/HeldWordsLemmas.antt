-- The stored words of a line: the first ones.
use Rattle.std.proofs.Common.{◌≡◌, ℕ, ◌+◌, ◌-◌, ◌<◌, ◌≤◌, List, [], ◌∷◌, ◌++◌, zero, suc, length, map, take, drop, get_or, refl, ap, sym, ◌∙◌, arith, append_assoc, length-append}
use Rattle.std.proofs.lemmas.List.{append-nil, drop-drop, drop_more, length-map, map-append, nil_from_length, take-append-drop, take_all, take_at}
use Rattle.ras_script.specs.Splitting.{words_of}
use Rattle.ras_script.specs.SplittingLaws.{IsWord}
use Rattle.ras_script.proofs.LineAndWordLemmas.{words_separated, words_single}

take_again : {X : Type 0} (n : ℕ) (front back : List X) → take n (take n front ++ back) ≡ take n (front ++ back)
take_again zero front back = refl
take_again (suc n) [] back = refl
take_again (suc n) (x ∷ front) back = ap (λ rest. x ∷ rest) (take_again n front back)

-- A word for which there is room.
pub word_held : {A : Type 0} (f : A → List ℕ) (n : ℕ) (before after : List A) (text : A) → after ≡ before ++ text ∷ [] → length before < n → IsWord (f text) → map f after ≡ take n (map f before ++ words_of (f text))
word_held f n before after text is room word =
    let all : map f after ≡ map f before ++ f text ∷ [] = ap (map f) is ∙ map-append f before (text ∷ []) in
    let fits : length (map f before ++ f text ∷ []) ≤ n = omega (arith, length-append (map f before) (f text ∷ []), length-map before f) in
    all ∙ rw (words_single (f text) word) (sym (take_all n (map f before ++ f text ∷ []) fits))

-- No word.
pub none_held : {A : Type 0} (f : A → List ℕ) (n : ℕ) (before : List A) (text : List ℕ) → length before ≤ n → length text ≡ 0 → map f before ≡ take n (map f before ++ words_of text)
none_held f n before text fits none =
    let few : length (map f before) ≤ n = omega (arith, length-map before f) in
    rw (nil_from_length text none) (sym (rw (append-nil (map f before)) (take_all n (map f before) few)))

-- A word for which there is no room.
pub no_room : {A : Type 0} (f : A → List ℕ) (n : ℕ) (before : List A) (text : List ℕ) → length before ≡ n → map f before ≡ take n (map f before ++ words_of text)
no_room f n before text full = sym (take_at (map f before) (words_of text) n (length-map before f ∙ full))

back_is : (start place : ℕ) (line : List ℕ) → start ≤ place → place < length line → get_or line place 0 ≡ 32 → drop (place - start) (drop start line) ≡ 32 ∷ drop (place + 1) line
back_is start place line ahead inside space =
    let reached : start + (place - start) ≡ place = omega arith in
    let here : drop (place - start) (drop start line) ≡ drop place line = drop-drop (place - start) start line ∙ ap (λ k. drop k line) reached in
    here ∙ drop_more line place 0 inside ∙ ap (λ b. b ∷ drop (place + 1) line) space

-- A space ends a word: then `whole`, all words stored in the end, consists of the stored words and the words after the
-- space.
pub space_ends : (n : ℕ) (start place : ℕ) (line : List ℕ) (before after whole : List (List ℕ)) → start ≤ place → place < length line → get_or line place 0 ≡ 32 → take n (before ++ words_of (drop start line)) ≡ whole → after ≡ take n (before ++ words_of (take (place - start) (drop start line))) → take n (after ++ words_of (drop (place + 1) line)) ≡ whole
space_ends n start place line before after whole ahead inside space held is =
    let text : List ℕ = take (place - start) (drop start line) in
    let rest : List ℕ = drop (place + 1) line in
    let parts : drop start line ≡ text ++ 32 ∷ rest = sym (take-append-drop (place - start) (drop start line)) ∙ ap (λ back. text ++ back) (back_is start place line ahead inside space) in
    let words : words_of (drop start line) ≡ words_of text ++ words_of rest = ap words_of parts ∙ words_separated text rest in
    ap (λ front. take n (front ++ words_of rest)) is ∙ take_again n (before ++ words_of text) (words_of rest) ∙ ap (take n) (append_assoc before (words_of text) (words_of rest)) ∙ ap (λ more. take n (before ++ more)) (sym words) ∙ held

-- Once there is no room for one more word, the stored words are all that will be stored.
pub all_held : {A : Type 0} (f : A → List ℕ) (n : ℕ) (held : List A) (rest whole : List (List ℕ)) → length held ≡ n → take n (map f held ++ rest) ≡ whole → map f held ≡ whole
all_held f n held rest whole full is = sym (take_at (map f held) rest n (length-map held f ∙ full)) ∙ is
