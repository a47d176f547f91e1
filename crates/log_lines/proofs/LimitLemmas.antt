-- One call can print each text.
use Rattle.std.proofs.Common.{◌≡◌, ℕ, ◌+◌, ◌^◌, ◌<◌, ◌≤◌, ◌==◌, ◌&&◌, ◌||◌, Bool, true, false, List, [], ◌∷◌, ◌++◌, length, take, codes, decimal, refl, ap, ◌∙◌, not, nat_lt, arith, length-append, length-take, if◌then◌else◌}
use Rattle.std.proofs.lemmas.Bool.Decides.{nat_tests}
use Rattle.std.proofs.lemmas.Fmt.{length-decimal-le}
use Rattle.std.proofs.lemmas.List.{length-map}
use Rattle.line_filters.specs.declared.feeding.TheConstants.{MOST_AT_ONCE}
use Rattle.log_lines.specs.Comments.{comment, commented, has_comment, fitted, exceeds_call, is_plain, left_out_comment, limited, shown_byte, shown_of, too_long_comment, with_shown}
use Rattle.log_lines.specs.declared.comments.TheConstants.{MOST_SHOWN}

decimal_short : (n : ℕ) → n < 2 ^ 64 → length (decimal n) ≤ 20
decimal_short n small = length-decimal-le 20 n (omega arith) (omega (arith, small)) small

comment_short : (name : List ℕ) (number : ℕ) → number < 2 ^ 64 → length (comment name number) ≤ length name + 21
comment_short name number small =
    omega (arith, length-append (name ++ decimal number) (10 ∷ []), length-append name (decimal number), decimal_short number small)

pub too_long_short : (number : ℕ) → number < 2 ^ 64 → length (too_long_comment number) ≤ MOST_AT_ONCE
too_long_short number small = omega (arith, comment_short (codes "# too long ") number small)

left_out_short : (number : ℕ) (shown : List ℕ) → number < 2 ^ 64 → length shown ≤ MOST_SHOWN → length (left_out_comment number shown) ≤ 142
left_out_short number shown small few =
    let head : List ℕ = codes "# left out " ++ decimal number in
    omega (arith, length-append (head ++ 32 ∷ shown) (10 ∷ []), length-append head (32 ∷ shown), length-append (codes "# left out ") (decimal number), decimal_short number small, few)

pub limited_short : (most number : ℕ) (shown text : List ℕ) → 142 ≤ most → number < 2 ^ 64 → length shown ≤ MOST_SHOWN → length (limited most number shown text) ≤ most
limited_short most number shown text room small few = by (nat_lt most (length text)) refl
  where
    by : (long : Bool) → nat_lt most (length text) ≡ long → length (if long then left_out_comment number shown else text) ≤ most
    by true is = omega (arith, left_out_short number shown small few, room)
    by false is = grind (arith, nat_tests, is)

-- ---- without a comment

or_none : (x y : Bool) → (x || y) ≡ false → (x ≡ false) × (y ≡ false)
or_none true y none = absurd cc
or_none false y none = (refl, none)

and_none : (x : Bool) → (x && false) ≡ false
and_none true = refl
and_none false = refl

no_remark : (begins mark : Bool) → mark ≡ false → (if begins then mark else false) ≡ false
no_remark true mark none = none
no_remark false mark none = refl

plain_same : (shown : List ℕ) (begins : Bool) (text : List ℕ) → has_comment text ≡ false → commented shown begins false text ≡ text
plain_same shown begins [] none = refl
plain_same shown begins (b ∷ text) none =
    let each = or_none (b == 35) (has_comment text) none in
    ap (λ (remark : Bool). (if b == 10 && remark then 32 ∷ shown else []) ++ b ∷ commented shown (b == 10) remark text) (no_remark begins (b == 35) each.0)
    ∙ ap (λ (ends : Bool). (if ends then 32 ∷ shown else []) ++ b ∷ commented shown (b == 10) false text) (and_none (b == 10))
    ∙ ap (λ (more : List ℕ). b ∷ more) (plain_same shown (b == 10) text each.1)

same_if : (number : ℕ) (line text : List ℕ) → has_comment text ≡ false → exceeds_call text ≡ false → fitted number line text ≡ text
same_if number line text none short =
    let shown : List ℕ = shown_of line in
    ap (λ (full : List ℕ). if exceeds_call full then limited MOST_AT_ONCE number shown text else full) (plain_same shown true text none)
    ∙ ap (λ (long : Bool). if long then limited MOST_AT_ONCE number shown text else text) short

both_none : (x y : Bool) → (not x && not y) ≡ true → (x ≡ false) × (y ≡ false)
both_none true y is = absurd cc
both_none false true is = absurd cc
both_none false false is = (refl, refl)

pub fitted_plain : (number : ℕ) (line text : List ℕ) → is_plain text ≡ true → fitted number line text ≡ text
fitted_plain number line text is =
    let each = both_none (has_comment text) (exceeds_call text) is in same_if number line text each.0 each.1

-- ---- how long a text is

shown_short : (line : List ℕ) → length (shown_of line) ≤ MOST_SHOWN
shown_short line = omega (arith, length-map (take MOST_SHOWN line) shown_byte, length-take MOST_SHOWN line)

pub fitted_short : (number : ℕ) (line text : List ℕ) → number < 2 ^ 64 → length (fitted number line text) ≤ MOST_AT_ONCE
fitted_short number line text small = by (exceeds_call full) refl
  where
    full : List ℕ
    full = with_shown (shown_of line) text

    by : (long : Bool) → exceeds_call full ≡ long → length (if long then limited MOST_AT_ONCE number (shown_of line) text else full) ≤ MOST_AT_ONCE
    by true is = limited_short MOST_AT_ONCE number (shown_of line) text (omega arith) small (shown_short line)
    by false is = grind (arith, nat_tests, is)
