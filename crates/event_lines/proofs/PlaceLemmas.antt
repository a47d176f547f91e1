-- The location of a memory error, as the kernel prints it, is read.
use Rattle.std.proofs.Common.{◌≡◌, ℕ, ◌+◌, ◌^◌, ◌<◌, ◌==◌, false, List, [], ◌∷◌, ◌++◌, codes, decimal, drop, take, length, refl, ap, ◌∙◌, arith, append-nil, Option, Some, None}
use Rattle.std.specs.Prelude.{IfSome}
use Rattle.std.specs.List.{position_or_len}
use Rattle.std.specs.Option.{option_map_or}
use Rattle.std.proofs.lemmas.Bool.Decides.{nat_tests}
use Rattle.std.proofs.lemmas.Fmt.{decimal_nonempty}
use Rattle.std.proofs.lemmas.List.{drop_all, take_all}
use Rattle.ras_klog.specs.Reading.{read_then}
use Rattle.ras_script.proofs.WrittenNumberLemmas.{decimal_read}
use Rattle.ras_script.specs.Number.{decimal_of}
use Rattle.ras_script.specs.SplittingLaws.{Lacks}
use Rattle.bank_lines.specs.LogHeads.{after, up_to, without_spaces}
use Rattle.bank_lines.specs.Parts.{value_after}
use Rattle.bank_lines.proofs.LogTextLemmas.{after_is, up_to_is}
use Rattle.bank_lines.proofs.NumeralLemmas.{decimal_lacks}
use Rattle.block_lines.specs.Lines.{after_named, location_of, number_named}
use Rattle.block_lines.specs.declared.memory.ErrorLocation.{ErrorLocation}
use Rattle.event_lines.specs.MemoryKernel.{ArePlaces, before_more, number_before, places_text}

pub no_space : (word rest : List ℕ) → Lacks 32 word → 0 < length word → without_spaces (word ++ rest) ≡ word ++ rest
no_space [] rest lacks some = absurd (omega (arith, some))
no_space (b ∷ word) rest lacks some =
    let other : (b == 32) ≡ false = grind (arith, nat_tests, lacks.0) in
    rw other refl

-- ---- a word before more, or at the end of a text

no_place : (byte : ℕ) (word : List ℕ) → Lacks byte word → position_or_len (λ b. b == byte) word ≡ length word
no_place byte [] lacks = refl
no_place byte (b ∷ word) lacks =
    let other : (b == byte) ≡ false = grind (arith, nat_tests, lacks.0) in
    let one : 1 + length word ≡ length (b ∷ word) = omega arith in
    rw other (ap (λ (n : ℕ). 1 + n) (no_place byte word lacks.1) ∙ one)

word_is : (word more : List ℕ) → Lacks 32 word → up_to 32 (word ++ before_more more) ≡ word
word_is word [] lacks =
    ap (up_to 32) (append-nil word) ∙ ap (λ (n : ℕ). take n word) (no_place 32 word lacks) ∙ take_all (length word) word (omega arith)
word_is word (b ∷ more) lacks = up_to_is 32 word (b ∷ more) lacks

more_is : (word more : List ℕ) → Lacks 32 word → after 32 (word ++ before_more more) ≡ more
more_is word [] lacks =
    ap (after 32) (append-nil word) ∙ ap (λ (n : ℕ). drop (n + 1) word) (no_place 32 word lacks) ∙ drop_all (length word + 1) word (omega arith)
more_is word (b ∷ more) lacks = after_is 32 word (b ∷ more) lacks

-- ---- numbers after their names

-- a number is read, and so is the text after it
numbered_is : (name : List ℕ) → ((x : List ℕ) → value_after name (name ++ x) ≡ Some x) → (o : Option ℕ) (more : List ℕ)
    → IfSome o (λ n. n < 2 ^ 16) → value_after name more ≡ None
    → (number_named name (number_before name o more) ≡ o) × (after_named name (number_before name o more) ≡ more)
numbered_is name has None more small none = (
  ap (λ (v : Option (List ℕ)). read_then v (λ value. decimal_of 65535 (up_to 32 (without_spaces value)))) none,
  ap (λ (v : Option (List ℕ)). option_map_or (λ value. after 32 (without_spaces value)) v more) none,
)
numbered_is name has (Some n) more small none =
    let fits : n < 2 ^ 16 = small in
    let word : List ℕ = decimal n in
    let tail : List ℕ = word ++ before_more more in
    let lacks : Lacks 32 word = decimal_lacks 32 n (omega arith) (omega (arith, fits)) in
    let plain : without_spaces tail ≡ tail = no_space word (before_more more) lacks (decimal_nonempty n (omega (arith, fits))) in (
      ap (λ (v : Option (List ℕ)). read_then v (λ value. decimal_of 65535 (up_to 32 (without_spaces value)))) (has tail)
          ∙ ap (λ (t : List ℕ). decimal_of 65535 (up_to 32 t)) plain
          ∙ ap (λ (t : List ℕ). decimal_of 65535 t) (word_is word more lacks)
          ∙ decimal_read 65535 n (omega (arith, fits)) (omega arith),
      ap (λ (v : Option (List ℕ)). option_map_or (λ value. after 32 (without_spaces value)) v (name ++ tail)) (has tail)
          ∙ ap (λ (t : List ℕ). after 32 t) plain
          ∙ more_is word more lacks,
    )

no_node : (card number : Option ℕ) (others : List ℕ) → value_after (codes "node:") others ≡ None
    → value_after (codes "node:") (number_before (codes "card:") card (number_before (codes "module:") number others)) ≡ None
no_node (Some c) number others none = refl
no_node None (Some m) others none = refl
no_node None None others none = none

no_card : (number : Option ℕ) (others : List ℕ) → value_after (codes "card:") others ≡ None
    → value_after (codes "card:") (number_before (codes "module:") number others) ≡ None
no_card (Some m) others none = refl
no_card None others none = none

pub places_read : (at : ErrorLocation) (others : List ℕ) → ArePlaces at others → location_of (places_text at others) ≡ at
places_read at others is =
    let modules : List ℕ = number_before (codes "module:") at.«module» others in
    let cards : List ℕ = number_before (codes "card:") at.card modules in
    let text : List ℕ = number_before (codes "node:") at.node cards in
    let n = numbered_is (codes "node:") (λ x. refl) at.node cards is.location.node (no_node at.card at.«module» others is.node) in
    let c = numbered_is (codes "card:") (λ x. refl) at.card modules is.location.card (no_card at.«module» others is.card) in
    let m = numbered_is (codes "module:") (λ x. refl) at.«module» others is.location.«module» is.«module» in
    let card : number_named (codes "card:") (after_named (codes "node:") text) ≡ at.card =
    ap (λ (t : List ℕ). number_named (codes "card:") t) n.1 ∙ c.0 in
    let number : number_named (codes "module:") (after_named (codes "card:") (after_named (codes "node:") text)) ≡ at.«module» =
    ap (λ (t : List ℕ). number_named (codes "module:") (after_named (codes "card:") t)) n.1
    ∙ ap (λ (t : List ℕ). number_named (codes "module:") t) c.1 ∙ m.0 in
    λ i. record { node = n.0 i; card = card i; «module» = number i }
