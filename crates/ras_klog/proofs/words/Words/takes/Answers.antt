-- The first word of what is left is the name, if nothing or a space follows it.
use Rattle.std.proofs.Common.{◌≡◌, ◌-◌, ◌<◌, ◌∙◌, ℕ, List, [], ap, sym, take, drop, length, get_or, arith}
use Rattle.std.specs.Prelude.{slice_index_or}
use Rattle.std.specs.Option.{option_map_or}
use Rattle.std.specs.Str.{bytes_eq}
use Rattle.std.proofs.lemmas.Bool.Decides.{nat_tests}
use Rattle.ras_klog.specs.Reading.{parts_of}
use Rattle.ras_klog.specs.Steps.Words.{words_in}
use Rattle.ras_klog.proofs.LineLemmas.{ended_word, same_word, spaced_word}
use Rattle.ras_klog.proofs.words.Words.takes.Goals as goal

pub returns-then-is_empty-clause-is : goal.returns-then-is_empty-clause-is
returns-then-is_empty-clause-is c =
    let name = c.args.name.now in
    let text = c.in-Some.text.now in
    let behind = c.in-Some-after_name.behind.now in
    let words : words_in c.args.self.now ≡ parts_of text = ap (λ rest. option_map_or (λ text. parts_of text.now) rest []) c.in-Some.is in
    let none : length behind ≡ 0 = grind (arith, nat_tests, c.if-is_empty.true, c.is_empty-2.ensures) in
    sym (ap (λ (parts : List (List ℕ)). bytes_eq (slice_index_or parts 0 []) name)
    (words ∙ ended_word name text behind c.requires c.in-Some-after_name.ensures none) ∙ same_word name [])

pub returns-clause-is : goal.returns-clause-is
returns-clause-is c =
    let name = c.args.name.now in
    let text = c.in-Some.text.now in
    let behind = c.in-Some-after_name.behind.now in
    let words : words_in c.args.self.now ≡ parts_of text = ap (λ rest. option_map_or (λ text. parts_of text.now) rest []) c.in-Some.is in
    let some : 0 < length behind = grind (arith, nat_tests, c.if-is_empty.false, c.is_empty-2.ensures) in
    let space : get_or behind 0 0 ≡ 32 = grind (arith, nat_tests, c.if-behind-ne32.false) in
    sym (ap (λ (parts : List (List ℕ)). bytes_eq (slice_index_or parts 0 []) name)
    (words ∙ spaced_word name text behind c.requires c.in-Some-after_name.ensures some space) ∙ same_word name (parts_of (take (length behind - 1) (drop 1 behind))))
