-- The text so far, with the words left, is the whole text without its ending.
use Rattle.std.proofs.Common.{◌≡◌, ◌++◌, map, drop}
use Rattle.mca_codes.specs.Texts.{with_colons}
use Rattle.mca_codes.proofs.texts.push_compound.Given as goal

abbrev pub invariant-loop-word : goal.invariant-loop-word
invariant-loop-word l =
    l.text.items ++ with_colons (map (λ word. word.now) (drop l.word-index l.words))
    ≡ l.fn.text.items ++ l.kind ++ with_colons (map (λ word. word.now) l.words)
