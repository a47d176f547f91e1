-- Lists that are beginnings of others.
use Rattle.std.specs.Prelude.{List, [], ◌++◌}
use Rattle.std.proofs.Common.{refl, sym, ap, ◌∙◌, append_assoc, append-nil}
use Rattle.ras_base.specs.Prefix.{IsPrefixOf}

pub IsPrefixOf-refl : {X : Type 0} (xs : List X) → IsPrefixOf xs xs
IsPrefixOf-refl xs = ([], append-nil xs)

pub IsPrefixOf-append : {X : Type 0} (xs ys : List X) → IsPrefixOf xs (xs ++ ys)
IsPrefixOf-append xs ys = (ys, refl)

pub IsPrefixOf-trans : {X : Type 0} (xs ys zs : List X) → IsPrefixOf xs ys → IsPrefixOf ys zs → IsPrefixOf xs zs
IsPrefixOf-trans {X} xs ys zs (one, first) (two, second) =
    (one ++ two, sym (append_assoc xs one two) ∙ ap (λ (front : List X). front ++ two) first ∙ second)
