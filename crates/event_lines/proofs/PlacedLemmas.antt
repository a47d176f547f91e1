-- A text that is somewhere in another.
use Rattle.std.proofs.Common.{◌≡◌, ℕ, ◌+◌, Bool, true, false, nat_eq, List, [], ◌∷◌, ◌++◌, refl, ap, ◌∙◌, Some, if◌then◌else◌}
use Rattle.std.specs.List.{starts_with}
use Rattle.std.specs.Option.{option_map}
use Rattle.bank_lines.specs.LogHeads.{mark_place}

pub record Stands (mark text : List ℕ) : Type 0 where
  pub place : ℕ
  pub is : mark_place mark text ≡ Some place

pub stands_behind : (mark front text : List ℕ) → Stands mark text → Stands mark (front ++ text)
stands_behind mark [] text stands = stands
stands_behind mark (b ∷ front) text stands = by (starts_with nat_eq (b ∷ (front ++ text)) mark) refl (stands_behind mark front text stands)
  where
    by : (here : Bool) → starts_with nat_eq (b ∷ (front ++ text)) mark ≡ here → Stands mark (front ++ text) → Stands mark (b ∷ (front ++ text))
    by true is rest = record {
      place = 0;
      is = ap (λ (here : Bool). if here then Some 0 else option_map (λ place. place + 1) (mark_place mark (front ++ text))) is;
    }
    by false is rest = record {
      place = rest.place + 1;
      is = ap (λ (here : Bool). if here then Some 0 else option_map (λ place. place + 1) (mark_place mark (front ++ text))) is
          ∙ ap (option_map (λ place. place + 1)) rest.is;
    }
