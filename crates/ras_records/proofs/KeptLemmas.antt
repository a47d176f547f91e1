-- What device calls leave unchanged in the model, one after another.
use Rattle.std.proofs.Common.{◌≡◌, ◌∙◌, Option, None, Some, refl, ap, subst}
use Rattle.board_core.specs.Stop.{Left}
use Rattle.board_core.specs.Told.{Relates, Told}
use Rattle.erst_interp.specs.Run.{KeepsButDevice}

keeps_both : (a b c : Told) → KeepsButDevice a b → KeepsButDevice b c → KeepsButDevice a c
keeps_both a b c first second = record {
  here = second.here ∙ ap (λ (left : Left). record left { store = c.here.store }) first.here;
  disk_calls = second.disk_calls ∙ first.disk_calls;
  slow = second.slow ∙ first.slow;
}

pub kept_both : (a b c : Option Told) → Relates KeepsButDevice a b → Relates KeepsButDevice b c → Relates KeepsButDevice a c
kept_both None b c first second = (let is : b ≡ None = first in subst (λ (told : Option Told). Relates KeepsButDevice told c) is second)
kept_both (Some a) None c first second = absurd first
kept_both (Some a) (Some b) None first second = absurd second
kept_both (Some a) (Some b) (Some c) first second = keeps_both a b c first second

pub kept_none : (a : Option Told) → Relates KeepsButDevice a a
kept_none None = refl
kept_none (Some a) = record { here = refl; disk_calls = refl; slow = refl }
