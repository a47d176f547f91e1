-- The only source with an identifier.
use Rattle.std.proofs.Common.{◌≡◌, ◌∙◌, ◌↔◌, ℕ, Option, Some, None, IsNone, IsSome, Contains, nat_eq, true, sym, subst, refl, arith}
use Rattle.std.specs.Cmp.{nat_eq_equiv}
use Rattle.std.specs.List.{IsDistinct}
use Rattle.std.specs.Map.{keys_of, lookup}
use Rattle.std.proofs.lemmas.Bool.Decides.{nat_tests}
use Rattle.std.proofs.lemmas.Map.Views.{Contains-from_lookup, lookup-from_Contains, Contains-keys_from_lookup, IsSome-lookup_from_Contains}
use Rattle.apei_sources.specs.Hest.{Sources, type_with_id}

pub nat_exact : (x y : ℕ) → nat_eq x y ≡ true → x ≡ y
nat_exact x y is = grind (arith, nat_tests)

-- The source's type is found if and only if the source is there.
pub one_of : (sources : Sources) (id kind : ℕ) (found : Option ℕ) → IsDistinct nat_eq (keys_of sources)
    → found ≡ type_with_id id sources
    → (found ≡ Some kind) ↔ Contains sources (id, kind)
one_of sources id kind found once is = (
  λ there. Contains-from_lookup nat_exact id kind sources (sym is ∙ there),
  λ there. is
      ∙ lookup-from_Contains nat_eq_equiv id kind sources once there,
)

-- Nothing is found if and only if no source has the identifier.
pub none_of : (sources : Sources) (id : ℕ) (found : Option ℕ) → found ≡ type_with_id id sources
    → IsNone found ↔ (Contains (keys_of sources) id → ⊥)
none_of sources id None is = (
  λ none there. by (lookup (nat_eq id) sources) (sym is)
      (IsSome-lookup_from_Contains nat_eq_equiv id sources there),
  λ none. refl,
)
  where
    by : (found : Option ℕ) → found ≡ None → IsSome found → ⊥
    by None is some = cc
    by (Some kind) is some = cc
none_of sources id (Some kind) is =
    (λ none. cc, λ none. absurd (none (Contains-keys_from_lookup nat_exact id sources (subst IsSome is refl))))
