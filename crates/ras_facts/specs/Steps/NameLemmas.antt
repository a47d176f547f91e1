-- Names that are the same are equal.
use Rattle.std.proofs.Common.{◌≡◌, true, false, Bool, refl, sym, ap, ◌∙◌, arith}
use Rattle.std.specs.Cmp.{IsEquivalence}
use Rattle.std.proofs.lemmas.Bool.Decides.{nat_tests}
use Rattle.ras_facts.specs.declared.name.Name.{Name}
use Rattle.ras_facts.specs.declared.name.Name.TheVariants.{Bank, Record, Block, Boot}
use Rattle.ras_facts.specs.contracts.name.NamePartialEq.TheImpl.{eq-value as name_eq}
use Rattle.ras_facts.specs.Names.{same_name}

pub same_name-exact : (x y : Name) → same_name x y ≡ true → x ≡ y
same_name-exact (Bank boot cpu bank tsc) (Bank boot' cpu' bank' tsc') same =
    let boots : boot ≡ boot' = grind (arith, nat_tests, same) in
    let cpus : cpu ≡ cpu' = grind (arith, nat_tests, same) in
    let banks : bank ≡ bank' = grind (arith, nat_tests, same) in
    let tscs : tsc ≡ tsc' = grind (arith, nat_tests, same) in
    cc
same_name-exact (Record id) (Record id') same =
    let ids : id ≡ id' = grind (arith, nat_tests, same) in
    cc
same_name-exact (Block boot source number) (Block boot' source' number') same =
    let boots : boot ≡ boot' = grind (arith, nat_tests, same) in
    let sources : source ≡ source' = grind (arith, nat_tests, same) in
    let numbers : number ≡ number' = grind (arith, nat_tests, same) in
    cc
same_name-exact (Boot boot) (Boot boot') same =
    let boots : boot ≡ boot' = grind (arith, nat_tests, same) in
    cc
same_name-exact (Bank boot cpu bank tsc) (Record id) same = absurd cc
same_name-exact (Bank boot cpu bank tsc) (Block boot' source number) same = absurd cc
same_name-exact (Bank boot cpu bank tsc) (Boot boot') same = absurd cc
same_name-exact (Record id) (Bank boot cpu bank tsc) same = absurd cc
same_name-exact (Record id) (Block boot source number) same = absurd cc
same_name-exact (Record id) (Boot boot) same = absurd cc
same_name-exact (Block boot source number) (Bank boot' cpu bank tsc) same = absurd cc
same_name-exact (Block boot source number) (Record id) same = absurd cc
same_name-exact (Block boot source number) (Boot boot') same = absurd cc
same_name-exact (Boot boot) (Bank boot' cpu bank tsc) same = absurd cc
same_name-exact (Boot boot) (Record id) same = absurd cc
same_name-exact (Boot boot) (Block boot' source number) same = absurd cc

pub same_name-refl : (x : Name) → same_name x x ≡ true
same_name-refl (Bank boot cpu bank tsc) = grind (arith, nat_tests)
same_name-refl (Record id) = grind (arith, nat_tests)
same_name-refl (Block boot source number) = grind (arith, nat_tests)
same_name-refl (Boot boot) = grind (arith, nat_tests)

both_ways : (a b : Bool) → (a ≡ true → b ≡ true) → (b ≡ true → a ≡ true) → a ≡ b
both_ways true b there back = let h = there refl in cc
both_ways false true there back = let h = back refl in cc
both_ways false false there back = refl

turned : (x y : Name) → same_name x y ≡ true → same_name y x ≡ true
turned x y same = let e = same_name-exact x y same in let r = same_name-refl x in cc

pub same_name-laws : IsEquivalence same_name
same_name-laws = record {
  refl = same_name-refl;
  symm = λ x y. both_ways (same_name x y) (same_name y x) (turned x y) (turned y x);
  congr = λ x y z same. ap (λ name. same_name name z) (same_name-exact x y same);
}

-- The derived `==` of names is this test.
eq_tied : (x y : Name) → name_eq.it x y ≡ same_name x y
eq_tied (Bank boot cpu bank tsc) (Bank boot' cpu' bank' tsc') = refl
eq_tied (Record id) (Record id') = refl
eq_tied (Block boot source number) (Block boot' source' number') = refl
eq_tied (Boot boot) (Boot boot') = refl
eq_tied (Bank boot cpu bank tsc) (Record id) = refl
eq_tied (Bank boot cpu bank tsc) (Block boot' source number) = refl
eq_tied (Bank boot cpu bank tsc) (Boot boot') = refl
eq_tied (Record id) (Bank boot cpu bank tsc) = refl
eq_tied (Record id) (Block boot source number) = refl
eq_tied (Record id) (Boot boot) = refl
eq_tied (Block boot source number) (Bank boot' cpu bank tsc) = refl
eq_tied (Block boot source number) (Record id) = refl
eq_tied (Block boot source number) (Boot boot') = refl
eq_tied (Boot boot) (Bank boot' cpu bank tsc) = refl
eq_tied (Boot boot) (Record id) = refl
eq_tied (Boot boot) (Block boot' source number) = refl

pub eq-same_name : name_eq.it ≡ same_name
eq-same_name = λ i x y. eq_tied x y i

pub name-exact : (x y : Name) → name_eq.it x y ≡ true → x ≡ y
name-exact x y same = same_name-exact x y (sym (eq_tied x y) ∙ same)
