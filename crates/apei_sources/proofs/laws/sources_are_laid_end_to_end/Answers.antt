-- By the walk.
use Rattle.std.proofs.Common.{◌≡◌, ◌∙◌, ◌+◌, ◌-◌, ℕ, suc, List, [], length, map, drop, nat_eq, Result, Ok, Err, sym, ap, subst, arith}
use Rattle.std.specs.List.{IsDistinct}
use Rattle.std.specs.Map.{keys_of}
use Rattle.std.proofs.lemmas.List.Elements.{All-from_recursion, recursion_from_All}
use Rattle.apei_sources.specs.declared.refusals.TableRefused.{TableRefused}
use Rattle.apei_sources.specs.Sources.{source_of}
use Rattle.apei_sources.specs.Hest.{Sources, source_count, sources_in}
use Rattle.apei_sources.specs.Laid.{IsSource, HoldsSources, IsNoSource, BreaksOff}
use Rattle.apei_sources.proofs.HestLemmas.{hest_read, sources_in_none}
use Rattle.apei_sources.proofs.LaidLemmas.{keys-told, Read, Broken, Walked, walked, walks, stops}
use Rattle.apei_sources.proofs.laws.sources_are_laid_end_to_end.Goals as goal

none_before : IsDistinct nat_eq []
unfolding IsDistinct
none_before = tt

so : (table : List ℕ) (answer : Result Sources TableRefused) → sources_in (source_count table) [] (drop 40 table) ≡ answer
    → Walked (source_count table) [] (drop 40 table) answer
so table answer is =
    subst (Walked (source_count table) [] (drop 40 table)) is (walked (source_count table) [] (drop 40 table) none_before)

holds : (table : List ℕ) (sources : Sources) → sources_in (source_count table) [] (drop 40 table) ≡ Ok sources
    → HoldsSources table sources
holds table sources is =
    let read : Read (source_count table) [] (drop 40 table) sources = so table (Ok sources) is in
    record {
      spans = read.spans;
      rest = read.rest;
      laid = record {
        laid = read.laid;
        each = All-from_recursion IsSource read.spans read.each;
        once = subst (IsDistinct nat_eq) (ap (λ (all : Sources). keys_of all) read.told ∙ keys-told read.spans) read.once;
      };
      counted = read.counted;
      listed = read.told;
    }

reads : (table : List ℕ) (sources : Sources) → HoldsSources table sources
    → sources_in (source_count table) [] (drop 40 table) ≡ Ok sources
reads table sources holds =
    let once : IsDistinct nat_eq (keys_of (map source_of holds.spans)) =
    subst (IsDistinct nat_eq) (sym (keys-told holds.spans)) holds.laid.once in
    let counted : source_count table ≡ length holds.spans + 0 = omega (arith, holds.counted) in
    (λ i. sources_in (counted i) [] (holds.laid.laid i))
    ∙ walks holds.spans 0 [] holds.rest (recursion_from_All IsSource holds.spans holds.laid.each) once
    ∙ sources_in_none (map source_of holds.spans) holds.rest
    ∙ ap (λ (all : Sources). Ok all) (sym holds.listed)

breaks : (table : List ℕ) (why : TableRefused) → sources_in (source_count table) [] (drop 40 table) ≡ Err why
    → BreaksOff table why
breaks table why is =
    let broken : Broken (source_count table) [] (drop 40 table) why = so table (Err why) is in
    record {
      spans = broken.spans;
      rest = broken.rest;
      laid = record {
        laid = broken.laid;
        each = All-from_recursion IsSource broken.spans broken.each;
        once = subst (IsDistinct nat_eq) (keys-told broken.spans) broken.once;
      };
      fewer = broken.fewer;
      refused = subst (λ (ids : List ℕ). IsNoSource ids broken.rest why) (keys-told broken.spans) broken.refused;
    }

refuses : (table : List ℕ) (why : TableRefused) → BreaksOff table why
    → sources_in (source_count table) [] (drop 40 table) ≡ Err why
refuses table why breaks =
    let once : IsDistinct nat_eq (keys_of (map source_of breaks.spans)) =
    subst (IsDistinct nat_eq) (sym (keys-told breaks.spans)) breaks.laid.once in
    let counted : source_count table ≡ length breaks.spans + suc (source_count table - suc (length breaks.spans)) =
    omega (arith, breaks.fewer) in
    (λ i. sources_in (counted i) [] (breaks.laid.laid i))
    ∙ walks breaks.spans (suc (source_count table - suc (length breaks.spans))) [] breaks.rest
    (recursion_from_All IsSource breaks.spans breaks.laid.each) once
    ∙ stops (source_count table - suc (length breaks.spans)) (map source_of breaks.spans) breaks.rest why
    (subst (λ (ids : List ℕ). IsNoSource ids breaks.rest why) (sym (keys-told breaks.spans)) breaks.refused)

pub returns-clause-read : goal.returns-clause-read
returns-clause-read c = λ bytes table sources is. (
  λ read. holds table sources (sym (hest_read bytes table is) ∙ read),
  λ laid. hest_read bytes table is ∙ reads table sources laid,
)

pub returns-clause-refused : goal.returns-clause-refused
returns-clause-refused c = λ bytes table why is. (
  λ refused. breaks table why (sym (hest_read bytes table is) ∙ refused),
  λ broken. hest_read bytes table is ∙ refuses table why broken,
)
