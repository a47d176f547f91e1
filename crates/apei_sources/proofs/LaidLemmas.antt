-- What the walk along sources leads to: spans laid end to end.
use Rattle.std.proofs.Common.{◌≡◌, ℕ, zero, suc, ◌+◌, ◌<◌, ◌∙◌, Bool, true, false, nat_eq, List, [], ◌∷◌, ◌++◌, length, map, take, drop, Result, Ok, Err, is_some, Contains, refl, sym, ap, subst, arith, append_assoc, append-nil}
use Rattle.std.specs.Cmp.{nat_eq_equiv}
use Rattle.std.specs.List.{list_any, concat, AllByRecursion, IsDistinct}
use Rattle.std.specs.Map.{keys_of}
use Rattle.std.proofs.lemmas.List.{take-append-drop, drop_at, map-append}
use Rattle.std.proofs.lemmas.Map.Keys.{IsDistinct-push}
use Rattle.std.proofs.lemmas.Map.Made.{is_some-lookup}
use Rattle.std.proofs.lemmas.Map.Views.{Contains-keys_from_lookup, IsSome-lookup_from_Contains}
use Rattle.apei_sources.specs.declared.refusals.TableRefused.{TableRefused}
use Rattle.apei_sources.specs.declared.refusals.TableRefused.TheVariants.{Short, Signature, Length, Sum, SourceType, SourceOut, RepeatedId, NoMemory}
use Rattle.apei_sources.specs.Sources.{source_type, source_id, source_of, size_at}
use Rattle.apei_sources.specs.Hest.{Sources, type_with_id, followed, sources_in}
use Rattle.apei_sources.specs.Laid.{IsSource, IsNoSource}
use Rattle.apei_sources.proofs.LookupLemmas.{nat_exact}
use Rattle.apei_sources.proofs.SourceLemmas.{Begins, Sized, sized, size_at-append, source_of-append, out_type, out_out}
use Rattle.apei_sources.proofs.HestLemmas.{sources_in_more, sources_in_refused, sources_in_repeated, sources_in_none}

-- the identifiers of sources
pub keys-told : (spans : List (List ℕ)) → keys_of (map source_of spans) ≡ map source_id spans
keys-told [] = refl
keys-told (span ∷ spans) = ap (λ ids. source_id span ∷ ids) (keys-told spans)

-- The result of the walk along this number of sources after others, stated without the walk.
pub record Read (count : ℕ) (before : Sources) (bytes : List ℕ) (all : Sources) : Type 0 where
  pub spans : List (List ℕ)
  pub rest : List ℕ
  pub laid : bytes ≡ concat spans ++ rest
  pub each : AllByRecursion IsSource spans
  pub counted : length spans ≡ count
  pub told : all ≡ before ++ map source_of spans
  pub once : IsDistinct nat_eq (keys_of all)

pub record Broken (count : ℕ) (before : Sources) (bytes : List ℕ) (why : TableRefused) : Type 0 where
  pub spans : List (List ℕ)
  pub rest : List ℕ
  pub laid : bytes ≡ concat spans ++ rest
  pub each : AllByRecursion IsSource spans
  pub fewer : length spans < count
  pub once : IsDistinct nat_eq (keys_of (before ++ map source_of spans))
  pub refused : IsNoSource (keys_of (before ++ map source_of spans)) rest why

abbrev pub Walked : ℕ → Sources → List ℕ → Result Sources TableRefused → Type 0
Walked count before bytes (Ok all) = Read count before bytes all
Walked count before bytes (Err why) = Broken count before bytes why

-- the walk ends here
ends : (count : ℕ) (before : Sources) (bytes : List ℕ) (why : TableRefused) → IsDistinct nat_eq (keys_of before)
    → IsNoSource (keys_of before) bytes why → Broken (suc count) before bytes why
ends count before bytes why once refused = record {
  spans = [];
  rest = bytes;
  laid = refl;
  each = tt;
  fewer = omega arith;
  once = subst (λ (sources : Sources). IsDistinct nat_eq (keys_of sources)) (sym (append-nil before)) once;
  refused = subst (λ (sources : Sources). IsNoSource (keys_of sources) bytes why) (sym (append-nil before)) refused;
}

refused_so : (ids bytes : List ℕ) (why : TableRefused) → Sized bytes (Err why) → IsNoSource ids bytes why
refused_so ids bytes SourceType is = is
refused_so ids bytes SourceOut is = is
refused_so ids bytes Short is = absurd is
refused_so ids bytes Signature is = absurd is
refused_so ids bytes Length is = absurd is
refused_so ids bytes Sum is = absurd is
refused_so ids bytes RepeatedId is = absurd is
refused_so ids bytes NoMemory is = absurd is

-- The walk continues after a source.
module _ (count : ℕ) (before : Sources) (bytes : List ℕ) (size : ℕ) (begins : Begins bytes size) where
  split : take size bytes ++ drop size bytes ≡ bytes
  split = take-append-drop size bytes

  same : source_of (take size bytes) ≡ source_of bytes
  same = sym (source_of-append (take size bytes) (drop size bytes) begins.source) ∙ ap (λ xs. source_of xs) split

  laid_more : (spans : List (List ℕ)) (rest : List ℕ) → drop size bytes ≡ concat spans ++ rest
      → bytes ≡ concat (take size bytes ∷ spans) ++ rest
  laid_more spans rest laid =
      sym split ∙ ap (λ xs. take size bytes ++ xs) laid ∙ sym (append_assoc (take size bytes) (concat spans) rest)

  told_more : (spans : List (List ℕ))
      → (before ++ source_of bytes ∷ []) ++ map source_of spans ≡ before ++ map source_of (take size bytes ∷ spans)
  told_more spans =
      append_assoc before (source_of bytes ∷ []) (map source_of spans)
      ∙ ap (λ source. before ++ source ∷ map source_of spans) (sym same)

  pub goes_on : (answer : Result Sources TableRefused)
      → Walked count (before ++ source_of bytes ∷ []) (drop size bytes) answer → Walked (suc count) before bytes answer
  goes_on (Ok all) read = record {
    spans = take size bytes ∷ read.spans;
    rest = read.rest;
    laid = laid_more read.spans read.rest read.laid;
    each = (begins.source, read.each);
    counted = ap suc read.counted;
    told = read.told ∙ told_more read.spans;
    once = read.once;
  }
  goes_on (Err why) broken = record {
    spans = take size bytes ∷ broken.spans;
    rest = broken.rest;
    laid = laid_more broken.spans broken.rest broken.laid;
    each = (begins.source, broken.each);
    fewer = omega (arith, broken.fewer);
    once = subst (λ (sources : Sources). IsDistinct nat_eq (keys_of sources)) (told_more broken.spans) broken.once;
    refused =
        subst (λ (sources : Sources). IsNoSource (keys_of sources) broken.rest why)
        (told_more broken.spans) broken.refused;
  }

  pub repeated : is_some (type_with_id (source_id bytes) before) ≡ true → IsDistinct nat_eq (keys_of before)
      → Broken (suc count) before bytes RepeatedId
  repeated there once =
      ends count before bytes RepeatedId once (
        take size bytes,
        drop size bytes,
        sym split,
        begins.source,
        subst (Contains (keys_of before)) (ap (λ source. source.0) (sym same))
            (Contains-keys_from_lookup nat_exact (source_id bytes) before there),
      )

-- a new identifier
once-push : (before : Sources) (id kind : ℕ) → is_some (type_with_id id before) ≡ false
    → IsDistinct nat_eq (keys_of before) → IsDistinct nat_eq (keys_of (before ++ (id, kind) ∷ []))
once-push before id kind new once =
    subst (IsDistinct nat_eq) (sym (map-append (λ source. source.0) before ((id, kind) ∷ [])))
    (IsDistinct-push nat_eq_equiv (keys_of before) id once (sym (is_some-lookup (nat_eq id) before) ∙ new))

-- The walk has the result stated without it.
pub walked : (count : ℕ) (before : Sources) (bytes : List ℕ) → IsDistinct nat_eq (keys_of before)
    → Walked count before bytes (sources_in count before bytes)
walked zero before bytes once =
    subst (Walked zero before bytes) (sym (sources_in_none before bytes)) (record {
      spans = [];
      rest = bytes;
      laid = refl;
      each = tt;
      counted = refl;
      told = sym (append-nil before);
      once = once;
    })
walked (suc count) before bytes once =
    by (size_at bytes) refl (sized bytes) (walked count (before ++ source_of bytes ∷ []))
  where
    Goal : Type 0
    Goal = Walked (suc count) before bytes (sources_in (suc count) before bytes)

    Rest : Type 0
    Rest = (xs : List ℕ) → IsDistinct nat_eq (keys_of (before ++ source_of bytes ∷ []))
        → Walked count (before ++ source_of bytes ∷ []) xs (sources_in count (before ++ source_of bytes ∷ []) xs)

    added : (size : ℕ) → size_at bytes ≡ Ok size → Begins bytes size → Rest → (b : Bool)
        → is_some (type_with_id (source_id bytes) before) ≡ b → Goal
    added size is begins rest true there =
        subst (Walked (suc count) before bytes)
        (sym (sources_in_repeated count before bytes size RepeatedId is (rw there refl)))
        (repeated count before bytes size begins there once)
    added size is begins rest false new =
        subst (Walked (suc count) before bytes)
        (sym (sources_in_more count before (before ++ source_of bytes ∷ []) bytes size is (rw new refl)))
        (goes_on count before bytes size begins _
        (rest (drop size bytes) (once-push before (source_id bytes) (source_type bytes) new once)))

    by : (read : Result ℕ TableRefused) → size_at bytes ≡ read → Sized bytes read → Rest → Goal
    by (Err why) is out rest =
        subst (Walked (suc count) before bytes) (sym (sources_in_refused count before bytes why is))
        (ends count before bytes why once (refused_so (keys_of before) bytes why out))
    by (Ok size) is begins rest = added size is begins rest (is_some (type_with_id (source_id bytes) before)) refl

-- If that statement holds, it is the walk's result.
all_at : (P : ℕ → Type 0) (xs : List ℕ) (y : ℕ) (ys : List ℕ) → AllByRecursion P (xs ++ y ∷ ys) → P y
all_at P [] y ys all = all.0
all_at P (x ∷ xs) y ys all = all_at P xs y ys all.1

apart : (xs : List ℕ) (y : ℕ) (ys : List ℕ) → IsDistinct nat_eq (xs ++ y ∷ ys) → list_any (nat_eq y) xs ≡ false
unfolding IsDistinct
apart [] y ys once = refl
apart (x ∷ xs) y ys once =
    let head : nat_eq x y ≡ false = all_at (λ z. nat_eq x z ≡ false) xs y ys once.0 in
    let turned : nat_eq y x ≡ false = nat_eq_equiv.symm y x ∙ head in
    rw turned (apart xs y ys once.1)

new_id : (before : Sources) (source : ℕ × ℕ) (behind : Sources)
    → IsDistinct nat_eq (keys_of (before ++ source ∷ behind)) → is_some (type_with_id source.0 before) ≡ false
new_id before source behind once =
    is_some-lookup (nat_eq source.0) before
    ∙ apart (keys_of before) source.0 (keys_of behind)
    (subst (IsDistinct nat_eq) (map-append (λ source. source.0) before (source ∷ behind)) once)

pub walks : (spans : List (List ℕ)) (more : ℕ) (before : Sources) (rest : List ℕ) → AllByRecursion IsSource spans
    → IsDistinct nat_eq (keys_of (before ++ map source_of spans))
    → sources_in (length spans + more) before (concat spans ++ rest)
    ≡ sources_in more (before ++ map source_of spans) rest
walks [] more before rest each once = λ i. sources_in (zero_more i) (sym (append-nil before) i) rest
  where
    zero_more : 0 + more ≡ more
    zero_more = omega arith
walks (span ∷ spans) more before rest each once =
    let source : source_of (span ++ (concat spans ++ rest)) ≡ source_of span =
    source_of-append span (concat spans ++ rest) each.0 in
    let new : is_some (type_with_id (source_id span) before) ≡ false = new_id before (source_of span) (map source_of spans) once in
    let added : followed before (source_of span) ≡ Ok (before ++ source_of span ∷ []) = rw new refl in
    let told : (before ++ source_of span ∷ []) ++ map source_of spans ≡ before ++ map source_of (span ∷ spans) =
    append_assoc before (source_of span ∷ []) (map source_of spans) in
    let count : length (span ∷ spans) + more ≡ suc (length spans + more) = omega arith in
    (λ i. sources_in (count i) before (append_assoc span (concat spans) rest i))
    ∙ sources_in_more (length spans + more) before (before ++ source_of span ∷ []) (span ++ (concat spans ++ rest))
    (length span)
    (size_at-append span (concat spans ++ rest) each.0) (ap (followed before) source ∙ added)
    ∙ ap (λ xs. sources_in (length spans + more) (before ++ source_of span ∷ []) xs)
    (drop_at span (concat spans ++ rest) (length span) refl)
    ∙ walks spans more (before ++ source_of span ∷ []) rest each.1
    (subst (λ (sources : Sources). IsDistinct nat_eq (keys_of sources)) (sym told) once)
    ∙ ap (λ sources. sources_in more sources rest) told

-- The walk ends at bytes that aren't a source.
pub stops : (left : ℕ) (before : Sources) (bytes : List ℕ) (why : TableRefused)
    → IsNoSource (keys_of before) bytes why → sources_in (suc left) before bytes ≡ Err why
stops left before bytes SourceType is = sources_in_refused left before bytes SourceType (out_type bytes is)
stops left before bytes SourceOut is = sources_in_refused left before bytes SourceOut (out_out bytes is)
stops left before bytes RepeatedId is =
    let whole : bytes ≡ is.0 ++ is.1 = is.2 in
    let size : size_at bytes ≡ Ok (length is.0) = ap (λ xs. size_at xs) whole ∙ size_at-append is.0 is.1 is.3 in
    let source : source_of bytes ≡ source_of is.0 = ap (λ xs. source_of xs) whole ∙ source_of-append is.0 is.1 is.3 in
    let there : is_some (type_with_id (source_id is.0) before) ≡ true =
    IsSome-lookup_from_Contains nat_eq_equiv (source_id is.0) before is.4 in
    let refused : followed before (source_of is.0) ≡ Err RepeatedId = rw there refl in
    sources_in_repeated left before bytes (length is.0) RepeatedId size (ap (followed before) source ∙ refused)
stops left before bytes Short is = absurd is
stops left before bytes Signature is = absurd is
stops left before bytes Length is = absurd is
stops left before bytes Sum is = absurd is
stops left before bytes NoMemory is = absurd is
