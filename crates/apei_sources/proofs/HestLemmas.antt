-- The walk along a table's sources, step by step.
use Rattle.std.proofs.Common.{◌≡◌, ℕ, zero, suc, ◌+◌, ◌-◌, ◌<◌, ◌∙◌, List, [], ◌∷◌, ◌++◌, drop, None, Result, Ok, Err, refl, sym, ap, arith}
use Rattle.apei_sources.specs.declared.refusals.TableRefused.{TableRefused}
use Rattle.apei_sources.specs.declared.refusals.TableRefused.TheVariants.{Short, Signature, Length, Sum, SourceType, SourceOut, RepeatedId, NoMemory}
use Rattle.ras_base.specs.Chaining.{◌>>=◌}
use Rattle.apei_sources.specs.Refusals.{AnswersTable}
use Rattle.apei_sources.specs.Steps.Answering.{Fails}
use Rattle.apei_sources.specs.Sources.{source_of, size_at}
use Rattle.apei_sources.specs.Hest.{Sources, type_with_id, followed, sources_in, source_count, hest_table, hest_of}

-- The result is the refusal.
pub fails : {Y : Type 0} (why : TableRefused) (answer : Result Y TableRefused) → answer ≡ Err why → Fails why answer
fails Short answer is = is
fails Signature answer is = is
fails Length answer is = is
fails Sum answer is = is
fails SourceType answer is = is
fails SourceOut answer is = is
fails RepeatedId answer is = is
fails NoMemory answer is = tt

-- The result leads to the refusal.
pub fails_so : {Y Z : Type 0} (why : TableRefused) (answer : Result Y TableRefused) (later : Result Z TableRefused)
    → (answer ≡ Err why → later ≡ Err why) → Fails why answer → Fails why later
fails_so Short answer later so is = so is
fails_so Signature answer later so is = so is
fails_so Length answer later so is = so is
fails_so Sum answer later so is = so is
fails_so SourceType answer later so is = so is
fails_so SourceOut answer later so is = so is
fails_so RepeatedId answer later so is = so is
fails_so NoMemory answer later so is = tt

pub followed_new : (before : Sources) (id kind : ℕ) → type_with_id id before ≡ None
    → followed before (id, kind) ≡ Ok (before ++ (id, kind) ∷ [])
followed_new before id kind new = rw new refl

sources_in_suc : (more left : ℕ) (before : Sources) (bytes : List ℕ) → more ≡ suc left
    → sources_in more before bytes
    ≡ (size_at bytes >>= λ size. followed before (source_of bytes)
    >>= λ sources. sources_in left sources (drop size bytes))
unfolding sources_in
sources_in_suc more left before bytes is = rw is refl

-- One more source.
pub sources_in_more : (count : ℕ) (before sources : Sources) (bytes : List ℕ) (size : ℕ) → size_at bytes ≡ Ok size
    → followed before (source_of bytes) ≡ Ok sources
    → sources_in (suc count) before bytes ≡ sources_in count sources (drop size bytes)
sources_in_more count before sources bytes size sized added = sources_in_suc (suc count) count before bytes refl
    ∙ rw (sized, added) refl

-- The walk ends at a source that is refused.
pub sources_in_refused : (count : ℕ) (before : Sources) (bytes : List ℕ) (why : TableRefused)
    → size_at bytes ≡ Err why → sources_in (suc count) before bytes ≡ Err why
sources_in_refused count before bytes why refused = sources_in_suc (suc count) count before bytes refl ∙ rw refused refl

pub sources_in_repeated : (count : ℕ) (before : Sources) (bytes : List ℕ) (size : ℕ) (why : TableRefused)
    → size_at bytes ≡ Ok size
    → followed before (source_of bytes) ≡ Err why → sources_in (suc count) before bytes ≡ Err why
sources_in_repeated count before bytes size why sized refused = sources_in_suc (suc count) count before bytes refl
    ∙ rw (sized, refused) refl

pub sources_in_none : (before : Sources) (bytes : List ℕ) → sources_in zero before bytes ≡ Ok before
unfolding sources_in
sources_in_none before bytes = refl

-- What is left of the first `count` sources after `done` of them.
module _ (count done : ℕ) (before : Sources) (bytes rest : List ℕ)
    (left : sources_in (count - done) before rest ≡ sources_in count [] bytes) where
  counted : done < count → count - done ≡ suc (count - (done + 1))
  counted below = omega arith

  pub left_refused : done < count → (why : TableRefused) → size_at rest ≡ Err why → sources_in count [] bytes ≡ Err why
  left_refused below why refused =
      sym left ∙ ap (λ n. sources_in n before rest) (counted below)
      ∙ sources_in_refused (count - (done + 1)) before rest why refused

  pub left_repeated : done < count → (size : ℕ) (why : TableRefused) → size_at rest ≡ Ok size
      → followed before (source_of rest) ≡ Err why → sources_in count [] bytes ≡ Err why
  left_repeated below size why sized refused =
      sym left ∙ ap (λ n. sources_in n before rest) (counted below)
      ∙ sources_in_repeated (count - (done + 1)) before rest size why sized refused

  pub left_more : done < count → (sources : Sources) (size : ℕ) → size_at rest ≡ Ok size
      → followed before (source_of rest) ≡ Ok sources
      → sources_in (count - (done + 1)) sources (drop size rest) ≡ sources_in count [] bytes
  left_more below sources size sized added =
      sym (sources_in_more (count - (done + 1)) before sources rest size sized added)
      ∙ ap (λ n. sources_in n before rest) (sym (counted below)) ∙ left

  pub left_none : count ≡ done → sources_in count [] bytes ≡ Ok before
  left_none all =
      let none : count - done ≡ 0 = omega arith in
      sym left ∙ ap (λ n. sources_in n before rest) none ∙ sources_in_none before rest

-- The result of the whole reading, by the table and its sources.
pub hest_refused : (bytes : List ℕ) (why : TableRefused) → hest_table bytes ≡ Err why → hest_of bytes ≡ Err why
unfolding hest_of
hest_refused bytes why is = rw is refl

pub hest_read : (bytes table : List ℕ) → hest_table bytes ≡ Ok table
    → hest_of bytes ≡ sources_in (source_count table) [] (drop 40 table)
unfolding hest_of
hest_read bytes table is = rw is refl

pub answers : (why : TableRefused) (answer : Result Sources TableRefused) → Fails why answer → AnswersTable (Err why) answer
answers Short answer is = is
answers Signature answer is = is
answers Length answer is = is
answers Sum answer is = is
answers SourceType answer is = is
answers SourceOut answer is = is
answers RepeatedId answer is = is
answers NoMemory answer is = tt

pub hest_walked : (bytes table rest : List ℕ) (count : ℕ) → hest_table bytes ≡ Ok table → count ≡ source_count table
    → rest ≡ drop 40 table
    → hest_of bytes ≡ sources_in count [] rest
hest_walked bytes table rest count is counted behind =
    hest_read bytes table is ∙ (λ i. sources_in (sym counted i) [] (sym behind i))
