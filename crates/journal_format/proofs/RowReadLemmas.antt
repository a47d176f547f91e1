-- The rows of a checkpoint are read as they are spelled.
use Rattle.std.proofs.Common.{◌≡◌, ℕ, ◌^◌, ◌<◌, Bool, true, false, not, ◌&&◌, cond, eqb, leb, List, [], ◌∷◌, ◌++◌, length, Option, Some, None, Ok, Err, refl, sym, ap, subst, ◌∙◌, append_assoc, arith, inl, inr, ◌⊎◌}
use Rattle.std.specs.Prelude.{IfSome, is_some}
use Rattle.std.specs.List.{flat_map, AllByRecursion}
use Rattle.std.proofs.lemmas.Bool.{leb-true, le-leb, eqb-true}
use Rattle.std.proofs.lemmas.Bool.Decides.{nat_tests}
use Rattle.ras_base.specs.LittleEndian.{AreBytes, u64_bytes}
use Rattle.mca_status.specs.declared.classes.TheConstants.{CLASS_COUNT}
use Rattle.dimm_topology.specs.Labels.{Bytes, is_label_or_none}
use Rattle.page_policy.specs.declared.buckets.TheConstants.{MOST_COUNT}
use Rattle.page_policy.specs.declared.buckets.Bucket.{Bucket}
use Rattle.page_policy.specs.declared.rows.PageState.{PageState}
use Rattle.page_policy.specs.declared.rows.PageState.TheVariants.{Kept, Soft, Hard}
use Rattle.page_policy.specs.declared.rows.PageRow.{PageRow}
use Rattle.ras_facts.specs.Valid.{IsPage}
use Rattle.ras_account.specs.Modules.{Module}
use Rattle.ras_account.specs.Accounts.{IsBucket, IsModuleRow, IsPageRow}
use Rattle.entry_format.specs.declared.version.Version.{Version}
use Rattle.entry_format.specs.declared.version.Version.TheVariants.{One, Two}
use Rattle.entry_format.specs.declared.refused.EntryRefused.TheVariants.{Bad}
use Rattle.entry_format.specs.Spelling.{label_bytes}
use Rattle.entry_format.specs.Reading.{Reader, both_at, many_at, byte_at, u64_at, label_at, page_number_at}
use Rattle.entry_format.proofs.CodecLemmas.{Reads, Makes, bind_ok, ok_is, rest_fits, like_read, both_read, made_read, many_read, kinds_read, either_kind}
use Rattle.entry_format.proofs.FieldLemmas.{u64_read, byte_read, label_read, page_number_read}
use Rattle.journal_format.specs.Checkpoints.{state_number, replace_byte, bucket_bytes, replacement_bytes, module_bytes, page_row_bytes, list_bytes}
use Rattle.journal_format.specs.CheckpointReading.{list_at, bucket_at, Replacement, no_replacement, replace_of, replace_at, some_replacement_at, no_replacement_at, replacement_of_flag, replacement_at, module_at, page_state_of, page_state_at, page_row_at}

-- ---- values that are made where a test is passed

made_if : {B : Type 0} (test : Bool) (x y : B) → cond test (Some x) None ≡ Some y → (x ≡ y) × (test ≡ true)
made_if true x y e = (cc, refl)
made_if false x y e = absurd cc

pub tested_make : {A B : Type 0} (test : A → Bool) (make : A → B) (back : B → A) (V : A → Type 0) (W : B → Type 0) → ((x : A) → back (make x) ≡ x) → ((y : B) → W y → make (back y) ≡ y)
    → ((x : A) → V x → test x ≡ true → W (make x)) → ((y : B) → W y → (test (back y) ≡ true) × V (back y)) → Makes (λ x. cond (test x) (Some (make x)) None) back V W
tested_make {A} {B} test make back V W forth home there here = record {
  made = λ x y v e. let p = made_if (test x) (make x) y e in (ap back (sym p.0) ∙ forth x, subst W p.0 (there x v p.1));
  again = λ y w. let h = here y w in (rw h.0 (ap (λ (z : B). Some z) (home y w)), h.1);
}

-- ---- a bucket

abbrev bucket_of : ℕ × ℕ → Bucket
bucket_of p = record { count = p.0; stamp = p.1 }

abbrev bucket_fields : Bucket → ℕ × ℕ
bucket_fields bucket = (bucket.count, bucket.stamp)

abbrev AreNumbers : ℕ × ℕ → Type 0
AreNumbers p = (p.0 < 2 ^ 64) × (p.1 < 2 ^ 64)

bucket_makes : Makes (λ p. cond (leb p.0 MOST_COUNT) (Some (bucket_of p)) None) bucket_fields AreNumbers IsBucket
bucket_makes =
    tested_make (λ p. leb p.0 MOST_COUNT) bucket_of bucket_fields AreNumbers IsBucket (λ p. refl) (λ bucket w. refl)
    (λ p v is. record { count = leb-true p.0 MOST_COUNT is; stamp = v.1 })
    (λ bucket w. let small = w.count in (le-leb bucket.count MOST_COUNT w.count, (omega arith, w.stamp)))

pub bucket_read : Reads bucket_at bucket_bytes IsBucket
unfolding bucket_at bucket_bytes
bucket_read =
    made_read (λ p. cond (leb p.0 MOST_COUNT) (Some (bucket_of p)) None) bucket_fields (both_at u64_at u64_at) (λ p. u64_bytes p.0 ++ u64_bytes p.1) AreNumbers IsBucket bucket_makes
    (both_read u64_at u64_at u64_bytes u64_bytes (λ n. n < 2 ^ 64) (λ n. n < 2 ^ 64) u64_read u64_read)

-- ---- numbers of one byte that stand for a value

either_some : {A : Type 0} (k n : ℕ) (x : A) (others : Option A) (y : A) → cond (eqb k n) (Some x) others ≡ Some y → ((k ≡ n) × (x ≡ y)) ⊎ (others ≡ Some y)
either_some {A} k n x others y e = by (eqb k n) refl e
  where
    by : (test : Bool) → eqb k n ≡ test → cond test (Some x) others ≡ Some y → ((k ≡ n) × (x ≡ y)) ⊎ (others ≡ Some y)
    by true is h = inl (eqb-true k n is, cc)
    by false is h = inr h

replace_made : (k : ℕ) (replace : Bool) → replace_of k ≡ Some replace → replace_byte replace ≡ k
unfolding replace_of
replace_made k replace e =
    elim (either_some k 0 false (cond (eqb k 1) (Some true) None) replace e) [
      | inl h ↦ ap replace_byte (sym h.1) ∙ sym h.0
      | inr others ↦
          elim (either_some k 1 true None replace others) [
            | inl h ↦ ap replace_byte (sym h.1) ∙ sym h.0
            | inr none ↦ absurd cc
          ]
    ]

replace_again : (replace : Bool) → (replace_of (replace_byte replace) ≡ Some replace) × (replace_byte replace < 2 ^ 8)
unfolding replace_of
replace_again true = (refl, omega arith)
replace_again false = (refl, omega arith)

abbrev Any : {A : Type 0} → A → Type 0
Any x = Unit {0}

replace_read : Reads replace_at (λ replace. replace_byte replace ∷ []) Any
unfolding replace_at
replace_read =
    made_read replace_of replace_byte byte_at (λ n. n ∷ []) (λ n. n < 2 ^ 8) Any
    (record { made = λ k replace v e. (replace_made k replace e, tt); again = λ replace _. replace_again replace }) byte_read

page_state_made : (k : ℕ) (state : PageState) → page_state_of k ≡ Some state → state_number state ≡ k
unfolding page_state_of
page_state_made k state e =
    elim (either_some k 0 Kept (cond (eqb k 1) (Some Soft) (cond (eqb k 2) (Some Hard) None)) state e) [
      | inl h ↦ ap state_number (sym h.1) ∙ sym h.0
      | inr others ↦
          elim (either_some k 1 Soft (cond (eqb k 2) (Some Hard) None) state others) [
            | inl h ↦ ap state_number (sym h.1) ∙ sym h.0
            | inr last ↦
                elim (either_some k 2 Hard None state last) [
                  | inl h ↦ ap state_number (sym h.1) ∙ sym h.0
                  | inr none ↦ absurd cc
                ]
          ]
    ]

page_state_again : (state : PageState) → (page_state_of (state_number state) ≡ Some state) × (state_number state < 2 ^ 8)
unfolding page_state_of
page_state_again Kept = (refl, omega arith)
page_state_again Soft = (refl, omega arith)
page_state_again Hard = (refl, omega arith)

page_state_read : Reads page_state_at (λ state. state_number state ∷ []) Any
unfolding page_state_at
page_state_read =
    made_read page_state_of state_number byte_at (λ n. n ∷ []) (λ n. n < 2 ^ 8) Any
    (record { made = λ k state v e. (page_state_made k state e, tt); again = λ state _. page_state_again state }) byte_read

-- ---- what is known of a module's replacement

-- No module without a bucket is to be replaced.
abbrev pub IsReplacement : Replacement → Type 0
IsReplacement p = IfSome p.0 IsBucket × (p.0 ≡ None → p.1 ≡ false)

abbrev flag_of : Replacement → ℕ
flag_of (None, replace) = 0
flag_of (Some bucket, replace) = 1

abbrev after_flag : Replacement → List ℕ
after_flag (None, replace) = []
after_flag (Some bucket, replace) = bucket_bytes bucket ++ replace_byte replace ∷ []

some_takes : (bytes : List ℕ) (p : Replacement) (rest : List ℕ) → AreBytes bytes → some_replacement_at bytes ≡ Ok (p, rest) → (1 ≡ flag_of p) × (bytes ≡ after_flag p ++ rest) × IsReplacement p
unfolding some_replacement_at
some_takes bytes p rest fits e =
    let both = both_read bucket_at replace_at bucket_bytes (λ replace. replace_byte replace ∷ []) IsBucket Any bucket_read replace_read in
    let q = bind_ok (both_at bucket_at replace_at bytes) (λ u. Ok ((Some u.0.0, u.0.1), u.1)) (p, rest) e in
    let t = both.takes bytes q.0.0 q.0.1 fits q.1 in
    let made : Replacement × List ℕ = ((Some q.0.0.0, q.0.0.1), q.0.1) in
    subst (λ (x : Replacement × List ℕ). (1 ≡ flag_of x.0) × (bytes ≡ after_flag x.0 ++ x.1) × IsReplacement x.0) (ok_is made (p, rest) q.2)
    (refl, t.0, (t.1.0, λ none. absurd cc))

none_takes : (bytes : List ℕ) (p : Replacement) (rest : List ℕ) → no_replacement_at bytes ≡ Ok (p, rest) → (0 ≡ flag_of p) × (bytes ≡ after_flag p ++ rest) × IsReplacement p
none_takes bytes p rest e =
    let made : Replacement × List ℕ = (no_replacement, bytes) in
    subst (λ (x : Replacement × List ℕ). (0 ≡ flag_of x.0) × (bytes ≡ after_flag x.0 ++ x.1) × IsReplacement x.0) (ok_is made (p, rest) e) (refl, refl, (tt, λ _. refl))

flag_takes : (k : ℕ) (bytes : List ℕ) (p : Replacement) (rest : List ℕ) → AreBytes bytes → replacement_of_flag k bytes ≡ Ok (p, rest) → (k ≡ flag_of p) × (bytes ≡ after_flag p ++ rest) × IsReplacement p
flag_takes k bytes p rest fits e =
    elim (either_kind k 0 (no_replacement_at bytes) (cond (eqb k 1) (some_replacement_at bytes) (Err Bad)) (p, rest) e) [
      | inl h ↦ let t = none_takes bytes p rest h.1 in (h.0 ∙ t.0, t.1, t.2)
      | inr others ↦
          elim (either_kind k 1 (some_replacement_at bytes) (Err Bad) (p, rest) others) [
            | inl h ↦ let t = some_takes bytes p rest fits h.1 in (h.0 ∙ t.0, t.1, t.2)
            | inr none ↦ absurd cc
          ]
    ]

flag_again : (p : Replacement) (rest : List ℕ) → IsReplacement p → replacement_of_flag (flag_of p) (after_flag p ++ rest) ≡ Ok (p, rest)
unfolding some_replacement_at
flag_again (None, true) rest v = let wrong = v.1 refl in absurd cc
flag_again (None, false) rest v = refl
flag_again (Some bucket, replace) rest v =
    let both = both_read bucket_at replace_at bucket_bytes (λ replace. replace_byte replace ∷ []) IsBucket Any bucket_read replace_read in
    rw (both.again (bucket, replace) rest (v.0, tt)) refl

-- A version's spelling of a replacement, and which replacements the version can spell.
abbrev pub spell_replacement : Version → Replacement → List ℕ
spell_replacement One p = []
spell_replacement Two p = replacement_bytes p.0 p.1

abbrev pub TellsReplacement : Version → Replacement → Type 0
TellsReplacement One p = p ≡ no_replacement
TellsReplacement Two p = IsReplacement p

flag_spelled : (p : Replacement) → flag_of p ∷ after_flag p ≡ replacement_bytes p.0 p.1
unfolding replacement_bytes
flag_spelled (None, replace) = refl
flag_spelled (Some bucket, replace) = refl

replacement_read : (version : Version) → Reads (replacement_at version) (spell_replacement version) (TellsReplacement version)
unfolding replacement_at
replacement_read One = record {
  takes = λ bytes p rest fits e.
      let made : Replacement × List ℕ = (no_replacement, bytes) in
      subst (λ (x : Replacement × List ℕ). (bytes ≡ x.1) × (x.0 ≡ no_replacement)) (ok_is made (p, rest) e) (refl, refl);
  again = λ p rest v. ap (λ (q : Replacement). Ok (q, rest)) (sym v);
}
replacement_read Two =
    like_read (replacement_at Two) (λ p. flag_of p ∷ after_flag p) (spell_replacement Two) IsReplacement IsReplacement
    (kinds_read replacement_of_flag flag_of after_flag IsReplacement (record { takes = flag_takes; again = flag_again }))
    (λ p v. v) (λ p v. v) flag_spelled

-- ---- so many rows of one sort

abbrev pub AreRead : {A : Type 0} → (A → Type 0) → List A → Type 0
AreRead V xs = (length xs < 2 ^ 64) × AllByRecursion V xs

list_takes : {A : Type 0} (r : Reader A) (s : A → List ℕ) (V : A → Type 0) → Reads r s V → (bytes : List ℕ) (xs : List A) (rest : List ℕ) → AreBytes bytes → list_at r bytes ≡ Ok (xs, rest)
    → (bytes ≡ list_bytes s xs ++ rest) × AreRead V xs
unfolding list_at
list_takes r s V a bytes xs rest fits e =
    let p = bind_ok (u64_at bytes) (λ n. many_at r n.0 n.1) (xs, rest) e in
    let t = u64_read.takes bytes p.0.0 p.0.1 fits p.1 in
    let many = (many_read r s V a p.0.0).takes p.0.1 xs rest (rest_fits bytes (u64_bytes p.0.0) p.0.1 fits t.0) p.2 in
    let len : length xs ≡ p.0.0 = many.1.0 in
    let lt = t.1 in
    let parts : bytes ≡ u64_bytes (length xs) ++ (flat_map s xs ++ rest) =
    t.0 ∙ ap (λ (w : List ℕ). u64_bytes p.0.0 ++ w) many.0 ∙ ap (λ (n : ℕ). u64_bytes n ++ (flat_map s xs ++ rest)) (sym len) in
    (parts ∙ sym (append_assoc (u64_bytes (length xs)) (flat_map s xs) rest), (omega arith, many.1.1))

list_again : {A : Type 0} (r : Reader A) (s : A → List ℕ) (V : A → Type 0) → Reads r s V → (xs : List A) (rest : List ℕ) → AreRead V xs → list_at r (list_bytes s xs ++ rest) ≡ Ok (xs, rest)
unfolding list_at
list_again r s V a xs rest v =
    ap (list_at r) (append_assoc (u64_bytes (length xs)) (flat_map s xs) rest)
    ∙ rw (u64_read.again (length xs) (flat_map s xs ++ rest) v.0) ((many_read r s V a (length xs)).again xs rest (refl, v.1))

pub list_read : {A : Type 0} (r : Reader A) (s : A → List ℕ) (V : A → Type 0) → Reads r s V → Reads (list_at r) (list_bytes s) (AreRead V)
list_read r s V a = record { takes = list_takes r s V a; again = list_again r s V a }

-- ---- a module's row

abbrev ModuleFields : Type 0
ModuleFields = Bytes × (List ℕ × Replacement)

abbrev row_of_fields : ModuleFields → Bytes × Module
row_of_fields p = (p.0, record { sums = p.1.0; bucket = p.1.1.0; replace = p.1.1.1 })

abbrev module_fields : Bytes × Module → ModuleFields
module_fields row = (row.0, (row.1.sums, (row.1.bucket, row.1.replace)))

abbrev is_fine : ModuleFields → Bool
is_fine p = not (eqb (length p.0) 0 && is_some p.1.1.0)

abbrev Fits8 : ℕ → Type 0
Fits8 n = n < 2 ^ 64

abbrev IsLabel : Bytes → Type 0
IsLabel label = is_label_or_none label ≡ true

abbrev AreModuleFields : Version → ModuleFields → Type 0
AreModuleFields version p = IsLabel p.0 × (((length p.1.0 ≡ CLASS_COUNT) × AllByRecursion Fits8 p.1.0) × TellsReplacement version p.1.1)

-- A row of a module that a version can spell, with sums that fit their fields.
pub record IsToldModule (version : Version) (row : Bytes × Module) : Type 0 where
  pub is_row : IsModuleRow row
  pub sums : AllByRecursion Fits8 row.1.sums
  pub replacement : TellsReplacement version (row.1.bucket, row.1.replace)

replacement_is : (version : Version) (p : Replacement) → TellsReplacement version p → IsReplacement p
replacement_is One p v = subst IsReplacement (sym v) (tt, λ _. refl)
replacement_is Two p v = v

no_bucket : (label : Bytes) (bucket : Option Bucket) → not (eqb (length label) 0 && is_some bucket) ≡ true → label ≡ [] → bucket ≡ None
no_bucket label None is none = refl
no_bucket [] (Some bucket) is none = absurd cc
no_bucket (b ∷ label) (Some bucket) is none = absurd cc

is_bare : (label : Bytes) (bucket : Option Bucket) → (label ≡ [] → bucket ≡ None) → not (eqb (length label) 0 && is_some bucket) ≡ true
is_bare label None v = by (eqb (length label) 0)
  where
    by : (b : Bool) → not (b && false) ≡ true
    by true = refl
    by false = refl
is_bare [] (Some bucket) v = let wrong = v refl in absurd cc
is_bare (b ∷ label) (Some bucket) v =
    let some : eqb (length (b ∷ label)) 0 ≡ false = grind (arith, nat_tests) in
    rw some refl

module_makes : (version : Version) → Makes (λ p. cond (is_fine p) (Some (row_of_fields p)) None) module_fields (AreModuleFields version) (IsToldModule version)
module_makes version =
    tested_make is_fine row_of_fields module_fields (AreModuleFields version) (IsToldModule version) (λ p. refl) (λ row w. refl)
    (λ p v is.
    let replacement = replacement_is version p.1.1 v.1.1 in
    record {
      is_row = record { label = v.0; ten = v.1.0.0; bucket = replacement.0; unlabeled = no_bucket p.0 p.1.1.0 is; replace = replacement.1 };
      sums = v.1.0.1;
      replacement = v.1.1;
    })
    (λ row w. (is_bare row.0 row.1.bucket w.is_row.unlabeled, (w.is_row.label, ((w.is_row.ten, w.sums), w.replacement))))

module_spelled : (version : Version) (row : Bytes × Module) → label_bytes row.0 ++ (flat_map u64_bytes row.1.sums ++ spell_replacement version (row.1.bucket, row.1.replace)) ≡ module_bytes version row
unfolding module_bytes
module_spelled One row = sym (append_assoc (label_bytes row.0) (flat_map u64_bytes row.1.sums) [])
module_spelled Two row = sym (append_assoc (label_bytes row.0) (flat_map u64_bytes row.1.sums) (replacement_bytes row.1.bucket row.1.replace))

pub module_read : (version : Version) → Reads (module_at version) (module_bytes version) (IsToldModule version)
unfolding module_at
module_read version =
    let sums = many_read u64_at u64_bytes Fits8 u64_read CLASS_COUNT in
    let fields = both_at label_at (both_at (many_at u64_at CLASS_COUNT) (replacement_at version)) in
    let last = both_read (many_at u64_at CLASS_COUNT) (replacement_at version) (λ ns. flat_map u64_bytes ns) (spell_replacement version) (λ ns. (length ns ≡ CLASS_COUNT) × AllByRecursion Fits8 ns) (TellsReplacement version) sums (replacement_read version) in
    let spell : ModuleFields → List ℕ = λ p. label_bytes p.0 ++ (flat_map u64_bytes p.1.0 ++ spell_replacement version p.1.1) in
    let all = both_read label_at (both_at (many_at u64_at CLASS_COUNT) (replacement_at version)) label_bytes (λ (p : List ℕ × Replacement). flat_map u64_bytes p.0 ++ spell_replacement version p.1) IsLabel
    (λ p. ((length p.0 ≡ CLASS_COUNT) × AllByRecursion Fits8 p.0) × TellsReplacement version p.1) label_read last in
    like_read (module_at version) (λ row. spell (module_fields row)) (module_bytes version) (IsToldModule version) (IsToldModule version)
    (made_read (λ p. cond (is_fine p) (Some (row_of_fields p)) None) module_fields fields spell (AreModuleFields version) (IsToldModule version) (module_makes version) all)
    (λ row v. v) (λ row v. v) (module_spelled version)

-- ---- a page's row

abbrev PageFields : Type 0
PageFields = ℕ × (Bucket × PageState)

abbrev page_of_fields : PageFields → ℕ × PageRow
page_of_fields p = (p.0, record { bucket = p.1.0; state = p.1.1 })

abbrev page_fields : ℕ × PageRow → PageFields
page_fields row = (row.0, (row.1.bucket, row.1.state))

abbrev ArePageFields : PageFields → Type 0
ArePageFields p = IsPage p.0 × (IsBucket p.1.0 × Any p.1.1)

page_row_makes : Makes (λ p. Some (page_of_fields p)) page_fields ArePageFields IsPageRow
page_row_makes =
    tested_make (λ p. true) page_of_fields page_fields ArePageFields IsPageRow (λ p. refl) (λ row w. refl)
    (λ p v is. record { page = v.0; bucket = v.1.0 })
    (λ row w. (refl, (w.page, (w.bucket, tt))))

page_row_spelled : (row : ℕ × PageRow) → u64_bytes row.0 ++ (bucket_bytes row.1.bucket ++ state_number row.1.state ∷ []) ≡ page_row_bytes row
unfolding page_row_bytes
page_row_spelled row = sym (append_assoc (u64_bytes row.0) (bucket_bytes row.1.bucket) (state_number row.1.state ∷ []))

pub page_row_read : Reads page_row_at page_row_bytes IsPageRow
unfolding page_row_at
page_row_read =
    let last = both_read bucket_at page_state_at bucket_bytes (λ state. state_number state ∷ []) IsBucket Any bucket_read page_state_read in
    let spell : PageFields → List ℕ = λ p. u64_bytes p.0 ++ (bucket_bytes p.1.0 ++ state_number p.1.1 ∷ []) in
    let all = both_read page_number_at (both_at bucket_at page_state_at) u64_bytes (λ (p : Bucket × PageState). bucket_bytes p.0 ++ state_number p.1 ∷ []) IsPage (λ p. IsBucket p.0 × Any p.1) page_number_read last in
    like_read page_row_at (λ row. spell (page_fields row)) page_row_bytes IsPageRow IsPageRow
    (made_read (λ p. Some (page_of_fields p)) page_fields (both_at page_number_at (both_at bucket_at page_state_at)) spell ArePageFields IsPageRow page_row_makes all)
    (λ row v. v) (λ row v. v) page_row_spelled
