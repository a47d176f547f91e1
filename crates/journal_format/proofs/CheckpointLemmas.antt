-- A checkpoint is read as it is spelled.
use Rattle.std.proofs.Common.{◌≡◌, ℕ, ◌^◌, ◌<◌, ◌≤◌, Bool, true, false, not, cond, eqb, leb, List, [], ◌∷◌, ◌++◌, length, All, Option, Some, None, Result, Ok, refl, sym, ap, subst, ◌∙◌, append_assoc, arith}
use Rattle.std.specs.List.{AllByRecursion}
use Rattle.std.proofs.lemmas.Bool.{leb-true, le-leb, eqb-true}
use Rattle.std.proofs.lemmas.List.Elements.{All-from_recursion, recursion_from_All}
use Rattle.ras_base.specs.Chaining.{◌>>=◌}
use Rattle.ras_base.specs.LittleEndian.{AreBytes, u64_bytes}
use Rattle.ras_base.specs.Steps.LittleEndianLemmas.{length-u64_bytes}
use Rattle.dimm_topology.specs.Labels.{Bytes}
use Rattle.page_policy.specs.declared.buckets.Limit.{Limit}
use Rattle.page_policy.specs.declared.buckets.Bucket.{Bucket}
use Rattle.page_policy.specs.declared.rows.PageRow.{PageRow}
use Rattle.page_policy.specs.Buckets.{IsLimit}
use Rattle.ras_facts.specs.declared.name.Name.{Name}
use Rattle.ras_facts.specs.Valid.{IsValidName}
use Rattle.ras_account.specs.declared.limits.TheConstants.{FIRST_MODULE_LIMIT, MOST_ENTRIES}
use Rattle.ras_account.specs.Modules.{Module}
use Rattle.ras_account.specs.Account.{State, weight_in}
use Rattle.ras_account.specs.Accounts.{IsKeptName, IsModuleRow, IsPageRow, IsAccount}
use Rattle.entry_format.specs.declared.version.Version.{Version}
use Rattle.entry_format.specs.declared.version.Version.TheVariants.{One, Two}
use Rattle.entry_format.specs.declared.refused.EntryRefused.{EntryRefused}
use Rattle.entry_format.specs.declared.refused.EntryRefused.TheVariants.{Bad}
use Rattle.entry_format.specs.Spelling.{name_bytes, limit_bytes}
use Rattle.entry_format.proofs.LoopLemmas.{is_failed}
use Rattle.entry_format.specs.Reading.{RefusesExactly, both_at, some_or_bad, if_passes, whole_at, u64_at, name_at, limit_at}
use Rattle.entry_format.proofs.CodecLemmas.{Reads, bind_ok, ok_is, rest_fits, both_read, made_read}
use Rattle.entry_format.proofs.FieldLemmas.{u64_read, tested}
use Rattle.entry_format.proofs.NameFormatLemmas.{name_read}
use Rattle.entry_format.proofs.EntryLemmas.{limit_read}
use Rattle.journal_format.specs.PayloadReading.{found_in}
use Rattle.journal_format.specs.Checkpoints.{module_bytes, page_row_bytes, list_bytes, front_bytes, end_bytes, checkpoint_bytes, CanTell, IsCheckpoint}
use Rattle.journal_format.specs.CheckpointReading.{list_at, CheckpointFront, entry_count_at, front_at, module_at, page_row_at, end_floor_at, floor_in, is_sound, state_with, checkpoint_in, checkpoint_of}
use Rattle.journal_format.specs.Steps.Decoding.{Holds, AreTaken, account_with, with_rows_of}
use Rattle.ras_account.specs.Rows.{has_retired}
use Rattle.journal_format.proofs.WholeLemmas.{whole_takes, whole_again, found_is}
use Rattle.journal_format.proofs.DecodingLemmas.{unread}
use Rattle.journal_format.proofs.SoundLemmas.{IsKept, Sound, each_both, each_one, sound_parts, account_is_sound, small_sums, is_not}
use Rattle.journal_format.proofs.RowReadLemmas.{tested_make, AreRead, IsToldModule, TellsReplacement, list_read, module_read, page_row_read}

-- ---- the numbers at the front

abbrev IsCount : ℕ → Type 0
IsCount n = n ≤ MOST_ENTRIES

abbrev Fits8 : ℕ → Type 0
Fits8 n = n < 2 ^ 64

entries_read : Reads entry_count_at u64_bytes IsCount
unfolding entry_count_at
entries_read =
    made_read (if_passes (λ n. leb n MOST_ENTRIES)) (λ n. n) u64_at u64_bytes Fits8 IsCount
    (tested (λ n. leb n MOST_ENTRIES) Fits8 IsCount (λ n lt is. leb-true n MOST_ENTRIES is) (λ n v. (le-leb n MOST_ENTRIES v, omega (arith, v)))) u64_read

abbrev pub spell_front : Version → CheckpointFront → List ℕ
spell_front One f = limit_bytes f.0 ++ u64_bytes f.1.1.0
spell_front Two f = limit_bytes f.0 ++ (limit_bytes f.1.0 ++ (u64_bytes f.1.1.0 ++ u64_bytes f.1.1.1))

pub record FirstFront (f : CheckpointFront) : Type 0 where
  pub limit : IsLimit f.0
  pub module_limit : f.1.0 ≡ FIRST_MODULE_LIMIT
  pub entries : IsCount f.1.1.0
  pub floor : f.1.1.1 ≡ 0

abbrev pub TellsFront : Version → CheckpointFront → Type 0
TellsFront One f = FirstFront f
TellsFront Two f = IsLimit f.0 × (IsLimit f.1.0 × (IsCount f.1.1.0 × Fits8 f.1.1.1))

abbrev first_front : Limit × ℕ → CheckpointFront
first_front p = (p.0, (FIRST_MODULE_LIMIT, (p.1, 0)))

pub front_read : (version : Version) → Reads (front_at version) (spell_front version) (TellsFront version)
unfolding front_at
front_read One =
    made_read (λ p. Some (first_front p)) (λ f. (f.0, f.1.1.0)) (both_at limit_at entry_count_at) (λ p. limit_bytes p.0 ++ u64_bytes p.1) (λ p. IsLimit p.0 × IsCount p.1) FirstFront
    (tested_make (λ p. true) first_front (λ f. (f.0, f.1.1.0)) (λ p. IsLimit p.0 × IsCount p.1) FirstFront (λ p. refl)
    (λ f w. let front : ℕ → Limit → CheckpointFront = λ floor limit. (f.0, (limit, (f.1.1.0, floor))) in ap (front 0) (sym w.module_limit) ∙ ap (λ n. front n f.1.0) (sym w.floor))
    (λ p v is. record { limit = v.0; module_limit = refl; entries = v.1; floor = refl })
    (λ f w. (refl, (w.limit, w.entries))))
    (both_read limit_at entry_count_at limit_bytes u64_bytes IsLimit IsCount limit_read entries_read)
front_read Two =
    let last = both_read entry_count_at u64_at u64_bytes u64_bytes IsCount Fits8 entries_read u64_read in
    let more = both_read limit_at (both_at entry_count_at u64_at) limit_bytes (λ (p : ℕ × ℕ). u64_bytes p.0 ++ u64_bytes p.1) IsLimit (λ p. IsCount p.0 × Fits8 p.1) limit_read last in
    both_read limit_at (both_at limit_at (both_at entry_count_at u64_at)) limit_bytes (λ (p : Limit × (ℕ × ℕ)). limit_bytes p.0 ++ (u64_bytes p.1.0 ++ u64_bytes p.1.1)) IsLimit (λ p. IsLimit p.0 × (IsCount p.1.0 × Fits8 p.1.1)) limit_read more

-- ---- the floor at the end

abbrev spell_end : Version → ℕ → List ℕ
spell_end One floor = cond (eqb floor 0) [] (u64_bytes floor)
spell_end Two floor = []

-- A floor is at the end, given the floor at the front.
abbrev EndsAt : Version → ℕ → ℕ → Type 0
EndsAt One front floor = Fits8 floor
EndsAt Two front floor = floor ≡ front

abbrev IsEndFloor : ℕ → Type 0
IsEndFloor floor = Fits8 floor × (eqb floor 0 ≡ false)

end_floor_read : Reads end_floor_at u64_bytes IsEndFloor
unfolding end_floor_at
end_floor_read =
    made_read (if_passes (λ n. not (eqb n 0))) (λ n. n) u64_at u64_bytes Fits8 IsEndFloor
    (tested (λ n. not (eqb n 0)) Fits8 IsEndFloor (λ n lt is. (lt, is_not (eqb n 0) is)) (λ n v. (ap not v.1, v.0))) u64_read

floor_takes : (version : Version) (front : ℕ) (bytes : List ℕ) (floor : ℕ) → AreBytes bytes → (version ≡ One → front ≡ 0) → floor_in version front bytes ≡ Ok floor
    → (bytes ≡ spell_end version floor) × EndsAt version front floor
unfolding floor_in
floor_takes One front [] floor fits zero e =
    let none : floor ≡ 0 = sym (ok_is front floor e) ∙ zero refl in
    (rw none refl, omega (arith, none))
floor_takes One front (b ∷ bytes) floor fits zero e =
    let t = whole_takes end_floor_at u64_bytes IsEndFloor end_floor_read (b ∷ bytes) floor fits e in
    (t.0 ∙ rw t.1.1 refl, t.1.0)
floor_takes Two front [] floor fits zero e = (refl, sym (ok_is front floor e))
floor_takes Two front (b ∷ bytes) floor fits zero e = absurd cc

floor_behind : (front : ℕ) (bytes : List ℕ) → 0 < length bytes → floor_in One front bytes ≡ whole_at end_floor_at bytes
unfolding floor_in
floor_behind front [] some = absurd (omega arith)
floor_behind front (b ∷ bytes) some = refl

floor_again : (version : Version) (front floor : ℕ) → (version ≡ One → front ≡ 0) → EndsAt version front floor → floor_in version front (spell_end version floor) ≡ Ok floor
unfolding floor_in
floor_again Two front floor zero v = ap (λ (n : ℕ). Ok n) (sym v)
floor_again One front floor zero v = by (eqb floor 0) refl
  where
    by : (b : Bool) → eqb floor 0 ≡ b → floor_in One front (cond b [] (u64_bytes floor)) ≡ Ok floor
    by true is = ap (λ (n : ℕ). Ok n) (zero refl ∙ sym (eqb-true floor 0 is))
    by false is = floor_behind front (u64_bytes floor) (omega (arith, length-u64_bytes floor)) ∙ whole_again end_floor_at u64_bytes IsEndFloor end_floor_read floor (v, is)

-- ---- the whole

names_read : Reads (list_at name_at) (list_bytes name_bytes) (AreRead IsValidName)
names_read = list_read name_at name_bytes IsValidName name_read

modules_read : (version : Version) → Reads (list_at (module_at version)) (list_bytes (module_bytes version)) (AreRead (IsToldModule version))
modules_read version = list_read (module_at version) (module_bytes version) (IsToldModule version) (module_read version)

pages_read : Reads (list_at page_row_at) (list_bytes page_row_bytes) (AreRead IsPageRow)
pages_read = list_read page_row_at page_row_bytes IsPageRow page_row_read

-- what is read after each part
abbrev floor_then : Version → CheckpointFront → List Name → List (Bytes × Module) → List (ℕ × PageRow) × List ℕ → Result State EntryRefused
floor_then version f names modules p = floor_in version f.1.1.1 p.1 >>= λ floor. some_or_bad (if_passes is_sound (state_with f names modules p.0 floor))

abbrev pages_then : Version → CheckpointFront → List Name → List (Bytes × Module) × List ℕ → Result State EntryRefused
pages_then version f names m = list_at page_row_at m.1 >>= λ p. floor_then version f names m.0 p

abbrev modules_then : Version → CheckpointFront → List Name × List ℕ → Result State EntryRefused
modules_then version f n = list_at (module_at version) n.1 >>= λ m. pages_then version f n.0 m

abbrev names_then : Version → CheckpointFront × List ℕ → Result State EntryRefused
names_then version f = list_at name_at f.1 >>= λ n. modules_then version f.0 n

-- the parts that were read
pub record Parts (version : Version) (bytes : List ℕ) (a : State) : Type 0 where
  pub front : CheckpointFront
  pub after_front : List ℕ
  pub front_is : front_at version bytes ≡ Ok (front, after_front)
  pub names : List Name
  pub after_names : List ℕ
  pub names_are : list_at name_at after_front ≡ Ok (names, after_names)
  pub modules : List (Bytes × Module)
  pub after_modules : List ℕ
  pub modules_are : list_at (module_at version) after_names ≡ Ok (modules, after_modules)
  pub pages : List (ℕ × PageRow)
  pub after_pages : List ℕ
  pub pages_are : list_at page_row_at after_modules ≡ Ok (pages, after_pages)
  pub floor : ℕ
  pub floor_is : floor_in version front.1.1.1 after_pages ≡ Ok floor
  pub sound : is_sound (state_with front names modules pages floor) ≡ true
  pub whole : state_with front names modules pages floor ≡ a

passes : (s a : State) (test : Bool) → some_or_bad (cond test (Some s) None) ≡ Ok a → (test ≡ true) × (s ≡ a)
passes s a true e = (refl, ok_is s a e)
passes s a false e = absurd cc

pub parts_of : (version : Version) (bytes : List ℕ) (a : State) → checkpoint_in version bytes ≡ Ok a → Parts version bytes a
unfolding checkpoint_in
parts_of version bytes a e =
    let f = bind_ok (front_at version bytes) (names_then version) a e in
    let n = bind_ok (list_at name_at f.0.1) (modules_then version f.0.0) a f.2 in
    let m = bind_ok (list_at (module_at version) n.0.1) (pages_then version f.0.0 n.0.0) a n.2 in
    let p = bind_ok (list_at page_row_at m.0.1) (floor_then version f.0.0 n.0.0 m.0.0) a m.2 in
    let s : ℕ → State = λ floor. state_with f.0.0 n.0.0 m.0.0 p.0.0 floor in
    let l = bind_ok (floor_in version f.0.0.1.1.1 p.0.1) (λ floor. some_or_bad (if_passes is_sound (s floor))) a p.2 in
    let last = passes (s l.0) a (is_sound (s l.0)) l.2 in
    record {
      front = f.0.0;
      after_front = f.0.1;
      front_is = f.1;
      names = n.0.0;
      after_names = n.0.1;
      names_are = n.1;
      modules = m.0.0;
      after_modules = m.0.1;
      modules_are = m.1;
      pages = p.0.0;
      after_pages = p.0.1;
      pages_are = p.1;
      floor = l.0;
      floor_is = l.1;
      sound = last.0;
      whole = last.1;
    }

pub parts_make : (version : Version) (bytes : List ℕ) (a : State) → Parts version bytes a → checkpoint_in version bytes ≡ Ok a
unfolding checkpoint_in
parts_make version bytes a p =
    ap (λ r. r >>= names_then version) p.front_is
    ∙ ap (λ r. r >>= modules_then version p.front) p.names_are
    ∙ ap (λ r. r >>= pages_then version p.front p.names) p.modules_are
    ∙ ap (λ r. r >>= floor_then version p.front p.names p.modules) p.pages_are
    ∙ ap (λ r. r >>= λ floor. some_or_bad (if_passes is_sound (state_with p.front p.names p.modules p.pages floor))) p.floor_is
    ∙ ap (λ test. some_or_bad (cond test (Some (state_with p.front p.names p.modules p.pages p.floor)) None)) p.sound
    ∙ ap (λ (s : State). Ok s) p.whole

-- ---- the spelling of the parts

five : (f n m p e : List ℕ) → f ++ (n ++ (m ++ (p ++ e))) ≡ f ++ n ++ m ++ p ++ e
five f n m p e = simp append_assoc

front_floor : (version : Version) (front : CheckpointFront) → TellsFront version front → version ≡ One → front.1.1.1 ≡ 0
front_floor One front v is = v.floor
front_floor Two front v is = absurd cc

front_spelled : (version : Version) (f : CheckpointFront) (floor : ℕ) (a : State) → EndsAt version f.1.1.1 floor → a.limit ≡ f.0 → a.module_limit ≡ f.1.0 → a.entries ≡ f.1.1.0 → a.floor ≡ floor
    → spell_front version f ≡ front_bytes version a
unfolding front_bytes
front_spelled One f floor a v limit module_limit entries is = rw (limit, entries) refl
front_spelled Two f floor a v limit module_limit entries is =
    rw (limit, module_limit, entries, is, v) (simp append_assoc)

end_spelled : (version : Version) (a : State) → spell_end version a.floor ≡ end_bytes version a
unfolding end_bytes
end_spelled One a = refl
end_spelled Two a = refl

spelled : (version : Version) (f : CheckpointFront) (a : State) → EndsAt version f.1.1.1 a.floor → a.limit ≡ f.0 → a.module_limit ≡ f.1.0 → a.entries ≡ f.1.1.0
    → spell_front version f ++ (list_bytes name_bytes a.names ++ (list_bytes (module_bytes version) a.modules ++ (list_bytes page_row_bytes a.pages ++ spell_end version a.floor))) ≡ checkpoint_bytes version a
unfolding checkpoint_bytes
spelled version f a v limit module_limit entries =
    rw (front_spelled version f a.floor a v limit module_limit entries refl, end_spelled version a)
    (five (front_bytes version a) (list_bytes name_bytes a.names) (list_bytes (module_bytes version) a.modules) (list_bytes page_row_bytes a.pages) (end_bytes version a))

-- ---- what is read is a checkpoint

kept_names : (floor : ℕ) (names : List Name) → AllByRecursion IsValidName names → AllByRecursion (IsKept floor) names → All (IsKeptName floor) names
kept_names floor names valid kept =
    All-from_recursion (IsKeptName floor) names (each_both IsValidName (IsKept floor) (IsKeptName floor) (λ name v k. record { valid = v; kept = k }) names valid kept)

told_rows : (version : Version) (a : State) → (version ≡ One → a.module_limit ≡ FIRST_MODULE_LIMIT) → AllByRecursion (IsToldModule version) a.modules → CanTell version a
told_rows One a limit rows = record {
  limit = limit refl;
  modules =
      All-from_recursion (λ row. row.1.bucket ≡ None) a.modules
      (each_one (IsToldModule One) (λ row. row.1.bucket ≡ None) (λ row v. ap (λ (p : Option Bucket × Bool). p.0) v.replacement) a.modules rows);
}
told_rows Two a limit rows = tt

pub record IsFront (version : Version) (f : CheckpointFront) : Type 0 where
  pub limit : IsLimit f.0
  pub module_limit : IsLimit f.1.0
  pub entries : IsCount f.1.1.0
  pub first : version ≡ One → f.1.0 ≡ FIRST_MODULE_LIMIT

first_is_limit : IsLimit FIRST_MODULE_LIMIT
first_is_limit = record { capacity_from = omega arith; capacity_to = omega arith; period_from = omega arith; period_to = omega arith }

pub front_is : (version : Version) (f : CheckpointFront) → TellsFront version f → IsFront version f
front_is One f v = record { limit = v.limit; module_limit = subst IsLimit (sym v.module_limit) first_is_limit; entries = v.entries; first = λ _. v.module_limit }
front_is Two f v = record { limit = v.0; module_limit = v.1.0; entries = v.1.1.0; first = λ e. absurd cc }

floor_fits : (version : Version) (f : CheckpointFront) (floor : ℕ) → TellsFront version f → EndsAt version f.1.1.1 floor → Fits8 floor
floor_fits One f floor v ends = ends
floor_fits Two f floor v ends = subst Fits8 (sym ends) v.1.1.1

is_checkpoint : (version : Version) (bytes : List ℕ) (f : CheckpointFront) (a : State) → TellsFront version f → AreRead IsValidName a.names → AreRead (IsToldModule version) a.modules → AreRead IsPageRow a.pages
    → EndsAt version f.1.1.1 a.floor → Sound a → a.limit ≡ f.0 → a.module_limit ≡ f.1.0 → a.entries ≡ f.1.1.0 → a.total ≡ weight_in a.modules → bytes ≡ checkpoint_bytes version a → IsCheckpoint version a bytes
is_checkpoint version bytes f a tells names modules pages ends sound limit module_limit entries total whole =
    let front = front_is version f tells in
    let few = front.entries in
    record {
      account = record {
        within = record { names = sound.names; entries = omega (arith, few, entries); total = sound.total };
        limit = subst IsLimit (sym limit) front.limit;
        module_limit = subst IsLimit (sym module_limit) front.module_limit;
        floor = floor_fits version f a.floor tells ends;
        names = kept_names a.floor a.names names.1 sound.kept;
        names_once = sound.names_once;
        modules = All-from_recursion IsModuleRow a.modules (each_one (IsToldModule version) IsModuleRow (λ row v. v.is_row) a.modules modules.1);
        labels_once = sound.labels_once;
        pages = All-from_recursion IsPageRow a.pages pages.1;
        pages_once = sound.pages_once;
        total = sym total;
      };
      told = told_rows version a (λ first. module_limit ∙ front.first first) modules.1;
      module_count = modules.0;
      page_count = pages.0;
      spelled = whole;
    }

pub checkpoint_found : (version : Version) (a : State) (bytes : List ℕ) → AreBytes bytes → checkpoint_in version bytes ≡ Ok a → IsCheckpoint version a bytes
checkpoint_found version a bytes fits e =
    let p = parts_of version bytes a e in
    let f = (front_read version).takes bytes p.front p.after_front fits p.front_is in
    let fits_1 = rest_fits bytes (spell_front version p.front) p.after_front fits f.0 in
    let n = names_read.takes p.after_front p.names p.after_names fits_1 p.names_are in
    let fits_2 = rest_fits p.after_front (list_bytes name_bytes p.names) p.after_names fits_1 n.0 in
    let m = (modules_read version).takes p.after_names p.modules p.after_modules fits_2 p.modules_are in
    let fits_3 = rest_fits p.after_names (list_bytes (module_bytes version) p.modules) p.after_modules fits_2 m.0 in
    let r = pages_read.takes p.after_modules p.pages p.after_pages fits_3 p.pages_are in
    let fits_4 = rest_fits p.after_modules (list_bytes page_row_bytes p.pages) p.after_pages fits_3 r.0 in
    let l = floor_takes version p.front.1.1.1 p.after_pages p.floor fits_4 (front_floor version p.front f.1) p.floor_is in
    let s = state_with p.front p.names p.modules p.pages p.floor in
    let all = f.0 ∙ ap (λ w. spell_front version p.front ++ w) (n.0 ∙ ap (λ w. list_bytes name_bytes p.names ++ w)
    (m.0 ∙ ap (λ w. list_bytes (module_bytes version) p.modules ++ w) (r.0 ∙ ap (λ w. list_bytes page_row_bytes p.pages ++ w) l.0))) in
    let whole = all ∙ spelled version p.front s l.1 refl refl refl in
    subst (λ (b : State). IsCheckpoint version b bytes) p.whole
    (is_checkpoint version bytes p.front s f.1 n.1 m.1 r.1 l.1 (sound_parts s p.sound) refl refl refl refl whole)

-- ---- a checkpoint is read

abbrev floor_at : Version → ℕ → ℕ
floor_at One floor = 0
floor_at Two floor = floor

abbrev front_with : Version → State → CheckpointFront
front_with version a = (a.limit, (a.module_limit, (a.entries, floor_at version a.floor)))

tells_front : (version : Version) (a : State) → IsAccount a → CanTell version a → TellsFront version (front_with version a)
tells_front One a is told = record { limit = is.limit; module_limit = told.limit; entries = is.within.entries; floor = refl }
tells_front Two a is told = (is.limit, (is.module_limit, (is.within.entries, is.floor)))

ends_at : (version : Version) (a : State) → IsAccount a → EndsAt version (front_with version a).1.1.1 a.floor
ends_at One a is = is.floor
ends_at Two a is = refl

tells_rows : (version : Version) (a : State) → IsAccount a → CanTell version a → AllByRecursion (λ row. TellsReplacement version (row.1.bucket, row.1.replace)) a.modules
tells_rows One a is told =
    each_both IsModuleRow (λ row. row.1.bucket ≡ None) (λ row. TellsReplacement One (row.1.bucket, row.1.replace))
    (λ row v none. let kept = v.replace none in ap (λ (b : Option Bucket). (b, row.1.replace)) none ∙ ap (λ (replace : Bool). (None, replace)) kept) a.modules
    (recursion_from_All IsModuleRow a.modules is.modules) (recursion_from_All (λ row. row.1.bucket ≡ None) a.modules told.modules)
tells_rows Two a is told =
    each_one IsModuleRow (λ row. TellsReplacement Two (row.1.bucket, row.1.replace)) (λ row v. (v.bucket, v.replace)) a.modules (recursion_from_All IsModuleRow a.modules is.modules)

told_modules : (version : Version) (a : State) → IsAccount a → CanTell version a → AllByRecursion (IsToldModule version) a.modules
told_modules version a is told =
    let few = is.within.total in
    let sums = small_sums a.modules (omega (arith, few, is.total)) in
    each_both (λ row. IsModuleRow row × AllByRecursion Fits8 row.1.sums) (λ row. TellsReplacement version (row.1.bucket, row.1.replace)) (IsToldModule version)
    (λ row v tells. record { is_row = v.0; sums = v.1; replacement = tells }) a.modules
    (each_both IsModuleRow (λ row. AllByRecursion Fits8 row.1.sums) (λ row. IsModuleRow row × AllByRecursion Fits8 row.1.sums) (λ row v s. (v, s)) a.modules (recursion_from_All IsModuleRow a.modules is.modules) sums)
    (tells_rows version a is told)

pub checkpoint_parts : (version : Version) (a : State) (bytes : List ℕ) → IsCheckpoint version a bytes → Parts version bytes a
checkpoint_parts version a bytes is =
    let account = is.account in
    let f = front_with version a in
    let tells = tells_front version a account is.told in
    let ends = ends_at version a account in
    let few = account.within.names in
    let last = spell_end version a.floor in
    let tail_3 = list_bytes page_row_bytes a.pages ++ last in
    let tail_2 = list_bytes (module_bytes version) a.modules ++ tail_3 in
    let tail_1 = list_bytes name_bytes a.names ++ tail_2 in
    let all : bytes ≡ spell_front version f ++ tail_1 = is.spelled ∙ sym (spelled version f a ends refl refl refl) in
    record {
      front = f;
      after_front = tail_1;
      front_is = ap (front_at version) all ∙ (front_read version).again f tail_1 tells;
      names = a.names;
      after_names = tail_2;
      names_are = names_read.again a.names tail_2 (omega (arith, few), each_one (IsKeptName a.floor) IsValidName (λ name v. v.valid) a.names (recursion_from_All (IsKeptName a.floor) a.names account.names));
      modules = a.modules;
      after_modules = tail_3;
      modules_are = (modules_read version).again a.modules tail_3 (is.module_count, told_modules version a account is.told);
      pages = a.pages;
      after_pages = last;
      pages_are = pages_read.again a.pages last (is.page_count, recursion_from_All IsPageRow a.pages account.pages);
      floor = a.floor;
      floor_is = floor_again version f.1.1.1 a.floor (front_floor version f tells) ends;
      sound = ap (λ (total : ℕ). is_sound (record a { total = total })) account.total ∙ account_is_sound a account;
      whole = ap (λ (total : ℕ). record a { total = total }) account.total;
    }

pub checkpoint_is_read : (version : Version) (a : State) (bytes : List ℕ) → IsCheckpoint version a bytes → checkpoint_in version bytes ≡ Ok a
checkpoint_is_read version a bytes is = parts_make version bytes a (checkpoint_parts version a bytes is)

-- ---- the account that holds what is read

-- An account with the parts after the numbers at the front is read.
pub holds_make : (version : Version) (bytes : List ℕ) (f : CheckpointFront) (rest : List ℕ) (a : State) → front_at version bytes ≡ Ok (f, rest) → Holds version f.1.1.1 rest a
    → a ≡ with_rows_of (account_with f.0 f.1.0 f.1.1.0) a → IsAccount a → checkpoint_in version bytes ≡ Ok a
holds_make version bytes f rest a read holds rows account =
    let base = with_rows_of (account_with f.0 f.1.0 f.1.1.0) a in
    let whole : state_with f a.names a.modules a.pages a.floor ≡ a = ap (λ (total : ℕ). record base { total = total }) account.total ∙ sym rows in
    parts_make version bytes a (record {
      front = f;
      after_front = rest;
      front_is = read;
      names = a.names;
      after_names = holds.after_names;
      names_are = holds.names_are;
      modules = a.modules;
      after_modules = holds.after_modules;
      modules_are = holds.modules_are;
      pages = a.pages;
      after_pages = holds.after_pages;
      pages_are = holds.pages_are;
      floor = a.floor;
      floor_is = holds.floor_is;
      sound = ap is_sound whole ∙ account_is_sound a account;
      whole = whole;
    })

none_retired : (floor : ℕ) (names : List Name) → AllByRecursion (IsKept floor) names → has_retired floor names ≡ false
none_retired floor [] kept = refl
none_retired floor (name ∷ names) kept = rw kept.0 (none_retired floor names kept.1)

taken : (version : Version) (bytes : List ℕ) (a : State) (p : Parts version bytes a) → AreTaken (state_with p.front p.names p.modules p.pages p.floor)
taken version bytes a p =
    let sound = sound_parts (state_with p.front p.names p.modules p.pages p.floor) p.sound in
    record {
      names = record { few = sound.names; once = sound.names_once };
      modules = record { within = sound.total; once = sound.labels_once };
      pages = record { once = sound.pages_once };
      kept = none_retired p.floor p.names sound.kept;
    }

held : (version : Version) (bytes : List ℕ) (a : State) (p : Parts version bytes a) → Holds version p.front.1.1.1 p.after_front (state_with p.front p.names p.modules p.pages p.floor)
held version bytes a p = record {
  after_names = p.after_names;
  names_are = p.names_are;
  after_modules = p.after_modules;
  modules_are = p.modules_are;
  after_pages = p.after_pages;
  pages_are = p.pages_are;
  floor_is = p.floor_is;
}

-- The parts of a whole checkpoint are read after its front, and an account can have them.
pub holds_of : (version : Version) (bytes : List ℕ) (f : CheckpointFront) (rest : List ℕ) (a : State) → front_at version bytes ≡ Ok (f, rest) → checkpoint_in version bytes ≡ Ok a → Holds version f.1.1.1 rest a × AreTaken a
holds_of version bytes f rest a read e =
    let p = parts_of version bytes a e in
    let here : CheckpointFront × List ℕ = (p.front, p.after_front) in
    let same = ok_is here (f, rest) (sym p.front_is ∙ read) in
    let all : Holds version p.front.1.1.1 p.after_front a × AreTaken a = subst (λ (b : State). Holds version p.front.1.1.1 p.after_front b × AreTaken b) p.whole (held version bytes a p, taken version bytes a p) in
    subst (λ (q : CheckpointFront × List ℕ). Holds version q.0.1.1.1 q.1 a × AreTaken a) same all

pub unread_front : (version : Version) (bytes : List ℕ) (refused : EntryRefused) (a : State) → RefusesExactly refused (front_at version bytes) → refused ≡ Bad → checkpoint_in version bytes ≡ Ok a → ⊥
unread_front version bytes refused a refuses is e =
    let p = parts_of version bytes a e in
    unread (front_at version bytes) refused (p.front, p.after_front) (is_failed refused (front_at version bytes) refuses) is p.front_is

-- ---- what is found

pub checkpoint_at : (version : Version) (a : State) (bytes : List ℕ) → IsCheckpoint version a bytes → checkpoint_of version bytes ≡ Some a
unfolding checkpoint_of
checkpoint_at version a bytes is = ap found_in (checkpoint_is_read version a bytes is)

pub checkpoint_is : (version : Version) (a : State) (bytes : List ℕ) → AreBytes bytes → checkpoint_of version bytes ≡ Some a → IsCheckpoint version a bytes
unfolding checkpoint_of
checkpoint_is version a bytes fits e = checkpoint_found version a bytes fits (found_is (checkpoint_in version bytes) a e)
