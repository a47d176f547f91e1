-- Both files of a board, the older one read first.
use Rattle.std.proofs.Common.{◌≡◌, ◌∙◌, ℕ, ◌≤◌, ◌<◌, List, ◌++◌, length, Option, None, Some, Ok, refl, sym, ap, subst, arith, inl, inr}
use Rattle.std.specs.Prelude.{true, false, nat_lt, IfSome}
use Rattle.std.specs.Option.{option_map}
use Rattle.std.proofs.lemmas.Bool.Decides.{nat_tests}
use Rattle.board_core.specs.declared.board.FileNo.{FileNo}
use Rattle.board_core.specs.declared.board.FileNo.TheVariants.{Zero, One}
use Rattle.board_core.specs.declared.board.DiskCall.{DiskCall}
use Rattle.board_core.specs.Doing.{Seen, gave_up, went_well}
use Rattle.board_core.specs.Stop.{Left, file_in}
use Rattle.board_core.specs.Told.{Told, file_of}
use Rattle.ras_account.specs.declared.account.Account.{Account}
use Rattle.ras_journal.specs.declared.limits.TheConstants.{LONGEST_FILE}
use Rattle.ras_journal.specs.Fields.{is_taken}
use Rattle.ras_journal.specs.File.{FileFront, front_of}
use Rattle.ras_journal.specs.Recovered.{in_file, journal_of, is_shut, other}
use Rattle.ras_journal.proofs.FrontLemmas.{front_parts}
use Rattle.ras_journal.proofs.SwitchLemmas.{taken_other}
use Rattle.ras_recover.specs.declared.pair.BothRead.{BothRead}
use Rattle.ras_recover.specs.declared.place.Place.{Place}
use Rattle.ras_recover.specs.declared.place.ReadRefused.{ReadRefused}
use Rattle.ras_recover.specs.declared.window.SizedFile.{SizedFile}
use Rattle.ras_recover.specs.DiskCalls.{ReadsPlace}
use Rattle.ras_recover.specs.OpeningCalls.{ReadsStanding, ReadsBoth}
use Rattle.ras_recover.specs.Steps.Looking.{Looks}
use Rattle.ras_recover.specs.Steps.Pair.{AreBoth, AreRead, IfFound}
use Rattle.ras_recover.specs.Steps.Reading.{front_at}
use Rattle.ras_recover.proofs.CallsLemmas.{any_left, any_right, both_later}
use Rattle.ras_recover.proofs.KeepingLemmas.{still, before}
use Rattle.ras_recover.proofs.LooksLemmas.{Joins, looks_taken_up, looks_weaker}
use Rattle.ras_recover.proofs.PairLemmas.{both_read}
use Rattle.ras_recover.proofs.StandingLemmas.{open_not_shut}

-- ---- what both files contain

not_shut : (file : List ℕ) (front : FileFront) → front_of None file ≡ Ok (Some front) → false ≡ is_shut file
not_shut file front e = open_not_shut file ((front_parts None file front e).open_gate)

zero_newer : (file0 file1 : List ℕ) (zero one : FileFront) → length file0 ≤ LONGEST_FILE → length file1 ≤ LONGEST_FILE → front_of None file0 ≡ Ok (Some zero) → front_of None file1 ≡ Ok (Some one) → one.generation < zero.generation
    → journal_of file0 file1 ≡ Ok (Some (record { file = Zero; front = zero }))
zero_newer file0 file1 zero one short0 short1 e0 e1 less =
    let free : is_taken (Some zero.generation) one.generation ≡ false = grind (arith, nat_tests) in
    let test : nat_lt zero.generation one.generation ≡ false = grind (arith, nat_tests) in
    both_read file0 file1 (Some zero) (Some one) (Some zero.generation) short0 short1 (ap (λ r. in_file Zero r) e0) refl
    (ap (λ r. in_file One r) (taken_other None (Some zero.generation) file1 one e1 free))
    ∙ rw test refl

one_newer : (file0 file1 : List ℕ) (zero one : FileFront) → length file0 ≤ LONGEST_FILE → length file1 ≤ LONGEST_FILE → front_of None file0 ≡ Ok (Some zero) → front_of None file1 ≡ Ok (Some one) → zero.generation < one.generation
    → journal_of file0 file1 ≡ Ok (Some (record { file = One; front = one }))
one_newer file0 file1 zero one short0 short1 e0 e1 less =
    let free : is_taken (Some zero.generation) one.generation ≡ false = grind (arith, nat_tests) in
    let test = less_is zero.generation one.generation less in
    both_read file0 file1 (Some zero) (Some one) (Some zero.generation) short0 short1 (ap (λ r. in_file Zero r) e0) refl
    (ap (λ r. in_file One r) (taken_other None (Some zero.generation) file1 one e1 free))
    ∙ rw test refl
  where
    less_is : (a b : ℕ) → a < b → nat_lt a b ≡ true
    less_is a b less = grind (arith, nat_tests)

-- Files of these sizes were read, and this one is the newer one.
aged_here : (newer older : FileNo) (place : Place) (account : Account) (last : FileFront) (m n : ℕ) (here : Left) → older ≡ other newer → (m ≤ LONGEST_FILE) × (n ≤ LONGEST_FILE) → (m ≡ length (file_in older here)) × (n ≡ length (file_in newer here))
    → front_of None (file_in older here) ≡ Ok (Some last) → front_of None (file_in newer here) ≡ Ok (Some (front_at place account.state)) → last.generation < place.generation
    → AreRead (record { shut = (false, false); journal = Some (newer, place, account) }) here.file0 here.file1
aged_here Zero Zero place account last m n here same short sizes e0 e1 less = absurd cc
aged_here One One place account last m n here same short sizes e0 e1 less = absurd cc
aged_here Zero One place account last m n here same short sizes e0 e1 less =
    let a : m ≤ LONGEST_FILE = short.0 in
    let b : n ≤ LONGEST_FILE = short.1 in
    let c : m ≡ length here.file1 = sizes.0 in
    let d : n ≡ length here.file0 = sizes.1 in
    record {
      journal = zero_newer here.file0 here.file1 (front_at place account.state) last (omega arith) (omega arith) e1 e0 less;
      zero = not_shut here.file0 (front_at place account.state) e1;
      one = not_shut here.file1 last e0;
    }
aged_here One Zero place account last m n here same short sizes e0 e1 less =
    let a : m ≤ LONGEST_FILE = short.0 in
    let b : n ≤ LONGEST_FILE = short.1 in
    let c : m ≡ length here.file0 = sizes.0 in
    let d : n ≡ length here.file1 = sizes.1 in
    record {
      journal = one_newer here.file0 here.file1 last (front_at place account.state) (omega arith) (omega arith) e0 e1 less;
      zero = not_shut here.file0 last e0;
      one = not_shut here.file1 (front_at place account.state) e1;
    }

pub aged_told : (newer older : FileNo) (place : Place) (account : Account) (last : FileFront) (m n : ℕ) (told next : Option Told) → option_map (λ (t : Told). t.here) next ≡ option_map (λ (t : Told). t.here) told → older ≡ other newer
    → (m ≤ LONGEST_FILE) × (n ≤ LONGEST_FILE) → IfSome told (λ t. (m ≡ length (file_of older t)) × (n ≡ length (file_of newer t))) → IfSome told (λ t. front_of None (file_of older t) ≡ Ok (Some last))
    → IfSome next (λ t. front_of None (file_of newer t) ≡ Ok (Some (front_at place account.state))) → last.generation < place.generation
    → IfSome told (λ t. AreRead (record { shut = (false, false); journal = Some (newer, place, account) }) t.here.file0 t.here.file1)
aged_told newer older place account last m n None next here same short sizes e0 e1 less = tt
aged_told newer older place account last m n (Some t) next here same short sizes e0 e1 less =
    aged_here newer older place account last m n t.here same short sizes e0
    (before (λ (l : Left). front_of None (file_in newer l) ≡ Ok (Some (front_at place account.state))) (Some t) next here e1) less

-- what was found in them
pub found_journal : (both : BothRead) (told : Option Told) → IfSome told (λ t. AreRead both t.here.file0 t.here.file1) → IfSome told (λ t. journal_of t.here.file0 t.here.file1 ≡ Ok (option_map (λ j. record { file = j.0; front = front_at j.1 j.2.state }) both.journal))
found_journal both None are = tt
found_journal both (Some t) are = are.journal

pub found_shut : (both : BothRead) (told : Option Told) → IfSome told (λ t. AreRead both t.here.file0 t.here.file1) → IfSome told (λ t. (both.shut.0 ≡ is_shut t.here.file0) × (both.shut.1 ≡ is_shut t.here.file1))
found_shut both None are = tt
found_shut both (Some t) are = (are.zero, are.one)

-- The sizes of both files are unchanged.
pub sizes_later : (m n : ℕ) (zero one : FileNo) (old next : Option Told) → option_map (λ (t : Told). t.here) next ≡ option_map (λ (t : Told). t.here) old → IfSome old (λ t. (m ≡ length (file_of zero t)) × (n ≡ length (file_of one t)))
    → IfSome next (λ t. (m ≡ length (file_of zero t)) × (n ≡ length (file_of one t)))
sizes_later m n zero one old next here sizes = still (λ (l : Left). (m ≡ length (file_in zero l)) × (n ≡ length (file_in one l))) old next here sizes

-- ---- the older file and the newer one

-- What is known of the older file and the newer one.
pub record Aged (older newer : SizedFile) (told : Option Told) : Type 0 where
  pub others : older.no ≡ other newer.no
  pub short : (older.size ≤ LONGEST_FILE) × (newer.size ≤ LONGEST_FILE)
  pub sizes : IfSome told (λ t. (older.size ≡ length (file_of older.no t)) × (newer.size ≡ length (file_of newer.no t)))

swapped : (m n : ℕ) (this that : FileNo) (told : Option Told) → IfSome told (λ t. (m ≡ length (file_of this t)) × (n ≡ length (file_of that t))) → IfSome told (λ t. (n ≡ length (file_of that t)) × (m ≡ length (file_of this t)))
swapped m n this that None sizes = tt
swapped m n this that (Some t) sizes = (sizes.1, sizes.0)

pub aged : (zero one older newer : SizedFile) (told : Option Told) → AreBoth zero one older newer → (zero.no ≡ Zero) × (one.no ≡ One) → (zero.size ≤ LONGEST_FILE) × (one.size ≤ LONGEST_FILE)
    → IfSome told (λ t. (zero.size ≡ length (file_of zero.no t)) × (one.size ≡ length (file_of one.no t))) → Aged older newer told
aged zero one older newer told (inl is) numbers short sizes =
    subst (λ (o : SizedFile). Aged o newer told) (sym is.0) (subst (λ (n : SizedFile). Aged zero n told) (sym is.1) (record {
      others = numbers.0 ∙ sym (ap other numbers.1);
      short = short;
      sizes = sizes;
    }))
aged zero one older newer told (inr is) numbers short sizes =
    subst (λ (o : SizedFile). Aged o newer told) (sym is.0) (subst (λ (n : SizedFile). Aged one n told) (sym is.1) (record {
      others = numbers.1 ∙ sym (ap other numbers.0);
      short = (short.1, short.0);
      sizes = swapped zero.size one.size zero.no one.no told sizes;
    }))

pub aged_later : (older newer : SizedFile) (old next : Option Told) → option_map (λ (t : Told). t.here) next ≡ option_map (λ (t : Told). t.here) old → Aged older newer old → Aged older newer next
aged_later older newer old next here is = record {
  others = is.others;
  short = is.short;
  sizes = sizes_later older.size newer.size older.no newer.no old next here is.sizes;
}

pub older_size : (older newer : SizedFile) (told : Option Told) → Aged older newer told → IfSome told (λ t. older.size ≡ length (file_of older.no t))
older_size older newer None is = tt
older_size older newer (Some t) is = is.sizes.0

-- ---- what was read of both files

both_aged : (newer older : FileNo) → older ≡ other newer → (here : Left) (xs ys : List DiskCall) → ReadsStanding older (file_in older here) xs → ReadsStanding newer (file_in newer here) ys → ReadsBoth here (xs ++ ys)
both_aged Zero Zero same here xs ys first second = absurd cc
both_aged One One same here xs ys first second = absurd cc
both_aged Zero One same here xs ys first second = record {
  zero = λ taken front place stands early. any_right (ReadsPlace Zero place) xs ys (second taken front place stands early);
  one = λ taken front place stands early. any_left (ReadsPlace One place) xs ys (first taken front place stands early);
}
both_aged One Zero same here xs ys first second = record {
  zero = λ taken front place stands early. any_left (ReadsPlace Zero place) xs ys (first taken front place stands early);
  one = λ taken front place stands early. any_right (ReadsPlace One place) xs ys (second taken front place stands early);
}

pub aged_reads : (newer older : FileNo) → older ≡ other newer → Joins (λ t. ReadsStanding older (file_of older t)) (λ t. ReadsStanding newer (file_of newer t)) (λ t. ReadsBoth t.here)
aged_reads newer older same t u here xs ys first second =
    both_aged newer older same t.here xs ys first (subst (λ (l : Left). ReadsStanding newer (file_in newer l) ys) here second)

-- Both files were read after other reads.
pub reads_later : (P : Told → List DiskCall → Type 0) → Joins P (λ t. ReadsBoth t.here) (λ t. ReadsBoth t.here)
reads_later P t u here xs ys first second = both_later t.here xs ys (subst (λ (l : Left). ReadsBoth l ys) here second)

-- ---- what reading by age returned

-- What was found, or that both files have yet to be read one by one.
pub record Found (found : Option BothRead) (old new : Seen) : Type 0 where
  pub read : IfSome found (λ both. IfSome old.told (λ t. AreRead both t.here.file0 t.here.file1))
  pub looks : Looks went_well (λ t calls. IfSome found (λ both. ReadsBoth t.here calls)) old new

pub found_ok : (found : Option BothRead) (old new : Seen) → IfSome found (λ both. IfSome old.told (λ t. AreRead both t.here.file0 t.here.file1)) → Looks went_well (λ t calls. IfFound {E = ReadRefused} (Ok found) (ReadsBoth t.here calls)) old new → Found found old new
found_ok None old new read looks = record { read = read; looks = looks_weaker went_well _ _ old new (λ t calls is. tt) looks }
found_ok (Some both) old new read looks = record { read = read; looks = looks_weaker went_well _ _ old new (λ t calls is. is) looks }

pub found_none : (P : Told → List DiskCall → Type 0) (old new : Seen) → Looks gave_up P old new → Found None old new
found_none P old new looks = record { read = tt; looks = looks_taken_up P _ old new (λ t calls. tt) looks }
