-- The fields of a file that is read whole.
use Rattle.std.proofs.Common.{◌≡◌, ◌∙◌, ℕ, ◌+◌, ◌-◌, ◌≤◌, ◌<◌, List, [], ◌∷◌, length, take, drop, Option, None, Some, Result, Ok, Err, refl, sym, ap, subst, arith}
use Rattle.std.specs.Prelude.{Bool, true, false, suc, if◌then◌else◌}
use Rattle.std.specs.List.{AllByRecursion}
use Rattle.std.specs.Option.{option_and_then}
use Rattle.std.proofs.lemmas.Bool.Decides.{nat_tests}
use Rattle.std.proofs.lemmas.List.{drop-drop, length-drop, take_all}
use Rattle.ras_base.specs.LittleEndian.{AreBytes, number_at}
use Rattle.ras_base.specs.Steps.LittleEndianLemmas.{AreBytes-take, AreBytes-drop, number_at-take}
use Rattle.ras_facts.specs.declared.entry.Entry.{Entry}
use Rattle.ras_facts.specs.Entries.{IsValidEntry}
use Rattle.ras_account.specs.Account.{State}
use Rattle.ras_account.specs.Continued.{account_after, account_after_all}
use Rattle.ras_account.specs.Numbers.{IsWithin, numbers_of, are_past}
use Rattle.ras_account.specs.View.{View}
use Rattle.entry_format.specs.declared.version.Version.{Version}
use Rattle.journal_format.specs.Checkpoints.{IsCheckpoint}
use Rattle.journal_format.specs.CheckpointReading.{checkpoint_of}
use Rattle.journal_format.specs.Links.{IsPayload, ends_early, payload_in}
use Rattle.journal_format.specs.PayloadReading.{payload_of}
use Rattle.journal_format.proofs.PayloadLemmas.{payload_is_read, payload_found}
use Rattle.journal_format.proofs.CheckpointLemmas.{checkpoint_at, checkpoint_is}
use Rattle.ras_journal.specs.Fields.{part, some_or, field, number_of, version_of, generation_of, is_open_of, entries_by, stays_within}
use Rattle.ras_journal.specs.File.{FileFront, has_open_gate, with_link, front_behind_link, first_front, next_front, whole_front, front_of}
use Rattle.ras_journal.proofs.FrontLemmas.{front_begun}
use Rattle.ras_journal.proofs.PartLemmas.{part_within, field_within, field_made, bind_of, bind_err}
use Rattle.ras_recover.specs.declared.place.ReadRefused.{ReadRefused}
use Rattle.ras_recover.specs.declared.place.ReadRefused.TheVariants.{Disk, Damaged, NoMemory}
use Rattle.ras_recover.specs.Steps.Reading.{IsDamage, IsUnread}

-- A field that was read isn't damaged.
pub no_damage : {A : Type 0} (why : ReadRefused) (read : Result A ℕ) (x : A) → IsDamage why read → read ≡ Ok x → ⊥
no_damage Disk read x is same = is
no_damage (Damaged at) read x is same = not_both x at (sym same ∙ is)
  where
    not_both : {A : Type 0} (x : A) (at : ℕ) → ◌≡◌ {A = Result A ℕ} (Ok x) (Err at) → ⊥
    not_both x at e = cc
no_damage NoMemory read x is same = is

pub field_none : {A : Type 0} (make : List ℕ → Option A) (place count : ℕ) (file : List ℕ) → part place count file ≡ None → field make place count file ≡ Err place
unfolding field
field_none make place count file is = ap (λ (found : Option (List ℕ)). some_or place (option_and_then make found)) is

pub field_made_of : {A : Type 0} (make : List ℕ → Option A) (place count : ℕ) (file bytes : List ℕ) (made : Option A) → part place count file ≡ Some bytes → make bytes ≡ made → field make place count file ≡ some_or place made
unfolding field
field_made_of {A} make place count file bytes made is e =
    ap (λ (found : Option (List ℕ)). some_or place (option_and_then make found)) is ∙ ap (λ (o : Option A). some_or place o) e

pub part_bytes : (place count : ℕ) (file bytes : List ℕ) → place + count ≤ length file → part place count file ≡ Some bytes → bytes ≡ take count (drop place file)
part_bytes place count file bytes within is = same (sym is ∙ part_within place count file within)
  where
    same : ◌≡◌ {A = Option (List ℕ)} (Some bytes) (Some (take count (drop place file))) → bytes ≡ take count (drop place file)
    same e = cc

pub part_fits : (place count : ℕ) (file bytes : List ℕ) → AreBytes file → place + count ≤ length file → part place count file ≡ Some bytes → AreBytes bytes
part_fits place count file bytes fits within is =
    subst AreBytes (sym (part_bytes place count file bytes within is)) (AreBytes-take count (drop place file) (AreBytes-drop place file fits))

pub checkpoint_field : (version : Version) (count : ℕ) (file bytes : List ℕ) (account : State) → part 25 count file ≡ Some bytes → IsCheckpoint version account bytes → field (checkpoint_of version) 25 count file ≡ Ok account
checkpoint_field version count file bytes account is checkpoint = field_made_of (checkpoint_of version) 25 count file bytes (Some account) is (checkpoint_at version account bytes checkpoint)

no_checkpoint : (version : Version) (bytes : List ℕ) → AreBytes bytes → ((a : State) → IsCheckpoint version a bytes → ⊥) → (found : Option State) → checkpoint_of version bytes ≡ found → checkpoint_of version bytes ≡ None
no_checkpoint version bytes fits bad None is = is
no_checkpoint version bytes fits bad (Some a) is = absurd (bad a (checkpoint_is version a bytes fits is))

pub checkpoint_bad : (version : Version) (count : ℕ) (file bytes : List ℕ) → AreBytes file → 25 + count ≤ length file → part 25 count file ≡ Some bytes → ((a : State) → IsCheckpoint version a bytes → ⊥) → field (checkpoint_of version) 25 count file ≡ Err 25
checkpoint_bad version count file bytes fits within is bad =
    field_made_of (checkpoint_of version) 25 count file bytes None is
    (no_checkpoint version bytes (part_fits 25 count file bytes fits within is) bad (checkpoint_of version bytes) refl)

-- ---- the payload of a link

count_read : (gate count : ℕ) (file : List ℕ) → field (number_of 4) (gate + 1) 4 file ≡ Ok count → number_at 0 4 (drop (gate + 1) file) ≡ count
count_read gate count file e =
    let made : ◌≡◌ {A = Option ℕ} (Some (number_at 0 4 (take 4 (drop (gate + 1) file)))) (Some count) = field_made (number_of 4) (gate + 1) 4 file count e in
    let is : number_at 0 4 (take 4 (drop (gate + 1) file)) ≡ count = cc in
    sym (number_at-take 4 0 4 (drop (gate + 1) file) (omega arith)) ∙ is

-- The payload of the link after a gate, if the file's end doesn't cut it.
payload_read : (gate count : ℕ) (file bytes : List ℕ) → field (number_of 4) (gate + 1) 4 file ≡ Ok count → gate + 5 + count ≤ length file → part (gate + 5) count file ≡ Some bytes → payload_in (drop (gate + 1) file) ≡ bytes
payload_read gate count file bytes e within is =
    let five : gate + 1 + 4 ≡ gate + 5 = omega arith in
    ap (λ (n : ℕ). take n (drop 4 (drop (gate + 1) file))) (count_read gate count file e)
    ∙ (ap (λ (l : List ℕ). take count l) (drop-drop 4 (gate + 1) file ∙ ap (λ (n : ℕ). drop n file) five) ∙ sym (part_bytes (gate + 5) count file bytes within is))

pub not_cut : (gate count : ℕ) (file : List ℕ) → field (number_of 4) (gate + 1) 4 file ≡ Ok count → gate + 5 + count ≤ length file → ends_early (drop (gate + 1) file) ≡ false
not_cut gate count file e within =
    let number : number_at 0 4 (drop (gate + 1) file) ≡ count = count_read gate count file e in
    let long : length (drop (gate + 1) file) ≡ length file - (gate + 1) = length-drop (gate + 1) file in
    grind (arith, nat_tests)

pub payload_field : (version : Version) (gate count : ℕ) (file bytes : List ℕ) (entries : List Entry) → field (number_of 4) (gate + 1) 4 file ≡ Ok count → gate + 5 + count ≤ length file → part (gate + 5) count file ≡ Some bytes
    → IsPayload version entries (payload_in (drop (gate + 1) file)) → field (payload_of version) (gate + 5) count file ≡ Ok entries
payload_field version gate count file bytes entries e within is payload =
    field_made_of (payload_of version) (gate + 5) count file bytes (Some entries) is
    (payload_is_read version entries bytes (subst (λ (l : List ℕ). IsPayload version entries l) (payload_read gate count file bytes e within is) payload))

no_payload : (version : Version) (bytes : List ℕ) → AreBytes bytes → ((entries : List Entry) → IsPayload version entries bytes → ⊥) → (found : Option (List Entry)) → payload_of version bytes ≡ found → payload_of version bytes ≡ None
no_payload version bytes fits bad None is = is
no_payload version bytes fits bad (Some entries) is = absurd (bad entries (payload_found version entries bytes fits is))

pub payload_bad : (version : Version) (gate count : ℕ) (file bytes : List ℕ) → AreBytes file → field (number_of 4) (gate + 1) 4 file ≡ Ok count → gate + 5 + count ≤ length file → part (gate + 5) count file ≡ Some bytes
    → ((entries : List Entry) → IsPayload version entries (payload_in (drop (gate + 1) file)) → ⊥) → field (payload_of version) (gate + 5) count file ≡ Err (gate + 5)
payload_bad version gate count file bytes fits e within is bad =
    let same = payload_read gate count file bytes e within is in
    field_made_of (payload_of version) (gate + 5) count file bytes None is
    (no_payload version bytes (part_fits (gate + 5) count file bytes fits within is)
    (λ entries payload. bad entries (subst (λ (l : List ℕ). IsPayload version entries l) (sym same) payload)) (payload_of version bytes) refl)

-- ---- entries counted one by one

within_test : (account : State) → IsWithin account → are_past (numbers_of account) ≡ false
within_test account within = let names = within.names in let entries = within.entries in let total = within.total in grind (arith, nat_tests)

-- The entries that are left, and the account once they are counted too.
pub record Counting (start : State) (all left : List Entry) (number : ℕ) (account : View) : Type 0 where
  pub count : number ≡ length left
  pub valid : AllByRecursion IsValidEntry left
  pub state : account_after_all account.state left ≡ account_after_all start all
  pub stays : stays_within account.state left ≡ stays_within start all

pub first_valid : (start : State) (all left rest : List Entry) (number : ℕ) (account : View) (entry : Entry) → Counting start all left number account → left ≡ entry ∷ rest → IsValidEntry entry
first_valid start all left rest number account entry so_far is = (let same : AllByRecursion IsValidEntry (entry ∷ rest) = subst (AllByRecursion IsValidEntry) is so_far.valid in same.0)

pub counts_more : (start : State) (all left rest : List Entry) (number fewer : ℕ) (account after : View) (entry : Entry) → Counting start all left number account → left ≡ entry ∷ rest → fewer + 1 ≡ number
    → after.state ≡ account_after account.state entry → IsWithin (account_after account.state entry) → Counting start all rest fewer after
counts_more start all left rest number fewer account after entry so_far is one continues within =
    let number_is : number ≡ length left = so_far.count in
    let test : are_past (numbers_of (account_after account.state entry)) ≡ false = within_test (account_after account.state entry) within in
    let stays : stays_within account.state (entry ∷ rest) ≡ stays_within (account_after account.state entry) rest = rw test refl in
    record {
      count = omega (arith, ap length is);
      valid = (let same : AllByRecursion IsValidEntry (entry ∷ rest) = subst (AllByRecursion IsValidEntry) is so_far.valid in same.1);
      state = ap (λ (a : State). account_after_all a rest) continues ∙ (ap (λ (l : List Entry). account_after_all account.state l) (sym is) ∙ so_far.state);
      stays = ap (λ (a : State). stays_within a rest) continues ∙ (sym stays ∙ (ap (λ (l : List Entry). stays_within account.state l) (sym is) ∙ so_far.stays));
    }

past_of : (account : State) → (IsWithin account → ⊥) → (past : Bool) → are_past (numbers_of account) ≡ past → are_past (numbers_of account) ≡ true
past_of account without true is = is
past_of account without false is = absurd (without (record { names = grind (arith, nat_tests); entries = grind (arith, nat_tests); total = grind (arith, nat_tests) }))

pub counts_past : (start : State) (all left rest : List Entry) (number : ℕ) (account : View) (entry : Entry) → Counting start all left number account → left ≡ entry ∷ rest
    → (IsWithin (account_after account.state entry) → ⊥) → false ≡ stays_within start all
counts_past start all left rest number account entry so_far is past =
    let test : are_past (numbers_of (account_after account.state entry)) ≡ true = past_of (account_after account.state entry) past (are_past (numbers_of (account_after account.state entry))) refl in
    let stays : stays_within account.state (entry ∷ rest) ≡ false = rw test refl in
    sym stays ∙ (ap (λ (l : List Entry). stays_within account.state l) (sym is) ∙ so_far.stays)

none_left : (left : List Entry) (number : ℕ) → number ≡ length left → number ≡ 0 → left ≡ []
none_left [] number count zero = refl
none_left (e ∷ left) number count zero = absurd (omega (arith, count, zero))

pub counts_all : (start : State) (all left : List Entry) (number : ℕ) (account : View) → Counting start all left number account → number ≡ 0 → account.state ≡ account_after_all start all
counts_all start all left number account so_far zero =
    ap (λ (l : List Entry). account_after_all account.state l) (sym (none_left left number so_far.count zero)) ∙ so_far.state

pub stays_all : (start : State) (all left : List Entry) (number : ℕ) (account : View) → Counting start all left number account → number ≡ 0 → true ≡ stays_within start all
stays_all start all left number account so_far zero =
    ap (λ (l : List Entry). stays_within account.state l) (sym (none_left left number so_far.count zero)) ∙ so_far.stays

-- ---- a link

counted_field : (version : Version) (account : State) (place count : ℕ) (file : List ℕ) (entries : List Entry) (stays : Bool) → field (payload_of version) place count file ≡ Ok entries → stays_within account entries ≡ stays
    → field (entries_by version account) place count file ≡ some_or place (if stays then Some entries else None)
counted_field version account place count file entries stays e is =
    let within = field_within (payload_of version) place count file entries e in
    let made : payload_of version (take count (drop place file)) ≡ Some entries = field_made (payload_of version) place count file entries e in
    field_made_of (entries_by version account) place count file (take count (drop place file)) (if stays then Some entries else None) (part_within place count file within) (rw made (rw is refl))

unread_field : (version : Version) (account : State) (place count : ℕ) (file : List ℕ) (at : ℕ) → field (payload_of version) place count file ≡ Err at → field (entries_by version account) place count file ≡ Err at
unfolding field
unread_field version account place count file at e = by (part place count file) refl e
  where
    by_payload : (bytes : List ℕ) (o : Option (List Entry)) → payload_of version bytes ≡ o → some_or place o ≡ Err at → some_or place (entries_by version account bytes) ≡ Err at
    by_payload bytes None is e = rw is e
    by_payload bytes (Some entries) is e = absurd cc

    by : (o : Option (List ℕ)) → part place count file ≡ o → some_or place (option_and_then (payload_of version) o) ≡ Err at → some_or place (option_and_then (entries_by version account) (part place count file)) ≡ Err at
    by None is e = rw is e
    by (Some bytes) is e = rw is (by_payload bytes (payload_of version bytes) refl e)

pub link_unread : (front : FileFront) (file : List ℕ) (count at : ℕ) → field (number_of 4) (front.gate + 1) 4 file ≡ Ok count → field (payload_of front.version) (front.gate + 5) count file ≡ Err at → front_behind_link front file ≡ Err at
link_unread front file count at size e = bind_of _ _ _ size ∙ bind_err _ _ at (unread_field front.version front.account (front.gate + 5) count file at e)

pub link_refused : (why : ReadRefused) (front : FileFront) (file : List ℕ) (count : ℕ) → field (number_of 4) (front.gate + 1) 4 file ≡ Ok count → IsUnread why (field (payload_of front.version) (front.gate + 5) count file) → IsUnread why (front_behind_link front file)
link_refused Disk front file count size is = absurd is
link_refused (Damaged at) front file count size is = link_unread front file count at size is
link_refused NoMemory front file count size is = tt

pub link_counted : (front : FileFront) (file : List ℕ) (count : ℕ) (entries : List Entry) → field (number_of 4) (front.gate + 1) 4 file ≡ Ok count → field (payload_of front.version) (front.gate + 5) count file ≡ Ok entries
    → stays_within front.account entries ≡ true → front_behind_link front file ≡ Ok (with_link front count entries)
link_counted front file count entries size e stays = bind_of _ _ _ size ∙ bind_of _ _ _ (counted_field front.version front.account (front.gate + 5) count file entries true e stays)

pub link_past : (front : FileFront) (file : List ℕ) (count : ℕ) (entries : List Entry) → field (number_of 4) (front.gate + 1) 4 file ≡ Ok count → field (payload_of front.version) (front.gate + 5) count file ≡ Ok entries
    → stays_within front.account entries ≡ false → front_behind_link front file ≡ Err (front.gate + 5)
link_past front file count entries size e stays = bind_of _ _ _ size ∙ bind_err _ _ (front.gate + 5) (counted_field front.version front.account (front.gate + 5) count file entries false e stays)

-- ---- a refusal is returned to the caller

pub count_refused : (why : ReadRefused) (front : FileFront) (file : List ℕ) → IsDamage why (field (number_of 4) (front.gate + 1) 4 file) → IsUnread why (front_behind_link front file)
count_refused Disk front file is = absurd is
count_refused (Damaged at) front file is = bind_err _ _ at is
count_refused NoMemory front file is = absurd is

pub gate_refused : (why : ReadRefused) (front : FileFront) (file : List ℕ) → IsDamage why (field is_open_of front.gate 1 file) → IsUnread why (next_front front file)
unfolding next_front
gate_refused Disk front file is = absurd is
gate_refused (Damaged at) front file is = bind_err _ _ at is
gate_refused NoMemory front file is = absurd is

pub next_refused : (why : ReadRefused) (front : FileFront) (file : List ℕ) → field is_open_of front.gate 1 file ≡ Ok true → IsUnread why (front_behind_link front file) → IsUnread why (next_front front file)
unfolding next_front
next_refused Disk front file opened is = absurd is
next_refused (Damaged at) front file opened is = bind_of _ _ _ opened ∙ bind_err _ _ at is
next_refused NoMemory front file opened is = tt

pub version_refused : (why : ReadRefused) (taken : Option ℕ) (file : List ℕ) → IsDamage why (field version_of 1 8 file) → IsUnread why (first_front taken file)
unfolding first_front
version_refused Disk taken file is = absurd is
version_refused (Damaged at) taken file is = bind_err _ _ at is
version_refused NoMemory taken file is = absurd is

pub generation_refused : (why : ReadRefused) (taken : Option ℕ) (file : List ℕ) (version : Version) → field version_of 1 8 file ≡ Ok version → IsDamage why (field (generation_of taken) 9 8 file) → IsUnread why (first_front taken file)
unfolding first_front
generation_refused Disk taken file version named is = absurd is
generation_refused (Damaged at) taken file version named is = bind_of _ _ _ named ∙ bind_err _ _ at is
generation_refused NoMemory taken file version named is = absurd is

pub size_refused : (why : ReadRefused) (taken : Option ℕ) (file : List ℕ) (version : Version) (generation : ℕ) → field version_of 1 8 file ≡ Ok version → field (generation_of taken) 9 8 file ≡ Ok generation → IsDamage why (field (number_of 8) 17 8 file)
    → IsUnread why (first_front taken file)
unfolding first_front
size_refused Disk taken file version generation named numbered is = absurd is
size_refused (Damaged at) taken file version generation named numbered is = bind_of _ _ _ named ∙ (bind_of _ _ _ numbered ∙ bind_err _ _ at is)
size_refused NoMemory taken file version generation named numbered is = absurd is

pub account_refused : (why : ReadRefused) (taken : Option ℕ) (file : List ℕ) (version : Version) (generation count : ℕ) → field version_of 1 8 file ≡ Ok version → field (generation_of taken) 9 8 file ≡ Ok generation → field (number_of 8) 17 8 file ≡ Ok count
    → IsUnread why (field (checkpoint_of version) 25 count file) → IsUnread why (first_front taken file)
unfolding first_front
account_refused Disk taken file version generation count named numbered sized is = absurd is
account_refused (Damaged at) taken file version generation count named numbered sized is = bind_of _ _ _ named ∙ (bind_of _ _ _ numbered ∙ (bind_of _ _ _ sized ∙ bind_err _ _ at is))
account_refused NoMemory taken file version generation count named numbered sized is = tt

-- ---- the walk along the chain

one_less : (length i : ℕ) → i < length → length - i ≡ suc (length - (i + 1))
one_less length i less = omega arith

pub walk_on : (length i : ℕ) (front next : FileFront) (file : List ℕ) → i < length → next_front front file ≡ Ok (Some next) → whole_front (length - i) front file ≡ whole_front (length - (i + 1)) next file
unfolding whole_front
walk_on length i front next file less is = ap (λ (n : ℕ). whole_front n front file) (one_less length i less) ∙ bind_of (next_front front file) _ (Some next) is

pub walk_ends : (length i : ℕ) (front : FileFront) (file : List ℕ) → i < length → next_front front file ≡ Ok None → whole_front (length - i) front file ≡ Ok front
unfolding whole_front
walk_ends length i front file less is = ap (λ (n : ℕ). whole_front n front file) (one_less length i less) ∙ bind_of (next_front front file) _ None is

pub walk_breaks : (length i at : ℕ) (front : FileFront) (file : List ℕ) → i < length → next_front front file ≡ Err at → whole_front (length - i) front file ≡ Err at
unfolding whole_front
walk_breaks length i at front file less is = ap (λ (n : ℕ). whole_front n front file) (one_less length i less) ∙ bind_err (next_front front file) _ at is

pub walk_over : (length i : ℕ) (front : FileFront) (file : List ℕ) → length ≤ i → whole_front (length - i) front file ≡ Err front.gate
unfolding whole_front
walk_over length i front file over = let none : length - i ≡ 0 = omega arith in ap (λ (n : ℕ). whole_front n front file) none

-- all bytes of a file from an offset on
pub rest_of : (n : ℕ) (file : List ℕ) → take (length file - n) (drop n file) ≡ drop n file
rest_of n file = take_all (length file - n) (drop n file) (omega (arith, length-drop n file))

-- ---- a whole file

pub file_broken : (taken : Option ℕ) (file : List ℕ) (at : ℕ) → has_open_gate file ≡ true → first_front taken file ≡ Err at → front_of taken file ≡ Err at
unfolding front_of
file_broken taken file at stands e = rw stands (bind_err (first_front taken file) _ at e)

pub file_read : (taken : Option ℕ) (file : List ℕ) (first whole : FileFront) → has_open_gate file ≡ true → first_front taken file ≡ Ok first → whole_front (length file) first file ≡ Ok whole → front_of taken file ≡ Ok (Some whole)
file_read taken file first whole stands begins e = front_begun taken file first stands begins ∙ bind_of (whole_front (length file) first file) _ whole e

pub file_breaks : (taken : Option ℕ) (file : List ℕ) (first : FileFront) (at : ℕ) → has_open_gate file ≡ true → first_front taken file ≡ Ok first → whole_front (length file) first file ≡ Err at → front_of taken file ≡ Err at
file_breaks taken file first at stands begins e = front_begun taken file first stands begins ∙ bind_err (whole_front (length file) first file) _ at e
