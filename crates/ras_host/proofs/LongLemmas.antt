-- No change makes a journal file shorter, except making or removing it.
use Rattle.std.proofs.Common.{arith, sym, subst, inl, inr, length-take}
use Rattle.std.specs.Prelude.{◌≡◌, ℕ, ◌+◌, ◌<◌, ◌≤◌, true, false, List, [], length, take, Option, None, Some, refl, IfSome, IsSome, Result, Ok, Err, IsErr, IfErr, OnOk, OnErr}
use Rattle.std.specs.Option.{option_map}
use Rattle.board_core.specs.Steps.DiskLemmas.{length-overlay}
use Rattle.board_core.specs.declared.board.FileNo.{FileNo}
use Rattle.board_core.specs.declared.board.FileNo.TheVariants.{Zero, One}
use Rattle.host_system.specs.declared.kernel.Held.TheVariants.{Kept}
use Rattle.host_system.specs.declared.kernel.Refusal.{Refusal}
use Rattle.host_system.specs.declared.kernel.TheConstants.{INLINE_LENGTH}
use Rattle.host_system.specs.declared.system.FileName.{FileName}
use Rattle.host_system.specs.declared.system.FileName.TheVariants.{Journal, Store, New}
use Rattle.host_system.specs.Folder.{FolderFile, NameEntry, Folder, entry_named, change_name, after_writing, with_now, renewed, used, settled_file_of, shut, opened, locked, lost, FolderChange, wrote, synced, made, opens, locks, loses, removed, renamed, synced_names, printed, folder_after, bytes_now}
use Rattle.host_system.specs.FolderPast.{FolderPast, Did, IfTold, HasFile, changed_by, folder_of, file_bytes, bytes_or, MayDo, MayWrite, MayPrint}
use Rattle.host_system.specs.Kernel.{FailsSync}
use Rattle.host_system.specs.Steps.FolderLemmas.{after_syncing}
use Rattle.host_system.specs.Steps.FolderPastLemmas.{folder_of-more}
use Rattle.ras_host.specs.declared.long_files.LongFiles.{LongFiles}
use Rattle.ras_host.specs.LongFiles.{AreLong, IsLong, known_long, with_known}

-- the length of a name's file
abbrev length_in : NameEntry → ℕ
length_in entry = length (bytes_or (bytes_now entry))

wrote_longer : (place count : ℕ) (bytes : List ℕ) (now : Option FolderFile) → length (bytes_or (option_map (λ f. f.bytes) now)) ≤ length (bytes_or (option_map (λ f. f.bytes) (option_map (after_writing place count bytes) now)))
wrote_longer place count bytes None = omega arith
wrote_longer place count bytes (Some file) = omega (arith, length-overlay place (take count bytes) file.bytes)

synced_longer : (now : Option FolderFile) → length (bytes_or (option_map (λ f. f.bytes) now)) ≤ length (bytes_or (option_map (λ f. f.bytes) (option_map after_syncing now)))
synced_longer None = omega arith
synced_longer (Some file) = omega arith

-- One name's file changes.
one_longer : (name : FileName) (step : NameEntry → NameEntry) (file : FileNo) (folder : Folder) → ((entry : NameEntry) → length_in entry ≤ length_in (step entry))
    → length_in (entry_named (Journal file) folder) ≤ length_in (entry_named (Journal file) (change_name name step folder))
one_longer (Journal Zero) step Zero folder goes = goes folder.zero
one_longer (Journal Zero) step One folder goes = omega arith
one_longer (Journal One) step Zero folder goes = omega arith
one_longer (Journal One) step One folder goes = goes folder.one
one_longer Store step Zero folder goes = omega arith
one_longer Store step One folder goes = omega arith
one_longer New step Zero folder goes = omega arith
one_longer New step One folder goes = omega arith

-- Another name's file changes.
other_longer : (name : FileName) (step : NameEntry → NameEntry) (file : FileNo) (folder : Folder) → (name ≡ Journal file → ⊥)
    → length_in (entry_named (Journal file) folder) ≤ length_in (entry_named (Journal file) (change_name name step folder))
other_longer (Journal Zero) step Zero folder other = absurd (other refl)
other_longer (Journal Zero) step One folder other = omega arith
other_longer (Journal One) step Zero folder other = omega arith
other_longer (Journal One) step One folder other = absurd (other refl)
other_longer Store step Zero folder other = omega arith
other_longer Store step One folder other = omega arith
other_longer New step Zero folder other = omega arith
other_longer New step One folder other = omega arith

-- A change neither makes nor removes this journal file.
abbrev pub Spares : FileNo → FolderChange → Type 0
Spares file (made name) = name ≡ Journal file → ⊥
Spares file (removed name) = name ≡ Journal file → ⊥
Spares file change = Unit {0}

names_longer : (file : FileNo) (folder : Folder) → length_in (entry_named (Journal file) folder) ≤ length_in (entry_named (Journal file) (folder_after synced_names folder))
names_longer Zero folder = omega arith
names_longer One folder = omega arith

renamed_longer : (file : FileNo) (folder : Folder) → length_in (entry_named (Journal file) folder) ≤ length_in (entry_named (Journal file) (folder_after renamed folder))
renamed_longer Zero folder = omega arith
renamed_longer One folder = omega arith

printed_longer : (piece : List ℕ) (file : FileNo) (folder : Folder) → length_in (entry_named (Journal file) folder) ≤ length_in (entry_named (Journal file) (folder_after (printed piece) folder))
printed_longer piece Zero folder = omega arith
printed_longer piece One folder = omega arith

longer_after : (change : FolderChange) (file : FileNo) (folder : Folder) → Spares file change → length_in (entry_named (Journal file) folder) ≤ length_in (entry_named (Journal file) (folder_after change folder))
longer_after (wrote name place count bytes) file folder spares = one_longer name (with_now (after_writing place count bytes)) file folder (λ entry. wrote_longer place count bytes entry.now)
longer_after (synced name) file folder spares = one_longer name (with_now after_syncing) file folder (λ entry. synced_longer entry.now)
longer_after (made name) file folder spares = other_longer name (renewed (Some (settled_file_of [])) opened) file folder spares
longer_after (opens name) file folder spares = one_longer name (used opened) file folder (λ entry. omega arith)
longer_after (locks name) file folder spares = one_longer name (used locked) file folder (λ entry. omega arith)
longer_after (loses name) file folder spares = one_longer name (used lost) file folder (λ entry. omega arith)
longer_after (removed name) file folder spares = other_longer name (renewed None shut) file folder spares
longer_after renamed file folder spares = renamed_longer file folder
longer_after synced_names file folder spares = names_longer file folder
longer_after (printed piece) file folder spares = printed_longer piece file folder

pub longer : (change : FolderChange) (file : FileNo) (past : FolderPast) → Spares file change → length (file_bytes (Journal file) past) ≤ length (file_bytes (Journal file) (changed_by change past))
longer change file past spares =
    subst (λ (f : Folder). length_in (entry_named (Journal file) (folder_of past)) ≤ length_in (entry_named (Journal file) f)) (sym (folder_of-more change past)) (longer_after change file (folder_of past) spares)

-- ---- the files that are known to be long stay so

did_by : (change : FolderChange) (P : Option FolderPast → Option FolderPast → Type 0) → P None None → ((past : FolderPast) → P (Some past) (Some (changed_by change past))) → (old new : Option FolderPast) → Did change old new → P old new
did_by change P none some None new is = subst (P None) (sym is) none
did_by change P none some (Some past) new is = subst (P (Some past)) (sym is) (some past)

may_by : (Q : FolderPast → FolderPast → Type 0) (P : Option FolderPast → Option FolderPast → Type 0) → P None None → ((x y : FolderPast) → Q x y → P (Some x) (Some y)) → (old new : Option FolderPast) → IfTold Q old new → P old new
may_by Q P none some None new is = subst (P None) (sym is) none
may_by Q P none some (Some x) None is = absurd is
may_by Q P none some (Some x) (Some y) is = some x y is

-- A change neither makes nor removes a file that is known to be long.
abbrev pub SparesLong : FolderChange → LongFiles → Type 0
SparesLong change long = (file : FileNo) → known_long (Journal file) long ≡ true → Spares file change

false_true : false ≡ true → ⊥
false_true e = cc

still_long : (change : FolderChange) (long : LongFiles) → SparesLong change long → (past : FolderPast) → AreLong long past → AreLong long (changed_by change past)
still_long change long spares past are (Journal file) is = (
    let was : INLINE_LENGTH < length (file_bytes (Journal file) past) = are (Journal file) is in
    let grows : length (file_bytes (Journal file) past) ≤ length (file_bytes (Journal file) (changed_by change past)) = longer change file past (spares file is) in
    omega arith)
still_long change long spares past are Store is = absurd (false_true is)
still_long change long spares past are New is = absurd (false_true is)

did_long : (change : FolderChange) (long : LongFiles) → SparesLong change long → (old new : Option FolderPast) → Did change old new → IfSome old (AreLong long) → IfSome new (AreLong long)
did_long change long spares old new did =
    did_by change (λ (o n : Option FolderPast). IfSome o (AreLong long) → IfSome n (AreLong long)) (λ w. tt) (still_long change long spares) old new did

may_still : (change : FolderChange) (long : LongFiles) → SparesLong change long → (x y : FolderPast) → MayDo change x y → AreLong long x → AreLong long y
may_still change long spares x y (inl same) are = subst (AreLong long) (sym same) are
may_still change long spares x y (inr did) are = subst (AreLong long) (sym did) (still_long change long spares x are)

may_long : (change : FolderChange) (long : LongFiles) → SparesLong change long → (old new : Option FolderPast) → IfTold (MayDo change) old new → IfSome old (AreLong long) → IfSome new (AreLong long)
may_long change long spares old new may =
    may_by (MayDo change) (λ (o n : Option FolderPast). IfSome o (AreLong long) → IfSome n (AreLong long)) (λ w. tt) (may_still change long spares) old new may

may_write_long : (name : FileName) (place count : ℕ) (long : LongFiles) (old new : Option FolderPast) → IfTold (MayWrite name place count) old new → IfSome old (AreLong long) → IfSome new (AreLong long)
may_write_long name place count long old new may =
    may_by (MayWrite name place count) (λ (o n : Option FolderPast). IfSome o (AreLong long) → IfSome n (AreLong long)) (λ w. tt)
    (λ x y wrote_some. may_still (wrote name place count wrote_some.0) long (λ file is. tt) x y wrote_some.1) old new may

may_print_long : (piece : List ℕ) (long : LongFiles) (old new : Option FolderPast) → IfTold (MayPrint piece) old new → IfSome old (AreLong long) → IfSome new (AreLong long)
may_print_long piece long old new may =
    may_by (MayPrint piece) (λ (o n : Option FolderPast). IfSome o (AreLong long) → IfSome n (AreLong long)) (λ w. tt)
    (λ x y some are. subst (AreLong long) (sym some.3) (still_long (printed some.0) long (λ file is. tt) x are)) old new may

-- What is known of one file changes.

forgets : (name : FileName) (long : LongFiles) (file : FileNo) → known_long (Journal file) (with_known name false long) ≡ true → name ≡ Journal file → ⊥
forgets (Journal Zero) long Zero is = absurd (false_true is)
forgets (Journal Zero) long One is = λ e. cc
forgets (Journal One) long Zero is = λ e. cc
forgets (Journal One) long One is = absurd (false_true is)
forgets Store long file is = λ e. cc
forgets New long file is = λ e. cc

fewer : (name : FileName) (long : LongFiles) (past : FolderPast) → AreLong long past → AreLong (with_known name false long) past
fewer (Journal Zero) long past are (Journal Zero) is = absurd (false_true is)
fewer (Journal Zero) long past are (Journal One) is = are (Journal One) is
fewer (Journal One) long past are (Journal Zero) is = are (Journal Zero) is
fewer (Journal One) long past are (Journal One) is = absurd (false_true is)
fewer Store long past are file is = are file is
fewer New long past are file is = are file is
fewer (Journal Zero) long past are Store is = absurd (false_true is)
fewer (Journal Zero) long past are New is = absurd (false_true is)
fewer (Journal One) long past are Store is = absurd (false_true is)
fewer (Journal One) long past are New is = absurd (false_true is)

forgotten : (name : FileName) (long : LongFiles) (told : Option FolderPast) → IfSome told (AreLong long) → IfSome told (AreLong (with_known name false long))
forgotten name long None are = tt
forgotten name long (Some past) are = fewer name long past are

more : (name : FileName) (long : LongFiles) (past : FolderPast) → IsLong name past → AreLong long past → AreLong (with_known name true long) past
more (Journal Zero) long past grown are (Journal Zero) is = grown
more (Journal Zero) long past grown are (Journal One) is = are (Journal One) is
more (Journal One) long past grown are (Journal Zero) is = are (Journal Zero) is
more (Journal One) long past grown are (Journal One) is = grown
more Store long past grown are file is = are file is
more New long past grown are file is = are file is
more (Journal Zero) long past grown are Store is = absurd (false_true is)
more (Journal Zero) long past grown are New is = absurd (false_true is)
more (Journal One) long past grown are Store is = absurd (false_true is)
more (Journal One) long past grown are New is = absurd (false_true is)

learned : (name : FileName) (long : LongFiles) (told : Option FolderPast) → IfSome told (IsLong name) → IfSome told (AreLong long) → IfSome told (AreLong (with_known name true long))
learned name long None grown are = tt
learned name long (Some past) grown are = more name long past grown are

-- ---- after each call

pub same_long : {T E : Type 0} (change : FolderChange) (long : LongFiles) → SparesLong change long → (result : Result T E) (old new : Option FolderPast)
    → OnOk result (Did change old new) → OnErr result (new ≡ old) → IfSome old (AreLong long) → IfSome new (AreLong long)
same_long change long spares (Ok value) old new did same are = did_long change long spares old new did are
same_long change long spares (Err why) old new did same are = subst (λ (o : Option FolderPast). IfSome o (AreLong long)) (sym same) are

pub may_end_long : {T E : Type 0} (change : FolderChange) (long : LongFiles) → SparesLong change long → (result : Result T E) (old new : Option FolderPast)
    → OnOk result (Did change old new) → OnErr result (IfTold (MayDo change) old new) → IfSome old (AreLong long) → IfSome new (AreLong long)
may_end_long change long spares (Ok value) old new did may are = did_long change long spares old new did are
may_end_long change long spares (Err why) old new did may are = may_long change long spares old new may are

pub sync_long : {T E : Type 0} (name : FileName) (long : LongFiles) (result : Result T E) (old new : Option FolderPast)
    → OnOk result (Did (synced name) old new) → OnErr result (Did (loses name) old new) → IfSome old (AreLong long) → IfSome new (AreLong long)
sync_long name long (Ok value) old new did fails are = did_long (synced name) long (λ file is. tt) old new did are
sync_long name long (Err why) old new did fails are = did_long (loses name) long (λ file is. tt) old new fails are

pub print_long : {T E : Type 0} (piece : List ℕ) (long : LongFiles) (result : Result T E) (old new : Option FolderPast)
    → OnOk result (Did (printed piece) old new) → OnErr result (IfTold (MayPrint piece) old new) → IfSome old (AreLong long) → IfSome new (AreLong long)
print_long piece long (Ok value) old new did may are = did_long (printed piece) long (λ file is. tt) old new did are
print_long piece long (Err why) old new did may are = may_print_long piece long old new may are

-- What was known of a file is dropped before it is opened, made or removed.

pub opened_long : {T E : Type 0} (name : FileName) (before after : LongFiles) → after ≡ with_known name false before → (result : Result T E) (old new : Option FolderPast)
    → OnOk result (Did (opens name) old new) → OnErr result (new ≡ old) → IfSome old (AreLong before) → IfSome new (AreLong after)
opened_long name before after is result old new did same are =
    subst (λ (long : LongFiles). IfSome new (AreLong long)) (sym is) (same_long (opens name) (with_known name false before) (λ file known. tt) result old new did same (forgotten name before old are))

pub made_long : {T E : Type 0} (name : FileName) (before after : LongFiles) → after ≡ with_known name false before → (result : Result T E) (old new : Option FolderPast)
    → OnOk result (Did (made name) old new) → OnErr result (IfTold (MayDo (made name)) old new) → IfSome old (AreLong before) → IfSome new (AreLong after)
made_long name before after is result old new did may are =
    subst (λ (long : LongFiles). IfSome new (AreLong long)) (sym is) (may_end_long (made name) (with_known name false before) (forgets name before) result old new did may (forgotten name before old are))

pub removed_long : {T E : Type 0} (name : FileName) (before after : LongFiles) → after ≡ with_known name false before → (result : Result T E) (old new : Option FolderPast)
    → OnOk result (Did (removed name) old new) → OnErr result (IfTold (MayDo (removed name)) old new) → IfSome old (AreLong before) → IfSome new (AreLong after)
removed_long name before after is result old new did may are =
    subst (λ (long : LongFiles). IfSome new (AreLong long)) (sym is) (may_end_long (removed name) (with_known name false before) (forgets name before) result old new did may (forgotten name before old are))

-- A write that ends after `INLINE_LENGTH` makes its file long.

written_entry : (place : ℕ) (bytes : List ℕ) (now : Option FolderFile) → IsSome (option_map (λ f. f.bytes) now) → place ≤ length (bytes_or (option_map (λ f. f.bytes) now))
    → place + length bytes ≤ length (bytes_or (option_map (λ f. f.bytes) (option_map (after_writing place (length bytes) bytes) now)))
written_entry place bytes None there within = absurd (false_true there)
written_entry place bytes (Some file) there within = omega (arith, length-overlay place (take (length bytes) bytes) file.bytes, length-take (length bytes) bytes)

written_in : (name : FileName) (place : ℕ) (bytes : List ℕ) (folder : Folder) → IsSome (bytes_now (entry_named name folder)) → place ≤ length_in (entry_named name folder)
    → place + length bytes ≤ length_in (entry_named name (folder_after (wrote name place (length bytes) bytes) folder))
written_in (Journal Zero) place bytes folder there within = written_entry place bytes folder.zero.now there within
written_in (Journal One) place bytes folder there within = written_entry place bytes folder.one.now there within
written_in Store place bytes folder there within = written_entry place bytes folder.store.now there within
written_in New place bytes folder there within = written_entry place bytes folder.new.now there within

written_past : (name : FileName) (place : ℕ) (bytes : List ℕ) (past : FolderPast) → HasFile name past → place ≤ length (file_bytes name past)
    → place + length bytes ≤ length (file_bytes name (changed_by (wrote name place (length bytes) bytes) past))
written_past name place bytes past there within =
    subst (λ (f : Folder). place + length bytes ≤ length_in (entry_named name f)) (sym (folder_of-more (wrote name place (length bytes) bytes) past)) (written_in name place bytes (folder_of past) there within)

pub written_long : (name : FileName) (place : ℕ) (bytes : List ℕ) → INLINE_LENGTH < place + length bytes → (before after : LongFiles) → after ≡ with_known name true before → (old new : Option FolderPast)
    → IfSome old (HasFile name) → IfSome old (λ p. place ≤ length (file_bytes name p)) → Did (wrote name place (length bytes) bytes) old new → IfSome old (AreLong before) → IfSome new (AreLong after)
written_long name place bytes ends before after is old new there within did are =
    let change : FolderChange = wrote name place (length bytes) bytes in
    let long : IfSome new (IsLong name) = did_by change (λ (o n : Option FolderPast). IfSome o (HasFile name) → IfSome o (λ p. place ≤ length (file_bytes name p)) → IfSome n (IsLong name))
    (λ t w. tt) (λ past t w. omega (arith, ends, written_past name place bytes past t w)) old new did there within in
    subst (λ (l : LongFiles). IfSome new (AreLong l)) (sym is) (learned name before new long (did_long change before (λ file known. tt) old new did are))

-- A sync of a kept file failed.
pub fails_kept : {T : Type 0} (name : FileName) (result : Result T Refusal) (old new : Option FolderPast)
    → IfErr result (λ why. FailsSync (Kept name) why old new) → OnErr result (Did (loses name) old new)
fails_kept name (Ok value) old new fails = tt
fails_kept name (Err why) old new fails = fails

-- A write.

pub write_long : {T E : Type 0} (name : FileName) (place : ℕ) (bytes : List ℕ) (long : LongFiles) (result : Result T E) (old new : Option FolderPast)
    → OnOk result (Did (wrote name place (length bytes) bytes) old new) → OnErr result (IfTold (MayWrite name place (length bytes)) old new) → IfSome old (AreLong long) → IfSome new (AreLong long)
write_long name place bytes long (Ok value) old new did may are = did_long (wrote name place (length bytes) bytes) long (λ file is. tt) old new did are
write_long name place bytes long (Err why) old new did may are = may_write_long name place (length bytes) long old new may are

-- A call whose counted result is `Ok`.
pub counted_ok : {T E F : Type 0} (A : Type 0) (answer : Result T E) (result : Result T F) (value : T) → OnErr answer (IsErr result) → result ≡ Ok value → OnOk answer A → A
counted_ok A (Ok v) result value err is ok = ok
counted_ok A (Err why) result value err is ok = absurd (false_true (subst IsErr is err))
