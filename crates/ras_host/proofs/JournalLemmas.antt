-- What a call on the journal's files leads to, by its calls of the system.
use Rattle.std.proofs.Common.{◌≡◌, ℕ, List, Some, refl, sym, ◌∙◌, subst, OnOk, inl, inr}
use Rattle.std.specs.Prelude.{◌⊎◌, Bool, true, false, IsTrue, Option, None, IfSome, IfOk, Result, Ok, Err}
use Rattle.std.specs.Result.{is_ok, result_or}
use Rattle.board_core.specs.Clock.{Passes}
use Rattle.board_core.specs.Stop.{Left, Same, file_in}
use Rattle.board_core.specs.declared.board.FileNo.{FileNo}
use Rattle.board_core.specs.declared.board.FileNo.TheVariants.{Zero, One}
use Rattle.host_system.specs.BoardFile.{AreNamed, AreOpenable, AreOpened, IsReadable, IsUsable, KeepsFile, KeepsOthers, KeepsStore, SeesSame, HasSettledStore}
use Rattle.host_system.specs.FolderPast.{FolderPast, GoesOnBy, IfTold, PrintsOrSyncs}
use Rattle.host_system.specs.View.{HasWholeStore, clock_over, seen_now}
use Rattle.ras_host.specs.Blame.{AreReports}
use Rattle.ras_host.specs.JournalFiles.{AreHeld, AreRead, AreSound, IsOneSound, IsRead, IsReady, Moves, SettlesStore, part_of, with_part}
use Rattle.ras_host.specs.declared.journal.JournalFiles.{JournalFiles}
use Rattle.ras_host.specs.declared.journal.JournalFiles.TheVariants.{Open, Seen, Shut, Unread}
use Rattle.ras_host.specs.declared.reading.Pair.{Pair}
use Rattle.ras_host.specs.declared.reading.ReadFile.{ReadFile}

-- What a board sees of a call, by what it saw before and sees now.
abbrev pub SeesBy : (Left → Left → Type 0) → FolderPast → FolderPast → Type 0
SeesBy R old new = R (seen_now old) (seen_now new)

-- What holds if the system's call succeeded.
pub ok_or : {T E F : Type 0} (P : Type 0) (r : Result T E) (f : F) → OnOk r P → OnOk (result_or r (Err f)) P
ok_or P (Ok x) f is = is
ok_or P (Err e) f is = tt

settles_still : (f g : JournalFiles) (a b : Option FolderPast) → (IsOneSound g → IsOneSound f) → IfTold KeepsStore a b
    → IfTold (SettlesStore f g) a b
settles_still f g None b was keeps = keeps
settles_still f g (Some x) None was keeps = keeps
settles_still f g (Some x) (Some y) was keeps = λ is. inl (was is)

-- ---- files that are open

store_others : (file : FileNo) (a b : Option FolderPast) → IfTold (KeepsOthers file) a b → IfTold KeepsStore a b
store_others file None b keeps = keeps
store_others file (Some x) None keeps = keeps
store_others file (Some x) (Some y) keeps = record { same = keeps.same; settled = keeps.settled; whole = keeps.whole }

-- A call on one file.
pub moves_open : (file : FileNo) (R Step : Left → Left → Type 0) (f g : JournalFiles) (a b : Option FolderPast)
    → (IsOneSound g → IsOneSound f) → IfTold (SeesBy R) a b → IfTold (KeepsOthers file) a b
    → Passes Step (clock_over a) (clock_over b) → (AreReports f → IfTold (GoesOnBy PrintsOrSyncs) a b) → Moves (SeesBy R) Step f g a b
moves_open file R Step f g a b was sees keeps stops reading =
    record {
      sees = sees;
      store = store_others file a b keeps;
      settles = settles_still f g a b was (store_others file a b keeps);
      stops = stops;
      reading = reading;
    }

pub one_sound : (file : FileNo) (sound : Pair Bool) → IsTrue (part_of file sound) → IsTrue sound.zero ⊎ IsTrue sound.one
one_sound Zero sound is = inl is
one_sound One sound is = inr is

still_sound : (Is : FileNo → FolderPast → Type 0) (file : FileNo) (flag : Bool) (sound : Pair Bool) (x y : FolderPast)
    → ((other : FileNo) → KeepsFile other x y → Is other x → Is other y) → AreSound Is sound x → KeepsOthers file x y
    → (IsTrue flag → Is file y) → AreSound Is (with_part file flag sound) y
still_sound Is Zero flag sound x y stays held keeps now =
    record { zero = now; one = λ is. stays One keeps.other (held.one is) }
still_sound Is One flag sound x y stays held keeps now =
    record { zero = λ is. stays Zero keeps.other (held.zero is); one = now }

usable_kept : (x y : FolderPast) (file : FileNo) → KeepsFile file x y → IsUsable file x → IsUsable file y
usable_kept x y file keeps is = keeps.usable is

pub readable_kept : (x y : FolderPast) (file : FileNo) → KeepsFile file x y → IsReadable file x → IsReadable file y
readable_kept x y file keeps is = record { named = keeps.named is.named; openable = keeps.openable is.openable }

pub read_same : (files : Pair ReadFile) (x y : FolderPast) → SeesSame x y → AreRead files x → AreRead files y
read_same files x y same is = record {
  zero = subst (λ (l : Left). IsRead files.zero l.file0) (sym same) is.zero;
  one = subst (λ (l : Left). IsRead files.one l.file1) (sym same) is.one;
}

synced_open : (file : FileNo) (flag : Bool) (sound : Pair Bool) (a b : Option FolderPast)
    → IfSome a (AreHeld (Open sound)) → IfTold (KeepsOthers file) a b → (IsTrue flag → IfSome b (IsUsable file))
    → IfSome b (AreHeld (Open (with_part file flag sound)))
synced_open file flag sound None b held keeps now =
    subst (λ (o : Option FolderPast). IfSome o (AreHeld (Open (with_part file flag sound)))) (sym keeps) tt
synced_open file flag sound (Some x) None held keeps now = absurd keeps
synced_open file flag sound (Some x) (Some y) held keeps now =
    still_sound IsUsable file flag sound x y (usable_kept x y) held keeps now

synced_seen : (file : FileNo) (flag : Bool) (files : Pair ReadFile) (sound : Pair Bool) (a b : Option FolderPast)
    → IfSome a (AreHeld (Seen files sound)) → IfTold SeesSame a b → IfTold (KeepsOthers file) a b
    → (IsTrue flag → IfSome b (IsReadable file)) → IfSome b (AreHeld (Seen files (with_part file flag sound)))
synced_seen file flag files sound None b held sees keeps now =
    subst (λ (o : Option FolderPast). IfSome o (AreHeld (Seen files (with_part file flag sound)))) (sym keeps) tt
synced_seen file flag files sound (Some x) None held sees keeps now = absurd keeps
synced_seen file flag files sound (Some x) (Some y) held sees keeps now =
    record {
      read = read_same files x y sees held.read;
      readable = still_sound IsReadable file flag sound x y (readable_kept x y) held.readable keeps now;
    }

pub went_well : {T E : Type 0} (result : Result T E) (flag : Bool) (P : Type 0) → flag ≡ is_ok result → OnOk result P
    → IsTrue flag → P
went_well (Ok done) flag P value is well = is
went_well (Err e) flag P value is well = absurd (not_true (sym value ∙ well))
  where
    not_true : false ≡ true → ⊥
    not_true e = cc

pub sync_held : {T E : Type 0} (file : FileNo) (result : Result T E) (flag : Bool) (sound now : Pair Bool)
    (g : JournalFiles) (a b : Option FolderPast) → g ≡ Open sound → IfSome a (AreHeld g)
    → IfTold (KeepsOthers file) a b → OnOk result (IfSome b (IsUsable file)) → flag ≡ is_ok result
    → now ≡ with_part file flag sound → IfSome b (AreHeld (Open now))
sync_held file result flag sound now g a b is held keeps usable value set =
    subst (λ (s : Pair Bool). IfSome b (AreHeld (Open s))) (sym set)
    (synced_open file flag sound a b (subst (λ (f : JournalFiles). IfSome a (AreHeld f)) is held) keeps
    (went_well result flag (IfSome b (IsUsable file)) value usable))

pub seen_held : {T E : Type 0} (file : FileNo) (result : Result T E) (flag : Bool) (files : Pair ReadFile)
    (sound now : Pair Bool) (g : JournalFiles) (a b : Option FolderPast) → g ≡ Seen files sound → IfSome a (AreHeld g)
    → IfTold SeesSame a b → IfTold (KeepsOthers file) a b → OnOk result (IfSome b (IsReadable file))
    → flag ≡ is_ok result → now ≡ with_part file flag sound → IfSome b (AreHeld (Seen files now))
seen_held file result flag files sound now g a b is held sees keeps readable value set =
    subst (λ (s : Pair Bool). IfSome b (AreHeld (Seen files s))) (sym set)
    (synced_seen file flag files sound a b (subst (λ (f : JournalFiles). IfSome a (AreHeld f)) is held) sees keeps
    (went_well result flag (IfSome b (IsReadable file)) value readable))

same_part : (file : FileNo) (sound : Pair Bool) → with_part file (part_of file sound) sound ≡ sound
same_part Zero sound = refl
same_part One sound = refl

still_held : (file : FileNo) (sound : Pair Bool) (a b : Option FolderPast) → IfSome a (AreHeld (Open sound))
    → IfTold (KeepsOthers file) a b → IfSome b (IsUsable file) → IfSome b (AreHeld (Open sound))
still_held file sound None b held keeps now =
    subst (λ (o : Option FolderPast). IfSome o (AreHeld (Open sound))) (sym keeps) tt
still_held file sound (Some x) None held keeps now = absurd keeps
still_held file sound (Some x) (Some y) held keeps now =
    subst (λ (s : Pair Bool). AreHeld (Open s) y) (same_part file sound)
    (still_sound IsUsable file (part_of file sound) sound x y (usable_kept x y) held keeps (λ is. now))

-- ---- a file that is ready

pub ready_usable : (file : FileNo) (f : JournalFiles) (sound : Pair Bool) (told : Option FolderPast) → f ≡ Open sound → IfSome told (AreHeld f) → IsReady file f → IfSome told (IsUsable file)
ready_usable file f sound told is held ready =
    by told (subst (λ (j : JournalFiles). IfSome told (AreHeld j)) is held) (subst (IsReady file) is ready)
  where
    of_part : (file : FileNo) (p : FolderPast) → AreSound IsUsable sound p → IsTrue (part_of file sound) → IsUsable file p
    of_part Zero p held ready = held.zero ready
    of_part One p held ready = held.one ready

    by : (told : Option FolderPast) → IfSome told (AreSound IsUsable sound) → IsTrue (part_of file sound) → IfSome told (IsUsable file)
    by None held ready = tt
    by (Some p) held ready = of_part file p held ready

pub ready_sound : (file : FileNo) (f : JournalFiles) (sound : Pair Bool) → f ≡ Open sound → IsReady file f → IsOneSound f
ready_sound file f sound is ready = subst IsOneSound (sym is) (one_sound file sound (subst (IsReady file) is ready))

pub seen_readable : (file : FileNo) (f : JournalFiles) (files : Pair ReadFile) (sound : Pair Bool) (told : Option FolderPast) → f ≡ Seen files sound → IfSome told (AreHeld f) → IsTrue (part_of file sound)
    → IfSome told (IsReadable file)
seen_readable file f files sound told is held flag = by told (subst (λ (j : JournalFiles). IfSome told (AreHeld j)) is held)
  where
    of_part : (file : FileNo) (p : FolderPast) → AreSound IsReadable sound p → IsTrue (part_of file sound) → IsReadable file p
    of_part Zero p held flag = held.zero flag
    of_part One p held flag = held.one flag

    by : (told : Option FolderPast) → IfSome told (AreHeld (Seen files sound)) → IfSome told (IsReadable file)
    by None held = tt
    by (Some p) held = of_part file p held.readable flag

pub seen_sound : (file : FileNo) (f : JournalFiles) (files : Pair ReadFile) (sound : Pair Bool) → f ≡ Seen files sound → IsTrue (part_of file sound) → IsOneSound f
seen_sound file f files sound is flag = subst IsOneSound (sym is) (one_sound file sound flag)

-- A file is open if it is ready and wasn't read.
pub ready_open : (file : FileNo) (f : JournalFiles) (told : Option FolderPast) → IsReady file f → ((files : Pair ReadFile) (sound : Pair Bool) → f ≡ Seen files sound → ⊥) → IfSome told (AreHeld f) → IfSome told (IsUsable file)
ready_open file Shut told ready other held = absurd ready
ready_open file (Open sound) told ready other held = ready_usable file (Open sound) sound told refl held ready
ready_open file Unread told ready other held = absurd ready
ready_open file (Seen files sound) told ready other held = absurd (other files sound refl)

-- The files are held as before, after a write to one of them.
pub held_wrote : (file : FileNo) (f : JournalFiles) (a b : Option FolderPast) → IsReady file f → ((files : Pair ReadFile) (sound : Pair Bool) → f ≡ Seen files sound → ⊥) → IfSome a (AreHeld f) → IfTold (KeepsOthers file) a b
    → IfSome b (IsUsable file) → IfSome b (AreHeld f)
held_wrote file Shut a b ready other held keeps usable = absurd ready
held_wrote file (Open sound) a b ready other held keeps usable = still_held file sound a b held keeps usable
held_wrote file Unread a b ready other held keeps usable = absurd ready
held_wrote file (Seen files sound) a b ready other held keeps usable = absurd (other files sound refl)

-- ---- files are opened, or read

abbrev pub twice : Bool → Pair Bool
twice flag = record { zero = flag; one = flag }

is_flag : (flag : Bool) → IsTrue flag ⊎ IsTrue flag → IsTrue flag
is_flag flag (inl is) = is
is_flag flag (inr is) = is

settles_opened : {T E : Type 0} (result : Result T E) (flag : Bool) (f g : JournalFiles) (a b : Option FolderPast)
    → flag ≡ is_ok result → (IsOneSound g → IsTrue flag ⊎ IsTrue flag) → IfTold KeepsStore a b
    → OnOk result (IfSome b (λ p. HasWholeStore p → HasSettledStore p)) → IfTold (SettlesStore f g) a b
settles_opened result flag f g None b value sound keeps settled = keeps
settles_opened result flag f g (Some x) None value sound keeps settled = keeps
settles_opened result flag f g (Some x) (Some y) value sound keeps settled = λ is.
    inr (λ whole. went_well result flag (HasWholeStore y → HasSettledStore y) value settled (is_flag flag (sound is)) (keeps.whole whole))

on_ok_some : {T E : Type 0} (P Q : FolderPast → Type 0) (result : Result T E) (o : Option FolderPast) → OnOk result (IfSome o P)
    → ((p : FolderPast) → P p → Q p) → OnOk result (IfSome o Q)
on_ok_some P Q (Ok x) None holds so = tt
on_ok_some P Q (Ok x) (Some p) holds so = so p holds
on_ok_some P Q (Err e) o holds so = tt

pub opened_moves : {T E : Type 0} (result : Result T E) (flag : Bool) (sound : Pair Bool) (a b : Option FolderPast)
    → flag ≡ is_ok result → sound ≡ twice flag → IfTold SeesSame a b → IfTold KeepsStore a b
    → Passes Same (clock_over a) (clock_over b) → OnOk result (IfSome b AreOpened)
    → Moves SeesSame Same Shut (Open sound) a b
opened_moves result flag sound a b value is sees keeps stops opened = rw is (record {
  sees = sees;
  store = keeps;
  settles = settles_opened result flag Shut (Open (twice flag)) a b value (λ one. one) keeps
      (on_ok_some AreOpened (λ p. HasWholeStore p → HasSettledStore p) result b opened (λ p o. o.settled));
  stops = stops;
  reading = λ reports. absurd reports;
})

pub opened_held : {T E : Type 0} (result : Result T E) (flag : Bool) (sound : Pair Bool) (b : Option FolderPast)
    → flag ≡ is_ok result → sound ≡ twice flag → OnOk result (IfSome b AreOpened) → IfSome b (AreHeld (Open sound))
opened_held result flag sound None value is opened = tt
opened_held result flag sound (Some y) value is opened = rw is (record {
  zero = λ well. (went_well result flag (AreOpened y) value opened well).usable.zero;
  one = λ well. (went_well result flag (AreOpened y) value opened well).usable.one;
})

pub names_moves : {T E : Type 0} (result : Result T E) (flag : Bool) (files : Pair ReadFile) (sound : Pair Bool)
    (f : JournalFiles) (o a b : Option FolderPast) → f ≡ Unread → a ≡ o → flag ≡ is_ok result → sound ≡ twice flag
    → IfTold SeesSame a b → ((file : FileNo) → IfTold (KeepsOthers file) a b) → Passes Same (clock_over a) (clock_over b)
    → OnOk result (IfSome b AreNamed) → IfTold (GoesOnBy PrintsOrSyncs) a b → Moves SeesSame Same f (Seen files sound) o b
names_moves result flag files sound f o a b unread same value is sees keeps stops named goes =
    subst (λ (x : Option FolderPast). Moves SeesSame Same f (Seen files sound) x b) same
    (subst (λ (x : JournalFiles). Moves SeesSame Same x (Seen files sound) a b) (sym unread) (rw is (record {
      sees = sees;
      store = store_others Zero a b (keeps Zero);
      settles = settles_opened result flag Unread (Seen files (twice flag)) a b value (λ one. one)
          (store_others Zero a b (keeps Zero))
          (on_ok_some AreNamed (λ p. HasWholeStore p → HasSettledStore p) result b named (λ p n. n.settled));
      stops = stops;
      reading = λ reports. goes;
    })))

names_readable : {T E : Type 0} (result : Result T E) (flag : Bool) (files : Pair ReadFile) (sound : Pair Bool)
    (a b : Option FolderPast) → flag ≡ is_ok result → sound ≡ twice flag → IfSome a AreOpenable → IfSome a (AreRead files)
    → IfTold SeesSame a b → ((file : FileNo) → IfTold (KeepsOthers file) a b) → OnOk result (IfSome b AreNamed)
    → IfSome b (AreHeld (Seen files sound))
names_readable result flag files sound None b value is openable read sees keeps named =
    subst (λ (o : Option FolderPast). IfSome o (AreHeld (Seen files sound))) (sym sees) tt
names_readable result flag files sound (Some x) None value is openable read sees keeps named = absurd sees
names_readable result flag files sound (Some x) (Some y) value is openable read sees keeps named = rw is (record {
  read = read_same files x y sees read;
  readable = record {
    zero = λ well. record {
      named = (went_well result flag (AreNamed y) value named well).zero;
      openable = (keeps One).other.openable openable.zero;
    };
    one = λ well. record {
      named = (went_well result flag (AreNamed y) value named well).one;
      openable = (keeps Zero).other.openable openable.one;
    };
  };
})

pub names_held : {T E : Type 0} (result : Result T E) (flag : Bool) (files : Pair ReadFile) (sound : Pair Bool)
    (f : JournalFiles) (o a b : Option FolderPast) → f ≡ Unread → a ≡ o → flag ≡ is_ok result → sound ≡ twice flag
    → IfSome o (AreHeld f) → IfSome o (AreRead files) → IfTold SeesSame a b
    → ((file : FileNo) → IfTold (KeepsOthers file) a b) → OnOk result (IfSome b AreNamed)
    → IfSome b (AreHeld (Seen files sound))
names_held result flag files sound f o a b unread same value is held read sees keeps named =
    names_readable result flag files sound a b value is
    (subst (λ (x : Option FolderPast). IfSome x AreOpenable) (sym same)
    (subst (λ (x : JournalFiles). IfSome o (AreHeld x)) unread held))
    (subst (λ (x : Option FolderPast). IfSome x (AreRead files)) (sym same) read) sees keeps named

-- ---- what was read is the file's

part_read : (file : FileNo) (files : Pair ReadFile) (p : FolderPast) → AreRead files p
    → IsRead (part_of file files) (file_in file (seen_now p))
part_read Zero files p is = is.zero
part_read One files p is = is.one

pub file_read : (file : FileNo) (files : Pair ReadFile) (sound : Pair Bool) (g : JournalFiles) (read : ReadFile) (told : Option FolderPast) → g ≡ Seen files sound → read ≡ part_of file files → IfSome told (AreHeld g)
    → IfSome told (λ p. IsRead read (file_in file (seen_now p)))
file_read file files sound g read None is part held = tt
file_read file files sound g read (Some p) is part held =
    subst (λ (r : ReadFile). IsRead r (file_in file (seen_now p))) (sym part)
    (part_read file files p (subst (λ (f : JournalFiles). AreHeld f p) is held).read)

pub file_reads : {E : Type 0} (R : ℕ → List ℕ → Type 0) (result : Result ℕ E) (read : ReadFile) (file : FileNo)
    (a : Option FolderPast) → IfSome a (λ p. IsRead read (file_in file (seen_now p)))
    → IfOk result (λ n. (whole : List ℕ) → IsRead read whole → R n whole)
    → IfOk result (λ n. IfSome a (λ p. R n (file_in file (seen_now p))))
file_reads R (Ok n) read file None is reads = tt
file_reads R (Ok n) read file (Some p) is reads = reads (file_in file (seen_now p)) is
file_reads R (Err e) read file a is reads = tt

-- A report's file that is ready was read, and isn't written.
pub reading_unwritten : (file : FileNo) (files : JournalFiles) → IsReady file files → ((read : Pair ReadFile) (sound : Pair Bool) → files ≡ Seen read sound → ⊥) → AreReports files → ⊥
reading_unwritten file Shut ready not reports = reports
reading_unwritten file (Open sound) ready not reports = reports
reading_unwritten file Unread ready not reports = ready
reading_unwritten file (Seen read sound) ready not reports = not read sound refl
