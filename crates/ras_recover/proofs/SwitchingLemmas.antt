-- What a crash leaves while the journal is switched, and the journal's position afterwards.
use Rattle.std.proofs.Common.{◌≡◌, ◌∙◌, ℕ, ◌+◌, ◌≤◌, ◌<◌, ◌⊎◌, List, [], ◌∷◌, ◌++◌, length, Option, None, Some, Ok, Err, refl, sym, ap, subst, arith, inl, inr, length-append}
use Rattle.std.specs.Prelude.{Bool, true, false, nat_lt, if◌then◌else◌}
use Rattle.std.proofs.lemmas.Bool.Decides.{nat_tests}
use Rattle.ras_base.specs.LittleEndian.{u64_bytes}
use Rattle.ras_base.specs.Steps.LittleEndianLemmas.{length-u64_bytes}
use Rattle.board_core.specs.declared.board.FileNo.{FileNo}
use Rattle.board_core.specs.declared.board.FileNo.TheVariants.{Zero, One}
use Rattle.board_core.specs.Doing.{Moment, gave_up}
use Rattle.board_core.specs.Steps.ClockLemmas.{file_in-with}
use Rattle.board_core.specs.Stop.{Left, InFile, file_in, with_file_in}
use Rattle.board_core.specs.Told.{Told}
use Rattle.ras_account.specs.Account.{State}
use Rattle.entry_format.specs.declared.version.Version.TheVariants.{Two}
use Rattle.journal_format.specs.Checkpoints.{checkpoint_bytes, IsCheckpoint}
use Rattle.ras_journal.specs.declared.limits.TheConstants.{LONGEST_FILE, LAST_GENERATION}
use Rattle.ras_journal.specs.declared.standing.Standing.{Standing}
use Rattle.ras_journal.specs.Fields.{is_taken}
use Rattle.ras_journal.specs.File.{FileFront, has_open_gate, front_of, account_by}
use Rattle.ras_journal.specs.Recovered.{JournalFile, greater, generation_in, journal_of, other, other_of, is_shut, Recovers, IsAt}
use Rattle.ras_journal.specs.Laws.{CanBegin, begun_front}
use Rattle.ras_journal.specs.View.{JournalView}
use Rattle.ras_journal.proofs.FrontLemmas.{front_parts}
use Rattle.ras_journal.proofs.JournalLemmas.{both_whole, both_parts, here_of, recovers_of, at_of}
use Rattle.ras_journal.proofs.SwitchLemmas.{taken_for_other, greater_with, other_changed}
use Rattle.ras_recover.specs.declared.refused.SwitchRefused.{SwitchRefused}
use Rattle.ras_recover.specs.declared.refused.SwitchRefused.TheVariants.{Full, Disk, NoMemory}
use Rattle.ras_recover.specs.Switching.{CanSwitch, IsFullBy, MovesOver, Switching, after_switch, next_bytes, switch_acts, switch_refused_end, switched}
use Rattle.ras_recover.proofs.FormattingLemmas.{Formatting, formatted, formatted_reads, formatted_short, formatted_told, formatting_reads, formatting_short, moment_formats}

-- ---- the other file is read as before

same_some : {A : Type 0} (x y : A) → ◌≡◌ {A = Option A} (Some x) (Some y) → x ≡ y
same_some x y e = cc

same_zero : (zero front : FileFront) → ◌≡◌ {A = Option JournalFile} (Some (record { file = Zero; front = zero })) (Some (record { file = Zero; front = front })) → ◌≡◌ {A = Option FileFront} (Some zero) (Some front)
same_zero zero front e =
    ap (λ (j : JournalFile). Some j.front) (same_some (record { file = Zero; front = zero }) (record { file = Zero; front = front }) e)

one_is_zero : (one front : FileFront) → ◌≡◌ {A = Option JournalFile} (Some (record { file = One; front = one })) (Some (record { file = Zero; front = front })) → ⊥
one_is_zero one front e =
    not_one (ap (λ (j : JournalFile). j.file) (same_some (record { file = One; front = one }) (record { file = Zero; front = front }) e))
  where
    not_one : ◌≡◌ {A = FileNo} One Zero → ⊥
    not_one e = cc

as_zero : (zero one : Option FileFront) (front : FileFront) → greater zero one ≡ Some (record { file = Zero; front = front }) → zero ≡ Some front
as_zero None None front e = absurd (none e)
  where
    none : ◌≡◌ {A = Option JournalFile} None (Some (record { file = Zero; front = front })) → ⊥
    none e = cc
as_zero (Some zero) None front e = same_zero zero front e
as_zero None (Some one) front e = absurd (one_is_zero one front e)
as_zero (Some zero) (Some one) front e = which (nat_lt zero.generation one.generation) e
  where
    which : (less : Bool) → ◌≡◌ {A = Option JournalFile} (if less then Some (record { file = One; front = one }) else Some (record { file = Zero; front = zero })) (Some (record { file = Zero; front = front })) → ◌≡◌ {A = Option FileFront} (Some zero) (Some front)
    which true e = absurd (one_is_zero one front e)
    which false e = same_zero zero front e

-- The current file is unchanged, if the other file is read as before.
other_as_before : (file : FileNo) (left : Left) (front : FileFront) → journal_of left.file0 left.file1 ≡ Ok (Some (record { file = file; front = front })) → (bytes : List ℕ) → length bytes ≤ LONGEST_FILE
    → front_of (taken_for_other file front) bytes ≡ front_of (taken_for_other file front) (file_in (other file) left)
    → journal_of (with_file_in (other file) bytes left).file0 (with_file_in (other file) bytes left).file1 ≡ Ok (Some (record { file = file; front = front }))
other_as_before Zero left front e bytes short same =
    let parts = both_parts left.file0 left.file1 (Some (record { file = Zero; front = front })) e in
    let both = parts.0 in
    let is_zero = as_zero both.zero both.one front parts.1 in
    both_whole left.file0 bytes (record {
      zero = both.zero;
      one = both.one;
      reads_zero = both.reads_zero;
      reads_one = ap (λ (f : Option FileFront). front_of (generation_in f) bytes) is_zero
          ∙ (same ∙ (ap (λ (f : Option FileFront). front_of (generation_in f) left.file1) (sym is_zero) ∙ both.reads_one));
      short_zero = both.short_zero;
      short_one = short;
    })
    ∙ ap (λ (j : Option JournalFile). Ok j) parts.1
other_as_before One left front e bytes short same =
    let parts = both_parts left.file0 left.file1 (Some (record { file = One; front = front })) e in
    let both = parts.0 in
    both_whole bytes left.file1 (record {
      zero = both.zero;
      one = both.one;
      reads_zero = same ∙ both.reads_zero;
      reads_one = both.reads_one;
      short_zero = short;
      short_one = both.short_one;
    })
    ∙ ap (λ (j : Option JournalFile). Ok j) parts.1

-- ---- a journal that can be switched

file_here : (file : FileNo) (left : Left) → with_file_in file (file_in file left) left ≡ left
file_here Zero left = refl
file_here One left = refl

other_bytes : (file : FileNo) (left : Left) → other_of file left.file0 left.file1 ≡ file_in (other file) left
other_bytes Zero left = refl
other_bytes One left = refl

other_short : (file : FileNo) (left : Left) (journal : Option JournalFile) → journal_of left.file0 left.file1 ≡ Ok journal → length (file_in (other file) left) ≤ LONGEST_FILE
other_short Zero left journal e = (both_parts left.file0 left.file1 journal e).0.short_one
other_short One left journal e = (both_parts left.file0 left.file1 journal e).0.short_zero

pub record Ready (standing : Standing) (account : State) (here : Left) : Type 0 where
  pub front : FileFront
  pub journal : journal_of here.file0 here.file1 ≡ Ok (Some (record { file = standing.file; front = front }))
  pub stands : has_open_gate (file_in standing.file here) ≡ true
  pub generation : front.generation ≡ standing.generation
  pub shut : standing.shut ≡ is_shut (file_in (other standing.file) here)
  pub short : length (file_in (other standing.file) here) ≤ LONGEST_FILE
  pub account_is : account_by front.version front.account ≡ account
  pub can : CanBegin (taken_for_other standing.file front) Two (standing.generation + 1) (checkpoint_bytes Two account) account

is_free : (file : FileNo) (front : FileFront) (generation : ℕ) → front.generation ≡ generation → is_taken (taken_for_other file front) (generation + 1) ≡ false
is_free Zero front generation is = grind (arith, nat_tests)
is_free One front generation is = refl

pub ready : (standing : Standing) (account : State) (here : Left) → IsAt standing account here → CanSwitch standing account → Ready standing account here
ready standing account here at can =
    let h = here_of standing account here at in
    let journal : journal_of here.file0 here.file1 ≡ Ok (Some (record { file = standing.file; front = h.front })) =
    subst (λ (l : Left). journal_of l.file0 l.file1 ≡ Ok (Some (record { file = standing.file; front = h.front }))) (file_here standing.file here)
    (h.counts.changed (file_in standing.file here) h.front h.counts.short h.counts.reads refl) in
    let generation : h.front.generation ≡ standing.generation = ap (λ (s : Standing). s.generation) h.standing_is in
    let last : standing.generation < LAST_GENERATION = can.generation in
    let room : 27 + length (checkpoint_bytes Two account) ≤ LONGEST_FILE = can.room in
    record {
      front = h.front;
      journal = journal;
      stands = (front_parts h.counts.taken (file_in standing.file here) h.front h.counts.reads).open_gate;
      generation = generation;
      shut = sym (ap (λ (s : Standing). s.shut) h.standing_is) ∙ ap is_shut (other_bytes standing.file here);
      short = other_short standing.file here (Some (record { file = standing.file; front = h.front })) journal;
      account_is = h.account_is;
      can = record {
        first = omega arith;
        last = omega arith;
        free = is_free standing.file h.front standing.generation generation;
        size = omega arith;
        is = can.is;
      };
    }

bytes_length : (standing : Standing) (account : State) → length (next_bytes standing account) ≡ 25 + length (checkpoint_bytes Two account)
bytes_length standing account =
    let g = u64_bytes (standing.generation + 1) in
    let c = checkpoint_bytes Two account in
    let n = u64_bytes (length c) in
    omega (arith, length-u64_bytes (standing.generation + 1), length-u64_bytes (length c), length-append g (n ++ c), length-append n c, length-append (g ++ (n ++ c)) (0 ∷ []))

-- ---- at any point

new_counts : (file : FileNo) (front next : FileFront) → front.generation < next.generation → greater_with file front (Some next) ≡ Some (record { file = other file; front = next })
new_counts Zero front next less = let test : nat_lt front.generation next.generation ≡ true = grind (arith, nat_tests) in rw test refl
new_counts One front next less = let test : nat_lt next.generation front.generation ≡ false = grind (arith, nat_tests) in rw test refl

old_counts : (file : FileNo) (front : FileFront) → greater_with file front None ≡ Some (record { file = file; front = front })
old_counts Zero front = refl
old_counts One front = refl

is_apart : (standing : Standing) (account : State) (front : FileFront) → front.generation ≡ standing.generation → is_taken (generation_in (Some (begun_front Two (standing.generation + 1) (checkpoint_bytes Two account) account))) front.generation ≡ false
is_apart standing account front is = grind (arith, nat_tests)

-- The other file is valid with the new generation, and is the current file.
next_counts : (standing : Standing) (account : State) (here : Left) (r : Ready standing account here) (bytes : List ℕ) → length bytes ≤ LONGEST_FILE
    → front_of (taken_for_other standing.file r.front) bytes ≡ Ok (Some (begun_front Two (standing.generation + 1) (checkpoint_bytes Two account) account))
    → journal_of (with_file_in (other standing.file) bytes here).file0 (with_file_in (other standing.file) bytes here).file1
    ≡ Ok (Some (record { file = other standing.file; front = begun_front Two (standing.generation + 1) (checkpoint_bytes Two account) account }))
next_counts standing account here r bytes short reads =
    let next = begun_front Two (standing.generation + 1) (checkpoint_bytes Two account) account in
    let is : r.front.generation ≡ standing.generation = r.generation in
    other_changed standing.file here r.front r.journal bytes short (Some next) reads (is_apart standing account r.front is)
    ∙ ap (λ (j : Option JournalFile). Ok j) (new_counts standing.file r.front next (omega arith))

recovers_still : (standing : Standing) (account : State) (here : Left) (r : Ready standing account here) (bytes : List ℕ) → length bytes ≤ LONGEST_FILE
    → (front_of (taken_for_other standing.file r.front) bytes ≡ front_of (taken_for_other standing.file r.front) (file_in (other standing.file) here))
    ⊎ ((front_of (taken_for_other standing.file r.front) bytes ≡ Ok None)
    ⊎ (front_of (taken_for_other standing.file r.front) bytes ≡ Ok (Some (begun_front Two (standing.generation + 1) (checkpoint_bytes Two account) account))))
    → Recovers account (with_file_in (other standing.file) bytes here)
recovers_still standing account here r bytes short (inl same) =
    recovers_of (with_file_in (other standing.file) bytes here) (record { file = standing.file; front = r.front }) account (other_as_before standing.file here r.front r.journal bytes short same) r.account_is
recovers_still standing account here r bytes short (inr (inl absent)) =
    recovers_of (with_file_in (other standing.file) bytes here) (record { file = standing.file; front = r.front }) account
    (other_changed standing.file here r.front r.journal bytes short None absent refl ∙ ap (λ (j : Option JournalFile). Ok j) (old_counts standing.file r.front)) r.account_is
recovers_still standing account here r bytes short (inr (inr reads)) =
    recovers_of (with_file_in (other standing.file) bytes here) (record { file = other standing.file; front = begun_front Two (standing.generation + 1) (checkpoint_bytes Two account) account }) account
    (next_counts standing account here r bytes short reads) refl

switching_moment : (standing : Standing) (account : State) (here left : Left) → Ready standing account here → 27 + length (checkpoint_bytes Two account) ≤ LONGEST_FILE
    → InFile (other standing.file) (Formatting standing.shut (next_bytes standing account)) here left → Switching standing account here left
switching_moment standing account here left r room by =
    let file = other standing.file in
    let base = file_in file here in
    let bytes_are : by.bytes ≡ file_in file left = sym (ap (λ (l : Left). file_in file l) by.rest ∙ file_in-with file by.bytes here) in
    let short : length by.bytes ≤ LONGEST_FILE =
    formatting_short standing.shut (next_bytes standing account) base by.bytes r.shut r.short (omega (arith, bytes_length standing account)) by.step in
    record {
      recovers = subst (λ (l : Left). Recovers account l) (sym by.rest) (recovers_still standing account here r by.bytes short
          (formatting_reads (taken_for_other standing.file r.front) standing.shut base by.bytes (standing.generation + 1) (checkpoint_bytes Two account) account r.shut r.can by.step));
      rest = by.rest ∙ ap (λ (l : List ℕ). with_file_in file l here) bytes_are;
    }

-- ---- after the switch

pub switched_told : (standing : Standing) (account : State) (t : Told)
    → (after_switch standing account t).here ≡ with_file_in (other standing.file) (formatted standing.shut (next_bytes standing account) (file_in (other standing.file) t.here)) t.here
switched_told standing account t = formatted_told (other standing.file) standing.shut (next_bytes standing account) t

open_is_not_shut : (file : List ℕ) → has_open_gate file ≡ true → is_shut file ≡ false
open_is_not_shut file open_gate = grind (arith, nat_tests)

other_other : (file : FileNo) (bytes : List ℕ) (left : Left) → other_of (other file) (with_file_in (other file) bytes left).file0 (with_file_in (other file) bytes left).file1 ≡ file_in file left
other_other Zero bytes left = refl
other_other One bytes left = refl

at_switched : (standing : Standing) (account : State) (here : Left) → Ready standing account here → 27 + length (checkpoint_bytes Two account) ≤ LONGEST_FILE
    → IsAt (switched standing account) account (with_file_in (other standing.file) (formatted standing.shut (next_bytes standing account) (file_in (other standing.file) here)) here)
at_switched standing account here r room =
    let file = other standing.file in
    let base = file_in file here in
    let bytes = formatted standing.shut (next_bytes standing account) base in
    let next = begun_front Two (standing.generation + 1) (checkpoint_bytes Two account) account in
    let short : length bytes ≤ LONGEST_FILE = formatted_short standing.shut (next_bytes standing account) base r.shut r.short (omega (arith, bytes_length standing account)) in
    let left = with_file_in file bytes here in
    let not_shut : is_shut (other_of file left.file0 left.file1) ≡ false = ap is_shut (other_other standing.file bytes here) ∙ open_is_not_shut (file_in standing.file here) r.stands in
    at_of left (record { file = file; front = next }) (switched standing account) account
    (next_counts standing account here r bytes short (formatted_reads (taken_for_other standing.file r.front) standing.shut base (standing.generation + 1) (checkpoint_bytes Two account) account r.shut r.can))
    (ap (λ (shut : Bool). record { file = file; version = Two; generation = standing.generation + 1; length = 25 + length (checkpoint_bytes Two account); links = 0; shut = shut }) not_shut)
    refl

-- ---- what a switch leads to

pub switch_leaves : (standing : Standing) (account : State) (t : Told) (left : Left) → CanSwitch standing account → IsAt standing account t.here → Moment (switch_acts standing account) t left → Switching standing account t.here left
switch_leaves standing account t left can at moment =
    switching_moment standing account t.here left (ready standing account t.here at can) can.room
    (moment_formats (other standing.file) standing.shut (next_bytes standing account) t left moment)

pub switch_ends : (standing : Standing) (account : State) (t : Told) → CanSwitch standing account → IsAt standing account t.here → IsAt (switched standing account) account (after_switch standing account t).here
switch_ends standing account t can at =
    subst (λ (l : Left). IsAt (switched standing account) account l) (sym (switched_told standing account t)) (at_switched standing account t.here (ready standing account t.here at can) can.room)

-- ---- for the function

-- The file, whether it is shut, and the bytes written to it are those of the switch.
pub record IsSwitch (standing : Standing) (account : State) (file : FileNo) (shut : Bool) (bytes : List ℕ) : Type 0 where
  pub file_is : file ≡ other standing.file
  pub shut_is : shut ≡ standing.shut
  pub bytes_are : bytes ≡ next_bytes standing account

pub as_switch : (P : FileNo → Bool → List ℕ → Type 0) (standing : Standing) (account : State) (file : FileNo) (shut : Bool) (bytes : List ℕ) → IsSwitch standing account file shut bytes
    → P file shut bytes → P (other standing.file) standing.shut (next_bytes standing account)
as_switch P standing account file shut bytes is has =
    subst (λ (f : FileNo). P f standing.shut (next_bytes standing account)) is.file_is
    (subst (λ (s : Bool). P file s (next_bytes standing account)) is.shut_is (subst (λ (b : List ℕ). P file shut b) is.bytes_are has))

pub can_switch : (standing next : Standing) (account : State) → next ≡ switched standing account → standing.generation < LAST_GENERATION → next.length + 2 ≤ LONGEST_FILE → IsCheckpoint Two account (checkpoint_bytes Two account) → CanSwitch standing account
can_switch standing next account is generation fits checkpoint =
    let long : next.length ≡ 25 + length (checkpoint_bytes Two account) = ap (λ (s : Standing). s.length) is in
    record { generation = generation; room = omega arith; is = checkpoint }

-- The other file wasn't written, because there was no room or no memory.
pub full_as : (S T : Type 0) (why : SwitchRefused) (lacks : Bool) → IsFullBy {T = S} (Err why) lacks → IsFullBy {T = T} (Err why) lacks
full_as S T Full lacks full = full
full_as S T Disk lacks full = full
full_as S T NoMemory lacks full = full

pub unmoved : (why : SwitchRefused) (next : Standing) (journal : JournalView) → switch_refused_end why ≡ gave_up → MovesOver (Err why) next journal journal
unmoved Full next journal early = refl
unmoved Disk next journal early = absurd cc
unmoved NoMemory next journal early = refl
