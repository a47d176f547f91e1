-- Which of two files is current, and what becomes of the journal if the current file changes.
use Rattle.std.proofs.Common.{◌≡◌, ◌∙◌, ℕ, ◌≤◌, List, length, Option, None, Some, Result, Ok, Err, refl, sym, ap, subst, arith}
use Rattle.std.specs.Prelude.{Bool, true, false, nat_lt, ◌||◌, if◌then◌else◌}
use Rattle.std.specs.Option.{option_map}
use Rattle.std.proofs.lemmas.Bool.Decides.{nat_tests}
use Rattle.ras_base.specs.Chaining.{◌>>=◌}
use Rattle.board_core.specs.declared.board.FileNo.{FileNo}
use Rattle.board_core.specs.declared.board.FileNo.TheVariants.{Zero, One}
use Rattle.board_core.specs.Stop.{Left, file_in, with_file_in}
use Rattle.ras_account.specs.Account.{State}
use Rattle.ras_journal.specs.declared.limits.TheConstants.{LONGEST_FILE}
use Rattle.ras_journal.specs.declared.standing.Standing.{Standing}
use Rattle.ras_journal.specs.File.{FileFront, front_of, account_by}
use Rattle.ras_journal.specs.Recovered.{Refusal, too_long, in_file, JournalFile, greater, generation_in, is_file_too_long, journal_of, account_of_journal, recovered, standing_of, standing_in, position_of, Recovers, IsAt}
use Rattle.ras_journal.proofs.PartLemmas.{bind_ok, bind_of, same_ok}

in_file_ok : {A : Type 0} (file : FileNo) (r : Result A ℕ) (x : A) → in_file file r ≡ Ok x → r ≡ Ok x
in_file_ok {A} file (Ok y) x e = let same : y ≡ x = same_ok y x e in ap (λ (z : A). Ok z) same
in_file_ok file (Err place) x e = absurd cc

in_file_of : {A : Type 0} (file : FileNo) (r : Result A ℕ) (x : A) → r ≡ Ok x → in_file file r ≡ Ok x
in_file_of {A} file r x e = ap (λ (s : Result A ℕ). in_file file s) e

-- Two files are read.
pub record BothRead (file0 file1 : List ℕ) : Type 0 where
  pub zero : Option FileFront
  pub one : Option FileFront
  pub reads_zero : front_of None file0 ≡ Ok zero
  pub reads_one : front_of (generation_in zero) file1 ≡ Ok one
  pub short_zero : length file0 ≤ LONGEST_FILE
  pub short_one : length file1 ≤ LONGEST_FILE

pub both_whole : (file0 file1 : List ℕ) (both : BothRead file0 file1) → journal_of file0 file1 ≡ Ok (greater both.zero both.one)
unfolding journal_of
both_whole file0 file1 both =
    let short0 : length file0 ≤ LONGEST_FILE = both.short_zero in
    let short1 : length file1 ≤ LONGEST_FILE = both.short_one in
    let test0 : is_file_too_long file0 ≡ false = grind (arith, nat_tests) in
    let test1 : is_file_too_long file1 ≡ false = grind (arith, nat_tests) in
    rw test0 (rw test1 (bind_of _ _ _ (in_file_of Zero _ _ both.reads_zero) ∙ bind_of _ _ _ (in_file_of One _ _ both.reads_one)))

pub both_parts : (file0 file1 : List ℕ) (journal : Option JournalFile) → journal_of file0 file1 ≡ Ok journal → (both : BothRead file0 file1) × (greater both.zero both.one ≡ journal)
unfolding journal_of
both_parts file0 file1 journal e = by (is_file_too_long file0) refl (is_file_too_long file1) refl e
  where
    rest : Result (Option JournalFile) Refusal
    rest = in_file Zero (front_of None file0) >>= λ zero. in_file One (front_of (generation_in zero) file1) >>= λ one. Ok (greater zero one)

    by : (b : Bool) → is_file_too_long file0 ≡ b → (c : Bool) → is_file_too_long file1 ≡ c → ◌≡◌ {A = Result (Option JournalFile) Refusal} (if b || c then Err too_long else rest) (Ok journal)
        → (both : BothRead file0 file1) × (greater both.zero both.one ≡ journal)
    by true is c is1 e = absurd cc
    by false is true is1 e = absurd cc
    by false is false is1 e =
        let zero = bind_ok (in_file Zero (front_of None file0)) _ journal e in
        let one = bind_ok (in_file One (front_of (generation_in zero.0) file1)) _ journal zero.2 in
        let short0 : length file0 ≤ LONGEST_FILE = grind (arith, nat_tests) in
        let short1 : length file1 ≤ LONGEST_FILE = grind (arith, nat_tests) in (
          record {
            zero = zero.0;
            one = one.0;
            reads_zero = in_file_ok Zero _ _ zero.1;
            reads_one = in_file_ok One _ _ one.1;
            short_zero = short0;
            short_one = short1;
          },
          same_ok _ _ one.2,
        )

-- A file is current. If its bytes are replaced by others of the same generation, it is still current.
pub record Counts (file : FileNo) (front : FileFront) (left : Left) : Type 0 where
  pub taken : Option ℕ
  pub reads : front_of taken (file_in file left) ≡ Ok (Some front)
  pub short : length (file_in file left) ≤ LONGEST_FILE
  pub changed : (bytes : List ℕ) (next : FileFront) → length bytes ≤ LONGEST_FILE → front_of taken bytes ≡ Ok (Some next) → next.generation ≡ front.generation
      → journal_of (with_file_in file bytes left).file0 (with_file_in file bytes left).file1 ≡ Ok (Some (record { file = file; front = next }))

taken_alike : (one other : FileFront) → one.generation ≡ other.generation → (file : List ℕ) (x : Option FileFront) → front_of (generation_in (Some other)) file ≡ Ok x → front_of (generation_in (Some one)) file ≡ Ok x
taken_alike one other same file x e = ap (λ (n : ℕ). front_of (Some n) file) same ∙ e

zero_counts : (left : Left) (both : BothRead left.file0 left.file1) (front : FileFront) → both.zero ≡ Some front
    → ((next : FileFront) → next.generation ≡ front.generation → greater (Some next) both.one ≡ Some (record { file = Zero; front = next })) → Counts Zero front left
zero_counts left both front is wins = record {
  taken = None;
  reads = both.reads_zero ∙ ap (λ (f : Option FileFront). Ok f) is;
  short = both.short_zero;
  changed = λ bytes next short reads same.
      both_whole bytes left.file1 (record {
        zero = Some next;
        one = both.one;
        reads_zero = reads;
        reads_one = taken_alike next front same left.file1 both.one (ap (λ (f : Option FileFront). front_of (generation_in f) left.file1) (sym is) ∙ both.reads_one);
        short_zero = short;
        short_one = both.short_one;
      })
      ∙ ap (λ (j : Option JournalFile). Ok j) (wins next same);
}

one_counts : (left : Left) (both : BothRead left.file0 left.file1) (front : FileFront) → both.one ≡ Some front
    → ((next : FileFront) → next.generation ≡ front.generation → greater both.zero (Some next) ≡ Some (record { file = One; front = next })) → Counts One front left
one_counts left both front is wins = record {
  taken = generation_in both.zero;
  reads = both.reads_one ∙ ap (λ (f : Option FileFront). Ok f) is;
  short = both.short_one;
  changed = λ bytes next short reads same.
      both_whole left.file0 bytes (record {
        zero = both.zero;
        one = Some next;
        reads_zero = both.reads_zero;
        reads_one = reads;
        short_zero = both.short_zero;
        short_one = short;
      })
      ∙ ap (λ (j : Option JournalFile). Ok j) (wins next same);
}

pub counts : (left : Left) (journal : JournalFile) → journal_of left.file0 left.file1 ≡ Ok (Some journal) → Counts journal.file journal.front left
counts left journal e =
    let parts = both_parts left.file0 left.file1 (Some journal) e in
    by parts.0 parts.0.zero refl parts.0.one refl parts.1
  where
    as_journal : (made : JournalFile) → ◌≡◌ {A = Option JournalFile} (Some made) (Some journal) → Counts made.file made.front left → Counts journal.file journal.front left
    as_journal made same has = let is : made ≡ journal = cc in subst (λ (j : JournalFile). Counts j.file j.front left) is has

    which : (both : BothRead left.file0 left.file1) (zero one : FileFront) → both.zero ≡ Some zero → both.one ≡ Some one → (less : Bool) → nat_lt zero.generation one.generation ≡ less
        → ◌≡◌ {A = Option JournalFile} (if less then Some (record { file = One; front = one }) else Some (record { file = Zero; front = zero })) (Some journal) → Counts journal.file journal.front left
    which both zero one is_zero is_one true less e =
        as_journal (record { file = One; front = one }) e (one_counts left both one is_one (λ next same.
        let test : nat_lt zero.generation next.generation ≡ true = ap (λ (n : ℕ). nat_lt zero.generation n) same ∙ less in
        ap (λ (f : Option FileFront). greater f (Some next)) is_zero ∙ rw test refl))
    which both zero one is_zero is_one false less e =
        as_journal (record { file = Zero; front = zero }) e (zero_counts left both zero is_zero (λ next same.
        let test : nat_lt next.generation one.generation ≡ false = ap (λ (n : ℕ). nat_lt n one.generation) same ∙ less in
        ap (λ (f : Option FileFront). greater (Some next) f) is_one ∙ rw test refl))

    by : (both : BothRead left.file0 left.file1) (zero : Option FileFront) → both.zero ≡ zero → (one : Option FileFront) → both.one ≡ one → greater both.zero both.one ≡ Some journal → Counts journal.file journal.front left
    by both None is_zero None is_one e = absurd (no_journal (sym (ap (λ (f : Option FileFront). greater f both.one) is_zero ∙ ap (λ (f : Option FileFront). greater None f) is_one) ∙ e))
      where
        no_journal : ◌≡◌ {A = Option JournalFile} None (Some journal) → ⊥
        no_journal e = cc
    by both (Some zero) is_zero None is_one e =
        as_journal (record { file = Zero; front = zero }) (sym (ap (λ (f : Option FileFront). greater f both.one) is_zero ∙ ap (λ (f : Option FileFront). greater (Some zero) f) is_one) ∙ e)
        (zero_counts left both zero is_zero (λ next same. ap (λ (f : Option FileFront). greater (Some next) f) is_one))
    by both None is_zero (Some one) is_one e =
        as_journal (record { file = One; front = one }) (sym (ap (λ (f : Option FileFront). greater f both.one) is_zero ∙ ap (λ (f : Option FileFront). greater None f) is_one) ∙ e)
        (one_counts left both one is_one (λ next same. ap (λ (f : Option FileFront). greater f (Some next)) is_zero))
    by both (Some zero) is_zero (Some one) is_one e =
        which both zero one is_zero is_one (nat_lt zero.generation one.generation) refl (sym (ap (λ (f : Option FileFront). greater f both.one) is_zero ∙ ap (λ (f : Option FileFront). greater (Some zero) f) is_one) ∙ e)

-- ---- the account, and where the journal stands

pub recovers_of : (left : Left) (journal : JournalFile) (account : State) → journal_of left.file0 left.file1 ≡ Ok (Some journal) → account_by journal.front.version journal.front.account ≡ account → Recovers account left
unfolding recovered
recovers_of left journal account e is = record {
  is = bind_of (journal_of left.file0 left.file1) _ _ e ∙ ap (λ (a : State). Ok a) is;
}

pub at_of : (left : Left) (journal : JournalFile) (standing : Standing) (account : State) → journal_of left.file0 left.file1 ≡ Ok (Some journal)
    → standing_of left.file0 left.file1 journal ≡ standing → account_by journal.front.version journal.front.account ≡ account → IsAt standing account left
unfolding position_of
at_of left journal standing account e stands is = record {
  recovers = (recovers_of left journal account e is).is;
  position = ap (λ (r : Result (Option JournalFile) Refusal). standing_in left.file0 left.file1 r) e ∙ ap (λ (s : Standing). Some s) stands;
}

-- The journal is at this position in these files.
pub record Here (standing : Standing) (account : State) (left : Left) : Type 0 where
  pub front : FileFront
  pub counts : Counts standing.file front left
  pub standing_is : standing_of left.file0 left.file1 (record { file = standing.file; front = front }) ≡ standing
  pub account_is : account_by front.version front.account ≡ account

pub here_of : (standing : Standing) (account : State) (left : Left) → IsAt standing account left → Here standing account left
unfolding recovered position_of
here_of standing account left at =
    let found = bind_ok (journal_of left.file0 left.file1) _ account at.recovers in
    by found.0 found.1 (same_ok _ _ found.2) (sym (ap (λ (r : Result (Option JournalFile) Refusal). standing_in left.file0 left.file1 r) found.1) ∙ at.position)
  where
    by : (journal : Option JournalFile) → journal_of left.file0 left.file1 ≡ Ok journal → account_of_journal journal ≡ account → option_map (standing_of left.file0 left.file1) journal ≡ Some standing → Here standing account left
    by None e is position = absurd cc
    by (Some journal) e is position =
        let stands : standing_of left.file0 left.file1 journal ≡ standing = cc in
        let file : journal.file ≡ standing.file = ap (λ (s : Standing). s.file) stands in
        record {
          front = journal.front;
          counts = subst (λ (f : FileNo). Counts f journal.front left) file (counts left journal e);
          standing_is = subst (λ (f : FileNo). standing_of left.file0 left.file1 (record { file = f; front = journal.front }) ≡ standing) file stands;
          account_is = is;
        }
