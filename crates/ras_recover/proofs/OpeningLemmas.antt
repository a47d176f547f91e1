-- What a crash leaves while file 0 is formatted, because no file is valid.
use Rattle.std.proofs.Common.{◌≡◌, ◌∙◌, ℕ, ◌+◌, ◌-◌, ◌≤◌, ◌⊎◌, ◌^◌, min, List, [], ◌∷◌, ◌++◌, length, length-append, Option, None, Some, Result, Ok, Err, refl, sym, ap, subst, arith, inl, inr}
use Rattle.std.specs.Prelude.{Bool, true, false, if◌then◌else◌, nat_lt, IfSome, unwrap_or}
use Rattle.std.specs.Option.{option_map}
use Rattle.ras_base.specs.Chaining.{◌>>=◌}
use Rattle.ras_base.specs.LittleEndian.{u64_bytes}
use Rattle.ras_base.specs.Steps.LittleEndianLemmas.{length-u64_bytes}
use Rattle.board_core.specs.declared.board.FileNo.TheVariants.{Zero, One}
use Rattle.board_core.specs.Clock.{Clock, LeftNow, Adds, Rests}
use Rattle.board_core.specs.Steps.ClockLemmas.{adds_weaker, adds_both, adds_none}
use Rattle.board_core.specs.Doing.{Act, Does, Ended, GoesWell, IsMade, Moment, Seen, after_acts, broke, gave_up, went_well}
use Rattle.board_core.specs.Stop.{Left, with_file_in}
use Rattle.board_core.specs.Told.{Told}
use Rattle.ras_account.specs.History.{empty}
use Rattle.ras_account.specs.Account.{State, account_of}
use Rattle.entry_format.specs.declared.version.Version.TheVariants.{Two}
use Rattle.journal_format.specs.Checkpoints.{checkpoint_bytes, front_bytes, end_bytes, IsCheckpoint}
use Rattle.entry_format.specs.Spelling.{limit_bytes}
use Rattle.ras_journal.specs.declared.limits.TheConstants.{LONGEST_FILE}
use Rattle.ras_journal.specs.declared.standing.Standing.{Standing}
use Rattle.ras_journal.specs.File.{FileFront, has_open_gate, first_front, whole_front, front_of}
use Rattle.ras_journal.specs.Recovered.{HasFewLinks, Refusal, damaged, too_long, JournalFile, greater, generation_in, journal_of, account_of_journal, recovered, standing_of, standing_in, position_of, is_shut, Recovers, IsAt}
use Rattle.ras_journal.specs.Laws.{CanBegin, begun_front}
use Rattle.ras_journal.proofs.PartLemmas.{bind_ok, same_ok}
use Rattle.ras_journal.proofs.FewLemmas.{few_absent}
use Rattle.ras_journal.proofs.FormattingLemmas.{absent}
use Rattle.ras_journal.proofs.JournalLemmas.{both_whole, both_parts, recovers_of, at_of}
use Rattle.ras_journal.proofs.PairLemmas.{none_stands}
use Rattle.ras_recover.specs.Formatting.{behind_gate, formatting_acts}
use Rattle.ras_recover.specs.Steps.Looking.{standing_begun}
use Rattle.ras_recover.specs.Opening.{FormatsFirst, Opening, HoldsNone, IsOpened, OnRefusal, acts_behind, first_standing, opening_acts, standing_opened}
use Rattle.ras_recover.specs.Recovering.{KeepsTold, RefusesHeld, RestsHere, UnlessDisk}
use Rattle.ras_recover.specs.declared.refused.OpenRefused.{OpenRefused}
use Rattle.ras_recover.specs.declared.refused.OpenRefused.TheVariants as opening
use Rattle.ras_recover.proofs.FewLemmas.{formatting_few}
use Rattle.ras_recover.proofs.KeepingLemmas.{still}
use Rattle.ras_recover.proofs.FormattingLemmas.{formatted, formatted_reads, formatted_short, formatted_told, formatting_reads, formatting_short, moment_formats}

-- A file without a front isn't valid.
not_standing : (taken : Option ℕ) (file : List ℕ) → front_of taken file ≡ Ok None → has_open_gate file ≡ false
unfolding front_of
not_standing taken file e = by (has_open_gate file) refl e
  where
    on : Bool → Result (Option FileFront) ℕ
    on b = if b then (first_front taken file >>= λ first. whole_front (length file) first file >>= λ w. Ok (Some w)) else Ok None

    by : (b : Bool) → has_open_gate file ≡ b → on b ≡ Ok None → has_open_gate file ≡ false
    by false is e = is
    by true is e =
        let f = bind_ok (first_front taken file) _ None e in
        let w = bind_ok (whole_front (length file) f.0 file) _ None f.2 in
        absurd (no_front w.0 w.2)
      where
        no_front : (one : FileFront) → ◌≡◌ {A = Result (Option FileFront) ℕ} (Ok (Some one)) (Ok None) → ⊥
        no_front one same = cc

pub record NoneStands (account : State) (here : Left) : Type 0 where
  pub zero : has_open_gate here.file0 ≡ false
  pub one : has_open_gate here.file1 ≡ false
  pub short_zero : length here.file0 ≤ LONGEST_FILE
  pub short_one : length here.file1 ≤ LONGEST_FILE
  pub account_is : account ≡ account_of empty

both_none : (zero one : Option FileFront) → greater zero one ≡ None → (zero ≡ None) × (one ≡ None)
both_none None None e = (refl, refl)
both_none (Some zero) None e = absurd cc
both_none None (Some one) e = absurd cc
both_none (Some zero) (Some one) e = absurd (by (nat_lt zero.generation one.generation) e)
  where
    by : (less : Bool) → ◌≡◌ {A = Option JournalFile} (if less then Some (record { file = One; front = one }) else Some (record { file = Zero; front = zero })) None → ⊥
    by true e = cc
    by false e = cc

pub none_of : (account : State) (here : Left) → recovered here.file0 here.file1 ≡ Ok account → position_of here.file0 here.file1 ≡ None → NoneStands account here
unfolding recovered position_of
none_of account here is none =
    let found = bind_ok (journal_of here.file0 here.file1) _ account is in
    by found.0 found.1 (same_ok _ _ found.2) (sym (ap (λ (r : Result (Option JournalFile) Refusal). standing_in here.file0 here.file1 r) found.1) ∙ none)
  where
    by : (journal : Option JournalFile) → journal_of here.file0 here.file1 ≡ Ok journal → account_of_journal journal ≡ account → option_map (standing_of here.file0 here.file1) journal ≡ None → NoneStands account here
    by (Some journal) e is none = absurd cc
    by None e is none =
        let parts = both_parts here.file0 here.file1 None e in
        let nones = both_none parts.0.zero parts.0.one parts.1 in
        record {
          zero = not_standing None here.file0 (parts.0.reads_zero ∙ ap (λ (f : Option FileFront). Ok f) nones.0);
          one = not_standing (generation_in parts.0.zero) here.file1 (parts.0.reads_one ∙ ap (λ (f : Option FileFront). Ok f) nones.1);
          short_zero = parts.0.short_zero;
          short_one = parts.0.short_one;
          account_is = sym is;
        }

pub record CanFormat (account : State) (checkpoint : List ℕ) : Type 0 where
  pub room : 26 + length checkpoint ≤ LONGEST_FILE
  pub is : IsCheckpoint Two account checkpoint

pub begins : (account : State) (checkpoint : List ℕ) → CanFormat account checkpoint → CanBegin None Two 1 checkpoint account
begins account checkpoint can = record { first = omega arith; last = omega arith; free = refl; size = (let room : 26 + length checkpoint ≤ LONGEST_FILE = can.room in omega arith); is = can.is }

first_counts : (account : State) (checkpoint : List ℕ) (here : Left) → NoneStands account here → (bytes : List ℕ) → length bytes ≤ LONGEST_FILE → front_of None bytes ≡ Ok (Some (begun_front Two 1 checkpoint account))
    → journal_of bytes here.file1 ≡ Ok (Some (record { file = Zero; front = begun_front Two 1 checkpoint account }))
first_counts account checkpoint here none bytes short reads =
    both_whole bytes here.file1 (record {
      zero = Some (begun_front Two 1 checkpoint account);
      one = None;
      reads_zero = reads;
      reads_one = absent (Some 1) here.file1 none.one;
      short_zero = short;
      short_one = none.short_one;
    })

first_recovers : (account : State) (checkpoint : List ℕ) (here : Left) (none : NoneStands account here) (bytes : List ℕ) → length bytes ≤ LONGEST_FILE
    → (front_of None bytes ≡ front_of None here.file0) ⊎ ((front_of None bytes ≡ Ok None) ⊎ (front_of None bytes ≡ Ok (Some (begun_front Two 1 checkpoint account)))) → Recovers account (with_file_in Zero bytes here)
first_recovers account checkpoint here none bytes short (inl same) =
    record { is = none_stands bytes here.file1 short none.short_one (same ∙ absent None here.file0 none.zero) (absent None here.file1 none.one) ∙ ap (λ (a : State). Ok a) (sym none.account_is) }
first_recovers account checkpoint here none bytes short (inr (inl nothing)) =
    record { is = none_stands bytes here.file1 short none.short_one nothing (absent None here.file1 none.one) ∙ ap (λ (a : State). Ok a) (sym none.account_is) }
first_recovers account checkpoint here none bytes short (inr (inr reads)) =
    recovers_of (with_file_in Zero bytes here) (record { file = Zero; front = begun_front Two 1 checkpoint account }) account (first_counts account checkpoint here none bytes short reads) refl

pub empty_length : length (checkpoint_bytes Two (account_of empty)) ≡ 72
unfolding checkpoint_bytes front_bytes end_bytes limit_bytes u64_bytes
empty_length = refl

can_format : (account : State) (here : Left) → NoneStands account here → IsCheckpoint Two account (checkpoint_bytes Two account) → CanFormat account (checkpoint_bytes Two account)
can_format account here none is =
    let long : length (checkpoint_bytes Two account) ≡ 72 = ap (λ (a : State). length (checkpoint_bytes Two a)) none.account_is ∙ empty_length in
    record { room = omega arith; is = is }

bytes_length : (account : State) → length (behind_gate 1 (checkpoint_bytes Two account)) ≡ 25 + length (checkpoint_bytes Two account)
bytes_length account =
    let g = u64_bytes 1 in
    let c = checkpoint_bytes Two account in
    let n = u64_bytes (length c) in
    omega (arith, length-u64_bytes 1, length-u64_bytes (length c), length-append g (n ++ c), length-append n c, length-append (g ++ (n ++ c)) (0 ∷ []))

-- the acts of the formatting, given whether the file is shut
abbrev pub first_acts : Bool → State → List Act
first_acts shut account = formatting_acts Zero shut (behind_gate 1 (checkpoint_bytes Two account))

pub first_moment : (account : State) (shut : Bool) (t : Told) (left : Left) → HoldsNone account t.here → IsCheckpoint Two account (checkpoint_bytes Two account) → shut ≡ is_shut t.here.file0 → Moment (first_acts shut account) t left → FormatsFirst t.here left
first_moment account shut t left holds is shut_is moment =
    let here = t.here in
    let by = moment_formats Zero shut (behind_gate 1 (checkpoint_bytes Two account)) t left moment in
    let none = none_of account here holds.recovers holds.none in
    let can = can_format account here none is in
    let room : 26 + length (checkpoint_bytes Two account) ≤ LONGEST_FILE = can.room in
    let short : length by.bytes ≤ LONGEST_FILE = formatting_short shut (behind_gate 1 (checkpoint_bytes Two account)) here.file0 by.bytes shut_is none.short_zero (omega (arith, bytes_length account)) by.step in
    let recovers : Recovers account (with_file_in Zero by.bytes here) = first_recovers account (checkpoint_bytes Two account) here none by.bytes short
    (formatting_reads None shut here.file0 by.bytes 1 (checkpoint_bytes Two account) account shut_is (begins account (checkpoint_bytes Two account) can) by.step) in
    record {
      none = record { recovers = holds.recovers ∙ ap (λ (a : State). Ok a) none.account_is; none = holds.none };
      recovers = subst (λ (a : State). Recovers a left) none.account_is (subst (λ (l : Left). Recovers account l) (sym by.rest) recovers);
      few = subst HasFewLinks (sym by.rest) (record {
        zero = formatting_few shut here.file0 by.bytes 1 (checkpoint_bytes Two account) account shut_is (begins account (checkpoint_bytes Two account) can) by.step (few_absent here.file0 (absent None here.file0 none.zero));
        one = few_absent here.file1 (absent None here.file1 none.one);
      });
      rest = by.rest ∙ ap (λ (b : List ℕ). with_file_in Zero b here) (sym (ap (λ (l : Left). l.file0) by.rest));
    }

first_opened : (account : State) (shut shut_one : Bool) (t : Told) (told : Option Told) (clock : Clock) → HoldsNone account t.here → IsCheckpoint Two account (checkpoint_bytes Two account) → shut ≡ is_shut t.here.file0
    → shut_one ≡ is_shut t.here.file1 → Rests (after_acts (first_acts shut account) t) told clock → IsOpened (standing_begun account shut_one) account told clock
first_opened account shut shut_one t told clock holds is shut_is shut_one_is rests =
    let here = t.here in
    let none = none_of account here holds.recovers holds.none in
    let can = can_format account here none is in
    let room : 26 + length (checkpoint_bytes Two account) ≤ LONGEST_FILE = can.room in
    let c = checkpoint_bytes Two account in
    let file = formatted shut (behind_gate 1 c) here.file0 in
    let short : length file ≤ LONGEST_FILE = formatted_short shut (behind_gate 1 c) here.file0 shut_is none.short_zero (omega (arith, bytes_length account)) in
    let long : min (2 ^ 64 - 1) (25 + min (2 ^ 64 - 1) (length c)) ≡ 25 + length c = omega arith in
    let reads = formatted_reads None shut here.file0 1 c account shut_is (begins account c can) in
    let left = with_file_in Zero file here in
    record {
      there = after_acts (first_acts shut account) t;
      before = record {
        rests = rests;
        at = subst (λ (l : Left). IsAt (standing_begun account shut_one) account l) (sym (formatted_told Zero shut (behind_gate 1 c) t))
            (at_of left (record { file = Zero; front = begun_front Two 1 c account }) (standing_begun account shut_one) account
            (first_counts account c here none file short reads)
            (λ i. record { file = Zero; version = Two; generation = 1; length = sym long i; links = 0; shut = sym shut_one_is i }) refl);
      };
    }

-- ---- for opening

abbrev pub Holds : State → Option Told → Type 0
Holds account told = IfSome told (λ t. recovered t.here.file0 t.here.file1 ≡ Ok account)

abbrev pub HasPosition : Option Standing → Option Told → Type 0
HasPosition standing told = IfSome told (λ t. position_of t.here.file0 t.here.file1 ≡ standing)

pub holds_none : (account : State) (t : Told) (told : Option Told) → told ≡ Some t → Holds account told → HasPosition None told → HoldsNone account t.here
holds_none account t told is holds none = record {
  recovers = subst (λ (o : Option Told). Holds account o) is holds;
  none = subst (λ (o : Option Told). HasPosition None o) is none;
}

pub is_opened : (account : State) (standing : Standing) (t : Told) (told_old told_new : Option Told) (clock : Clock) → told_old ≡ Some t → Holds account told_old → HasPosition (Some standing) told_old → RestsHere t.here told_new clock → IsOpened standing account told_new clock
is_opened account standing t told_old told_new clock is holds position r = record {
  there = r.there;
  before = record {
    rests = r.rests;
    at = subst (λ (l : Left). IsAt standing account l) (sym r.same) (record {
      recovers = subst (λ (o : Option Told). Holds account o) is holds;
      position = subst (λ (o : Option Told). HasPosition (Some standing) o) is position;
    });
  };
}

pub shut_still : (one two : Bool) (old new : Option Told) → option_map (λ (t : Told). t.here) new ≡ option_map (λ (t : Told). t.here) old → IfSome old (λ t. (one ≡ is_shut t.here.file0) × (two ≡ is_shut t.here.file1))
    → IfSome new (λ t. (one ≡ is_shut t.here.file0) × (two ≡ is_shut t.here.file1))
shut_still one two old new same is = still (λ (l : Left). (one ≡ is_shut l.file0) × (two ≡ is_shut l.file1)) old new same is

pub zero_is_shut : (one two : Bool) (told : Option Told) → IfSome told (λ t. (one ≡ is_shut t.here.file0) × (two ≡ is_shut t.here.file1)) → IfSome told (λ t. one ≡ is_shut t.here.file0)
zero_is_shut one two None is = tt
zero_is_shut one two (Some t) is = is.0

-- What format_first returns after a recovery that found no valid file.
module _ {X : Type 0} (see : X → Seen) (account : State) (one two : Bool) (old a b : X) (t : Told) (told : (see old).told ≡ Some t) (holds : Holds account (see old).told) (none : HasPosition None (see old).told)
    (shut : IfSome (see old).told (λ u. (one ≡ is_shut u.here.file0) × (two ≡ is_shut u.here.file1))) (r : RestsHere t.here (see a).told (see a).clock) where
  there_none : HoldsNone account r.there.here
  there_none = subst (λ (l : Left). HoldsNone account l) (sym r.same) (holds_none account t (see old).told told holds none)

  there_shut : (one ≡ is_shut r.there.here.file0) × (two ≡ is_shut r.there.here.file1)
  there_shut = subst (λ (l : Left). (one ≡ is_shut l.file0) × (two ≡ is_shut l.file1)) (sym r.same) (subst (λ (o : Option Told). IfSome o (λ u. (one ≡ is_shut u.here.file0) × (two ≡ is_shut u.here.file1))) told shut)

  formats : (stops : (u : Told) → Rests u (see a).told (see a).clock → Adds (Moment (first_acts one account) u) (see a).clock (see b).clock) → IsCheckpoint Two account (checkpoint_bytes Two account) → Adds (FormatsFirst r.there.here) (see a).clock (see b).clock
  formats stops is =
      adds_weaker (Moment (first_acts one account) r.there) (FormatsFirst r.there.here) (see a).clock (see b).clock (stops r.there r.rests)
      (λ left moment. first_moment account one r.there left there_none is there_shut.0 moment)

  adds : (ended : Ended) → (IsMade ended → IsCheckpoint Two account (checkpoint_bytes Two account)) → Does see (first_acts one account) ended a b → Adds (FormatsFirst r.there.here) (see a).clock (see b).clock
  adds went_well can does = formats does.stops (can tt)
  adds (broke kind) can does = formats does.stops (can tt)
  adds gave_up can same = subst (λ x. Adds (FormatsFirst r.there.here) (see a).clock (see x).clock) (sym same) (adds_none (FormatsFirst r.there.here) (see a).clock)

  pub opening_stops : (ended : Ended) → (IsMade ended → IsCheckpoint Two account (checkpoint_bytes Two account)) → Does see (first_acts one account) ended a b → KeepsTold (see old).told (see old).clock (see a).told (see a).clock
      → Adds (Opening (see old).clock t.here) (see old).clock (see b).clock
  opening_stops ended can does keeps =
      adds_both (Opening (see old).clock t.here) (see old).clock (see a).clock (see b).clock
      (adds_weaker (LeftNow (see old).clock) (Opening (see old).clock t.here) (see old).clock (see a).clock keeps.stops (λ left now. inl now))
      (adds_weaker (FormatsFirst r.there.here) (Opening (see old).clock t.here) (see a).clock (see b).clock (adds ended can does)
      (λ left f. inr (subst (λ (l : Left). FormatsFirst l left) r.same f)))

  pub opening_formats : (ended : Ended) → (IsMade ended → IsCheckpoint Two account (checkpoint_bytes Two account)) → Does see (first_acts one account) ended a b → Adds (FormatsFirst t.here) (see a).clock (see b).clock
  opening_formats ended can does = subst (λ (l : Left). Adds (FormatsFirst l) (see a).clock (see b).clock) r.same (adds ended can does)

  pub opening_opens : IsCheckpoint Two account (checkpoint_bytes Two account) → GoesWell (first_acts one account) (see a) (see b) → IsOpened (standing_begun account two) account (see b).told (see b).clock
  opening_opens is does = first_opened account one two r.there (see b).told (see b).clock there_none is there_shut.0 there_shut.1 (does.rests r.there r.rests)

-- ---- files that are rejected

pub on_refusal : (why : OpenRefused) (P : Type 0) → UnlessDisk {T = Unit {0}} (Err why) P → OnRefusal why P
on_refusal opening.Disk P holds = tt
on_refusal opening.TooLong P holds = holds
on_refusal (opening.Damaged file place) P holds = holds
on_refusal opening.NoMemory P holds = tt

-- If no file is valid, the files aren't rejected.
pub refuses_any : (why : OpenRefused) (told : Option Told) → ((held : Result State Refusal) → RefusesHeld why held) → IfSome told (λ t. RefusesHeld why (recovered t.here.file0 t.here.file1))
refuses_any why None refuses = tt
refuses_any why (Some t) refuses = refuses (recovered t.here.file0 t.here.file1)

pub not_refused : (why : OpenRefused) (P : Type 0) → ((held : Result State Refusal) → RefusesHeld why held) → OnRefusal why P
not_refused opening.Disk P refuses = tt
not_refused opening.TooLong P refuses = let is : ◌≡◌ {A = Result State Refusal} (Ok (account_of empty)) (Err too_long) = refuses (Ok (account_of empty)) in absurd cc
not_refused (opening.Damaged file place) P refuses =
    let at = refuses (Ok (account_of empty)) in
    let is : ◌≡◌ {A = Result State Refusal} (Ok (account_of empty)) (Err (damaged at.file place)) = at.is in
    absurd cc
not_refused opening.NoMemory P refuses = tt

-- ---- the journal's position afterwards

pub holds_nothing : (account : State) (told : Option Told) → Holds account told → HasPosition None told → IfSome told (λ t. HoldsNone (account_of empty) t.here)
holds_nothing account None holds none = tt
holds_nothing account (Some t) holds none = record { recovers = holds ∙ ap (λ (a : State). Ok a) (none_of account t.here holds none).account_is; none = none }

first_of_empty : (account : State) (file1 : List ℕ) (shut : Bool) → account ≡ account_of empty → shut ≡ is_shut file1 → standing_begun account shut ≡ first_standing file1
first_of_empty account file1 shut is shut_is =
    let same : length (checkpoint_bytes Two account) ≡ length (checkpoint_bytes Two (account_of empty)) = ap (λ (a : State). length (checkpoint_bytes Two a)) is in
    let short : length (checkpoint_bytes Two (account_of empty)) ≡ 72 = empty_length in
    let long : min (2 ^ 64 - 1) (25 + min (2 ^ 64 - 1) (length (checkpoint_bytes Two account))) ≡ 25 + length (checkpoint_bytes Two (account_of empty)) = omega arith in
    λ i. record { file = Zero; version = Two; generation = 1; length = long i; links = 0; shut = shut_is i }

pub stands_first : (account : State) (one two : Bool) (told : Option Told) → Holds account told → HasPosition None told → IfSome told (λ t. (one ≡ is_shut t.here.file0) × (two ≡ is_shut t.here.file1))
    → IfSome told (λ t. standing_begun account two ≡ standing_opened t.here.file0 t.here.file1)
stands_first account one two None holds none is = tt
stands_first account one two (Some t) holds none is =
    first_of_empty account t.here.file1 two (none_of account t.here holds none).account_is is.1
    ∙ sym (ap (λ (o : Option Standing). unwrap_or o (first_standing t.here.file1)) none)

-- ---- what is written afterwards

nothing_stands : (account : State) (here : Left) → recovered here.file0 here.file1 ≡ Ok account → position_of here.file0 here.file1 ≡ None → journal_of here.file0 here.file1 ≡ Ok None
unfolding recovered position_of
nothing_stands account here is none =
    let found = bind_ok (journal_of here.file0 here.file1) _ account is in
    by found.0 found.1 (sym (ap (λ (r : Result (Option JournalFile) Refusal). standing_in here.file0 here.file1 r) found.1) ∙ none)
  where
    by : (journal : Option JournalFile) → journal_of here.file0 here.file1 ≡ Ok journal → option_map (standing_of here.file0 here.file1) journal ≡ None → journal_of here.file0 here.file1 ≡ Ok None
    by (Some journal) e none = absurd cc
    by None e none = e

-- If no file is valid, file 0 is formatted with the empty account.
pub acts_are : (account : State) (here : Left) (shut : Bool) → HoldsNone account here → shut ≡ is_shut here.file0 → first_acts shut account ≡ opening_acts here
acts_are account here shut holds is =
    ap (λ (s : Bool). first_acts s account) is
    ∙ (ap (λ (a : State). first_acts (is_shut here.file0) a) (none_of account here holds.recovers holds.none).account_is
    ∙ sym (ap (acts_behind here) (nothing_stands account here holds.recovers holds.none)))

-- If a file is valid, nothing is written.
pub no_acts : (here : Left) (standing : Standing) → position_of here.file0 here.file1 ≡ Some standing → opening_acts here ≡ []
unfolding position_of
no_acts here standing is = by (journal_of here.file0 here.file1) is
  where
    by : (journal : Result (Option JournalFile) Refusal) → standing_in here.file0 here.file1 journal ≡ Some standing → acts_behind here journal ≡ []
    by (Ok None) is = absurd cc
    by (Ok (Some journal)) is = refl
    by (Err why) is = refl

-- If the files are rejected, nothing is written.
pub refused_acts : (here : Left) (why : Refusal) → recovered here.file0 here.file1 ≡ Err why → opening_acts here ≡ []
unfolding recovered
refused_acts here why is = by (journal_of here.file0 here.file1) is
  where
    by : (journal : Result (Option JournalFile) Refusal) → (journal >>= λ j. Ok (account_of_journal j)) ≡ Err why → acts_behind here journal ≡ []
    by (Ok None) is = absurd cc
    by (Ok (Some journal)) is = refl
    by (Err why) is = refl
