-- Making room for a link and then appending it, as one operation.
use Rattle.std.proofs.Common.{◌≡◌, ◌<◌, ◌+◌, Bool, true, false, List, [], ◌∷◌, ◌++◌, ℕ, length, Option, None, Some, Err, IfSome, IsTrue, ◌&&◌, if◌then◌else◌, inl, inr, ap, refl, subst, sym, ◌∙◌, arith, length-append}
use Rattle.std.proofs.lemmas.Bool.Decides.{nat_tests}
use Rattle.board_core.specs.declared.board.FileNo.{FileNo}
use Rattle.board_core.specs.declared.board.FileNo.TheVariants.{Zero, One}
use Rattle.board_core.specs.Clock.{Clock}
use Rattle.board_core.specs.Doing.{Act, AreOnDisk, IsBad, Moment, after_acts, calls_of}
use Rattle.board_core.specs.Stop.{Left, file_in}
use Rattle.board_core.specs.Told.{Steps, Told, file_of}
use Rattle.board_core.proofs.ActLemmas.{moment_out, moment_store, on_disk_off}
use Rattle.board_core.proofs.DoingLemmas.{after-append, moment_parts}
use Rattle.entry_format.specs.declared.version.Version.{Version}
use Rattle.entry_format.specs.declared.version.Version.TheVariants.{One as first, Two}
use Rattle.ras_account.specs.Account.{State}
use Rattle.ras_account.specs.Continued.{account_after_all}
use Rattle.ras_facts.specs.declared.entry.Entry.{Entry}
use Rattle.ras_journal.specs.declared.standing.Standing.{Standing}
use Rattle.ras_journal.specs.Recovered.{HasFewLinks, IsAt, Recovers, is_shut, other, other_of}
use Rattle.ras_journal.specs.Appending.{HasRoom, Links, append_acts, is_first_version, needs_switch, standing_with}
use Rattle.ras_journal.proofs.AppendLemmas.{append_ends, append_leaves}
use Rattle.ras_journal.proofs.FewLemmas.{append_few, append_few_done}
use Rattle.ras_journal.proofs.FileLemmas.{lies}
use Rattle.ras_journal.proofs.JournalLemmas.{here_of}
use Rattle.ras_recover.specs.Formatting.{formatting_acts}
use Rattle.ras_recover.specs.Switching.{CanSwitch, has_no_room, next_bytes, switch_acts, switched}
use Rattle.ras_recover.proofs.FewLemmas.{switch_few, switch_few_done}
use Rattle.ras_recover.proofs.SwitchingLemmas.{switch_ends, switch_leaves}
use Rattle.ras_run.specs.declared.ledger.Ledger.{Ledger}
use Rattle.ras_run.specs.declared.refused.KeepRefused.{KeepRefused}
use Rattle.ras_run.specs.declared.refused.KeepRefused.TheVariants.{Full, Disk, NoMemory}
use Rattle.ras_run.specs.Keeping.{CanMake, Keeping, KeepsLedger, Stands, after_keeping, keeping_acts, lacks_room, keep_refused_end, room_acts, standing_kept, standing_roomy}
use Rattle.ras_run.specs.KeepingCalls.{IsKeeping, write_through_calls}

-- ---- what a journal's position says about its files

gate_of : (standing : Standing) (account : State) (left : Left) → IsAt standing account left → standing.length < length (file_in standing.file left)
gate_of standing account left at =
    let here = here_of standing account left at in
    let gate : here.front.gate ≡ standing.length = ap (λ (s : Standing). s.length) here.standing_is in
    let within : here.front.gate < length (file_in standing.file left) = (lies here.counts.taken (file_in standing.file left) here.front here.counts.reads).within in
    omega arith

other_is : (file : FileNo) (left : Left) → other_of file left.file0 left.file1 ≡ file_in (other file) left
other_is Zero left = refl
other_is One left = refl

shut_of : (standing : Standing) (account : State) (left : Left) → IsAt standing account left → standing.shut ≡ is_shut (file_in (other standing.file) left)
shut_of standing account left at =
    let here = here_of standing account left at in
    sym (ap (λ (s : Standing). s.shut) here.standing_is) ∙ ap is_shut (other_is standing.file left)

pub stands_shut : (standing : Standing) (account : State) (told : Option Told) (clock : Clock) → Stands standing account told clock → IfSome told (λ t. standing.shut ≡ is_shut (file_of (other standing.file) t))
stands_shut standing account None clock stands = tt
stands_shut standing account (Some t) clock stands = shut_of standing account t.here stands.at

-- ---- by whether a switch is due

abbrev acts_if : Bool → Bool → Standing → State → List ℕ → List Act
acts_if due shut standing account link =
    (if due then formatting_acts (other standing.file) shut (next_bytes standing account) else []) ++ append_acts (if due then switched standing account else standing) link

on_disk_if : (due shut : Bool) (standing : Standing) (account : State) (link : List ℕ) → AreOnDisk (acts_if due shut standing account link)
on_disk_if false shut standing account link = (tt, (tt, tt))
on_disk_if true true standing account link = (tt, (tt, (tt, (tt, tt))))
on_disk_if true false standing account link = (tt, (tt, (tt, (tt, (tt, tt)))))

-- All of these acts are acts of the disk.
pub keeping_on_disk : (standing : Standing) (account : State) (link : List ℕ) → AreOnDisk (keeping_acts standing account link)
keeping_on_disk standing account link = on_disk_if (needs_switch standing link) standing.shut standing account link

two_of : (v : Version) → is_first_version v ≡ false → v ≡ Two
two_of first is = absurd cc
two_of Two is = refl

roomy_if : (b : Bool) (standing : Standing) (account : State) (link : List ℕ) → needs_switch standing link ≡ b → ¬ IsTrue (b && has_no_room standing account link) → HasRoom (if b then switched standing account else standing) link
roomy_if true standing account link is not = record { version = refl; room = grind (arith, nat_tests) }
roomy_if false standing account link is not = record { version = two_of standing.version (grind arith); room = grind (arith, nat_tests) }

pub roomy : (standing : Standing) (account : State) (link : List ℕ) → ¬ IsTrue (lacks_room standing account link) → HasRoom (standing_roomy standing account link) link
roomy standing account link not = roomy_if (needs_switch standing link) standing account link refl not

roomy_at_if : (due : Bool) (standing : Standing) (account : State) (t : Told) → (IsTrue due → CanSwitch standing account) → IsAt standing account t.here
    → IsAt (if due then switched standing account else standing) account (after_acts (if due then switch_acts standing account else []) t).here
roomy_at_if true standing account t can at = switch_ends standing account t (can refl) at
roomy_at_if false standing account t can at = at

roomy_at : (standing : Standing) (account : State) (link : List ℕ) (t : Told) → CanMake standing account link → IsAt standing account t.here
    → IsAt (standing_roomy standing account link) account (after_acts (room_acts standing account link) t).here
roomy_at standing account link t can at = roomy_at_if (needs_switch standing link) standing account t can at

-- The gate lies in the file.
pub roomy_gate : (standing : Standing) (account : State) (link : List ℕ) (a b : Option Told) (clock : Clock) → CanMake standing account link → Stands standing account a clock → Steps (after_acts (room_acts standing account link)) a b
    → IfSome b (λ t. (standing_roomy standing account link).length < length (file_of (standing_roomy standing account link).file t))
roomy_gate standing account link None b clock can stands told = rw told tt
roomy_gate standing account link (Some t) b clock can stands told =
    rw told (gate_of (standing_roomy standing account link) account (after_acts (room_acts standing account link) t).here (roomy_at standing account link t can stands.at))

-- ---- what crashes leave, and what the files contain afterwards

room_leaves : (due : Bool) (standing : Standing) (account : State) (t : Told) (left : Left) → (IsTrue due → CanSwitch standing account) → IsAt standing account t.here → Moment (if due then switch_acts standing account else []) t left → Recovers account left
room_leaves true standing account t left can at switching = (switch_leaves standing account t left (can refl) at switching).recovers
room_leaves false standing account t left can at never = absurd never

pub keeping_leaves : (standing : Standing) (account : State) (entries : List Entry) (link : List ℕ) (t : Told) (left : Left) → CanMake standing account link → ¬ IsTrue (lacks_room standing account link) → Links account entries link
    → IsAt standing account t.here → Moment (keeping_acts standing account link) t left → Keeping account entries t.here left
keeping_leaves standing account entries link t left can not links at moment = record {
  recovers = elim (moment_parts (room_acts standing account link) (append_acts (standing_roomy standing account link) link) t left moment) [
    | inl switching ↦ inl (room_leaves (needs_switch standing link) standing account t left can at switching)
    | inr appending ↦ (append_leaves (standing_roomy standing account link) account entries link (after_acts (room_acts standing account link) t) left (roomy standing account link not) links (roomy_at standing account link t can at) appending).recovers
  ];
  beside = record {
    out = moment_out (keeping_acts standing account link) (keeping_on_disk standing account link) t left moment;
    store = moment_store (keeping_acts standing account link) (on_disk_off (keeping_acts standing account link) (keeping_on_disk standing account link)) t left moment;
  };
}

pub keeping_ends : (standing : Standing) (account : State) (entries : List Entry) (link : List ℕ) (t : Told) → CanMake standing account link → ¬ IsTrue (lacks_room standing account link) → Links account entries link
    → IsAt standing account t.here → IsAt (standing_kept standing account link) (account_after_all account entries) (after_keeping standing account link t).here
keeping_ends standing account entries link t can not links at =
    let s = standing_roomy standing account link in
    let room = room_acts standing account link in
    subst (λ (u : Told). IsAt (standing_with s link) (account_after_all account entries) u.here) (sym (after-append room (append_acts s link) t))
    (append_ends s account entries link (after_acts room t) (roomy standing account link not) links (roomy_at standing account link t can at))

-- ---- how many links the files have afterwards

roomy_links : (due : Bool) (standing : Standing) (account : State) (link : List ℕ) → needs_switch standing link ≡ due → (if due then switched standing account else standing).links < 256
roomy_links true standing account link is = omega arith
roomy_links false standing account link is = grind (arith, nat_tests)

room_few : (due : Bool) (standing : Standing) (account : State) (t : Told) (left : Left) → (IsTrue due → CanSwitch standing account) → IsAt standing account t.here → HasFewLinks t.here
    → Moment (if due then switch_acts standing account else []) t left → HasFewLinks left
room_few true standing account t left can at few switching = switch_few standing account t (can refl) at few left switching
room_few false standing account t left can at few never = absurd never

roomy_few : (due : Bool) (standing : Standing) (account : State) (t : Told) → (IsTrue due → CanSwitch standing account) → IsAt standing account t.here → HasFewLinks t.here
    → HasFewLinks (after_acts (if due then switch_acts standing account else []) t).here
roomy_few true standing account t can at few = switch_few_done standing account t (can refl) at few
roomy_few false standing account t can at few = few

module _ (standing : Standing) (account : State) (entries : List Entry) (link : List ℕ) (t : Told) (can : CanMake standing account link) (not : ¬ IsTrue (lacks_room standing account link)) (links : Links account entries link)
    (at : IsAt standing account t.here) (few : HasFewLinks t.here) where
  abbrev due : Bool
  due = needs_switch standing link

  abbrev roomy_told : Told
  roomy_told = after_acts (room_acts standing account link) t

  pub keeping_few : (left : Left) → Moment (keeping_acts standing account link) t left → HasFewLinks left
  keeping_few left moment = elim (moment_parts (room_acts standing account link) (append_acts (standing_roomy standing account link) link) t left moment) [
    | inl switching ↦ room_few due standing account t left can at few switching
    | inr appending ↦
        append_few (standing_roomy standing account link) account entries link roomy_told (roomy standing account link not) links (roomy_at standing account link t can at) (roomy_links due standing account link refl)
        (roomy_few due standing account t can at few) left appending
  ]

  pub keeping_few_done : HasFewLinks (after_keeping standing account link t).here
  keeping_few_done =
      let s = standing_roomy standing account link in
      subst (λ (u : Told). HasFewLinks u.here) (sym (after-append (room_acts standing account link) (append_acts s link) t))
      (append_few_done s account entries link roomy_told (roomy standing account link not) links (roomy_at standing account link t can at) (roomy_links due standing account link refl) (roomy_few due standing account t can at few))

-- ---- the disk calls

append_calls : (file : FileNo) (gate : ℕ) (link : List ℕ) → write_through_calls file (gate + 1) (length (link ++ 0 ∷ [])) ++ write_through_calls file gate 1 ≡ write_through_calls file (gate + 1) (length link + 1) ++ write_through_calls file gate 1
append_calls file gate link = ap (λ (n : ℕ). write_through_calls file (gate + 1) n ++ write_through_calls file gate 1) (length-append link (0 ∷ []))

calls_if : (due shut : Bool) (standing : Standing) (account : State) (link : List ℕ) → IsKeeping link (calls_of (acts_if due shut standing account link))
calls_if false shut standing account link = record {
  file = standing.file;
  switch = [];
  append = _;
  is = refl;
  at_most_one = inl refl;
  appends = record { gate = standing.length; is = append_calls standing.file standing.length link };
}
calls_if true true standing account link = record {
  file = other standing.file;
  switch = calls_of (formatting_acts (other standing.file) true (next_bytes standing account));
  append = _;
  is = refl;
  at_most_one = inr (record { closing = []; count = length (next_bytes standing account); is = refl; only = inl refl });
  appends = record { gate = (switched standing account).length; is = append_calls (other standing.file) (switched standing account).length link };
}
calls_if true false standing account link = record {
  file = other standing.file;
  switch = calls_of (formatting_acts (other standing.file) false (next_bytes standing account));
  append = _;
  is = refl;
  at_most_one = inr (record { closing = write_through_calls (other standing.file) 0 1; count = length (next_bytes standing account); is = refl; only = inr refl });
  appends = record { gate = (switched standing account).length; is = append_calls (other standing.file) (switched standing account).length link };
}

pub is_keeping : (standing : Standing) (account : State) (link : List ℕ) → IsKeeping link (calls_of (keeping_acts standing account link))
is_keeping standing account link = calls_if (needs_switch standing link) standing.shut standing account link

-- ---- what becomes of the ledger

pub is_bad : (why : KeepRefused) → IsBad (keep_refused_end why)
is_bad Full = tt
is_bad Disk = tt
is_bad NoMemory = tt

pub keeps_not : (why : KeepRefused) (next last : Standing) (old new : Ledger) → KeepsLedger (Err why) next old new → KeepsLedger (Err why) last old new
keeps_not Full next last old new keeps = keeps
keeps_not Disk next last old new keeps = keeps
keeps_not NoMemory next last old new keeps = keeps
