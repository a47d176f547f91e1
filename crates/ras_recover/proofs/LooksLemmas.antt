-- Calls that only read, one after another.
use Rattle.std.proofs.Common.{◌≡◌, ℕ, ◌+◌, ◌≤◌, List, [], ◌∷◌, ◌++◌, Result, Ok, Err, refl, sym, ap, subst, arith, inl, inr}
use Rattle.std.specs.Prelude.{Any, OnOk}
use Rattle.std.proofs.lemmas.Bool.{cases_lt}
use Rattle.std.proofs.lemmas.List.Elements.{All-nil}
use Rattle.board_core.specs.declared.board.FileNo.{FileNo}
use Rattle.board_core.specs.declared.board.DiskCall.{DiskCall}
use Rattle.board_core.specs.declared.board.DiskCall.TheVariants.{ReadAt}
use Rattle.board_core.specs.Cause.{Faults, disk_call, FailsAs}
use Rattle.board_core.specs.Doing.{ActMade, Ended, Seen, calls as asks, broke, gave_up, one_end, went_well}
use Rattle.board_core.specs.Told.{Told}
use Rattle.ras_recover.specs.declared.place.ReadRefused.{ReadRefused}
use Rattle.ras_recover.specs.declared.place.ReadRefused.TheVariants.{Disk, Damaged, NoMemory}
use Rattle.ras_recover.specs.declared.refused.OpenRefused.{OpenRefused}
use Rattle.ras_recover.specs.declared.refused.OpenRefused.TheVariants as Open
use Rattle.ras_recover.specs.DiskCalls.{Calls, IsReading, ReadsPlace}
use Rattle.ras_recover.specs.Recovering.{open_end, open_failure, open_refused_end}
use Rattle.ras_recover.specs.Steps.Looking.{AreReads, Counts, IfWell, Looks, ReadsPart}
use Rattle.ras_recover.specs.Steps.Reading.{IsUnread}
use Rattle.ras_recover.specs.Steps.Windows.{read_end, read_refused_end}
use Rattle.ras_recover.proofs.CallsLemmas.{any_left, any_right, both_read_alone, call_done, call_failed, calls_then, calls_weaker, nothing_called, one_reads, relates_same, relates_then, relates_weaker}
use Rattle.ras_recover.proofs.KeepingLemmas.{keeps_call, keeps_failed, keeps_nothing, keeps_then, no_faults, same_faults}

-- ---- one call

-- A call that only reads was made, with this result.
pub looks_call : {T E : Type 0} (call : DiskCall) (result : Result T E) (old new : Seen) → IsReading call → ActMade (asks call) result old new → Looks (one_end disk_call result) (λ t made. made ≡ call ∷ []) old new
looks_call call (Ok x) old new reads made = record {
  keeps = keeps_call call old.told old.clock new.told new.clock made.told made.stops;
  calls = call_done (AreReads went_well (λ made. made ≡ call ∷ [])) call (record { alone = one_reads call reads; done = refl }) old.told new.told made.told;
  faults = same_faults old.faults new.faults x made.cause;
}
looks_call call (Err why) old new reads made = record {
  keeps = keeps_failed call old.told old.clock new.told new.clock made.failed made.stops;
  calls = call_failed (AreReads (broke disk_call) (λ made. made ≡ call ∷ [])) call (record { alone = All-nil IsReading; done = tt }) (record { alone = one_reads call reads; done = tt }) old.told new.told made.failed;
  faults = record { later = made.cause.own.later; own = made.cause.own.failed; others = made.cause.others };
}

-- No call was made.
pub looks_nothing : (Done : Told → List DiskCall → Type 0) (seen : Seen) → ((t : Told) → Done t []) → Looks went_well Done seen seen
looks_nothing Done seen none = record {
  keeps = keeps_nothing seen.told seen.clock;
  calls = relates_same (λ t. Calls (AreReads went_well (Done t)) t) (λ t. nothing_called (AreReads went_well (Done t)) (record { alone = All-nil IsReading; done = none t }) t) seen.told;
  faults = refl;
}

-- ---- the same calls with another property

are_weaker : (ended : Ended) (P Q : List DiskCall → Type 0) (calls : List DiskCall) → IfWell ended (P calls → Q calls) → AreReads ended P calls → AreReads ended Q calls
are_weaker went_well P Q calls weaker are = record { alone = are.alone; done = weaker are.done }
are_weaker (broke kind) P Q calls weaker are = record { alone = are.alone; done = tt }
are_weaker gave_up P Q calls weaker are = record { alone = are.alone; done = tt }

pub if_well : (ended : Ended) (P Q : Type 0) → (P → Q) → IfWell ended P → IfWell ended Q
if_well went_well P Q leads holds = leads holds
if_well (broke kind) P Q leads holds = tt
if_well gave_up P Q leads holds = tt

pub looks_weaker : (ended : Ended) (P Q : Told → List DiskCall → Type 0) (old new : Seen) → IfWell ended ((t : Told) (calls : List DiskCall) → P t calls → Q t calls) → Looks ended P old new → Looks ended Q old new
looks_weaker ended P Q old new weaker looks = record {
  keeps = looks.keeps;
  calls = relates_weaker (λ t. Calls (AreReads ended (P t)) t) (λ t. Calls (AreReads ended (Q t)) t)
      (λ t u calls. calls_weaker (AreReads ended (P t)) (AreReads ended (Q t)) (λ xs are. are_weaker ended (P t) (Q t) xs (if_well ended _ _ (λ each. each t xs) weaker) are) t u calls) old.told new.told looks.calls;
  faults = looks.faults;
}

-- A refusal isn't a success.
pub if_read : (why : ReadRefused) (P : Type 0) → IfWell (read_refused_end why) P
if_read Disk P = tt
if_read (Damaged place) P = tt
if_read NoMemory P = tt

pub if_opened : (why : OpenRefused) (P : Type 0) → IfWell (open_refused_end why) P
if_opened Open.Disk P = tt
if_opened Open.TooLong P = tt
if_opened (Open.Damaged file place) P = tt
if_opened Open.NoMemory P = tt

pub read_refused : (why : ReadRefused) (P Q : Told → List DiskCall → Type 0) (old new : Seen) → Looks (read_refused_end why) P old new → Looks (read_refused_end why) Q old new
read_refused why P Q old new looks = looks_weaker (read_refused_end why) P Q old new (if_read why _) looks

pub open_refused : (why : OpenRefused) (P Q : Told → List DiskCall → Type 0) (old new : Seen) → Looks (open_refused_end why) P old new → Looks (open_refused_end why) Q old new
open_refused why P Q old new looks = looks_weaker (open_refused_end why) P Q old new (if_opened why _) looks

-- A function gave up after calls that succeeded.
pub looks_given_up : (P Q : Told → List DiskCall → Type 0) (old new : Seen) → Looks went_well P old new → Looks gave_up Q old new
looks_given_up P Q old new looks = record {
  keeps = looks.keeps;
  calls = relates_weaker (λ t. Calls (AreReads went_well (P t)) t) (λ t. Calls (AreReads gave_up (Q t)) t)
      (λ t u calls. calls_weaker (AreReads went_well (P t)) (AreReads gave_up (Q t)) (λ xs are. record { alone = are.alone; done = tt }) t u calls) old.told new.told looks.calls;
  faults = looks.faults;
}

-- A function that makes no call gave up after calls that succeeded.
pub front_refused : {A : Type 0} (why : ReadRefused) (read : Result A ℕ) (P Q : Told → List DiskCall → Type 0) (old new : Seen) → IsUnread why read → Looks went_well P old new → Looks (read_refused_end why) Q old new
front_refused Disk read P Q old new is looks = absurd is
front_refused (Damaged at) read P Q old new is looks = looks_given_up P Q old new looks
front_refused NoMemory read P Q old new is looks = looks_given_up P Q old new looks

-- A function gave up before any call.
pub looks_none : (Done : Told → List DiskCall → Type 0) (seen : Seen) → Looks gave_up Done seen seen
looks_none Done seen = looks_given_up (λ t calls. Unit {0}) Done seen seen (looks_nothing (λ t calls. Unit {0}) seen (λ t. tt))

-- After a function gave up, another function continues.
pub looks_taken_up : (P Q : Told → List DiskCall → Type 0) (old new : Seen) → ((t : Told) (calls : List DiskCall) → Q t calls) → Looks gave_up P old new → Looks went_well Q old new
looks_taken_up P Q old new all looks = record {
  keeps = looks.keeps;
  calls = relates_weaker (λ t. Calls (AreReads gave_up (P t)) t) (λ t. Calls (AreReads went_well (Q t)) t)
      (λ t u calls. calls_weaker (AreReads gave_up (P t)) (AreReads went_well (Q t)) (λ xs are. record { alone = are.alone; done = all t xs }) t u calls) old.told new.told looks.calls;
  faults = looks.faults;
}

-- ---- calls that succeeded, and then other calls

are_then : (ended : Ended) (P Q R : List DiskCall → Type 0) (xs ys : List DiskCall) → IfWell ended (P xs → Q ys → R (xs ++ ys)) → AreReads went_well P xs → AreReads ended Q ys → AreReads ended R (xs ++ ys)
are_then went_well P Q R xs ys joins first second = record { alone = both_read_alone xs ys first.alone second.alone; done = joins first.done second.done }
are_then (broke kind) P Q R xs ys joins first second = record { alone = both_read_alone xs ys first.alone second.alone; done = tt }
are_then gave_up P Q R xs ys joins first second = record { alone = both_read_alone xs ys first.alone second.alone; done = tt }

-- The first calls don't change the model of the files.
abbrev pub Joins : (P Q R : Told → List DiskCall → Type 0) → Type 0
Joins P Q R = (t u : Told) → u.here ≡ t.here → (xs ys : List DiskCall) → P t xs → Q u ys → R t (xs ++ ys)

pub looks_then : (ended : Ended) (P Q R : Told → List DiskCall → Type 0) (a b c : Seen) → IfWell ended (Joins P Q R) → Looks went_well P a b → Looks ended Q b c → Looks ended R a c
looks_then ended P Q R a b c joins first second = record {
  keeps = keeps_then a.told a.clock b.told b.clock c.told c.clock first.keeps second.keeps;
  calls = relates_then (λ t. Calls (AreReads went_well (P t)) t) (λ t. Calls (AreReads ended (Q t)) t) (λ t. Calls (AreReads ended (R t)) t) both a.told b.told c.told first.calls second.calls;
  faults = counts_then ended first.faults second.faults;
}
  where
    both : (t u v : Told) → Calls (AreReads went_well (P t)) t u → Calls (AreReads ended (Q u)) u v → Calls (AreReads ended (R t)) t v
    both t u v one two =
        calls_then (AreReads went_well (P t)) (AreReads ended (Q u)) (AreReads ended (R t))
        (λ xs ys p q. are_then ended (P t) (Q u) (R t) xs ys (if_well ended _ _ (λ each. each t u (ap (λ (w : Told). w.here) one.is) xs ys) joins) p q) t u v one two

    counts_then : (ended : Ended) → b.faults ≡ a.faults → Counts ended b.faults c.faults → Counts ended a.faults c.faults
    counts_then ended same counts = subst (λ (f : Faults). Counts ended f c.faults) same counts

pub read_then : (why : ReadRefused) (P Q R : Told → List DiskCall → Type 0) (a b c : Seen) → Looks went_well P a b → Looks (read_refused_end why) Q b c → Looks (read_refused_end why) R a c
read_then why P Q R a b c first second = looks_then (read_refused_end why) P Q R a b c (if_read why _) first second

pub open_then : (why : OpenRefused) (P Q R : Told → List DiskCall → Type 0) (a b c : Seen) → Looks went_well P a b → Looks (open_refused_end why) Q b c → Looks (open_refused_end why) R a c
open_then why P Q R a b c first second = looks_then (open_refused_end why) P Q R a b c (if_opened why _) first second

-- ---- parts of a file

pub part_read : (file : FileNo) (place count : ℕ) (calls : List DiskCall) → calls ≡ ReadAt file place count ∷ [] → ReadsPart file place (place + count) calls
part_read file place count calls is = λ at from before. subst (λ l. Any (ReadsPlace file at) l) (sym is) (0, ReadAt file place count, omega arith, refl, (refl, from, before))

-- A read that covers a range of the file covers each part of the range.
pub part_more : (file : FileNo) (place last from end : ℕ) → place ≤ from → end ≤ last → (calls : List DiskCall) → ReadsPart file place last calls → ReadsPart file from end calls
part_more file place last from end early within calls reads = λ at behind before. reads at (omega arith) (omega arith)

pub part_held : {T : Type 0} (result : Result T ReadRefused) (file : FileNo) (place last from end : ℕ) → place ≤ from → OnOk result (end ≤ last)
    → IfWell (read_end result) ((t : Told) (calls : List DiskCall) → ReadsPart file place last calls → ReadsPart file from end calls)
part_held (Ok x) file place last from end early within = λ t calls reads. part_more file place last from end early within calls reads
part_held (Err why) file place last from end early within = if_read why _

pub part_nothing : (file : FileNo) (from end : ℕ) → end ≤ from → ReadsPart file from end []
part_nothing file from end within = λ at behind before. absurd (omega arith)

pub parts_joined : (file : FileNo) (from mid end : ℕ) → Joins (λ t. ReadsPart file from mid) (λ t. ReadsPart file mid end) (λ t. ReadsPart file from end)
parts_joined file from mid end t u here xs ys first second = λ place behind before. elim (cases_lt place mid) [
  | inl early ↦ any_left (ReadsPlace file place) xs ys (first place behind early)
  | inr late ↦ any_right (ReadsPlace file place) xs ys (second place late before)
]

-- A part of a file was read, and then the next part.
pub looks_on : (ended : Ended) (file : FileNo) (from mid end : ℕ) (a b c : Seen) → Looks went_well (λ t. ReadsPart file from mid) a b → Looks ended (λ t. ReadsPart file mid end) b c → Looks ended (λ t. ReadsPart file from end) a c
looks_on went_well file from mid end a b c first second = looks_then went_well (λ t. ReadsPart file from mid) (λ t. ReadsPart file mid end) (λ t. ReadsPart file from end) a b c (parts_joined file from mid end) first second
looks_on (broke kind) file from mid end a b c first second = looks_then (broke kind) (λ t. ReadsPart file from mid) (λ t. ReadsPart file mid end) (λ t. ReadsPart file from end) a b c tt first second
looks_on gave_up file from mid end a b c first second = looks_then gave_up (λ t. ReadsPart file from mid) (λ t. ReadsPart file mid end) (λ t. ReadsPart file from end) a b c tt first second

-- ---- faults

pub open_cause : {T : Type 0} (result : Result T OpenRefused) (old new : Faults) → Counts (open_end result) old new → FailsAs disk_call old new (open_failure result)
open_cause (Ok x) old new same = no_faults old new tt same
open_cause (Err Open.Disk) old new raises = record { own = record { later = raises.later; failed = raises.own; same = tt }; others = raises.others }
open_cause (Err Open.TooLong) old new same = no_faults old new tt same
open_cause (Err (Open.Damaged file place)) old new same = no_faults old new tt same
open_cause (Err Open.NoMemory) old new same = no_faults old new tt same
