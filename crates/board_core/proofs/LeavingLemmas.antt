-- One more event, for one file of a board in memory.
use Rattle.std.proofs.Common.{◌≡◌, ℕ, ◌+◌, ◌<◌, ◌≤◌, ◌⊎◌, List, [], ◌∷◌, ◌++◌, length, take, drop, get_or, refl, ap, sym, ◌∙◌, inl, inr, arith, append-nil}
use Rattle.std.proofs.lemmas.Bool.{cases_lt}
use Rattle.std.proofs.lemmas.List.{length-take, flat_map_more, take_more, drop-append-le, drop_all}
use Rattle.erst_store.specs.Store.{Stored}
use Rattle.board_core.specs.declared.board.FileNo.{FileNo}
use Rattle.board_core.specs.declared.board.FileNo.TheVariants.{Zero, One}
use Rattle.board_core.specs.declared.history.MemChange.{MemChange}
use Rattle.board_core.specs.declared.history.MemChange.TheVariants.{Wrote, Synced, WroteRegister, WroteRange, Put, Printed}
use Rattle.board_core.specs.declared.history.MemFile.{MemFile}
use Rattle.board_core.specs.declared.pick.Pick.{Pick}
use Rattle.board_core.specs.declared.pick.Pick.TheVariants.{Old, New, Fill}
use Rattle.board_core.specs.Clock.{LeftNow}
use Rattle.board_core.specs.Steps.DiskLemmas.{greatest_length-least}
use Rattle.board_core.specs.DiskModel.{settled_file, Range, IsOutside, Disk, DiskFile, MayLeave, MayLeaveFile, rests, after_all}
use Rattle.board_core.specs.Steps.FileHistory.{bytes_after, bytes_after_all, disk_after, disk_after_all, range_of, ranges_of, ArePartedAtSync}
use Rattle.board_core.specs.Steps.History.{act_of, acts_of, first_bytes}
use Rattle.board_core.specs.Doing.{after_act}
use Rattle.board_core.specs.MemBoard.{new_told, Past, settled_disk, steps_of, steps_of_all, clock_of, disk_of, now_of}
use Rattle.board_core.specs.Told.{Told}
use Rattle.board_core.specs.Steps.ChangeLemmas.{here_left}
use Rattle.board_core.specs.Steps.MomentLemmas.{now_counts}
use Rattle.board_core.specs.Pick.{IsInside, IsFilled, IsPicked}

pub bytes_after_all-more : (number : FileNo) (changes : List MemChange) (change : MemChange) (bytes : List ℕ) → bytes_after_all number (changes ++ change ∷ []) bytes ≡ bytes_after number change (bytes_after_all number changes bytes)
bytes_after_all-more number [] change bytes = refl
bytes_after_all-more number (x ∷ xs) change bytes = bytes_after_all-more number xs change (bytes_after number x bytes)

pub disk_after_all-more : (number : FileNo) (changes : List MemChange) (change : MemChange) (bytes : List ℕ) (file : DiskFile)
    → disk_after_all number (changes ++ change ∷ []) bytes file ≡ disk_after number change (bytes_after_all number changes bytes) (disk_after_all number changes bytes file)
disk_after_all-more number [] change bytes file = refl
disk_after_all-more number (x ∷ xs) change bytes file = disk_after_all-more number xs change (bytes_after number x bytes) (disk_after number x bytes file)

pub ranges_of-more : (number : FileNo) (changes : List MemChange) (change : MemChange) → ranges_of number (changes ++ change ∷ []) ≡ ranges_of number changes ++ range_of number change
ranges_of-more number changes change = sym (flat_map_more (range_of number) [] changes change)

events_more : (events : List MemChange) (i : ℕ) (event : MemChange) → i < length events → event ≡ get_or events i event → take (i + 1) events ≡ take i events ++ event ∷ []
events_more events i event within is = take_more events i event within ∙ ap (λ e. take i events ++ e ∷ []) (sym is)

-- The bytes after one more event.
pub repeated : (number : FileNo) (events : List MemChange) (i : ℕ) (event : MemChange) (first so_far next : List ℕ) → i < length events → event ≡ get_or events i event
    → so_far ≡ bytes_after_all number (take i events) first → next ≡ bytes_after number event so_far → next ≡ bytes_after_all number (take (i + 1) events) first
repeated number events i event first so_far next within is invariant step =
    step ∙ (ap (bytes_after number event) invariant
    ∙ (sym (bytes_after_all-more number (take i events) event first) ∙ ap (λ cs. bytes_after_all number cs first) (sym (events_more events i event within is))))

-- Bytes that were set stay set.

inside_or_outside : (ranges : List Range) (k : ℕ) → IsInside ranges k ⊎ IsOutside ranges k
inside_or_outside [] k = inr tt
inside_or_outside (r ∷ rs) k = with_rest (inside_or_outside rs k) (cases_lt k r.place) (cases_lt k (r.place + r.count)) where
  with_rest : IsInside rs k ⊎ IsOutside rs k → (k < r.place) ⊎ (r.place ≤ k) → (k < r.place + r.count) ⊎ (r.place + r.count ≤ k) → IsInside (r ∷ rs) k ⊎ IsOutside (r ∷ rs) k
  with_rest (inl inside) front back = inl (inr inside)
  with_rest (inr outside) (inl front) back = inr (inl front, outside)
  with_rest (inr outside) (inr from) (inl below) = inl (inl (from, below))
  with_rest (inr outside) (inr from) (inr back) = inr (inr back, outside)

inside_either : (xs ys : List Range) (k : ℕ) → IsInside (xs ++ ys) k → IsInside xs k ⊎ IsInside ys k
inside_either [] ys k inside = inr inside
inside_either (x ∷ xs) ys k (inl here) = inl (inl here)
inside_either (x ∷ xs) ys k (inr rest) = elim (inside_either xs ys k rest) [ inl front ↦ inl (inr front) | inr back ↦ inr back ]

outside_both : (xs ys : List Range) (k : ℕ) → IsOutside (xs ++ ys) k → IsOutside xs k × IsOutside ys k
outside_both [] ys k outside = (tt, outside)
outside_both (x ∷ xs) ys k outside = let rest : IsOutside xs k × IsOutside ys k = outside_both xs ys k outside.1 in ((outside.0, rest.0), rest.1)

pub filled_more : (byte : ℕ) (xs ys : List Range) (first so_far next : List ℕ) → IsFilled byte xs first so_far → IsFilled byte ys so_far next → IsFilled byte (xs ++ ys) first next
filled_more byte xs ys first so_far next before step = record {
  size = step.size ∙ before.size;
  filled = λ k below inside. set_at k below (inside_either xs ys k inside) (inside_or_outside ys k);
  others = λ k outside. (let both : IsOutside xs k × IsOutside ys k = outside_both xs ys k outside in step.others k both.1 ∙ before.others k both.0);
} where
  set_at : (k : ℕ) → k < length first → IsInside xs k ⊎ IsInside ys k → IsInside ys k ⊎ IsOutside ys k → get_or next k 0 ≡ byte
  set_at k below either (inl inside) = step.filled k (omega (arith, before.size)) inside
  set_at k below (inr inside) (inr outside) = step.filled k (omega (arith, before.size)) inside
  set_at k below (inl inside) (inr outside) = step.others k outside ∙ before.filled k below inside

pub filled_on : (byte : ℕ) (number : FileNo) (events : List MemChange) (i : ℕ) (event : MemChange) (first so_far next : List ℕ) → i < length events → event ≡ get_or events i event
    → IsFilled byte (ranges_of number (take i events)) first so_far → IsFilled byte (range_of number event) so_far next
    → IsFilled byte (ranges_of number (take (i + 1) events)) first next
filled_on byte number events i event first so_far next within is before step =
    let all : ranges_of number (take (i + 1) events) ≡ ranges_of number (take i events) ++ range_of number event =
    ap (ranges_of number) (events_more events i event within is) ∙ ranges_of-more number (take i events) event in
    rw all (filled_more byte (ranges_of number (take i events)) (range_of number event) first so_far next before step)

-- Events stay parted at the last sync.

settled_disk_after : (number : FileNo) (bytes : List ℕ) (file : DiskFile) → disk_after number (Synced number) bytes file ≡ settled_file bytes
settled_disk_after Zero bytes file = refl
settled_disk_after One bytes file = refl

settled_bytes_after : (number : FileNo) (bytes : List ℕ) → bytes_after number (Synced number) bytes ≡ bytes
settled_bytes_after Zero bytes = refl
settled_bytes_after One bytes = refl

other_disk_after : (number : FileNo) (change : MemChange) (bytes kept : List ℕ) (written : List Range) → (change ≡ Synced number → ⊥)
    → disk_after number change bytes (record { synced = kept; written = written }) ≡ record { synced = kept; written = written ++ range_of number change }
other_disk_after Zero (Wrote Zero place new) bytes kept written other = refl
other_disk_after Zero (Wrote One place new) bytes kept written other = rw append-nil refl
other_disk_after One (Wrote Zero place new) bytes kept written other = rw append-nil refl
other_disk_after One (Wrote One place new) bytes kept written other = refl
other_disk_after Zero (Synced Zero) bytes kept written other = absurd (other refl)
other_disk_after Zero (Synced One) bytes kept written other = rw append-nil refl
other_disk_after One (Synced Zero) bytes kept written other = rw append-nil refl
other_disk_after One (Synced One) bytes kept written other = absurd (other refl)
other_disk_after Zero (WroteRegister reg value) bytes kept written other = rw append-nil refl
other_disk_after One (WroteRegister reg value) bytes kept written other = rw append-nil refl
other_disk_after Zero (WroteRange place new) bytes kept written other = rw append-nil refl
other_disk_after One (WroteRange place new) bytes kept written other = rw append-nil refl
other_disk_after Zero (Put id new) bytes kept written other = rw append-nil refl
other_disk_after One (Put id new) bytes kept written other = rw append-nil refl
other_disk_after Zero (Printed piece) bytes kept written other = rw append-nil refl
other_disk_after One (Printed piece) bytes kept written other = rw append-nil refl

module _ (number : FileNo) (events : List MemChange) (i : ℕ) (event : MemChange) (within : i < length events) (is : event ≡ get_or events i event) where
  more : take (i + 1) events ≡ take i events ++ event ∷ []
  more = events_more events i event within is

  pub parted_here : event ≡ Synced number
      → ArePartedAtSync number (take (i + 1) events) (drop (i + 1) (take (i + 1) events)) (take (i + 1) events)
  parted_here syncs bytes =
      let cs : List MemChange = take i events in
      let none : drop (i + 1) (take (i + 1) events) ≡ [] = drop_all (i + 1) (take (i + 1) events) (omega (arith, length-take (i + 1) events)) in
      let all : take (i + 1) events ≡ cs ++ Synced number ∷ [] = more ∙ ap (λ c. cs ++ c ∷ []) syncs in
      let left : disk_after_all number (take (i + 1) events) bytes (settled_file bytes) ≡ settled_file (bytes_after_all number cs bytes) =
      ap (λ xs. disk_after_all number xs bytes (settled_file bytes)) all
      ∙ (disk_after_all-more number cs (Synced number) bytes (settled_file bytes)
      ∙ settled_disk_after number (bytes_after_all number cs bytes) (disk_after_all number cs bytes (settled_file bytes))) in
      let right : bytes_after_all number (take (i + 1) events) bytes ≡ bytes_after_all number cs bytes =
      ap (λ xs. bytes_after_all number xs bytes) all ∙ (bytes_after_all-more number cs (Synced number) bytes ∙ settled_bytes_after number (bytes_after_all number cs bytes)) in
      let behind : ranges_of number (drop (i + 1) (take (i + 1) events)) ≡ [] = ap (ranges_of number) none in
      rw (left, right, behind) refl

  pub parted_on : (count : ℕ) → count ≤ i → (event ≡ Synced number → ⊥)
      → ArePartedAtSync number (take count events) (drop count (take i events)) (take i events)
      → ArePartedAtSync number (take count events) (drop count (take (i + 1) events)) (take (i + 1) events)
  parted_on count front other so_far bytes =
      let cs : List MemChange = take i events in
      let rest : drop count (take (i + 1) events) ≡ drop count (take i events) ++ event ∷ [] =
      ap (drop count) (take_more events i event within ∙ ap (λ e. take i events ++ e ∷ []) (sym is))
      ∙ drop-append-le count (take i events) (event ∷ []) (omega (arith, length-take i events)) in
      let behind : ranges_of number (drop count (take (i + 1) events)) ≡ ranges_of number (drop count (take i events)) ++ range_of number event =
      ap (ranges_of number) rest ∙ ranges_of-more number (drop count (take i events)) event in
      ap (λ xs. disk_after_all number xs bytes (settled_file bytes)) more
      ∙ (disk_after_all-more number cs event bytes (settled_file bytes)
      ∙ (ap (disk_after number event (bytes_after_all number cs bytes)) (so_far bytes)
      ∙ (other_disk_after number event (bytes_after_all number cs bytes) (bytes_after_all number (take count events) bytes) (ranges_of number (drop count (take i events))) other
      ∙ ap (λ (ranges : List Range). record { synced = bytes_after_all number (take count events) bytes; written = ranges }) (sym behind))))

-- The history of one file is its part of the whole history.

abbrev then : MemChange → Told → Told
then event t = after_act (act_of event) t

abbrev disk_then : MemChange → Told → Disk → Disk
disk_then event t disk = after_all (steps_of (act_of event) t) disk

zero_of : (events : List MemChange) (t : Told) (disk : Disk) → (after_all (steps_of_all (acts_of events) t) disk).zero ≡ disk_after_all Zero events t.here.file0 disk.zero
zero_of [] t disk = refl
zero_of (Wrote Zero place new ∷ xs) t disk = zero_of xs (then (Wrote Zero place new) t) (disk_then (Wrote Zero place new) t disk)
zero_of (Wrote One place new ∷ xs) t disk = zero_of xs (then (Wrote One place new) t) (disk_then (Wrote One place new) t disk)
zero_of (Synced Zero ∷ xs) t disk = zero_of xs (then (Synced Zero) t) (disk_then (Synced Zero) t disk)
zero_of (Synced One ∷ xs) t disk = zero_of xs (then (Synced One) t) (disk_then (Synced One) t disk)
zero_of (WroteRegister reg value ∷ xs) t disk = zero_of xs (then (WroteRegister reg value) t) (disk_then (WroteRegister reg value) t disk)
zero_of (WroteRange place new ∷ xs) t disk = zero_of xs (then (WroteRange place new) t) (disk_then (WroteRange place new) t disk)
zero_of (Put id new ∷ xs) t disk = zero_of xs (then (Put id new) t) (disk_then (Put id new) t disk)
zero_of (Printed piece ∷ xs) t disk = zero_of xs (then (Printed piece) t) (disk_then (Printed piece) t disk)

one_of : (events : List MemChange) (t : Told) (disk : Disk) → (after_all (steps_of_all (acts_of events) t) disk).one ≡ disk_after_all One events t.here.file1 disk.one
one_of [] t disk = refl
one_of (Wrote Zero place new ∷ xs) t disk = one_of xs (then (Wrote Zero place new) t) (disk_then (Wrote Zero place new) t disk)
one_of (Wrote One place new ∷ xs) t disk = one_of xs (then (Wrote One place new) t) (disk_then (Wrote One place new) t disk)
one_of (Synced Zero ∷ xs) t disk = one_of xs (then (Synced Zero) t) (disk_then (Synced Zero) t disk)
one_of (Synced One ∷ xs) t disk = one_of xs (then (Synced One) t) (disk_then (Synced One) t disk)
one_of (WroteRegister reg value ∷ xs) t disk = one_of xs (then (WroteRegister reg value) t) (disk_then (WroteRegister reg value) t disk)
one_of (WroteRange place new ∷ xs) t disk = one_of xs (then (WroteRange place new) t) (disk_then (WroteRange place new) t disk)
one_of (Put id new ∷ xs) t disk = one_of xs (then (Put id new) t) (disk_then (Put id new) t disk)
one_of (Printed piece ∷ xs) t disk = one_of xs (then (Printed piece) t) (disk_then (Printed piece) t disk)

-- the past that these fields of a board mean
abbrev pub past_with : MemFile → MemFile → List Stored → ℕ → List MemChange → Past
past_with zero one store slow events = record { first = new_told (first_bytes zero) (first_bytes one) store slow; acts = acts_of events }

module _ (pick : Pick) (zero one : MemFile) (store : List Stored) (slow : ℕ) (events : List MemChange) (now taken : List ℕ) where
  abbrev past : Past
  past = past_with zero one store slow events

  pub picked_zero : (now_of past).here.file0 ≡ now → IsPicked pick (disk_after_all Zero events (first_bytes zero) (settled_file (first_bytes zero))) now taken
      → IsPicked pick (disk_of past).zero (now_of past).here.file0 taken
  picked_zero is may = rw (zero_of events past.first (settled_disk past.first.here), is) may

  pub picked_one : (now_of past).here.file1 ≡ now → IsPicked pick (disk_after_all One events (first_bytes one) (settled_file (first_bytes one))) now taken
      → IsPicked pick (disk_of past).one (now_of past).here.file1 taken
  picked_one is may = rw (one_of events past.first (settled_disk past.first.here), is) may

-- The picked state may be left.

picked_may : (pick : Pick) (file : DiskFile) (now taken : List ℕ) → MayLeaveFile file now → IsPicked pick file now taken → MayLeaveFile file taken
picked_may Old file now taken may picked = rw picked (record { stays = λ k below outside. refl; no_shorter = omega arith; no_longer = greatest_length-least (length file.synced) file.written })
picked_may New file now taken may picked = rw picked may
picked_may (Fill byte) file now taken may picked = record {
  stays = λ k below outside. picked.others k outside ∙ may.stays k below outside;
  no_shorter = omega (arith, picked.size, may.no_shorter);
  no_longer = omega (arith, picked.size, may.no_longer);
}

pub picked_left : (pick : Pick) (past : Past) (file0 file1 : List ℕ) → IsPicked pick (disk_of past).zero (now_of past).here.file0 file0 → IsPicked pick (disk_of past).one (now_of past).here.file1 file1
    → LeftNow (clock_of past) (record (now_of past).here { file0 = file0; file1 = file1 })
picked_left pick past file0 file1 zero one =
    let may : MayLeave (disk_of past) rests (now_of past).here = here_left past in
    now_counts (settled_disk past.first.here) (steps_of_all past.acts past.first) (length (steps_of_all past.acts past.first)) (record (now_of past).here { file0 = file0; file1 = file1 }) (omega arith) (record {
      zero = picked_may pick (disk_of past).zero (now_of past).here.file0 file0 may.zero zero;
      one = picked_may pick (disk_of past).one (now_of past).here.file1 file1 may.one one;
      store = may.store;
      out = may.out;
    })
