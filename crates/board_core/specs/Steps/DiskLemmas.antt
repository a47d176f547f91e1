-- How the disk model continues over one write, one sync and one print.
use Rattle.std.specs.Prelude.{◌≡◌, ℕ, ◌+◌, ◌-◌, ◌<◌, ◌≤◌, ◌⊎◌, max, min, List, [], ◌∷◌, ◌++◌, length, take, drop, refl}
use Rattle.std.proofs.Common.{sym, ◌∙◌, ap, subst, inl, inr, arith, get_or, append-nil, length-append, length-take, length-drop}
use Rattle.std.proofs.lemmas.Bool.{cases_lt}
use Rattle.std.proofs.lemmas.List.{get_or-take, get_or-drop, get_or_append_left, get_or-append_right, ext_get_or, take-append-le, take-take, take_all, drop_all, drop_at, drop-drop}
use Rattle.board_core.specs.Told.{Torn, overlay}
use Rattle.board_core.specs.Stop.{Begins}
use Rattle.board_core.specs.DiskModel.{Range, IsOutside, greatest_length, DiskFile, MayLeaveFile, with_range}

-- places of one range, and of ranges with one more

pub outside_front : (ranges : List Range) (r : Range) (k : ℕ) → IsOutside (ranges ++ r ∷ []) k → IsOutside ranges k
outside_front [] r k out = tt
outside_front (x ∷ xs) r k out = (out.0, outside_front xs r k out.1)

pub outside_last : (ranges : List Range) (r : Range) (k : ℕ) → IsOutside (ranges ++ r ∷ []) k → (k < r.place) ⊎ (r.place + r.count ≤ k)
outside_last [] r k out = out.0
outside_last (x ∷ xs) r k out = outside_last xs r k out.1

pub outside_more : (ranges : List Range) (r : Range) (k : ℕ) → IsOutside ranges k → (k < r.place) ⊎ (r.place + r.count ≤ k) → IsOutside (ranges ++ r ∷ []) k
outside_more [] r k front last = (last, tt)
outside_more (x ∷ xs) r k front last = (front.0, outside_more xs r k front.1 last)

pub greatest_length-more : (size : ℕ) (ranges : List Range) (r : Range) → greatest_length size (ranges ++ r ∷ []) ≡ max (greatest_length size ranges) (r.place + r.count)
greatest_length-more size [] r = refl
greatest_length-more size (x ∷ xs) r = greatest_length-more (max size (x.place + x.count)) xs r

pub greatest_length-least : (size : ℕ) (ranges : List Range) → size ≤ greatest_length size ranges
greatest_length-least size [] = omega arith
greatest_length-least size (x ∷ xs) = let more : max size (x.place + x.count) ≤ greatest_length (max size (x.place + x.count)) xs = greatest_length-least (max size (x.place + x.count)) xs in omega arith

-- a file's bytes with others written over them

pub length-overlay : (place : ℕ) (bytes old : List ℕ) → length (overlay place bytes old) ≡ min place (length old) + length bytes + (length old - (place + length bytes))
length-overlay place bytes old = simp (length-append, length-take, length-drop) refl

pub overlay_outside : (place : ℕ) (bytes old : List ℕ) (k : ℕ) → k < length old → (k < place) ⊎ (place + length bytes ≤ k) → get_or (overlay place bytes old) k 0 ≡ get_or old k 0
overlay_outside place bytes old k below (inl front) =
    let size : length (take place old) ≡ min place (length old) = length-take place old in
    let first : k < length (take place old) = omega arith in
    let both : k < length (take place old ++ bytes) = omega (arith, length-append (take place old) bytes) in
    get_or_append_left (take place old ++ bytes) (drop (place + length bytes) old) 0 k both
    ∙ (get_or_append_left (take place old) bytes 0 k first ∙ get_or-take place old k 0 front)
overlay_outside place bytes old k below (inr back) =
    let size : length (take place old) ≡ min place (length old) = length-take place old in
    let both : length (take place old ++ bytes) ≡ place + length bytes = omega (arith, length-append (take place old) bytes) in
    let i : ℕ = k - (place + length bytes) in
    let is : place + length bytes + i ≡ k = omega arith in
    get_or-append_right (take place old ++ bytes) (drop (place + length bytes) old) (place + length bytes) k 0 both back
    ∙ (get_or-drop (place + length bytes) old i 0 ∙ ap (λ n. get_or old n 0) is)

pub overlay_inside : (place : ℕ) (bytes old : List ℕ) (k : ℕ) → place ≤ length old → place ≤ k → k < place + length bytes → get_or (overlay place bytes old) k 0 ≡ get_or bytes (k - place) 0
overlay_inside place bytes old k within from below =
    let size : length (take place old) ≡ place = omega (arith, length-take place old) in
    let both : k < length (take place old ++ bytes) = omega (arith, length-append (take place old) bytes) in
    get_or_append_left (take place old ++ bytes) (drop (place + length bytes) old) 0 k both
    ∙ get_or-append_right (take place old) bytes place k 0 size from

-- A torn write leaves all bytes outside of its range.
pub torn_outside : (place count : ℕ) (old new : List ℕ) → Torn place count old new → (k : ℕ) → (k < place) ⊎ (place + count ≤ k) → get_or new k 0 ≡ get_or old k 0
torn_outside place count old new torn k (inl front) = sym (get_or-take place new k 0 front) ∙ (ap (λ xs. get_or xs k 0) torn.front ∙ get_or-take place old k 0 front)
torn_outside place count old new torn k (inr back) =
    let i : ℕ = k - (place + count) in
    let is : place + count + i ≡ k = omega arith in
    let e : get_or (drop (place + count) new) i 0 ≡ get_or (drop (place + count) old) i 0 = ap (λ xs. get_or xs i 0) torn.back in
    let f : get_or new (place + count + i) 0 ≡ get_or old (place + count + i) 0 = sym (get_or-drop (place + count) new i 0) ∙ (e ∙ get_or-drop (place + count) old i 0) in
    subst (λ (n : ℕ). get_or new n 0 ≡ get_or old n 0) is f

-- A torn write after others.
pub torn_more : (file : DiskFile) (place count : ℕ) (old new : List ℕ) → MayLeaveFile file old → Torn place count old new → MayLeaveFile (with_range place count file) new
torn_more file place count old new may torn = record {
  stays = λ k below outside.
      torn_outside place count old new torn k (outside_last file.written (record { place = place; count = count }) k outside)
      ∙ may.stays k below (outside_front file.written (record { place = place; count = count }) k outside);
  no_shorter = (let a : length file.synced ≤ length old = may.no_shorter in let b : length old ≤ length new = torn.longer in omega arith);
  no_longer = (
      let more : greatest_length (length file.synced) (file.written ++ record { place = place; count = count } ∷ []) ≡ max (greatest_length (length file.synced) file.written) (place + count) = greatest_length-more (length file.synced) file.written (record { place = place; count = count }) in
      let a : length old ≤ greatest_length (length file.synced) file.written = may.no_longer in
      let b : length new ≤ max (length old) (place + count) = torn.within in
      omega arith);
}

-- A write that succeeded, after others.
pub overlay_more : (file : DiskFile) (place : ℕ) (bytes old : List ℕ) → MayLeaveFile file old → MayLeaveFile (with_range place (length bytes) file) (overlay place bytes old)
overlay_more file place bytes old may = record {
  stays = λ k below outside.
      (let within : k < length old = omega (arith, may.no_shorter) in
      overlay_outside place bytes old k within (outside_last file.written (record { place = place; count = length bytes }) k outside)
      ∙ may.stays k below (outside_front file.written (record { place = place; count = length bytes }) k outside));
  no_shorter = (let a : length file.synced ≤ length old = may.no_shorter in omega (arith, length-overlay place bytes old));
  no_longer = (
      let more : greatest_length (length file.synced) (file.written ++ record { place = place; count = length bytes } ∷ []) ≡ max (greatest_length (length file.synced) file.written) (place + length bytes) = greatest_length-more (length file.synced) file.written (record { place = place; count = length bytes }) in
      let a : length old ≤ greatest_length (length file.synced) file.written = may.no_longer in
      omega (arith, length-overlay place bytes old));
}

-- what a file may have been before its last write, which was torn

record IsBefore (file : DiskFile) (place count : ℕ) (bytes from : List ℕ) : Type 0 where
  may : MayLeaveFile file from
  torn : Torn place count from bytes

-- The write began past the end of what is left: nothing of it is there.
nothing_written : (file : DiskFile) (place count : ℕ) (bytes : List ℕ) → place ≤ greatest_length (length file.synced) file.written → MayLeaveFile (with_range place count file) bytes → length bytes < place → IsBefore file place count bytes bytes
nothing_written file place count bytes within may short = record {
  may = record {
    stays = λ k below outside. may.stays k below (outside_more file.written (record { place = place; count = count }) k outside (inl (omega (arith, may.no_shorter))));
    no_shorter = may.no_shorter;
    no_longer = omega arith;
  };
  torn = record { front = refl; back = refl; longer = omega arith; within = omega arith };
}

-- A part of the last sync's bytes is in the range again, and what the write added to the length is cut off.
module _ (file : DiskFile) (place count cut : ℕ) (part bytes : List ℕ) (is_cut : cut ≡ greatest_length (length file.synced) file.written) (is_part : part ≡ take count (drop place file.synced)) (within : place ≤ cut) (may : MayLeaveFile (with_range place count file) bytes) (long : place ≤ length bytes) where
  abbrev from : List ℕ
  from = overlay place part (take cut bytes)

  base_size : length (take cut bytes) ≡ min cut (length bytes)
  base_size = length-take cut bytes

  synced_within : length file.synced ≤ cut
  synced_within = omega (arith, greatest_length-least (length file.synced) file.written)

  longest : length bytes ≤ max cut (place + count)
  longest =
      let more : greatest_length (length file.synced) (file.written ++ record { place = place; count = count } ∷ []) ≡ max (greatest_length (length file.synced) file.written) (place + count) = greatest_length-more (length file.synced) file.written (record { place = place; count = count }) in
      omega (arith, may.no_longer)

  part_size : length part ≡ min count (length file.synced - place)
  part_size = ap length is_part ∙ (length-take count (drop place file.synced) ∙ ap (min count) (length-drop place file.synced))

  from_size : length from ≡ min cut (length bytes)
  from_size = omega (arith, length-overlay place part (take cut bytes), base_size, part_size, synced_within, may.no_shorter)

  part_at : (i : ℕ) → i < length part → get_or part i 0 ≡ get_or file.synced (place + i) 0
  part_at i below =
      let less : i < count = omega (arith, part_size) in
      ap (λ xs. get_or xs i 0) is_part ∙ (get_or-take count (drop place file.synced) i 0 less ∙ get_or-drop place file.synced i 0)

  from_outside : (k : ℕ) → k < length file.synced → (k < place) ⊎ (place + length part ≤ k) → get_or from k 0 ≡ get_or bytes k 0
  from_outside k below out =
      let in_base : k < length (take cut bytes) = omega (arith, base_size, synced_within, may.no_shorter) in
      let in_cut : k < cut = omega (arith, synced_within) in
      overlay_outside place part (take cut bytes) k in_base out ∙ get_or-take cut bytes k 0 in_cut

  from_inside : (k : ℕ) → place ≤ k → k < place + length part → get_or from k 0 ≡ get_or file.synced k 0
  from_inside k least below =
      let in_base : place ≤ length (take cut bytes) = omega (arith, base_size) in
      let less : k - place < length part = omega arith in
      let is : place + (k - place) ≡ k = omega arith in
      overlay_inside place part (take cut bytes) k in_base least below
      ∙ (part_at (k - place) less ∙ ap (λ n. get_or file.synced n 0) is)

  stays_at : (k : ℕ) → k < length file.synced → IsOutside file.written k → (k < place) ⊎ (place ≤ k) → (k < place + length part) ⊎ (place + length part ≤ k) → get_or from k 0 ≡ get_or file.synced k 0
  stays_at k below outside (inl front) in_part =
      from_outside k below (inl front) ∙ may.stays k below (outside_more file.written (record { place = place; count = count }) k outside (inl front))
  stays_at k below outside (inr least) (inl inside) = from_inside k least inside
  stays_at k below outside (inr least) (inr past) =
      let behind : place + count ≤ k = omega (arith, part_size) in
      from_outside k below (inr past) ∙ may.stays k below (outside_more file.written (record { place = place; count = count }) k outside (inr behind))

  front_same : take place bytes ≡ take place from
  front_same =
      let in_base : length (take place (take cut bytes)) ≡ place = omega (arith, length-take place (take cut bytes), base_size) in
      let first : place ≤ length (take place (take cut bytes)) = omega arith in
      let both : place ≤ length (take place (take cut bytes) ++ part) = omega (arith, length-append (take place (take cut bytes)) part) in
      sym (take-append-le place (take place (take cut bytes) ++ part) (drop (place + length part) (take cut bytes)) both
      ∙ (take-append-le place (take place (take cut bytes)) part first
      ∙ (take-take place place (take cut bytes) (omega arith) ∙ take-take place cut bytes within)))

  back_same : (cut < length bytes) ⊎ (length bytes ≤ cut) → drop (place + count) bytes ≡ drop (place + count) from
  back_same (inl longer) =
      drop_all (place + count) bytes (omega (arith, longest)) ∙ sym (drop_all (place + count) from (omega (arith, longest, from_size)))
  back_same (inr shorter) =
      let whole : take cut bytes ≡ bytes = take_all cut bytes shorter in
      let size : length (take place (take cut bytes) ++ part) ≡ place + length part = omega (arith, length-append (take place (take cut bytes)) part, length-take place (take cut bytes), base_size) in
      let behind : drop (place + length part) from ≡ drop (place + length part) bytes = drop_at (take place (take cut bytes) ++ part) (drop (place + length part) (take cut bytes)) (place + length part) size ∙ ap (λ xs. drop (place + length part) xs) whole in
      let is : place + length part + (count - length part) ≡ place + count = omega (arith, part_size) in
      let same : drop (place + length part + (count - length part)) bytes ≡ drop (place + length part + (count - length part)) from =
      sym (drop-drop (count - length part) (place + length part) bytes) ∙ (ap (λ xs. drop (count - length part) xs) (sym behind) ∙ drop-drop (count - length part) (place + length part) from) in
      subst (λ (n : ℕ). drop n bytes ≡ drop n from) is same

  is_before : IsBefore file place count bytes from
  is_before = record {
    may = record {
      stays = λ k below outside. stays_at k below outside (cases_lt k place) (cases_lt k (place + length part));
      no_shorter = omega (arith, from_size, synced_within, may.no_shorter);
      no_longer = omega (arith, from_size);
    };
    torn = record {
      front = front_same;
      back = back_same (cases_lt cut (length bytes));
      longer = omega (arith, from_size);
      within = omega (arith, from_size, longest);
    };
  }

before_from : (file : DiskFile) (place count : ℕ) (bytes : List ℕ) → place ≤ greatest_length (length file.synced) file.written → MayLeaveFile (with_range place count file) bytes → (length bytes < place) ⊎ (place ≤ length bytes) → (from : List ℕ) × IsBefore file place count bytes from
before_from file place count bytes within may (inl short) = (bytes, nothing_written file place count bytes within may short)
before_from file place count bytes within may (inr long) = (
  overlay place (take count (drop place file.synced)) (take (greatest_length (length file.synced) file.written) bytes),
  is_before file place count (greatest_length (length file.synced) file.written) (take count (drop place file.synced)) bytes refl refl within may long,
)

pub torn_before : (file : DiskFile) (place count : ℕ) (bytes : List ℕ) → place ≤ greatest_length (length file.synced) file.written → MayLeaveFile (with_range place count file) bytes → (from : List ℕ) × MayLeaveFile file from × Torn place count from bytes
torn_before file place count bytes within may =
    let found : (from : List ℕ) × IsBefore file place count bytes from = before_from file place count bytes within may (cases_lt (length bytes) place) in
    (found.0, found.1.may, found.1.torn)

-- a file on the disk as a read gives it

pub settled_left : (bytes : List ℕ) → MayLeaveFile (record { synced = bytes; written = [] }) bytes
settled_left bytes = record { stays = λ k below outside. refl; no_shorter = omega arith; no_longer = omega arith }

pub settled_only : (bytes left : List ℕ) → MayLeaveFile (record { synced = bytes; written = [] }) left → left ≡ bytes
settled_only bytes left may = ext_get_or 0 left bytes (omega (arith, may.no_shorter, may.no_longer)) (λ i below. may.stays i (omega (arith, may.no_shorter, may.no_longer)) tt)

-- texts

pub begins_none : (old new : List ℕ) → Begins [] old new → new ≡ old
begins_none old new begins = begins.is ∙ (ap (λ xs. old ++ xs) (nothing begins.part begins.missing begins.splits) ∙ append-nil old) where
  nothing : (part missing : List ℕ) → part ++ missing ≡ [] → part ≡ []
  nothing [] missing e = refl
  nothing (x ∷ xs) missing e = cc

pub nothing_begins : (piece text : List ℕ) → Begins piece text text
nothing_begins piece text = record { part = []; missing = piece; splits = refl; is = sym (append-nil text) }
