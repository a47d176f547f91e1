-- What a file contains that has the front of another file, and how a link after its closed gate is read at each point
-- of an append.
use Rattle.std.proofs.Common.{◌≡◌, ◌≢◌, ◌∙◌, ℕ, ◌+◌, ◌^◌, ◌≤◌, ◌<◌, ◌-◌, ◌⊎◌, max, List, [], ◌∷◌, ◌++◌, length, take, drop, get_or, Option, None, Some, Result, Ok, refl, sym, ap, subst, arith, inl, inr, append_assoc}
use Rattle.std.specs.Prelude.{Bool, true, false, slice_index, nat_eq}
use Rattle.std.proofs.lemmas.Bool.{cases_eq}
use Rattle.std.proofs.lemmas.Bool.Decides.{nat_tests}
use Rattle.std.proofs.lemmas.List.{length-take, length-take-le, length-drop, length-append, get_or-take, take_at, drop_at, drop_more, take-take, take-append-drop, take-append-le, append-nil}
use Rattle.ras_base.specs.Chaining.{◌>>=◌}
use Rattle.ras_base.specs.LittleEndian.{u32_bytes, number_at}
use Rattle.ras_base.specs.Steps.LittleEndianLemmas.{length-u32_bytes, number_at-u32_bytes}
use Rattle.board_core.specs.Told.{overlay, Torn}
use Rattle.ras_facts.specs.declared.entry.Entry.{Entry}
use Rattle.journal_format.specs.Links.{payload_bytes, link_bytes}
use Rattle.journal_format.specs.PayloadReading.{payload_of}
use Rattle.ras_journal.specs.declared.limits.TheConstants.{OPEN_GATE, CLOSED_GATE}
use Rattle.ras_journal.specs.Fields.{field, number_of, is_open_of, entries_by, stays_within, some_or}
use Rattle.ras_journal.specs.File.{FileFront, has_open_gate, next_front, whole_front, front_of}
use Rattle.ras_journal.specs.Laws.{followed}
use Rattle.ras_journal.proofs.PartLemmas.{bind_of, reaches, field_same, field_at}
use Rattle.ras_journal.proofs.FrontLemmas.{first_within, first_same, next_whole, first_parts, closed_parts, closed_whole, walk_ended, walk_same, ends_closed, ends_behind, front_parts, front_begun, some_front}

open_same : (gate : ℕ) (one other : List ℕ) → take gate one ≡ take gate other → gate ≤ length other → 2 ≤ gate → has_open_gate other ≡ true → has_open_gate one ≡ true
open_same gate one other same long some is =
    let byte : slice_index one 0 ≡ slice_index other 0 =
    sym (get_or-take gate one 0 0 (omega arith)) ∙ (ap (λ (l : List ℕ). get_or l 0 0) same ∙ get_or-take gate other 0 0 (omega arith)) in
    let reaching : gate ≤ length one = reaches gate one other same long in
    grind (arith, nat_tests)

-- where the closed gate of a front is
pub record Lies (taken : Option ℕ) (file : List ℕ) (whole : FileFront) : Type 0 where
  pub behind : 25 ≤ whole.gate
  pub within : whole.gate < length file
  pub closed : next_front whole file ≡ Ok None
  pub few : whole.links ≤ whole.gate

pub lies : (taken : Option ℕ) (file : List ℕ) (whole : FileFront) → front_of taken file ≡ Ok (Some whole) → Lies taken file whole
lies taken file whole e =
    let s = front_parts taken file whole e in
    let ended = walk_ended (length file) s.first whole file s.walks in
    let first = first_within taken file s.first s.begins in
    let f = first_parts taken file s.first s.begins in
    let none : s.first.links ≡ 0 = f.links in
    let early : 25 ≤ s.first.gate = first.0 in
    let later : s.first.gate ≤ whole.gate = ended.later in
    let counted : whole.links + s.first.gate ≤ whole.gate + s.first.links = ended.links in
    record { behind = omega arith; within = ended.within; closed = ended.closed; few = omega arith }

-- A file with the same bytes up to the closed gate is read in the same way.
pub record ReadOn (taken : Option ℕ) (one : List ℕ) (whole : FileFront) : Type 0 where
  pub left : ℕ
  pub enough : length one ≤ left + whole.gate
  pub on : front_of taken one ≡ (whole_front left whole one >>= some_front)

pub reads_on : (taken : Option ℕ) (one other : List ℕ) (whole : FileFront) → front_of taken other ≡ Ok (Some whole) → take whole.gate one ≡ take whole.gate other → ReadOn taken one whole
reads_on taken one other whole e same =
    let s = front_parts taken other whole e in
    let ended = walk_ended (length other) s.first whole other s.walks in
    let first = first_within taken other s.first s.begins in
    let within : whole.gate < length other = ended.within in
    let later : s.first.gate ≤ whole.gate = ended.later in
    let early : 25 ≤ s.first.gate = first.0 in
    let goes = walk_same (length other) s.first whole one other s.walks same (length one) (omega arith) in
    record {
      left = goes.left;
      enough = goes.enough;
      on = front_begun taken one s.first (open_same whole.gate one other same (omega arith) (omega arith) s.open_gate) (first_same taken whole.gate one other s.first s.begins same (omega arith) later)
          ∙ ap (λ (r : Result FileFront ℕ). r >>= some_front) goes.on;
    }

pub reads_closed : (taken : Option ℕ) (one other : List ℕ) (whole : FileFront) → front_of taken other ≡ Ok (Some whole) → take whole.gate one ≡ take whole.gate other
    → next_front whole one ≡ Ok None → front_of taken one ≡ Ok (Some whole)
reads_closed taken one other whole e same closed =
    let r = reads_on taken one other whole e same in r.on ∙ bind_of _ _ _ (ends_closed r.left whole one closed r.enough)

pub reads_behind : (taken : Option ℕ) (one other : List ℕ) (whole next : FileFront) → front_of taken other ≡ Ok (Some whole) → take whole.gate one ≡ take whole.gate other
    → next_front whole one ≡ Ok (Some next) → next_front next one ≡ Ok None → front_of taken one ≡ Ok (Some next)
reads_behind taken one other whole next e same is closed =
    let r = reads_on taken one other whole e same in r.on ∙ bind_of _ _ _ (ends_behind r.left whole next one is closed r.enough)

-- Bytes after the closed gate decide nothing.
pub reads_same : (taken : Option ℕ) (one other : List ℕ) (whole : FileFront) → front_of taken other ≡ Ok (Some whole) → take (whole.gate + 1) one ≡ take (whole.gate + 1) other → front_of taken one ≡ Ok (Some whole)
reads_same taken one other whole e same =
    let l = lies taken other whole e in
    let within : whole.gate < length other = l.within in
    let front : take whole.gate one ≡ take whole.gate other =
    sym (take-take whole.gate (whole.gate + 1) one (omega arith)) ∙ (ap (λ (list : List ℕ). take whole.gate list) same ∙ take-take whole.gate (whole.gate + 1) other (omega arith)) in
    reads_closed taken one other whole e front
    (closed_whole whole one (field_same is_open_of (whole.gate + 1) whole.gate 1 one other same (omega arith) (omega arith) ∙ closed_parts whole other l.closed))

-- ---- a link that is laid out behind a gate

-- A payload that can be read, and whose entries can continue the account.
pub record CanRead (front : FileFront) (entries : List Entry) : Type 0 where
  pub fits : length (payload_bytes entries) < 2 ^ 32
  pub reads : payload_of front.version (payload_bytes entries) ≡ Some entries
  pub within : stays_within front.account entries ≡ true

taken_entries : (front : FileFront) (entries : List Entry) → CanRead front entries → entries_by front.version front.account (payload_bytes entries) ≡ Some entries
taken_entries front entries can = rw can.reads (rw can.within refl)

pub gate_at : (front : FileFront) (file before rest : List ℕ) (byte : ℕ) → file ≡ before ++ (byte ∷ rest) → front.gate ≡ length before → field is_open_of front.gate 1 file ≡ Ok (nat_eq byte OPEN_GATE)
gate_at front file before rest byte laid place = field_at is_open_of front.gate 1 file before (byte ∷ []) rest laid place refl

pub link_follows : (front : FileFront) (file before rest : List ℕ) (entries : List Entry) → file ≡ before ++ (OPEN_GATE ∷ (link_bytes entries ++ rest)) → front.gate ≡ length before → CanRead front entries
    → next_front front file ≡ Ok (Some (followed front entries))
unfolding link_bytes
link_follows front file before rest entries laid place can =
    let payload = payload_bytes entries in
    let count = length payload in
    let size = u32_bytes count in
    let gate = OPEN_GATE ∷ [] in
    let behind_gate : file ≡ (before ++ gate) ++ (size ++ (payload ++ rest)) =
    laid ∙ (ap (λ (l : List ℕ). before ++ (OPEN_GATE ∷ l)) (append_assoc size payload rest) ∙ sym (append_assoc before gate (size ++ (payload ++ rest)))) in
    let behind_size : file ≡ ((before ++ gate) ++ size) ++ (payload ++ rest) = behind_gate ∙ sym (append_assoc (before ++ gate) size (payload ++ rest)) in
    let wide : length size ≡ 4 = length-u32_bytes count in
    let one_more : length (before ++ gate) ≡ length before + 1 = length-append before gate in
    let five_more : length ((before ++ gate) ++ size) ≡ length (before ++ gate) + length size = length-append (before ++ gate) size in
    let number : number_of 4 size ≡ Some count = ap (λ (n : ℕ). Some n) (ap (λ (l : List ℕ). number_at 0 4 l) (sym (append-nil size)) ∙ number_at-u32_bytes count [] can.fits) in
    next_whole front (followed front entries) file (record {
      count = count;
      entries = entries;
      gate = gate_at front file before _ OPEN_GATE laid place;
      size = field_at (number_of 4) (front.gate + 1) 4 file (before ++ gate) size (payload ++ rest) behind_gate (omega arith) (sym wide) ∙ ap (λ (o : Option ℕ). some_or (front.gate + 1) o) number;
      payload = field_at (entries_by front.version front.account) (front.gate + 5) count file ((before ++ gate) ++ size) payload rest behind_size (omega arith) refl
          ∙ ap (λ (o : Option (List Entry)). some_or (front.gate + 5) o) (taken_entries front entries can);
      is = refl;
    })

-- A file with a byte at the closed gate, a link after it, and the next closed gate.
pub record LaidOut (base : List ℕ) (gate byte : ℕ) (entries : List Entry) (file : List ℕ) : Type 0 where
  pub next : ℕ
  pub rest : List ℕ
  pub is : file ≡ take gate base ++ (byte ∷ (link_bytes entries ++ (next ∷ rest)))
  pub closed : next ≢ OPEN_GATE

pub front_laid : (base file after : List ℕ) (gate : ℕ) → gate ≤ length base → file ≡ take gate base ++ after → take gate file ≡ take gate base
front_laid base file after gate within laid = ap (λ (l : List ℕ). take gate l) laid ∙ take_at (take gate base) after gate (length-take-le gate base within)

pub closed_test : (byte : ℕ) → byte ≢ OPEN_GATE → nat_eq byte OPEN_GATE ≡ false
closed_test byte shut = grind (arith, nat_tests)

pub gate_closed : (front : FileFront) (file before rest : List ℕ) (byte : ℕ) → file ≡ before ++ (byte ∷ rest) → front.gate ≡ length before → byte ≢ OPEN_GATE → next_front front file ≡ Ok None
gate_closed front file before rest byte laid place shut =
    closed_whole front file (gate_at front file before rest byte laid place ∙ ap (λ (b : Bool). Ok b) (closed_test byte shut))

pub link_length : (entries : List Entry) → length (link_bytes entries) ≡ 4 + length (payload_bytes entries)
unfolding link_bytes
link_length entries =
    length-append (u32_bytes (length (payload_bytes entries))) (payload_bytes entries) ∙ ap (λ (n : ℕ). n + length (payload_bytes entries)) (length-u32_bytes (length (payload_bytes entries)))

pub gate_place : (taken : Option ℕ) (base : List ℕ) (front : FileFront) → front_of taken base ≡ Ok (Some front) → (front.gate ≤ length base) × (front.gate ≡ length (take front.gate base))
gate_place taken base front e =
    let l = lies taken base front e in
    let within : front.gate < length base = l.within in
    (omega arith, sym (length-take-le front.gate base (omega arith)))

pub reads_opened : (taken : Option ℕ) (base file : List ℕ) (front : FileFront) (entries : List Entry) → front_of taken base ≡ Ok (Some front) → CanRead front entries → LaidOut base front.gate OPEN_GATE entries file
    → front_of taken file ≡ Ok (Some (followed front entries))
reads_opened taken base file front entries e can laid =
    let g = gate_place taken base front e in
    let start : front.gate ≡ length (take front.gate base) = g.1 in
    let link = link_bytes entries in
    let next = followed front entries in
    let behind : file ≡ (take front.gate base ++ (OPEN_GATE ∷ link)) ++ (laid.next ∷ laid.rest) =
    laid.is ∙ sym (append_assoc (take front.gate base) (OPEN_GATE ∷ link) (laid.next ∷ laid.rest)) in
    let place : next.gate ≡ length (take front.gate base ++ (OPEN_GATE ∷ link)) = omega (arith, length-append (take front.gate base) (OPEN_GATE ∷ link), link_length entries) in
    reads_behind taken file base front next e (front_laid base file _ front.gate g.0 laid.is)
    (link_follows front file (take front.gate base) (laid.next ∷ laid.rest) entries laid.is start can)
    (gate_closed next file (take front.gate base ++ (OPEN_GATE ∷ link)) laid.rest laid.next behind place laid.closed)

reads_unopened : (taken : Option ℕ) (base file : List ℕ) (front : FileFront) (byte : ℕ) (entries : List Entry) → front_of taken base ≡ Ok (Some front) → byte ≢ OPEN_GATE → LaidOut base front.gate byte entries file → front_of taken file ≡ Ok (Some front)
reads_unopened taken base file front byte entries e shut laid =
    let g = gate_place taken base front e in
    reads_closed taken file base front e (front_laid base file _ front.gate g.0 laid.is) (gate_closed front file (take front.gate base) _ byte laid.is g.1 shut)

-- Whatever byte is at the gate, the link is read whole or not at all.
pub reads_gate : (taken : Option ℕ) (base file : List ℕ) (front : FileFront) (byte : ℕ) (entries : List Entry) → front_of taken base ≡ Ok (Some front) → CanRead front entries → LaidOut base front.gate byte entries file
    → (front_of taken file ≡ Ok (Some front)) ⊎ (front_of taken file ≡ Ok (Some (followed front entries)))
reads_gate taken base file front byte entries e can laid = elim (cases_eq byte OPEN_GATE) [
  | inl is ↦ inr (reads_opened taken base file front entries e can (subst (λ (b : ℕ). LaidOut base front.gate b entries file) is laid))
  | inr shut ↦ inl (reads_unopened taken base file front byte entries e shut laid)
]

-- ---- the moments of an append

pub closed_is : CLOSED_GATE ≢ OPEN_GATE
closed_is e = absurd (omega (arith, e))

-- the file with the link on the disk, and the link's own gate still closed
abbrev pub linked : List ℕ → ℕ → List ℕ → List ℕ
linked base gate link = overlay (gate + 1) (link ++ CLOSED_GATE ∷ []) base

pub record Linked (base : List ℕ) (gate : ℕ) (link : List ℕ) : Type 0 where
  pub rest : List ℕ
  pub behind : drop (gate + 1) (linked base gate link) ≡ link ++ (CLOSED_GATE ∷ rest)
  pub front : take gate (linked base gate link) ≡ take gate base
  pub longer : gate + 1 + length link < length (linked base gate link)
  pub kept : length base ≤ length (linked base gate link)
  pub within : length (linked base gate link) ≤ max (length base) (gate + 1 + length link + 1)

pub linked_parts : (base : List ℕ) (gate : ℕ) (link : List ℕ) → gate < length base → Linked base gate link
linked_parts base gate link within =
    let piece = link ++ CLOSED_GATE ∷ [] in
    let front = take (gate + 1) base in
    let rest = drop (gate + 1 + length piece) base in
    let size : length front ≡ gate + 1 = length-take-le (gate + 1) base (omega arith) in
    let laid : (front ++ piece) ++ rest ≡ front ++ (piece ++ rest) = append_assoc front piece rest in
    let longer : length ((front ++ piece) ++ rest) ≡ length front + length piece + length rest = length-append (front ++ piece) rest ∙ ap (λ (n : ℕ). n + length rest) (length-append front piece) in
    let piece_size : length piece ≡ length link + 1 = length-append link (CLOSED_GATE ∷ []) in
    let rest_size : length rest ≡ length base - (gate + 1 + length piece) = length-drop (gate + 1 + length piece) base in
    record {
      rest = rest;
      behind = ap (λ (l : List ℕ). drop (gate + 1) l) laid ∙ (drop_at front (piece ++ rest) (gate + 1) size ∙ append_assoc link (CLOSED_GATE ∷ []) rest);
      front = ap (λ (l : List ℕ). take gate l) laid ∙ (take-append-le gate front (piece ++ rest) (omega arith) ∙ take-take gate (gate + 1) base (omega arith));
      longer = omega arith;
      kept = omega arith;
      within = omega arith;
    }

-- the file with the link's gate opened
abbrev pub opened : List ℕ → ℕ → List ℕ → List ℕ
opened base gate link = overlay gate (OPEN_GATE ∷ []) (linked base gate link)

opened_laid : (base : List ℕ) (gate : ℕ) (link : List ℕ) (w : Linked base gate link) → opened base gate link ≡ take gate base ++ (OPEN_GATE ∷ (link ++ (CLOSED_GATE ∷ w.rest)))
opened_laid base gate link w =
    let b1 = linked base gate link in
    append_assoc (take gate b1) (OPEN_GATE ∷ []) (drop (gate + 1) b1)
    ∙ (ap (λ (front : List ℕ). front ++ (OPEN_GATE ∷ drop (gate + 1) b1)) w.front ∙ ap (λ (rest : List ℕ). take gate base ++ (OPEN_GATE ∷ rest)) w.behind)

-- Opening the gate doesn't change the file's length.
pub opened_length : (base : List ℕ) (gate : ℕ) (link : List ℕ) → gate < length base → length (opened base gate link) ≡ length (linked base gate link)
opened_length base gate link within =
    let w = linked_parts base gate link within in
    let b1 = linked base gate link in
    let kept : length base ≤ length b1 = w.kept in
    omega (arith, length-append (take gate b1 ++ (OPEN_GATE ∷ [])) (drop (gate + 1) b1), length-append (take gate b1) (OPEN_GATE ∷ []), length-take gate b1, length-drop (gate + 1) b1)

-- A torn write of the link changes nothing.
pub torn_link : (taken : Option ℕ) (base file : List ℕ) (front : FileFront) (count : ℕ) → front_of taken base ≡ Ok (Some front) → Torn (front.gate + 1) count base file → front_of taken file ≡ Ok (Some front)
torn_link taken base file front count e torn = reads_same taken file base front e torn.front

-- After a torn write of the gate the link is read whole or not at all.
pub torn_gate : (taken : Option ℕ) (base file : List ℕ) (front : FileFront) (entries : List Entry) → front_of taken base ≡ Ok (Some front) → CanRead front entries
    → Torn front.gate 1 (linked base front.gate (link_bytes entries)) file → (front_of taken file ≡ Ok (Some front)) ⊎ (front_of taken file ≡ Ok (Some (followed front entries)))
torn_gate taken base file front entries e can torn =
    let l = lies taken base front e in
    let within : front.gate < length base = l.within in
    let link = link_bytes entries in
    let w = linked_parts base front.gate link within in
    let byte = get_or file front.gate 0 in
    let longer : length (linked base front.gate link) ≤ length file = torn.longer in
    let before : length base ≤ length (linked base front.gate link) = w.kept in
    let here : drop front.gate file ≡ byte ∷ (link ++ (CLOSED_GATE ∷ w.rest)) =
    drop_more file front.gate 0 (omega arith) ∙ ap (λ (rest : List ℕ). byte ∷ rest) (torn.back ∙ w.behind) in
    let whole : file ≡ take front.gate base ++ (byte ∷ (link ++ (CLOSED_GATE ∷ w.rest))) =
    sym (take-append-drop front.gate file) ∙ (ap (λ (part : List ℕ). part ++ drop front.gate file) (torn.front ∙ w.front) ∙ ap (λ (rest : List ℕ). take front.gate base ++ rest) here) in
    reads_gate taken base file front byte entries e can (record { next = CLOSED_GATE; rest = w.rest; is = whole; closed = closed_is })

-- After the whole append the link is read.
pub gate_written : (taken : Option ℕ) (base : List ℕ) (front : FileFront) (entries : List Entry) → front_of taken base ≡ Ok (Some front) → CanRead front entries
    → front_of taken (opened base front.gate (link_bytes entries)) ≡ Ok (Some (followed front entries))
gate_written taken base front entries e can =
    let l = lies taken base front e in
    let within : front.gate < length base = l.within in
    let w = linked_parts base front.gate (link_bytes entries) within in
    reads_opened taken base (opened base front.gate (link_bytes entries)) front entries e can (record { next = CLOSED_GATE; rest = w.rest; is = opened_laid base front.gate (link_bytes entries) w; closed = closed_is })
