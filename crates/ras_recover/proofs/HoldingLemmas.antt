-- What the window contains, over a modelled board.
use Rattle.std.proofs.Common.{◌≡◌, ◌∙◌, ℕ, ◌+◌, ◌-◌, ◌^◌, ◌≤◌, ◌<◌, min, List, length, take, drop, Option, None, Some, Result, Ok, Err, sym, ap, subst, arith, inl, inr}
use Rattle.std.specs.Prelude.{true, IfSome, OnOk}
use Rattle.std.specs.Option.{option_map}
use Rattle.std.proofs.lemmas.List.{length-drop, drop-take, drop-drop}
use Rattle.board_core.specs.Stop.{Left, file_in}
use Rattle.board_core.specs.Told.{Told, file_of}
use Rattle.ras_journal.specs.declared.limits.TheConstants.{LONGEST_FILE}
use Rattle.ras_journal.specs.Fields.{field, number_of, is_open_of}
use Rattle.ras_journal.specs.File.{FileFront, next_front, whole_front}
use Rattle.ras_recover.specs.declared.window.SizedFile.{SizedFile}
use Rattle.ras_recover.specs.declared.window.Window.{Window}
use Rattle.ras_recover.specs.declared.place.ReadRefused.{ReadRefused}
use Rattle.ras_recover.specs.declared.place.ReadRefused.TheVariants.{Disk, Damaged, NoMemory}
use Rattle.ras_recover.specs.Steps.Windows.{end_of, Spans, IsWindowOf, Sees, IsAnswer, LinkHeld}
use Rattle.ras_recover.proofs.KeepingLemmas.{before}
use Rattle.ras_recover.proofs.ReadingLemmas.{walk_on, walk_ends, walk_breaks, walk_over}
use Rattle.ras_recover.proofs.WindowLemmas.{damage_near, field_piece, early, next_held, next_from, at_front, next_behind}

pub seen_before : (file : SizedFile) (window : Window) (old new : Option Told) → option_map (λ (t : Told). t.here) new ≡ option_map (λ (t : Told). t.here) old → Sees file new window → Sees file old window
seen_before file window old new same sees = before (λ (l : Left). IsWindowOf file window (file_in file.no l)) old new same sees

-- The window's bytes from an offset on are the bytes of the file there.
pub rest_is : (file : SizedFile) (place : ℕ) (window : Window) (bytes : List ℕ) → Spans file place window → IsWindowOf file window bytes → drop (place - window.start) window.bytes.items ≡ take (end_of window - place) (drop place bytes)
rest_is file place window bytes spans is =
    let items = window.bytes.items in
    let from : window.start ≤ place = spans.from in
    let upto : place ≤ window.start + length items = spans.upto in
    let parts : length items ≡ (place - window.start) + (end_of window - place) = omega arith in
    let behind : window.start + (place - window.start) ≡ place = omega arith in
    ap (λ (l : List ℕ). drop (place - window.start) l) (is.held ∙ ap (λ (n : ℕ). take n (drop window.start bytes)) parts)
    ∙ (drop-take (place - window.start) (end_of window - place) (drop window.start bytes)
    ∙ ap (λ (l : List ℕ). take (end_of window - place) l) (drop-drop (place - window.start) window.start bytes ∙ ap (λ (n : ℕ). drop n bytes) behind))

-- ---- the link after a gate

pub record Gate (file : SizedFile) (gate : ℕ) (window : Window) (rest bytes : List ℕ) : Type 0 where
  pub spans : Spans file gate window
  pub window_of : IsWindowOf file window bytes
  pub held : min (gate + 5) file.size ≤ end_of window
  pub rest_is : rest ≡ drop (gate - window.start) window.bytes.items

gate_fields : (file : SizedFile) (gate : ℕ) (window : Window) (rest bytes : List ℕ) → Gate file gate window rest bytes → min 5 (length (drop gate bytes)) ≤ end_of window - gate
gate_fields file gate window rest bytes is =
    let size : file.size ≡ length bytes = is.window_of.size in
    let held : min (gate + 5) file.size ≤ end_of window = is.held in
    let upto : gate ≤ end_of window = is.spans.upto in
    omega (arith, length-drop gate bytes)

piece_is : (file : SizedFile) (gate : ℕ) (window : Window) (rest bytes : List ℕ) → Gate file gate window rest bytes → rest ≡ take (end_of window - gate) (drop gate bytes)
piece_is file gate window rest bytes is = is.rest_is ∙ rest_is file gate window bytes is.spans is.window_of

open_there : (file : SizedFile) (gate : ℕ) (window : Window) (rest bytes : List ℕ) → Gate file gate window rest bytes → field is_open_of 0 1 rest ≡ field is_open_of 0 1 (drop gate bytes)
open_there file gate window rest bytes is =
    ap (λ (l : List ℕ). field is_open_of 0 1 l) (piece_is file gate window rest bytes is)
    ∙ field_piece is_open_of 0 1 (end_of window - gate) (drop gate bytes) (early 5 1 (end_of window - gate) (drop gate bytes) (omega arith) (gate_fields file gate window rest bytes is))

count_there : (file : SizedFile) (gate : ℕ) (window : Window) (rest bytes : List ℕ) → Gate file gate window rest bytes → field (number_of 4) 1 4 rest ≡ field (number_of 4) 1 4 (drop gate bytes)
count_there file gate window rest bytes is =
    ap (λ (l : List ℕ). field (number_of 4) 1 4 l) (piece_is file gate window rest bytes is)
    ∙ field_piece (number_of 4) 1 4 (end_of window - gate) (drop gate bytes) (early 5 5 (end_of window - gate) (drop gate bytes) (omega arith) (gate_fields file gate window rest bytes is))

gate_of : (file : SizedFile) (gate : ℕ) (window : Window) (rest : List ℕ) (t : Told) → Spans file gate window → Sees file (Some t) window → min (gate + 5) file.size ≤ end_of window → rest ≡ drop (gate - window.start) window.bytes.items
    → Gate file gate window rest (file_of file.no t)
gate_of file gate window rest t spans sees held is = record { spans = spans; window_of = sees; held = held; rest_is = is }

-- The window has no complete link length.
pub link_none : (file : SizedFile) (gate : ℕ) (window : Window) (rest : List ℕ) (told : Option Told) → Spans file gate window → Sees file told window → IfSome told (λ t. min (gate + 5) file.size ≤ end_of window) → rest ≡ drop (gate - window.start) window.bytes.items
    → ((count : ℕ) → field is_open_of 0 1 rest ≡ Ok true → field (number_of 4) 1 4 rest ≡ Ok count → ⊥) → IfSome told (λ t. LinkHeld (end_of window - gate) (drop gate (file_of file.no t)))
link_none file gate window rest None spans sees held is none = tt
link_none file gate window rest (Some t) spans sees held is none =
    let g = gate_of file gate window rest t spans sees held is in
    record {
      gate = gate_fields file gate window rest (file_of file.no t) g;
      payload = λ count opened counted. absurd (none count (open_there file gate window rest (file_of file.no t) g ∙ opened) (count_there file gate window rest (file_of file.no t) g ∙ counted));
    }

-- The link is longer than the file.
pub link_long : (file : SizedFile) (gate n : ℕ) (window : Window) (rest : List ℕ) (told : Option Told) → Spans file gate window → Sees file told window → IfSome told (λ t. min (gate + 5) file.size ≤ end_of window) → rest ≡ drop (gate - window.start) window.bytes.items
    → ((count : ℕ) → field (number_of 4) 1 4 rest ≡ Ok count → n ≡ 5 + count) → file.size - gate < n → IfSome told (λ t. LinkHeld (end_of window - gate) (drop gate (file_of file.no t)))
link_long file gate n window rest None spans sees held is some long = tt
link_long file gate n window rest (Some t) spans sees held is some long =
    let bytes = file_of file.no t in
    let g = gate_of file gate window rest t spans sees held is in
    let size : file.size ≡ length bytes = sees.size in
    record {
      gate = gate_fields file gate window rest bytes g;
      payload = λ count opened counted. (let whole : n ≡ 5 + count = some count (count_there file gate window rest bytes g ∙ counted) in inr (omega (arith, length-drop gate bytes)));
    }

-- The window contained the link.
whole_there : (file : SizedFile) (gate n : ℕ) (window later : Window) (rest : List ℕ) (t : Told) → Spans file gate window → Sees file (Some t) window → min (gate + 5) file.size ≤ end_of window → rest ≡ drop (gate - window.start) window.bytes.items
    → ((count : ℕ) → field (number_of 4) 1 4 rest ≡ Ok count → n ≡ 5 + count) → 5 ≤ n → n ≤ file.size - gate → min (gate + n) file.size ≤ end_of later → LinkHeld (end_of later - gate) (drop gate (file_of file.no t))
whole_there file gate n window later rest t spans sees held is some least short now =
    let bytes = file_of file.no t in
    let g = gate_of file gate window rest t spans sees held is in
    let size : file.size ≡ length bytes = sees.size in
    let upto : gate ≤ end_of window = spans.upto in
    let within : end_of window ≤ file.size = spans.within in
    record {
      gate = omega (arith, length-drop gate bytes);
      payload = λ count opened counted. (let whole : n ≡ 5 + count = some count (count_there file gate window rest bytes g ∙ counted) in inl (omega arith));
    }

pub link_whole : {T E : Type 0} (result : Result T E) (file : SizedFile) (gate n : ℕ) (window later : Window) (rest : List ℕ) (told next : Option Told) → option_map (λ (t : Told). t.here) next ≡ option_map (λ (t : Told). t.here) told
    → Spans file gate window → Sees file next window → IfSome told (λ t. min (gate + 5) file.size ≤ end_of window) → rest ≡ drop (gate - window.start) window.bytes.items
    → ((count : ℕ) → field (number_of 4) 1 4 rest ≡ Ok count → n ≡ 5 + count) → 5 ≤ n → n ≤ file.size - gate → OnOk result (IfSome next (λ t. min (gate + n) file.size ≤ end_of later))
    → OnOk result (IfSome told (λ t. LinkHeld (end_of later - gate) (drop gate (file_of file.no t))))
link_whole (Err why) file gate n window later rest told next same spans sees held is some least short now = tt
link_whole (Ok x) file gate n window later rest None next same spans sees held is some least short now = tt
link_whole (Ok x) file gate n window later rest (Some t) None same spans sees held is some least short now = absurd cc
link_whole (Ok x) file gate n window later rest (Some t) (Some u) same spans sees held is some least short now =
    whole_there file gate n window later rest t spans (seen_before file window (Some t) (Some u) same sees) held is some least short now

-- The next front, read from the window, is the next front of the file.
pub next_told : (file : SizedFile) (window : Window) (front : FileFront) (rest : List ℕ) (told : Option Told) (read : Result (Option FileFront) ℕ) → Spans file front.gate window → Sees file told window
    → IfSome told (λ t. LinkHeld (end_of window - front.gate) (drop front.gate (file_of file.no t))) → rest ≡ drop (front.gate - window.start) window.bytes.items → next_front (at_front front) rest ≡ read
    → IfSome told (λ t. next_front front (file_of file.no t) ≡ next_behind front.gate read)
next_told file window front rest None read spans sees held is reads = tt
next_told file window front rest (Some t) read spans sees held is reads =
    let bytes = file_of file.no t in
    let size : file.size ≡ length bytes = sees.size in
    let upto : front.gate ≤ end_of window = spans.upto in
    let within : end_of window ≤ file.size = spans.within in
    next_from front bytes (omega arith)
    ∙ ap (λ (r : Result (Option FileFront) ℕ). next_behind front.gate r)
    (sym (next_held front (end_of window - front.gate) (drop front.gate bytes) held)
    ∙ (ap (λ (l : List ℕ). next_front (at_front front) l) (sym (is ∙ rest_is file front.gate window bytes spans sees)) ∙ reads))

-- the offset of damage in the file
pub damaged_told : (file : SizedFile) (window : Window) (front : FileFront) (rest : List ℕ) (told : Option Told) (at n : ℕ) → Spans file front.gate window → Sees file told window
    → IfSome told (λ t. LinkHeld (end_of window - front.gate) (drop front.gate (file_of file.no t))) → rest ≡ drop (front.gate - window.start) window.bytes.items → next_front (at_front front) rest ≡ Err at
    → n ≡ min (front.gate + at) (2 ^ 64 - 1) → IfSome told (λ t. next_front front (file_of file.no t) ≡ Err n)
damaged_told file window front rest told at n spans sees held is reads number =
    let near : at ≤ 5 = damage_near front rest at reads in
    let upto : front.gate ≤ end_of window = spans.upto in
    let within : end_of window ≤ file.size = spans.within in
    let short : file.size ≤ LONGEST_FILE = spans.short in
    let same : front.gate + at ≡ n = omega arith in
    subst (λ (m : ℕ). IfSome told (λ t. next_front front (file_of file.no t) ≡ Err m)) same (next_told file window front rest told (Err at) spans sees held is reads)

-- ---- the walk along the chain

abbrev pub GoesOn : SizedFile → Option Told → ℕ → FileFront → FileFront → Type 0
GoesOn file told counter first now =
    IfSome told (λ t. whole_front (length (file_of file.no t)) first (file_of file.no t) ≡ whole_front (length (file_of file.no t) - counter) now (file_of file.no t))

abbrev pub Answers : SizedFile → Option Told → FileFront → Result (Option FileFront) ℕ → Type 0
Answers file told front read = IfSome told (λ t. next_front front (file_of file.no t) ≡ read)

pub next_before : (file : SizedFile) (old new : Option Told) (front : FileFront) (read : Result (Option FileFront) ℕ) → option_map (λ (t : Told). t.here) new ≡ option_map (λ (t : Told). t.here) old → Answers file new front read → Answers file old front read
next_before file old new front read same is = before (λ (l : Left). next_front front (file_in file.no l) ≡ read) old new same is

pub goes_next : (file : SizedFile) (window : Window) (told : Option Told) (counter : ℕ) (first now next : FileFront) → Sees file told window → counter < file.size → GoesOn file told counter first now → Answers file told now (Ok (Some next))
    → GoesOn file told (counter + 1) first next
goes_next file window None counter first now next sees less so_far is = tt
goes_next file window (Some t) counter first now next sees less so_far is =
    let size : file.size ≡ length (file_of file.no t) = sees.size in
    so_far ∙ walk_on (length (file_of file.no t)) counter now next (file_of file.no t) (omega arith) is

pub goes_end : (file : SizedFile) (window : Window) (told : Option Told) (counter : ℕ) (first now last : FileFront) → Sees file told window → counter < file.size → GoesOn file told counter first now → Answers file told now (Ok None) → now ≡ last
    → IfSome told (λ t. whole_front (length (file_of file.no t)) first (file_of file.no t) ≡ Ok last)
goes_end file window None counter first now last sees less so_far is same = tt
goes_end file window (Some t) counter first now last sees less so_far is same =
    let size : file.size ≡ length (file_of file.no t) = sees.size in
    so_far ∙ (walk_ends (length (file_of file.no t)) counter now (file_of file.no t) (omega arith) is ∙ ap (λ (f : FileFront). Ok f) same)

pub goes_over : (file : SizedFile) (window : Window) (told : Option Told) (counter : ℕ) (first now : FileFront) → Sees file told window → file.size ≤ counter → GoesOn file told counter first now
    → IfSome told (λ t. whole_front (length (file_of file.no t)) first (file_of file.no t) ≡ Err now.gate)
goes_over file window None counter first now sees over so_far = tt
goes_over file window (Some t) counter first now sees over so_far =
    let size : file.size ≡ length (file_of file.no t) = sees.size in
    so_far ∙ walk_over (length (file_of file.no t)) counter now (file_of file.no t) (omega arith)

pub goes_wrong : {S T : Type 0} (view : S → Option FileFront) (other : T → FileFront) (why : ReadRefused) (file : SizedFile) (window : Window) (told : Option Told) (counter : ℕ) (first now : FileFront) → Sees file told window → counter < file.size
    → GoesOn file told counter first now → IfSome told (λ t. IsAnswer view (Err why) (next_front now (file_of file.no t)))
    → IfSome told (λ t. IsAnswer other (Err why) (whole_front (length (file_of file.no t)) first (file_of file.no t)))
goes_wrong view other why file window None counter first now sees less so_far is = tt
goes_wrong view other Disk file window (Some t) counter first now sees less so_far is = tt
goes_wrong view other NoMemory file window (Some t) counter first now sees less so_far is = tt
goes_wrong view other (Damaged at) file window (Some t) counter first now sees less so_far is =
    let size : file.size ≡ length (file_of file.no t) = sees.size in
    so_far ∙ walk_breaks (length (file_of file.no t)) counter at now (file_of file.no t) (omega arith) is

-- What a later call returned holds of the earlier model.
pub wrong_before : {S : Type 0} (view : S → Option FileFront) (why : ReadRefused) (file : SizedFile) (old new : Option Told) (now : FileFront) → option_map (λ (t : Told). t.here) new ≡ option_map (λ (t : Told). t.here) old
    → IfSome new (λ t. IsAnswer view (Err why) (next_front now (file_of file.no t))) → IfSome old (λ t. IsAnswer view (Err why) (next_front now (file_of file.no t)))
wrong_before view why file old new now same is = before (λ (l : Left). IsAnswer view (Err why) (next_front now (file_in file.no l))) old new same is
