-- A file that was read up to its closed gate.
use Rattle.std.proofs.Common.{◌≡◌, ◌∙◌, ℕ, ◌+◌, ◌-◌, ◌^◌, ◌≤◌, ◌<◌, min, List, length, take, drop, Option, None, Some, Result, Ok, Err, sym, ap, arith, inl, inr}
use Rattle.std.specs.Prelude.{Bool, true, false, if◌then◌else◌, IfSome, OnOk}
use Rattle.std.specs.Option.{option_map}
use Rattle.std.proofs.lemmas.Bool.Decides.{nat_tests}
use Rattle.ras_base.specs.LittleEndian.{number_at}
use Rattle.board_core.specs.declared.board.FileNo.{FileNo}
use Rattle.board_core.specs.Doing.{Seen, went_well}
use Rattle.board_core.specs.Stop.{Left, file_in}
use Rattle.board_core.specs.Told.{Told, file_of}
use Rattle.entry_format.specs.declared.version.Version.{Version}
use Rattle.journal_format.specs.CheckpointReading.{checkpoint_of}
use Rattle.ras_journal.specs.declared.limits.TheConstants.{LONGEST_FILE}
use Rattle.ras_journal.specs.Fields.{field, number_of, version_of, generation_of, is_generation}
use Rattle.ras_journal.specs.File.{FileFront, has_open_gate, first_front, whole_front, front_of}
use Rattle.ras_journal.specs.Recovered.{is_shut}
use Rattle.ras_journal.proofs.FormattingLemmas.{absent}
use Rattle.ras_journal.proofs.FrontLemmas.{first_parts, front_parts}
use Rattle.ras_journal.proofs.PartLemmas.{same_ok, field_made}
use Rattle.ras_recover.specs.declared.place.ReadRefused.{ReadRefused}
use Rattle.ras_recover.specs.declared.place.ReadRefused.TheVariants.{Disk, Damaged, NoMemory}
use Rattle.ras_recover.specs.declared.window.SizedFile.{SizedFile}
use Rattle.ras_recover.specs.declared.window.Window.{Window}
use Rattle.ras_recover.specs.Steps.Looking.{AreReads, Looks, ReadsPart}
use Rattle.ras_recover.specs.DiskCalls.{Calls}
use Rattle.ras_recover.specs.OpeningCalls.{ReadsStanding}
use Rattle.ras_recover.specs.Steps.Reading.{IsUnread}
use Rattle.ras_recover.specs.Steps.Windows.{end_of, Spans, IsWindowOf, Sees, IsAnswer, IsBroken, FrontHeld}
use Rattle.ras_recover.proofs.CallsLemmas.{relates_if, relates_weaker, calls_weaker}
use Rattle.ras_recover.proofs.HoldingLemmas.{rest_is}
use Rattle.ras_recover.proofs.KeepingLemmas.{before}
use Rattle.ras_recover.proofs.ReadingLemmas.{file_broken, file_read, file_breaks}
use Rattle.ras_recover.proofs.WindowLemmas.{field_piece, early, gate_held, first_held}

-- ---- the front

pub record Front (file : SizedFile) (window : Window) (rest bytes : List ℕ) : Type 0 where
  pub fields : min 25 (length bytes) ≤ end_of window
  pub piece : rest ≡ take (end_of window) bytes

front_at_rest : (file : SizedFile) (window : Window) (rest bytes : List ℕ) → Spans file 0 window → IsWindowOf file window bytes → rest ≡ drop (0 - window.start) window.bytes.items → rest ≡ take (end_of window) bytes
front_at_rest file window rest bytes spans sees is =
    let whole : end_of window - 0 ≡ end_of window = omega arith in
    is ∙ (rest_is file 0 window bytes spans sees ∙ ap (λ (n : ℕ). take n (drop 0 bytes)) whole)

front_here : (file : SizedFile) (window : Window) (rest : List ℕ) (t : Told) → Spans file 0 window → Sees file (Some t) window → min 25 file.size ≤ end_of window → rest ≡ drop (0 - window.start) window.bytes.items → Front file window rest (file_of file.no t)
front_here file window rest t spans sees held is =
    let size : file.size ≡ length (file_of file.no t) = sees.size in
    record { fields = omega arith; piece = front_at_rest file window rest (file_of file.no t) spans sees is }

gate_there : (file : SizedFile) (window : Window) (rest bytes : List ℕ) → Front file window rest bytes → has_open_gate rest ≡ has_open_gate bytes
gate_there file window rest bytes f = ap (λ (l : List ℕ). has_open_gate l) f.piece ∙ (gate_held (end_of window) bytes f.fields).0

version_there : (file : SizedFile) (window : Window) (rest bytes : List ℕ) → Front file window rest bytes → field version_of 1 8 rest ≡ field version_of 1 8 bytes
version_there file window rest bytes f =
    ap (λ (l : List ℕ). field version_of 1 8 l) f.piece ∙ field_piece version_of 1 8 (end_of window) bytes (early 25 9 (end_of window) bytes (omega arith) f.fields)

count_there : (file : SizedFile) (window : Window) (rest bytes : List ℕ) → Front file window rest bytes → field (number_of 8) 17 8 rest ≡ field (number_of 8) 17 8 bytes
count_there file window rest bytes f =
    ap (λ (l : List ℕ). field (number_of 8) 17 8 l) f.piece ∙ field_piece (number_of 8) 17 8 (end_of window) bytes (early 25 25 (end_of window) bytes (omega arith) f.fields)

pub front_none : (file : SizedFile) (window : Window) (rest : List ℕ) (told : Option Told) → Spans file 0 window → Sees file told window → IfSome told (λ t. min 25 file.size ≤ end_of window) → rest ≡ drop (0 - window.start) window.bytes.items
    → ((count : ℕ) (version : Version) → has_open_gate rest ≡ true → field version_of 1 8 rest ≡ Ok version → field (number_of 8) 17 8 rest ≡ Ok count → ⊥) → IfSome told (λ t. FrontHeld (end_of window) (file_of file.no t))
front_none file window rest None spans sees held is none = tt
front_none file window rest (Some t) spans sees held is none =
    let f = front_here file window rest t spans sees held is in
    record {
      fields = f.fields;
      checkpoint = λ count version stands magic counted.
          absurd (none count version (gate_there file window rest (file_of file.no t) f ∙ stands) (version_there file window rest (file_of file.no t) f ∙ magic) (count_there file window rest (file_of file.no t) f ∙ counted));
    }

pub front_long : (file : SizedFile) (n : ℕ) (window : Window) (rest : List ℕ) (told : Option Told) → Spans file 0 window → Sees file told window → IfSome told (λ t. min 25 file.size ≤ end_of window) → rest ≡ drop (0 - window.start) window.bytes.items
    → ((count : ℕ) → field (number_of 8) 17 8 rest ≡ Ok count → n ≡ min (2 ^ 64 - 1) (25 + count)) → file.size < n → IfSome told (λ t. FrontHeld (end_of window) (file_of file.no t))
front_long file n window rest None spans sees held is some long = tt
front_long file n window rest (Some t) spans sees held is some long =
    let f = front_here file window rest t spans sees held is in
    let size : file.size ≡ length (file_of file.no t) = sees.size in
    record {
      fields = f.fields;
      checkpoint = λ count version stands magic counted.
          (let whole : n ≡ min (2 ^ 64 - 1) (25 + count) = some count (count_there file window rest (file_of file.no t) f ∙ counted) in inr (omega arith));
    }

front_there : (file : SizedFile) (n : ℕ) (window later : Window) (rest : List ℕ) (t : Told) → Spans file 0 window → Sees file (Some t) window → min 25 file.size ≤ end_of window → rest ≡ drop (0 - window.start) window.bytes.items
    → ((count : ℕ) → field (number_of 8) 17 8 rest ≡ Ok count → n ≡ min (2 ^ 64 - 1) (25 + count)) → 25 ≤ n → n ≤ file.size → min n file.size ≤ end_of later → FrontHeld (end_of later) (file_of file.no t)
front_there file n window later rest t spans sees held is some least short now =
    let f = front_here file window rest t spans sees held is in
    let size : file.size ≡ length (file_of file.no t) = sees.size in
    let not_long : file.size ≤ LONGEST_FILE = spans.short in
    record {
      fields = omega arith;
      checkpoint = λ count version stands magic counted.
          (let whole : n ≡ min (2 ^ 64 - 1) (25 + count) = some count (count_there file window rest (file_of file.no t) f ∙ counted) in inl (omega arith));
    }

pub front_whole : {T E : Type 0} (result : Result T E) (file : SizedFile) (n : ℕ) (window later : Window) (rest : List ℕ) (told next : Option Told) → option_map (λ (t : Told). t.here) next ≡ option_map (λ (t : Told). t.here) told
    → Spans file 0 window → Sees file next window → IfSome told (λ t. min 25 file.size ≤ end_of window) → rest ≡ drop (0 - window.start) window.bytes.items
    → ((count : ℕ) → field (number_of 8) 17 8 rest ≡ Ok count → n ≡ min (2 ^ 64 - 1) (25 + count)) → 25 ≤ n → n ≤ file.size → OnOk result (IfSome next (λ t. min (0 + n) file.size ≤ end_of later))
    → OnOk result (IfSome told (λ t. FrontHeld (end_of later) (file_of file.no t)))
front_whole (Err why) file n window later rest told next same spans sees held is some least short now = tt
front_whole (Ok x) file n window later rest None next same spans sees held is some least short now = tt
front_whole (Ok x) file n window later rest (Some t) None same spans sees held is some least short now = absurd cc
front_whole (Ok x) file n window later rest (Some t) (Some u) same spans sees held is some least short now =
    let enough : min (0 + n) file.size ≤ end_of later = now in
    front_there file n window later rest t spans (before (λ (l : Left). IsWindowOf file window (file_in file.no l)) (Some t) (Some u) same sees) held is some least short (omega arith)

-- ---- what was read of the front

held_front : (file : SizedFile) (window : Window) (rest : List ℕ) (t : Told) → Spans file 0 window → Sees file (Some t) window → FrontHeld (end_of window) (file_of file.no t) → rest ≡ drop (0 - window.start) window.bytes.items → Front file window rest (file_of file.no t)
held_front file window rest t spans sees held is = record { fields = held.fields; piece = front_at_rest file window rest (file_of file.no t) spans sees is }

first_there : (taken : Option ℕ) (file : SizedFile) (window : Window) (rest : List ℕ) (t : Told) → Front file window rest (file_of file.no t) → FrontHeld (end_of window) (file_of file.no t) → has_open_gate (file_of file.no t) ≡ true
    → first_front taken rest ≡ first_front taken (file_of file.no t)
first_there taken file window rest t f held stands = ap (λ (l : List ℕ). first_front taken l) f.piece ∙ first_held taken (end_of window) (file_of file.no t) held stands

pub begun_some : (taken : Option ℕ) (file : SizedFile) (window : Window) (rest : List ℕ) (told : Option Told) (read : Result FileFront ℕ) → Spans file 0 window → Sees file told window → IfSome told (λ t. FrontHeld (end_of window) (file_of file.no t))
    → rest ≡ drop (0 - window.start) window.bytes.items → has_open_gate rest ≡ true → first_front taken rest ≡ read → IfSome told (λ t. (has_open_gate (file_of file.no t) ≡ true) × (first_front taken (file_of file.no t) ≡ read))
begun_some taken file window rest None read spans sees held is stands reads = tt
begun_some taken file window rest (Some t) read spans sees held is stands reads =
    let f = held_front file window rest t spans sees held is in
    let there = sym (gate_there file window rest (file_of file.no t) f) ∙ stands in
    (there, sym (first_there taken file window rest t f held there) ∙ reads)

pub begun_refused : (why : ReadRefused) (taken : Option ℕ) (file : SizedFile) (window : Window) (rest : List ℕ) (told : Option Told) → Spans file 0 window → Sees file told window → IfSome told (λ t. FrontHeld (end_of window) (file_of file.no t))
    → rest ≡ drop (0 - window.start) window.bytes.items → has_open_gate rest ≡ true → IsUnread why (first_front taken rest) → IfSome told (λ t. IsBroken taken (file_of file.no t) why)
begun_refused Disk taken file window rest told spans sees held is stands reads = absurd reads
begun_refused NoMemory taken file window rest None spans sees held is stands reads = tt
begun_refused NoMemory taken file window rest (Some t) spans sees held is stands reads = tt
begun_refused (Damaged at) taken file window rest told spans sees held is stands reads = begun_some taken file window rest told (Err at) spans sees held is stands reads

pub begun_none : (file : SizedFile) (window : Window) (rest : List ℕ) (told : Option Told) → Spans file 0 window → Sees file told window → IfSome told (λ t. FrontHeld (end_of window) (file_of file.no t))
    → rest ≡ drop (0 - window.start) window.bytes.items → has_open_gate rest ≡ false → IfSome told (λ t. has_open_gate (file_of file.no t) ≡ false)
begun_none file window rest None spans sees held is stands = tt
begun_none file window rest (Some t) spans sees held is stands = sym (gate_there file window rest (file_of file.no t) (held_front file window rest t spans sees held is)) ∙ stands

pub shut_there : (shut : Bool) (file : SizedFile) (window : Window) (rest : List ℕ) (told : Option Told) → Spans file 0 window → Sees file told window → IfSome told (λ t. FrontHeld (end_of window) (file_of file.no t))
    → rest ≡ drop (0 - window.start) window.bytes.items → shut ≡ is_shut rest → IfSome told (λ t. shut ≡ is_shut (file_of file.no t))
shut_there shut file window rest None spans sees held is same = tt
shut_there shut file window rest (Some t) spans sees held is same =
    let f = held_front file window rest t spans sees held is in
    same ∙ (ap (λ (l : List ℕ). is_shut l) f.piece ∙ (gate_held (end_of window) (file_of file.no t) f.fields).1)

pub open_not_shut : (bytes : List ℕ) → has_open_gate bytes ≡ true → false ≡ is_shut bytes
open_not_shut bytes stands = grind (arith, nat_tests)

pub open_there : (file : SizedFile) (first : Result FileFront ℕ) (taken : Option ℕ) (told : Option Told) → IfSome told (λ t. (has_open_gate (file_of file.no t) ≡ true) × (first_front taken (file_of file.no t) ≡ first)) → IfSome told (λ t. false ≡ is_shut (file_of file.no t))
open_there file first taken None begun = tt
open_there file first taken (Some t) begun = open_not_shut (file_of file.no t) begun.0

-- ---- the whole file

pub file_absent : (taken : Option ℕ) (file : SizedFile) (told : Option Told) → IfSome told (λ t. has_open_gate (file_of file.no t) ≡ false) → IfSome told (λ t. front_of taken (file_of file.no t) ≡ Ok None)
file_absent taken file None is = tt
file_absent taken file (Some t) is = absent taken (file_of file.no t) is

pub file_whole : (taken : Option ℕ) (file : SizedFile) (told : Option Told) (first whole : FileFront) → IfSome told (λ t. (has_open_gate (file_of file.no t) ≡ true) × (first_front taken (file_of file.no t) ≡ Ok first))
    → IfSome told (λ t. whole_front (length (file_of file.no t)) first (file_of file.no t) ≡ Ok whole) → IfSome told (λ t. front_of taken (file_of file.no t) ≡ Ok (Some whole))
file_whole taken file None first whole begun walks = tt
file_whole taken file (Some t) first whole begun walks = file_read taken (file_of file.no t) first whole begun.0 begun.1 walks

pub file_wrong : {S T : Type 0} (view : S → FileFront) (other : T → Option FileFront) (why : ReadRefused) (taken : Option ℕ) (file : SizedFile) (told : Option Told) (first : FileFront)
    → IfSome told (λ t. (has_open_gate (file_of file.no t) ≡ true) × (first_front taken (file_of file.no t) ≡ Ok first))
    → IfSome told (λ t. IsAnswer view (Err why) (whole_front (length (file_of file.no t)) first (file_of file.no t))) → IfSome told (λ t. IsAnswer other (Err why) (front_of taken (file_of file.no t)))
file_wrong view other why taken file None first begun is = tt
file_wrong view other Disk taken file (Some t) first begun is = tt
file_wrong view other NoMemory taken file (Some t) first begun is = tt
file_wrong view other (Damaged at) taken file (Some t) first begun is = file_breaks taken (file_of file.no t) first at begun.0 begun.1 is

pub file_unbegun : {T : Type 0} (other : T → Option FileFront) (why : ReadRefused) (taken : Option ℕ) (file : SizedFile) (told : Option Told) → IfSome told (λ t. IsBroken taken (file_of file.no t) why)
    → IfSome told (λ t. IsAnswer other (Err why) (front_of taken (file_of file.no t)))
file_unbegun other why taken file None broken = tt
file_unbegun other Disk taken file (Some t) broken = tt
file_unbegun other NoMemory taken file (Some t) broken = tt
file_unbegun other (Damaged at) taken file (Some t) broken = file_broken taken (file_of file.no t) at broken.0 broken.1

-- Results that hold of a later model hold of the earlier one.
pub walks_before : {S : Type 0} (view : S → FileFront) (result : Result S ReadRefused) (file : SizedFile) (first : FileFront) (old new : Option Told) → option_map (λ (t : Told). t.here) new ≡ option_map (λ (t : Told). t.here) old
    → IfSome new (λ t. IsAnswer view result (whole_front (length (file_of file.no t)) first (file_of file.no t))) → IfSome old (λ t. IsAnswer view result (whole_front (length (file_of file.no t)) first (file_of file.no t)))
walks_before view result file first old new same is = before (λ (l : Left). IsAnswer view result (whole_front (length (file_in file.no l)) first (file_in file.no l))) old new same is

-- ---- the gate doesn't depend on the generation of the other file

generation_is : (taken : Option ℕ) (bytes : List ℕ) (n : ℕ) → field (generation_of taken) 9 8 bytes ≡ Ok n → n ≡ number_at 0 8 (take 8 (drop 9 bytes))
generation_is taken bytes n e = by (is_generation taken (number_at 0 8 (take 8 (drop 9 bytes)))) (field_made (generation_of taken) 9 8 bytes n e)
  where
    by : (b : Bool) → (if b then Some (number_at 0 8 (take 8 (drop 9 bytes))) else None) ≡ Some n → n ≡ number_at 0 8 (take 8 (drop 9 bytes))
    by true same = cc
    by false same = absurd cc

first_alike : (taken other : Option ℕ) (bytes : List ℕ) (one two : FileFront) → first_front taken bytes ≡ Ok one → first_front other bytes ≡ Ok two → one ≡ two
first_alike taken other bytes one two e d =
    let f = first_parts taken bytes one e in
    let g = first_parts other bytes two d in
    let version : one.version ≡ two.version = same_ok one.version two.version (sym f.magic ∙ g.magic) in
    let generation : one.generation ≡ two.generation = generation_is taken bytes one.generation f.generation ∙ sym (generation_is other bytes two.generation g.generation) in
    let count : f.count ≡ g.count = same_ok f.count g.count (sym f.size ∙ g.size) in
    let account : one.account ≡ two.account =
    same_ok one.account two.account
    (sym f.checkpoint ∙ (ap (λ (v : Version). field (checkpoint_of v) 25 f.count bytes) version ∙ (ap (λ (n : ℕ). field (checkpoint_of two.version) 25 n bytes) count ∙ g.checkpoint))) in
    let gate : one.gate ≡ two.gate = f.gate ∙ (ap (λ (n : ℕ). 25 + n) count ∙ sym g.gate) in
    let links : one.links ≡ two.links = f.links ∙ sym g.links in
    λ i. record { version = version i; generation = generation i; gate = gate i; links = links i; account = account i }

pub gate_alike : (taken other : Option ℕ) (bytes : List ℕ) (one two : FileFront) → front_of taken bytes ≡ Ok (Some one) → front_of other bytes ≡ Ok (Some two) → one.gate ≡ two.gate
gate_alike taken other bytes one two e d =
    let f = front_parts taken bytes one e in
    let g = front_parts other bytes two d in
    let first = first_alike taken other bytes f.first g.first f.begins g.begins in
    ap (λ (w : FileFront). w.gate) (same_ok one two (sym f.walks ∙ (ap (λ (w : FileFront). whole_front (length bytes) w bytes) first ∙ g.walks)))

-- ---- all of a file was read

-- If a file is valid, its closed gate lies before this offset.
abbrev pub GateBefore : FileNo → ℕ → Told → Type 0
GateBefore file end t = (taken : Option ℕ) (front : FileFront) → front_of taken (file_of file t) ≡ Ok (Some front) → front.gate < end

pub gate_before : (file : SizedFile) (end : ℕ) (taken : Option ℕ) (whole : FileFront) (told : Option Told) → whole.gate < end → IfSome told (λ t. front_of taken (file_of file.no t) ≡ Ok (Some whole)) → IfSome told (GateBefore file.no end)
gate_before file end taken whole None within is = tt
gate_before file end taken whole (Some t) within is = λ other front stands.
    (let same : front.gate ≡ whole.gate = gate_alike other taken (file_of file.no t) front whole stands is in omega arith)

pub no_gate : (file : SizedFile) (end : ℕ) (told : Option Told) → IfSome told (λ t. has_open_gate (file_of file.no t) ≡ false) → IfSome told (GateBefore file.no end)
no_gate file end None is = tt
no_gate file end (Some t) is = λ other front stands. absurd (none front (sym (absent other (file_of file.no t) is) ∙ stands))
  where
    none : (front : FileFront) → ◌≡◌ {A = Result (Option FileFront) ℕ} (Ok None) (Ok (Some front)) → ⊥
    none front e = cc

pub all_read : (file : FileNo) (from end : ℕ) (a b : Seen) → from ≡ 0 → IfSome a.told (GateBefore file end) → Looks went_well (λ t. ReadsPart file from end) a b → Looks went_well (λ t. ReadsStanding file (file_of file t)) a b
all_read file from end a b begins gate looks = record {
  keeps = looks.keeps;
  calls = relates_weaker (λ t u. GateBefore file end t × Calls (AreReads went_well (ReadsPart file from end)) t u) (λ t. Calls (AreReads went_well (ReadsStanding file (file_of file t))) t)
      (λ t u both. calls_weaker (AreReads went_well (ReadsPart file from end)) (AreReads went_well (ReadsStanding file (file_of file t)))
      (λ xs are. record { alone = are.alone; done = λ taken front place stands early. (let near : front.gate < end = both.0 taken front stands in are.done place (omega arith) (omega arith)) }) t u both.1) a.told b.told
      (relates_if (GateBefore file end) (Calls (AreReads went_well (ReadsPart file from end))) a.told b.told gate looks.calls);
  faults = looks.faults;
}
