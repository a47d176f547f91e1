-- The laws of journal files.
use Rattle.std.proofs.Common.{◌≡◌, ◌≢◌, ◌∙◌, ℕ, ◌+◌, ◌-◌, ◌^◌, ◌≤◌, ◌<◌, List, [], ◌∷◌, ◌++◌, length, take, drop, Option, None, Some, Result, Ok, Err, refl, sym, ap, arith, append_assoc}
use Rattle.std.specs.Prelude.{Bool, true, false, not, ◌&&◌, if◌then◌else◌}
use Rattle.std.proofs.lemmas.Bool.Decides.{nat_tests}
use Rattle.std.proofs.lemmas.List.{length-take, length-take-le, length-drop, length-append, take-append-drop, drop-drop, drop_at, append-nil}
use Rattle.std.proofs.lemmas.List.Sums.{fold-append}
use Rattle.std.proofs.lemmas.Option.{option_and_then_some}
use Rattle.std.proofs.Math.Seq.{take-append-add}
use Rattle.ras_base.specs.LittleEndian.{AreBytes, u32_bytes, u64_bytes, number_at}
use Rattle.ras_base.specs.Steps.LittleEndianLemmas.{length-u32_bytes, length-u64_bytes, number_at-u32_bytes, number_at-u64_bytes, number_at-take, number_at-lt, u32_bytes-number_at, AreBytes-take, AreBytes-drop}
use Rattle.ras_facts.specs.declared.entry.Entry.{Entry}
use Rattle.ras_account.specs.Account.{State}
use Rattle.ras_account.specs.declared.limits.TheConstants.{MOST_NAMES, MOST_ENTRIES, MOST_TOTAL}
use Rattle.ras_account.specs.Continued.{account_after, account_after_all}
use Rattle.ras_account.specs.Numbers.{IsWithin, StaysWithin, numbers_of, are_past}
use Rattle.entry_format.specs.declared.version.Version.{Version}
use Rattle.entry_format.specs.declared.version.Version.TheVariants.{One, Two}
use Rattle.journal_format.specs.Links.{payload_bytes, link_bytes}
use Rattle.journal_format.specs.CheckpointReading.{checkpoint_of}
use Rattle.journal_format.specs.PayloadReading.{payload_of}
use Rattle.journal_format.proofs.PayloadLemmas.{payload_is_read, payload_found}
use Rattle.journal_format.proofs.CheckpointLemmas.{checkpoint_at}
use Rattle.ras_journal.specs.declared.limits.TheConstants.{OPEN_GATE, LAST_GENERATION}
use Rattle.ras_journal.specs.Fields.{field, some_or, version_of, number_of, generation_of, is_generation, is_taken, is_open_of, entries_by, stays_within}
use Rattle.ras_journal.specs.File.{FileFront, has_open_gate, first_front, front_behind_link, next_front, whole_front, front_of}
use Rattle.ras_journal.specs.Laws.{magic, begun, CanBegin, begun_front, CanFollow, followed, opened_with, FollowsWhole}
use Rattle.ras_journal.proofs.PartLemmas.{bind_ok, bind_of, bind_err, field_at, field_cut, field_within, field_made}
use Rattle.ras_journal.proofs.FrontLemmas.{FirstFront, first_whole, next_parts, walks_past, some_front, ends_closed, ends_broken, ends_at_gate, front_begun}
use Rattle.ras_journal.proofs.FileLemmas.{CanRead, link_follows, gate_at, gate_closed, gate_place, front_laid, reads_opened, reads_on, link_length}
use Rattle.ras_journal.proofs.AppendLemmas.{stays_test}

pub can_read : (front : FileFront) (entries : List Entry) → CanFollow front entries → CanRead front entries
can_read front entries can = record {
  fits = can.link.fits;
  reads = payload_is_read front.version entries (payload_bytes entries) can.link.payload;
  within = stays_test front.account entries can.within;
}

-- ---- a checkpoint and a closed gate

magic_length : (version : Version) → length (magic version) ≡ 8
magic_length One = refl
magic_length Two = refl

magic_read : (version : Version) → version_of (magic version) ≡ Some version
magic_read One = refl
magic_read Two = refl

number_read : (number : ℕ) → number < 2 ^ 64 → number_at 0 8 (u64_bytes number) ≡ number
number_read number fits = ap (λ (l : List ℕ). number_at 0 8 l) (sym (append-nil (u64_bytes number))) ∙ number_at-u64_bytes number [] fits

generation_read : (taken : Option ℕ) (generation : ℕ) → 1 ≤ generation → generation ≤ LAST_GENERATION → is_taken taken generation ≡ false → generation_of taken (u64_bytes generation) ≡ Some generation
generation_read taken generation first last free = rw (number_read generation (omega arith)) (rw test refl)
  where
    test : is_generation taken generation ≡ true
    test = rw free (grind (arith, nat_tests))

checkpoint_laid : (taken : Option ℕ) (version : Version) (generation : ℕ) (bytes : List ℕ) (account : State) (tail : List ℕ) → CanBegin taken version generation bytes account
    → FirstFront taken (begun version generation bytes ++ tail) (begun_front version generation bytes account)
checkpoint_laid taken version generation bytes account tail checks =
    let file = begun version generation bytes ++ tail in
    let open_gate = OPEN_GATE ∷ [] in
    let m = magic version in
    let g = u64_bytes generation in
    let n = u64_bytes (length bytes) in
    let in_m : file ≡ open_gate ++ (m ++ (g ++ (n ++ (bytes ++ tail)))) =
    ap (λ (l : List ℕ). OPEN_GATE ∷ l)
    (append_assoc m (g ++ (n ++ bytes)) tail
    ∙ ap (λ (l : List ℕ). m ++ l) (append_assoc g (n ++ bytes) tail ∙ ap (λ (l : List ℕ). g ++ l) (append_assoc n bytes tail))) in
    let in_g : file ≡ (open_gate ++ m) ++ (g ++ (n ++ (bytes ++ tail))) = in_m ∙ sym (append_assoc open_gate m (g ++ (n ++ (bytes ++ tail)))) in
    let in_n : file ≡ ((open_gate ++ m) ++ g) ++ (n ++ (bytes ++ tail)) = in_g ∙ sym (append_assoc (open_gate ++ m) g (n ++ (bytes ++ tail))) in
    let in_bytes : file ≡ (((open_gate ++ m) ++ g) ++ n) ++ (bytes ++ tail) = in_n ∙ sym (append_assoc ((open_gate ++ m) ++ g) n (bytes ++ tail)) in
    let eight_m : length m ≡ 8 = magic_length version in
    let eight_g : length g ≡ 8 = length-u64_bytes generation in
    let eight_n : length n ≡ 8 = length-u64_bytes (length bytes) in
    let nine : length (open_gate ++ m) ≡ length open_gate + length m = length-append open_gate m in
    let seventeen : length ((open_gate ++ m) ++ g) ≡ length (open_gate ++ m) + length g = length-append (open_gate ++ m) g in
    let twenty_five : length (((open_gate ++ m) ++ g) ++ n) ≡ length ((open_gate ++ m) ++ g) + length n = length-append ((open_gate ++ m) ++ g) n in
    let one : length open_gate ≡ 1 = refl in
    record {
      count = length bytes;
      magic = field_at version_of 1 8 file open_gate m _ in_m refl (sym eight_m) ∙ ap (λ (o : Option Version). some_or 1 o) (magic_read version);
      generation = field_at (generation_of taken) 9 8 file (open_gate ++ m) g _ in_g (omega arith) (sym eight_g)
          ∙ ap (λ (o : Option ℕ). some_or 9 o) (generation_read taken generation checks.first checks.last checks.free);
      size = field_at (number_of 8) 17 8 file ((open_gate ++ m) ++ g) n _ in_n (omega arith) (sym eight_n) ∙ ap (λ (k : ℕ). Ok k) (number_read (length bytes) checks.size);
      checkpoint = field_at (checkpoint_of version) 25 (length bytes) file (((open_gate ++ m) ++ g) ++ n) bytes tail in_bytes (omega arith) refl ∙ ap (λ (o : Option State). some_or 25 o) (checkpoint_at version account bytes checks.is);
      gate = refl;
      links = refl;
    }

begun_length : (version : Version) (generation : ℕ) (bytes : List ℕ) → length (begun version generation bytes) ≡ 25 + length bytes
begun_length version generation bytes =
    let m = magic version in
    let g = u64_bytes generation in
    let n = u64_bytes (length bytes) in
    omega (arith, magic_length version, length-u64_bytes generation, length-u64_bytes (length bytes), length-append m (g ++ (n ++ bytes)), length-append g (n ++ bytes), length-append n bytes)

pub begun_reads : (taken : Option ℕ) (version : Version) (generation : ℕ) (bytes : List ℕ) (account : State) (gate : ℕ) (rest : List ℕ) → CanBegin taken version generation bytes account → gate ≢ OPEN_GATE
    → front_of taken (begun version generation bytes ++ (gate ∷ rest)) ≡ Ok (Some (begun_front version generation bytes account))
begun_reads taken version generation bytes account gate rest checks shut =
    let before = begun version generation bytes in
    let file = before ++ (gate ∷ rest) in
    let first = begun_front version generation bytes account in
    let begins : first_front taken file ≡ Ok first = first_whole taken file first (checkpoint_laid taken version generation bytes account (gate ∷ rest) checks) in
    let long : length before ≡ 25 + length bytes = begun_length version generation bytes in
    let longer : length file ≡ length before + length (gate ∷ rest) = length-append before (gate ∷ rest) in
    let some : 1 < length file = omega arith in
    let closed : next_front first file ≡ Ok None = gate_closed first file before rest gate refl (sym long) shut in
    let stands : has_open_gate file ≡ true = grind (arith, nat_tests) in
    front_begun taken file first stands begins ∙ bind_of _ _ _ (ends_closed (length file) first file closed (omega arith))

-- ---- a link more, and files that are cut in it

pub reads_one_more : (taken : Option ℕ) (file : List ℕ) (front : FileFront) (entries : List Entry) (gate : ℕ) (rest : List ℕ) → front_of taken file ≡ Ok (Some front) → CanFollow front entries → gate ≢ OPEN_GATE
    → front_of taken (opened_with file front (link_bytes entries ++ (gate ∷ rest))) ≡ Ok (Some (followed front entries))
reads_one_more taken file front entries gate rest e can shut =
    reads_opened taken file (opened_with file front (link_bytes entries ++ (gate ∷ rest))) front entries e (can_read front entries can)
    (record { next = gate; rest = rest; is = refl; closed = shut })

opened_gate : (taken : Option ℕ) (file : List ℕ) (front : FileFront) (bytes : List ℕ) → front_of taken file ≡ Ok (Some front) → field is_open_of front.gate 1 (opened_with file front bytes) ≡ Ok true
opened_gate taken file front bytes e =
    let g = gate_place taken file front e in gate_at front (opened_with file front bytes) (take front.gate file) bytes OPEN_GATE refl g.1

opened_length : (taken : Option ℕ) (file : List ℕ) (front : FileFront) (bytes : List ℕ) → front_of taken file ≡ Ok (Some front) → length (opened_with file front bytes) ≡ front.gate + 1 + length bytes
opened_length taken file front bytes e =
    let g = gate_place taken file front e in
    let start : front.gate ≡ length (take front.gate file) = g.1 in
    omega (arith, length-append (take front.gate file) (OPEN_GATE ∷ bytes))

opened_on : (taken : Option ℕ) (file : List ℕ) (front : FileFront) (bytes : List ℕ) (place : ℕ) → front_of taken file ≡ Ok (Some front) → front_behind_link front (opened_with file front bytes) ≡ Err place
    → front_of taken (opened_with file front bytes) ≡ Err place
unfolding next_front
opened_on taken file front bytes place e broken =
    let cut = opened_with file front bytes in
    let g = gate_place taken file front e in
    let long : length cut ≡ front.gate + 1 + length bytes = opened_length taken file front bytes e in
    let r = reads_on taken cut file front e (front_laid file cut _ front.gate g.0 refl) in
    let here : next_front front cut ≡ Err place = bind_of _ _ _ (opened_gate taken file front bytes e) ∙ bind_err (front_behind_link front cut) _ place broken in
    r.on ∙ bind_err _ _ place (ends_broken r.left front cut place here (omega arith) r.enough)

pub cut_in_length : (taken : Option ℕ) (file : List ℕ) (front : FileFront) (bytes : List ℕ) → front_of taken file ≡ Ok (Some front) → length bytes < 4 → front_of taken (opened_with file front bytes) ≡ Err (front.gate + 1)
cut_in_length taken file front bytes e short =
    let cut = opened_with file front bytes in
    let long : length cut ≡ front.gate + 1 + length bytes = opened_length taken file front bytes e in
    opened_on taken file front bytes (front.gate + 1) e (bind_err _ _ _ (field_cut (number_of 4) (front.gate + 1) 4 cut (omega arith)))

size_read : (front : FileFront) (file before rest : List ℕ) (count : ℕ) → count < 2 ^ 32 → file ≡ before ++ (OPEN_GATE ∷ (u32_bytes count ++ rest)) → front.gate ≡ length before → field (number_of 4) (front.gate + 1) 4 file ≡ Ok count
size_read front file before rest count fits laid place =
    let gate = OPEN_GATE ∷ [] in
    let size = u32_bytes count in
    let behind : file ≡ (before ++ gate) ++ (size ++ rest) = laid ∙ sym (append_assoc before gate (size ++ rest)) in
    let wide : length size ≡ 4 = length-u32_bytes count in
    let one_more : length (before ++ gate) ≡ length before + 1 = length-append before gate in
    let number : number_at 0 4 size ≡ count = ap (λ (l : List ℕ). number_at 0 4 l) (sym (append-nil size)) ∙ number_at-u32_bytes count [] fits in
    field_at (number_of 4) (front.gate + 1) 4 file (before ++ gate) size rest behind (omega arith) (sym wide) ∙ ap (λ (k : ℕ). Ok k) number

pub cut_in_payload : (taken : Option ℕ) (file : List ℕ) (front : FileFront) (count : ℕ) (rest : List ℕ) → front_of taken file ≡ Ok (Some front) → count < 2 ^ 32 → length rest < count
    → front_of taken (opened_with file front (u32_bytes count ++ rest)) ≡ Err (front.gate + 5)
cut_in_payload taken file front count rest e fits short =
    let bytes = u32_bytes count ++ rest in
    let cut = opened_with file front bytes in
    let g = gate_place taken file front e in
    let long : length cut ≡ front.gate + 1 + length bytes = opened_length taken file front bytes e in
    let parts : length bytes ≡ length (u32_bytes count) + length rest = length-append (u32_bytes count) rest in
    let four : length (u32_bytes count) ≡ 4 = length-u32_bytes count in
    opened_on taken file front bytes (front.gate + 5) e
    (bind_of _ _ _ (size_read front cut (take front.gate file) rest count fits refl g.1) ∙ bind_err _ _ _ (field_cut (entries_by front.version front.account) (front.gate + 5) count cut (omega arith)))

-- The first bytes of a link, at least its length.
take_link : (entries : List Entry) (n : ℕ) → 4 ≤ n → (k : ℕ) × (n ≡ 4 + k) × (take n (link_bytes entries) ≡ u32_bytes (length (payload_bytes entries)) ++ take k (payload_bytes entries))
unfolding link_bytes
take_link entries n some =
    let payload = payload_bytes entries in
    let size = u32_bytes (length payload) in
    let four : length size ≡ 4 = length-u32_bytes (length payload) in
    let is : n ≡ length size + (n - 4) = omega arith in
    (n - 4, omega arith, ap (λ (m : ℕ). take m (size ++ payload)) is ∙ take-append-add size payload (n - 4))

pub cut_in_link : (taken : Option ℕ) (file : List ℕ) (front : FileFront) (entries : List Entry) (n : ℕ) → front_of taken file ≡ Ok (Some front) → CanFollow front entries → 4 ≤ n → n < length (link_bytes entries)
    → front_of taken (opened_with file front (take n (link_bytes entries))) ≡ Err (front.gate + 5)
cut_in_link taken file front entries n e can some short =
    let t = take_link entries n some in
    let payload = payload_bytes entries in
    let long : length (link_bytes entries) ≡ 4 + length payload = link_length entries in
    let is : n ≡ 4 + t.0 = t.1 in
    ap (λ (bytes : List ℕ). front_of taken (opened_with file front bytes)) t.2
    ∙ cut_in_payload taken file front (length payload) (take t.0 payload) e can.link.fits (omega (arith, length-take t.0 payload))

pub cut_at_next_gate : (taken : Option ℕ) (file : List ℕ) (front : FileFront) (entries : List Entry) → front_of taken file ≡ Ok (Some front) → CanFollow front entries
    → front_of taken (opened_with file front (link_bytes entries)) ≡ Err (front.gate + 1 + length (link_bytes entries))
cut_at_next_gate taken file front entries e can =
    let link = link_bytes entries in
    let cut = opened_with file front link in
    let next = followed front entries in
    let g = gate_place taken file front e in
    let r = reads_on taken cut file front e (front_laid file cut _ front.gate g.0 refl) in
    let laid : cut ≡ take front.gate file ++ (OPEN_GATE ∷ (link ++ [])) = ap (λ (l : List ℕ). take front.gate file ++ (OPEN_GATE ∷ l)) (sym (append-nil link)) in
    let here : next_front front cut ≡ Ok (Some next) = link_follows front cut (take front.gate file) [] entries laid g.1 (can_read front entries can) in
    let long : length cut ≡ front.gate + 1 + length link = opened_length taken file front link e in
    let size : length link ≡ 4 + length (payload_bytes entries) = link_length entries in
    let place : next.gate ≡ front.gate + 1 + length link = omega arith in
    r.on ∙ (bind_err _ _ _ (ends_at_gate r.left front next cut here (omega arith) r.enough) ∙ ap (λ (k : ℕ). Err k) place)

-- ---- what stands behind an open gate

within_from : (account : State) → are_past (numbers_of account) ≡ false → IsWithin account
within_from account test =
    let names : length account.names ≤ MOST_NAMES = grind (arith, nat_tests) in
    let entries : account.entries ≤ MOST_ENTRIES = grind (arith, nat_tests) in
    let total : account.total ≤ MOST_TOTAL = grind (arith, nat_tests) in
    record { names = names; entries = entries; total = total }

stays_from : (account : State) (entries : List Entry) → stays_within account entries ≡ true → StaysWithin account entries
stays_from account [] test = tt
stays_from account (entry ∷ entries) test = by (are_past (numbers_of (account_after account entry))) refl (stays_within (account_after account entry) entries) refl test
    (λ rest. stays_from (account_after account entry) entries rest)
  where
    by : (past : Bool) → are_past (numbers_of (account_after account entry)) ≡ past → (rest : Bool) → stays_within (account_after account entry) entries ≡ rest → (not past && rest) ≡ true
        → (stays_within (account_after account entry) entries ≡ true → StaysWithin (account_after account entry) entries) → IsWithin (account_after account entry) × StaysWithin (account_after account entry) entries
    by true is rest is_rest test go = absurd cc
    by false is false is_rest test go = absurd cc
    by false is true is_rest test go = (within_from (account_after account entry) is, go is_rest)

-- The entries that were read, which can continue the account.
record Read (version : Version) (account : State) (bytes : List ℕ) (entries : List Entry) : Type 0 where
  payload : payload_of version bytes ≡ Some entries
  within : stays_within account entries ≡ true

read_parts : (version : Version) (account : State) (bytes : List ℕ) (entries : List Entry) → entries_by version account bytes ≡ Some entries → Read version account bytes entries
read_parts version account bytes entries e =
    option_and_then_some (λ (es : List Entry). if stays_within account es then Some es else None) (payload_of version bytes) entries e
    (λ es is test. by es is (stays_within account es) refl test)
  where
    by : (es : List Entry) → payload_of version bytes ≡ Some es → (b : Bool) → stays_within account es ≡ b → ◌≡◌ {A = Option (List Entry)} (if b then Some es else None) (Some entries) → Read version account bytes entries
    by es is false within e = absurd cc
    by es is true within e =
        let same : es ≡ entries = cc in
        record { payload = is ∙ ap (λ (l : List Entry). Some l) same; within = ap (λ (l : List Entry). stays_within account l) (sym same) ∙ within }

pub follows_whole : (taken : Option ℕ) (file : List ℕ) (front longer : FileFront) (bytes : List ℕ) → front_of taken file ≡ Ok (Some front) → AreBytes bytes → front_of taken (opened_with file front bytes) ≡ Ok (Some longer) → FollowsWhole front bytes longer
unfolding link_bytes
follows_whole taken file front longer bytes e fits reads =
    let cut = opened_with file front bytes in
    let g = gate_place taken file front e in
    let start : front.gate ≡ length (take front.gate file) = g.1 in
    let r = reads_on taken cut file front e (front_laid file cut _ front.gate g.0 refl) in
    let w = bind_ok (whole_front r.left front cut) some_front (Some longer) (sym r.on ∙ reads) in
    let walked : whole_front r.left front cut ≡ Ok longer = w.1 ∙ ap (λ (f : FileFront). Ok f) (some_same w.0 longer w.2) in
    let past = walks_past r.left front longer cut (opened_gate taken file front bytes e) walked in
    let n = next_parts front past.next cut past.step in
    let behind : drop (front.gate + 1) cut ≡ bytes =
    ap (λ (l : List ℕ). drop (front.gate + 1) l) (sym (append_assoc (take front.gate file) (OPEN_GATE ∷ []) bytes))
    ∙ drop_at (take front.gate file ++ (OPEN_GATE ∷ [])) bytes (front.gate + 1) (omega (arith, length-append (take front.gate file) (OPEN_GATE ∷ []))) in
    let further : drop (front.gate + 5) cut ≡ drop 4 bytes =
    ap (λ (k : ℕ). drop k cut) (omega arith) ∙ (sym (drop-drop 4 (front.gate + 1) cut) ∙ ap (λ (l : List ℕ). drop 4 l) behind) in
    let long : length cut ≡ front.gate + 1 + length bytes = opened_length taken file front bytes e in
    let size_in : front.gate + 1 + 4 ≤ length cut = field_within (number_of 4) (front.gate + 1) 4 cut n.count n.size in
    let payload_in : front.gate + 5 + n.count ≤ length cut = field_within (entries_by front.version front.account) (front.gate + 5) n.count cut n.entries n.payload in
    let number : number_at 0 4 (take 4 bytes) ≡ n.count = some_number (ap (λ (l : List ℕ). number_of 4 (take 4 l)) (sym behind) ∙ field_made (number_of 4) (front.gate + 1) 4 cut n.count n.size) in
    let count : number_at 0 4 bytes ≡ n.count = sym (number_at-take 4 0 4 bytes (omega arith)) ∙ number in
    let size : take 4 bytes ≡ u32_bytes n.count = sym (u32_bytes-number_at 0 bytes fits (omega arith)) ∙ ap u32_bytes count in
    let payload = take n.count (drop 4 bytes) in
    let rest = drop n.count (drop 4 bytes) in
    let found = read_parts front.version front.account payload n.entries (ap (λ (l : List ℕ). entries_by front.version front.account (take n.count l)) (sym further) ∙ field_made (entries_by front.version front.account) (front.gate + 5) n.count cut n.entries n.payload) in
    let is = payload_found front.version n.entries payload (AreBytes-take n.count (drop 4 bytes) (AreBytes-drop 4 bytes fits)) found.payload in
    let spelled : payload ≡ payload_bytes n.entries = is.spelled in
    let size_is : n.count ≡ length (payload_bytes n.entries) = sym (length-take-le n.count (drop 4 bytes) (omega (arith, length-drop 4 bytes))) ∙ ap length spelled in
    let narrow : number_at 0 4 bytes < 256 ^ 4 = number_at-lt 0 4 bytes fits in
    let next_account : past.next.account ≡ account_after_all front.account n.entries = ap (λ (f : FileFront). f.account) n.is in
    record {
      entries = n.entries;
      more = past.on.more;
      can = record {
        link = record {
          payload = record { some = is.some; few = is.few; each = is.each; spelled = refl };
          fits = omega arith;
        };
        within = stays_from front.account n.entries found.within;
      };
      rest = rest;
      begins =
          sym (take-append-drop 4 bytes)
          ∙ (ap (λ (l : List ℕ). l ++ drop 4 bytes) (size ∙ ap u32_bytes size_is)
          ∙ (ap (λ (l : List ℕ). u32_bytes (length (payload_bytes n.entries)) ++ l) (sym (take-append-drop n.count (drop 4 bytes)) ∙ ap (λ (l : List ℕ). l ++ rest) spelled)
          ∙ sym (append_assoc (u32_bytes (length (payload_bytes n.entries))) (payload_bytes n.entries) rest)));
      account = past.on.account ∙ (ap (λ (a : State). account_after_all a past.on.more) next_account ∙ sym (fold-append account_after front.account n.entries past.on.more));
    }
  where
    some_same : (one other : FileFront) → ◌≡◌ {A = Result (Option FileFront) ℕ} (Ok (Some one)) (Ok (Some other)) → one ≡ other
    some_same one other same = cc

    some_number : {m n : ℕ} → ◌≡◌ {A = Option ℕ} (Some m) (Some n) → m ≡ n
    some_number same = cc
