-- What a crash leaves at each point of an append.
use Rattle.std.proofs.Common.{◌≡◌, ◌∙◌, ℕ, ◌+◌, ◌-◌, ◌^◌, ◌≤◌, ◌<◌, ◌⊎◌, min, max, List, [], ◌∷◌, ◌++◌, length, Option, None, Some, Ok, refl, sym, ap, subst, arith, inl, inr, length-append}
use Rattle.std.specs.Prelude.{IfSome, true, false}
use Rattle.std.proofs.lemmas.Bool.Decides.{nat_tests}
use Rattle.ras_base.specs.LittleEndian.{u32_bytes}
use Rattle.ras_base.specs.Steps.LittleEndianLemmas.{length-u32_bytes}
use Rattle.board_core.specs.declared.board.FileNo.{FileNo}
use Rattle.board_core.specs.declared.board.FileNo.TheVariants.{Zero, One}
use Rattle.board_core.specs.Steps.ClockLemmas.{file_in-with}
use Rattle.board_core.specs.Stop.{Left, InFile, file_in, with_file_in}
use Rattle.board_core.specs.Told.{Told, Torn, Steps, after_write_through, file_of, overlay}
use Rattle.board_core.specs.Doing.{Moment}
use Rattle.ras_facts.specs.declared.entry.Entry.{Entry}
use Rattle.ras_account.specs.Account.{State}
use Rattle.ras_account.specs.Continued.{account_after, account_after_all}
use Rattle.ras_account.specs.Numbers.{IsWithin, StaysWithin, numbers_of, are_past}
use Rattle.entry_format.specs.declared.version.Version.{Version}
use Rattle.entry_format.specs.declared.version.Version.TheVariants.{Two}
use Rattle.journal_format.specs.Links.{payload_bytes, link_bytes}
use Rattle.journal_format.specs.PayloadReading.{payload_of}
use Rattle.journal_format.proofs.PayloadLemmas.{payload_is_read}
use Rattle.ras_journal.specs.declared.limits.TheConstants.{CLOSED_GATE, LONGEST_FILE, OPEN_GATE}
use Rattle.ras_journal.specs.declared.standing.Standing.{Standing}
use Rattle.ras_journal.specs.Fields.{stays_within}
use Rattle.ras_journal.specs.File.{FileFront, front_of, account_by}
use Rattle.ras_journal.specs.Recovered.{standing_of, other_of, is_shut, Recovers, IsAt}
use Rattle.ras_journal.specs.Appending.{HasRoom, length_with, standing_with, after_append, append_acts, Links, Appending}
use Rattle.ras_journal.specs.Laws.{followed}
use Rattle.ras_journal.proofs.FileLemmas.{Lies, lies, CanRead, linked, linked_parts, opened, opened_length, torn_link, torn_gate, gate_written}
use Rattle.ras_journal.proofs.JournalLemmas.{Here, here_of, recovers_of, at_of}

within_test : (account : State) → IsWithin account → are_past (numbers_of account) ≡ false
within_test account within = let names = within.names in let entries = within.entries in let total = within.total in grind (arith, nat_tests)

pub stays_test : (account : State) (entries : List Entry) → StaysWithin account entries → stays_within account entries ≡ true
stays_test account [] stays = refl
stays_test account (entry ∷ entries) stays = rw (within_test (account_after account entry) stays.0) (stays_test (account_after account entry) entries stays.1)

-- ---- files changed one after the other

pub file_twice : (file : FileNo) (one other : List ℕ) (left : Left) → with_file_in file other (with_file_in file one left) ≡ with_file_in file other left
file_twice Zero one other left = refl
file_twice One one other left = refl

other_stays : (file : FileNo) (bytes : List ℕ) (left : Left) → other_of file (with_file_in file bytes left).file0 (with_file_in file bytes left).file1 ≡ other_of file left.file0 left.file1
other_stays Zero bytes left = refl
other_stays One bytes left = refl

-- ---- a journal of version 2 at this standing, and a link

pub record Ready (standing : Standing) (account : State) (entries : List Entry) (link : List ℕ) (left : Left) : Type 0 where
  pub here : Here standing account left
  pub version : here.front.version ≡ Two
  pub gate : here.front.gate ≡ standing.length
  pub links : here.front.links ≡ standing.links
  pub account_is : here.front.account ≡ account
  pub can : CanRead here.front entries
  pub bytes : link ≡ link_bytes entries
  pub lies : Lies here.counts.taken (file_in standing.file left) here.front
  pub room : length_with standing link ≤ LONGEST_FILE

pub ready : (standing : Standing) (account : State) (entries : List Entry) (link : List ℕ) (left : Left) → standing.version ≡ Two → length_with standing link ≤ LONGEST_FILE → IsAt standing account left → Links account entries link
    → Ready standing account entries link left
ready standing account entries link left two room at links =
    let here = here_of standing account left at in
    let version : here.front.version ≡ Two = ap (λ (s : Standing). s.version) here.standing_is ∙ two in
    let account_is : here.front.account ≡ account = ap (λ (v : Version). account_by v here.front.account) (sym version) ∙ here.account_is in
    record {
      here = here;
      version = version;
      gate = ap (λ (s : Standing). s.length) here.standing_is;
      links = ap (λ (s : Standing). s.links) here.standing_is;
      account_is = account_is;
      can = record {
        fits = links.can.fits;
        reads = ap (λ (v : Version). payload_of v (payload_bytes entries)) version ∙ payload_is_read Two entries (payload_bytes entries) links.can.payload;
        within = ap (λ (a : State). stays_within a entries) account_is ∙ stays_test account entries links.within;
      };
      bytes = links.bytes;
      lies = lies here.counts.taken (file_in standing.file left) here.front here.counts.reads;
      room = room;
    }

account_two : (front : FileFront) → front.version ≡ Two → account_by front.version front.account ≡ front.account
account_two front two = ap (λ (v : Version). account_by v front.account) two

-- The file is read as before: the account without the link.
without_link : (standing : Standing) (account : State) (entries : List Entry) (link : List ℕ) (left : Left) (r : Ready standing account entries link left) (bytes : List ℕ) → length bytes ≤ LONGEST_FILE
    → front_of r.here.counts.taken bytes ≡ Ok (Some r.here.front) → Recovers account (with_file_in standing.file bytes left)
without_link standing account entries link left r bytes short reads =
    recovers_of (with_file_in standing.file bytes left) (record { file = standing.file; front = r.here.front }) account (r.here.counts.changed bytes r.here.front short reads refl) r.here.account_is

-- The file is read with the link.
with_the_link : (standing : Standing) (account : State) (entries : List Entry) (link : List ℕ) (left : Left) (r : Ready standing account entries link left) (bytes : List ℕ) → length bytes ≤ LONGEST_FILE
    → front_of r.here.counts.taken bytes ≡ Ok (Some (followed r.here.front entries)) → Recovers (account_after_all account entries) (with_file_in standing.file bytes left)
with_the_link standing account entries link left r bytes short reads =
    recovers_of (with_file_in standing.file bytes left) (record { file = standing.file; front = followed r.here.front entries }) (account_after_all account entries)
    (r.here.counts.changed bytes (followed r.here.front entries) short reads refl)
    (account_two (followed r.here.front entries) r.version ∙ ap (λ (a : State). account_after_all a entries) r.account_is)

appending_of : (standing : Standing) (account : State) (entries : List Entry) (here left : Left) (bytes : List ℕ) → left ≡ with_file_in standing.file bytes here
    → Recovers account (with_file_in standing.file bytes here) ⊎ Recovers (account_after_all account entries) (with_file_in standing.file bytes here) → Appending standing account entries here left
appending_of standing account entries here left bytes is recovers =
    let file : bytes ≡ file_in standing.file left = sym (ap (λ (l : Left). file_in standing.file l) is ∙ file_in-with standing.file bytes here) in
    record {
      recovers = subst (λ (l : Left). Recovers account l ⊎ Recovers (account_after_all account entries) l) (sym is) recovers;
      rest = is ∙ ap (λ (b : List ℕ). with_file_in standing.file b here) file;
    }

-- ---- the two moments

-- During the first act the file is read as before.
pub first_reads : (standing : Standing) (account : State) (entries : List Entry) (link : List ℕ) (here left : Left) (r : Ready standing account entries link here) (by : InFile standing.file (Torn (standing.length + 1) (length link + 1)) here left)
    → front_of r.here.counts.taken by.bytes ≡ Ok (Some r.here.front)
first_reads standing account entries link here left r by =
    torn_link r.here.counts.taken (file_in standing.file here) by.bytes r.here.front (length link + 1) r.here.counts.reads
    (subst (λ (n : ℕ). Torn (n + 1) (length link + 1) (file_in standing.file here) by.bytes) (sym r.gate) by.step)

pub first_moment : (standing : Standing) (account : State) (entries : List Entry) (link : List ℕ) (here left : Left) → Ready standing account entries link here
    → InFile standing.file (Torn (standing.length + 1) (length link + 1)) here left → Appending standing account entries here left
first_moment standing account entries link here left r by =
    let within : length by.bytes ≤ max (length (file_in standing.file here)) (standing.length + 1 + (length link + 1)) = by.step.within in
    let room : length_with standing link ≤ LONGEST_FILE = r.room in
    let short : length (file_in standing.file here) ≤ LONGEST_FILE = r.here.counts.short in
    appending_of standing account entries here left by.bytes by.rest
    (inl (without_link standing account entries link here r by.bytes (omega arith) (first_reads standing account entries link here left r by)))

-- the file once the link is on the disk
abbrev pub linked_file : Standing → List ℕ → Left → List ℕ
linked_file standing link left = linked (file_in standing.file left) standing.length link

linked_as : (standing : Standing) (account : State) (entries : List Entry) (link : List ℕ) (here : Left) (r : Ready standing account entries link here)
    → linked_file standing link here ≡ linked (file_in standing.file here) r.here.front.gate (link_bytes entries)
linked_as standing account entries link here r =
    ap (λ (n : ℕ). linked (file_in standing.file here) n link) (sym r.gate) ∙ ap (λ (l : List ℕ). linked (file_in standing.file here) r.here.front.gate l) r.bytes

gate_lies : (standing : Standing) (account : State) (entries : List Entry) (link : List ℕ) (here : Left) → Ready standing account entries link here → standing.length < length (file_in standing.file here)
gate_lies standing account entries link here r =
    let within : r.here.front.gate < length (file_in standing.file here) = r.lies.within in
    let gate : r.here.front.gate ≡ standing.length = r.gate in omega arith

-- During the second act the gate may be torn, and the file is read without the link or with it.
module _ (standing : Standing) (account : State) (entries : List Entry) (link : List ℕ) (here there left : Left) (r : Ready standing account entries link here) (is : there ≡ with_file_in standing.file (linked_file standing link here) here)
    (by : InFile standing.file (Torn standing.length 1) there left) where
  pub second_left : left ≡ with_file_in standing.file by.bytes here
  second_left = by.rest ∙ (ap (λ (l : Left). with_file_in standing.file by.bytes l) is ∙ file_twice standing.file (linked_file standing link here) by.bytes here)

  gate_torn : Torn standing.length 1 (linked_file standing link here) by.bytes
  gate_torn =
      let file : file_in standing.file there ≡ linked_file standing link here = ap (λ (l : Left). file_in standing.file l) is ∙ file_in-with standing.file (linked_file standing link here) here in
      subst (λ (b : List ℕ). Torn standing.length 1 b by.bytes) file by.step

  pub second_reads : (front_of r.here.counts.taken by.bytes ≡ Ok (Some r.here.front)) ⊎ (front_of r.here.counts.taken by.bytes ≡ Ok (Some (followed r.here.front entries)))
  second_reads =
      let torn_there : Torn r.here.front.gate 1 (linked_file standing link here) by.bytes = subst (λ (n : ℕ). Torn n 1 (linked_file standing link here) by.bytes) (sym r.gate) gate_torn in
      torn_gate r.here.counts.taken (file_in standing.file here) by.bytes r.here.front entries r.here.counts.reads r.can
      (subst (λ (b : List ℕ). Torn r.here.front.gate 1 b by.bytes) (linked_as standing account entries link here r) torn_there)

  pub second_moment : Appending standing account entries here left
  second_moment =
      let base = file_in standing.file here in
      let w = linked_parts base standing.length link (gate_lies standing account entries link here r) in
      let within : length by.bytes ≤ max (length (linked_file standing link here)) (standing.length + 1) = gate_torn.within in
      let longest : length (linked_file standing link here) ≤ max (length base) (standing.length + 1 + length link + 1) = w.within in
      let room : length_with standing link ≤ LONGEST_FILE = r.room in
      let short : length base ≤ LONGEST_FILE = r.here.counts.short in
      let size : length by.bytes ≤ LONGEST_FILE = omega arith in
      appending_of standing account entries here left by.bytes second_left (elim second_reads [
        | inl before ↦ inl (without_link standing account entries link here r by.bytes size before)
        | inr behind ↦ inr (with_the_link standing account entries link here r by.bytes size behind)
      ])

-- ---- what stands after it

-- the file with the link and its open gate
abbrev pub opened_file : Standing → List ℕ → Left → List ℕ
opened_file standing link left = opened (file_in standing.file left) standing.length link

opened_as : (standing : Standing) (account : State) (entries : List Entry) (link : List ℕ) (here : Left) (r : Ready standing account entries link here)
    → opened_file standing link here ≡ opened (file_in standing.file here) r.here.front.gate (link_bytes entries)
opened_as standing account entries link here r =
    ap (λ (n : ℕ). opened (file_in standing.file here) n link) (sym r.gate) ∙ ap (λ (l : List ℕ). opened (file_in standing.file here) r.here.front.gate l) r.bytes

same_standing : (one other : Standing) → one.file ≡ other.file → one.version ≡ other.version → one.generation ≡ other.generation → one.length ≡ other.length → one.links ≡ other.links → one.shut ≡ other.shut → one ≡ other
same_standing one other file version generation long links shut = λ i. record {
  file = file i;
  version = version i;
  generation = generation i;
  length = long i;
  links = links i;
  shut = shut i;
}

-- The position of a file with one more link.
standing_follows : (standing : Standing) (account : State) (entries : List Entry) (link : List ℕ) (here : Left) (r : Ready standing account entries link here) (bytes : List ℕ)
    → standing_of (with_file_in standing.file bytes here).file0 (with_file_in standing.file bytes here).file1 (record { file = standing.file; front = followed r.here.front entries }) ≡ standing_with standing link
unfolding link_bytes
standing_follows standing account entries link here r bytes =
    let payload = payload_bytes entries in
    let is = r.here.standing_is in
    let gate : r.here.front.gate ≡ standing.length = r.gate in
    let links : r.here.front.links ≡ standing.links = r.links in
    let few : r.here.front.links ≤ r.here.front.gate = r.lies.few in
    let lies_in : r.here.front.gate < length (file_in standing.file here) = r.lies.within in
    let short : length (file_in standing.file here) ≤ LONGEST_FILE = r.here.counts.short in
    let long : length link ≡ 4 + length payload =
    ap length r.bytes ∙ (length-append (u32_bytes (length payload)) payload ∙ ap (λ (n : ℕ). n + length payload) (length-u32_bytes (length payload))) in
    let length_is : r.here.front.gate + 5 + length payload ≡ standing.length + 1 + length link = omega arith in
    let links_are : r.here.front.links + 1 ≡ min (standing.links + 1) (2 ^ 64 - 1) = omega arith in
    same_standing _ _ refl (ap (λ (s : Standing). s.version) is) (ap (λ (s : Standing). s.generation) is) length_is links_are
    (ap is_shut (other_stays standing.file bytes here) ∙ ap (λ (s : Standing). s.shut) is)

pub behind_reads : (standing : Standing) (account : State) (entries : List Entry) (link : List ℕ) (here : Left) (r : Ready standing account entries link here)
    → front_of r.here.counts.taken (opened_file standing link here) ≡ Ok (Some (followed r.here.front entries))
behind_reads standing account entries link here r =
    ap (λ (b : List ℕ). front_of r.here.counts.taken b) (opened_as standing account entries link here r)
    ∙ gate_written r.here.counts.taken (file_in standing.file here) r.here.front entries r.here.counts.reads r.can

pub at_behind : (standing : Standing) (account : State) (entries : List Entry) (link : List ℕ) (here : Left) → Ready standing account entries link here
    → IsAt (standing_with standing link) (account_after_all account entries) (with_file_in standing.file (opened_file standing link here) here)
at_behind standing account entries link here r =
    let base = file_in standing.file here in
    let bytes = opened_file standing link here in
    let w = linked_parts base standing.length link (gate_lies standing account entries link here r) in
    let long : length bytes ≡ length (linked base standing.length link) = opened_length base standing.length link (gate_lies standing account entries link here r) in
    let longest : length (linked base standing.length link) ≤ max (length base) (standing.length + 1 + length link + 1) = w.within in
    let room : length_with standing link ≤ LONGEST_FILE = r.room in
    let short : length base ≤ LONGEST_FILE = r.here.counts.short in
    let next = followed r.here.front entries in
    at_of (with_file_in standing.file bytes here) (record { file = standing.file; front = next }) (standing_with standing link) (account_after_all account entries)
    (r.here.counts.changed bytes next (omega arith) (behind_reads standing account entries link here r) refl) (standing_follows standing account entries link here r bytes)
    (account_two next r.version ∙ ap (λ (a : State). account_after_all a entries) r.account_is)

-- ---- as acts

-- The link and the next closed gate are on the disk, and the link's own gate is still closed.
abbrev pub after_link : Standing → List ℕ → Told → Told
after_link standing link t = after_write_through standing.file (standing.length + 1) (link ++ CLOSED_GATE ∷ []) t

link_told : (standing : Standing) (link : List ℕ) (t : Told) → file_of standing.file (after_link standing link t) ≡ linked_file standing link t.here
link_told standing link t = file_in-with standing.file (linked_file standing link t.here) t.here

pub append_told : (standing : Standing) (link : List ℕ) (t : Told) → (after_append standing link t).here ≡ with_file_in standing.file (opened_file standing link t.here) t.here
append_told standing link t =
    let there = (after_link standing link t).here in
    ap (λ (b : List ℕ). with_file_in standing.file (overlay standing.length (OPEN_GATE ∷ []) b) there) (link_told standing link t)
    ∙ file_twice standing.file (linked_file standing link t.here) (opened_file standing link t.here) t.here

-- The closed gate still lies in the file once the link is written.
pub gate_after_link : (standing : Standing) (link : List ℕ) (old mid : Option Told) → IfSome old (λ t. standing.length < length (file_of standing.file t)) → Steps (after_link standing link) old mid
    → IfSome mid (λ t. standing.length ≤ length (file_of standing.file t))
gate_after_link standing link None mid within steps = subst (λ (o : Option Told). IfSome o (λ t. standing.length ≤ length (file_of standing.file t))) (sym steps) tt
gate_after_link standing link (Some t) mid within steps =
    let base = file_of standing.file t in
    let w = linked_parts base standing.length link within in
    let kept : length base ≤ length (linked base standing.length link) = w.kept in
    let here : standing.length ≤ length (file_of standing.file (after_link standing link t)) = omega (arith, ap length (link_told standing link t)) in
    subst (λ (o : Option Told). IfSome o (λ t. standing.length ≤ length (file_of standing.file t))) (sym steps) here

pub append_leaves : (standing : Standing) (account : State) (entries : List Entry) (link : List ℕ) (t : Told) (left : Left) → HasRoom standing link → Links account entries link → IsAt standing account t.here → Moment (append_acts standing link) t left
    → Appending standing account entries t.here left
append_leaves standing account entries link t left has links at moment =
    let r = ready standing account entries link t.here has.version has.room at links in
    elim moment [
      | inl torn ↦ first_moment standing account entries link t.here left r (subst (λ (n : ℕ). InFile standing.file (Torn (standing.length + 1) n) t.here left) (length-append link (0 ∷ [])) torn)
      | inr (inl torn) ↦ second_moment standing account entries link t.here (after_link standing link t).here left r refl torn
      | inr (inr never) ↦ absurd never
    ]

pub append_ends : (standing : Standing) (account : State) (entries : List Entry) (link : List ℕ) (t : Told) → HasRoom standing link → Links account entries link → IsAt standing account t.here
    → IsAt (standing_with standing link) (account_after_all account entries) (after_append standing link t).here
append_ends standing account entries link t has links at =
    subst (λ (l : Left). IsAt (standing_with standing link) (account_after_all account entries) l) (sym (append_told standing link t))
    (at_behind standing account entries link t.here (ready standing account entries link t.here has.version has.room at links))
