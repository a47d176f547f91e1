-- What a crash leaves while a file is formatted: one of the steps is torn, and the steps before it are done.
use Rattle.std.proofs.Common.{◌≡◌, ◌≢◌, ◌∙◌, ℕ, ◌+◌, ◌≤◌, ◌<◌, ◌⊎◌, max, List, [], ◌∷◌, ◌++◌, length, take, drop, Option, None, Some, Ok, refl, sym, ap, subst, arith, inl, inr, append_assoc, length-append}
use Rattle.std.specs.Prelude.{Bool, true, false, slice_index}
use Rattle.std.proofs.lemmas.Bool.Decides.{nat_tests}
use Rattle.std.proofs.lemmas.List.{drop_at, take_at}
use Rattle.ras_base.specs.LittleEndian.{u64_bytes}
use Rattle.ras_base.specs.Steps.LittleEndianLemmas.{length-u64_bytes}
use Rattle.board_core.specs.declared.board.FileNo.{FileNo}
use Rattle.board_core.specs.Steps.ClockLemmas.{file_in-with}
use Rattle.board_core.specs.Steps.DiskLemmas.{length-overlay}
use Rattle.board_core.specs.Stop.{Left, InFile, with_file_in}
use Rattle.board_core.specs.Doing.{Moment, after_acts}
use Rattle.board_core.specs.Told.{Told, Torn, after_write_through, overlay, file_of}
use Rattle.ras_account.specs.Account.{State}
use Rattle.entry_format.specs.declared.version.Version.TheVariants.{Two}
use Rattle.ras_journal.specs.declared.limits.TheConstants.{LONGEST_FILE, OPEN_GATE, CLOSED_GATE}
use Rattle.ras_journal.specs.File.{has_open_gate, front_of}
use Rattle.ras_journal.specs.Recovered.{is_shut}
use Rattle.ras_journal.specs.Laws.{CanBegin, begun_front, magic}
use Rattle.ras_journal.proofs.AppendLemmas.{file_twice}
use Rattle.ras_journal.proofs.FileLemmas.{closed_is}
use Rattle.ras_journal.proofs.FormattingLemmas.{torn_close, torn_behind, torn_open, opened_reads}
use Rattle.ras_recover.specs.Formatting.{after_formatting, behind_gate, closing_acts, formatting_acts}

-- ---- what is written

pub put_within : (generation : ℕ) (before checkpoint : List ℕ) → before ≡ ((magic Two ++ u64_bytes generation) ++ u64_bytes 0) ++ checkpoint → 24 ≤ length before
put_within generation before checkpoint begun =
    let named = magic Two ++ u64_bytes generation in
    omega (arith, ap length begun, length-append (named ++ u64_bytes 0) checkpoint, length-append named (u64_bytes 0), length-append (magic Two) (u64_bytes generation), length-u64_bytes generation, length-u64_bytes 0)

-- The checkpoint's length was put over eight bytes before the checkpoint, and then a gate was appended.
pub behind_is : (generation count : ℕ) (before put rest checkpoint : List ℕ) → before ≡ ((magic Two ++ u64_bytes generation) ++ u64_bytes 0) ++ checkpoint
    → put ≡ take 16 before ++ (u64_bytes (length checkpoint) ++ drop 8 (drop 16 before)) → length before ≡ count → take count (put ++ rest) ++ CLOSED_GATE ∷ [] ≡ behind_gate generation checkpoint
behind_is generation count before put rest checkpoint begun is long =
    let named = magic Two ++ u64_bytes generation in
    let number = u64_bytes (length checkpoint) in
    let sixteen : length named ≡ 16 = omega (arith, length-append (magic Two) (u64_bytes generation), length-u64_bytes generation) in
    let apart : before ≡ named ++ (u64_bytes 0 ++ checkpoint) = begun ∙ append_assoc named (u64_bytes 0) checkpoint in
    let first : take 16 before ≡ named = ap (λ (l : List ℕ). take 16 l) apart ∙ take_at named (u64_bytes 0 ++ checkpoint) 16 sixteen in
    let behind : drop 16 before ≡ u64_bytes 0 ++ checkpoint = ap (λ (l : List ℕ). drop 16 l) apart ∙ drop_at named (u64_bytes 0 ++ checkpoint) 16 sixteen in
    let last : drop 8 (drop 16 before) ≡ checkpoint = ap (λ (l : List ℕ). drop 8 l) behind ∙ drop_at (u64_bytes 0) checkpoint 8 (length-u64_bytes 0) in
    let whole : put ≡ named ++ (number ++ checkpoint) = is ∙ (ap (λ (l : List ℕ). l ++ (number ++ drop 8 (drop 16 before))) first ∙ ap (λ (l : List ℕ). named ++ (number ++ l)) last) in
    let same : length put ≡ count =
    omega (arith, long, ap length apart, ap length whole, length-append named (u64_bytes 0 ++ checkpoint), length-append (u64_bytes 0) checkpoint, length-append named (number ++ checkpoint), length-append number checkpoint, length-u64_bytes 0, length-u64_bytes (length checkpoint)) in
    ap (λ (l : List ℕ). l ++ CLOSED_GATE ∷ []) (take_at put rest count same ∙ (whole ∙ append_assoc (magic Two) (u64_bytes generation) (number ++ checkpoint)))

-- ---- the formatted file

-- the file with a closed gate at its front
abbrev pub closed : Bool → List ℕ → List ℕ
closed true file = file
closed false file = overlay 0 (CLOSED_GATE ∷ []) file

-- What a crash leaves of the file: one of the steps may be torn, and the steps before it are done.
abbrev pub TornClosing : Bool → List ℕ → List ℕ → Type 0
TornClosing shut old new = (shut ≡ false) × Torn 0 1 old new

abbrev pub Formatting : Bool → List ℕ → List ℕ → List ℕ → Type 0
Formatting shut bytes old new =
    TornClosing shut old new
    ⊎ (Torn 1 (length bytes) (closed shut old) new
    ⊎ Torn 0 1 (overlay 1 bytes (closed shut old)) new)

pub record Closed (file : List ℕ) : Type 0 where
  pub some : 0 < length file
  pub shut : slice_index file 0 ≢ OPEN_GATE

pub is_closed : (shut : Bool) (file : List ℕ) → shut ≡ is_shut file → Closed (closed shut file)
is_closed true file is = record { some = grind (arith, nat_tests); shut = grind (arith, nat_tests) }
is_closed false file is = record { some = omega arith; shut = closed_is }

stands_or_short : (file : List ℕ) → is_shut file ≡ false → (has_open_gate file ≡ true) ⊎ (length file ≤ 1)
stands_or_short file is = grind (arith, nat_tests)

-- While a file is formatted it is read as before, or isn't valid, or is valid with the new generation.
pub formatting_reads : (taken : Option ℕ) (shut : Bool) (base file : List ℕ) (generation : ℕ) (checkpoint : List ℕ) (account : State) → shut ≡ is_shut base → CanBegin taken Two generation checkpoint account
    → Formatting shut (behind_gate generation checkpoint) base file
    → (front_of taken file ≡ front_of taken base) ⊎ ((front_of taken file ≡ Ok None) ⊎ (front_of taken file ≡ Ok (Some (begun_front Two generation checkpoint account))))
formatting_reads taken shut base file generation checkpoint account is can (inl closing) =
    elim (torn_close taken base file (stands_or_short base (sym is ∙ closing.0)) closing.1) [ inl same ↦ inl same | inr absent ↦ inr (inl absent) ]
formatting_reads taken shut base file generation checkpoint account is can (inr (inl writing)) =
    let c = is_closed shut base is in
    inr (inl (torn_behind taken (closed shut base) file (length (behind_gate generation checkpoint)) c.some c.shut writing))
formatting_reads taken shut base file generation checkpoint account is can (inr (inr opening)) =
    inr (torn_open taken (closed shut base) file Two generation checkpoint account (is_closed shut base is).some can opening)

-- Once a file is formatted it is valid with the new generation.
abbrev pub formatted : Bool → List ℕ → List ℕ → List ℕ
formatted shut bytes base = overlay 0 (OPEN_GATE ∷ []) (overlay 1 bytes (closed shut base))

pub formatted_reads : (taken : Option ℕ) (shut : Bool) (base : List ℕ) (generation : ℕ) (checkpoint : List ℕ) (account : State) → shut ≡ is_shut base → CanBegin taken Two generation checkpoint account
    → front_of taken (formatted shut (behind_gate generation checkpoint) base) ≡ Ok (Some (begun_front Two generation checkpoint account))
formatted_reads taken shut base generation checkpoint account is can =
    opened_reads taken (closed shut base) Two generation checkpoint account (is_closed shut base is).some can

-- ---- the file's length

closed_length : (shut : Bool) (base : List ℕ) → length (closed shut base) ≤ max (length base) 1
closed_length true base = omega arith
closed_length false base = omega (arith, length-overlay 0 (CLOSED_GATE ∷ []) base)

written_length : (bytes base : List ℕ) → 0 < length base → length (overlay 1 bytes base) ≤ max (length base) (1 + length bytes)
written_length bytes base some = omega (arith, length-overlay 1 bytes base)

pub formatting_short : (shut : Bool) (bytes base file : List ℕ) → shut ≡ is_shut base → length base ≤ LONGEST_FILE → 1 + length bytes ≤ LONGEST_FILE → Formatting shut bytes base file → length file ≤ LONGEST_FILE
formatting_short shut bytes base file is short room (inl closing) =
    let within : length file ≤ max (length base) 1 = closing.1.within in omega arith
formatting_short shut bytes base file is short room (inr (inl writing)) =
    let within : length file ≤ max (length (closed shut base)) (1 + length bytes) = writing.within in
    omega (arith, closed_length shut base)
formatting_short shut bytes base file is short room (inr (inr opening)) =
    let within : length file ≤ max (length (overlay 1 bytes (closed shut base))) 1 = opening.within in
    let some : 0 < length (closed shut base) = (is_closed shut base is).some in
    omega (arith, closed_length shut base, written_length bytes (closed shut base) some)

pub formatted_short : (shut : Bool) (bytes base : List ℕ) → shut ≡ is_shut base → length base ≤ LONGEST_FILE → 1 + length bytes ≤ LONGEST_FILE → length (formatted shut bytes base) ≤ LONGEST_FILE
formatted_short shut bytes base is short room =
    let some : 0 < length (closed shut base) = (is_closed shut base is).some in
    omega (arith, closed_length shut base, written_length bytes (closed shut base) some, length-overlay 0 (OPEN_GATE ∷ []) (overlay 1 bytes (closed shut base)))

-- ---- the model

abbrev pub after_closing : FileNo → Bool → Told → Told
after_closing file shut t = after_acts (closing_acts file shut) t

abbrev pub after_writing : FileNo → Bool → List ℕ → Told → Told
after_writing file shut bytes t = after_write_through file 1 bytes (after_closing file shut t)

formatting_told : (file : FileNo) (shut : Bool) (bytes : List ℕ) (t : Told) → after_formatting file shut bytes t ≡ after_write_through file 0 (OPEN_GATE ∷ []) (after_writing file shut bytes t)
formatting_told file true bytes t = refl
formatting_told file false bytes t = refl

pub closing_told : (file : FileNo) (shut : Bool) (t : Told) → file_of file (after_closing file shut t) ≡ closed shut (file_of file t)
closing_told file true t = refl
closing_told file false t = file_in-with file _ t.here

pub closing_frame : (file : FileNo) (shut : Bool) (bytes : List ℕ) (t : Told) → with_file_in file bytes (after_closing file shut t).here ≡ with_file_in file bytes t.here
closing_frame file true bytes t = refl
closing_frame file false bytes t = file_twice file _ bytes t.here

pub writing_told : (file : FileNo) (shut : Bool) (bytes : List ℕ) (t : Told) → file_of file (after_writing file shut bytes t) ≡ overlay 1 bytes (closed shut (file_of file t))
writing_told file shut bytes t = file_in-with file _ (after_closing file shut t).here ∙ ap (λ (l : List ℕ). overlay 1 bytes l) (closing_told file shut t)

pub writing_frame : (file : FileNo) (shut : Bool) (bytes new : List ℕ) (t : Told) → with_file_in file new (after_writing file shut bytes t).here ≡ with_file_in file new t.here
writing_frame file shut bytes new t = file_twice file _ new (after_closing file shut t).here ∙ closing_frame file shut new t

pub formatted_told : (file : FileNo) (shut : Bool) (bytes : List ℕ) (t : Told) → (after_formatting file shut bytes t).here ≡ with_file_in file (formatted shut bytes (file_of file t)) t.here
formatted_told file shut bytes t =
    ap (λ (u : Told). u.here) (formatting_told file shut bytes t)
    ∙ (writing_frame file shut bytes _ t ∙ ap (λ (l : List ℕ). with_file_in file (overlay 0 (OPEN_GATE ∷ []) l) t.here) (writing_told file shut bytes t))

-- ---- at a moment

abbrev DuringFormatting : FileNo → Bool → List ℕ → Told → Left → Type 0
DuringFormatting file shut bytes t left = InFile file (Formatting shut bytes) t.here left

while_closing : (file : FileNo) (shut : Bool) (bytes : List ℕ) (t : Told) (left : Left) → InFile file (TornClosing shut) t.here left → DuringFormatting file shut bytes t left
while_closing file shut bytes t left by = record { bytes = by.bytes; step = inl by.step; rest = by.rest }

while_writing : (file : FileNo) (shut : Bool) (bytes : List ℕ) (t : Told) (left : Left) → InFile file (Torn 1 (length bytes)) (after_closing file shut t).here left → DuringFormatting file shut bytes t left
while_writing file shut bytes t left by = record {
  bytes = by.bytes;
  step = inr (inl (subst (λ (l : List ℕ). Torn 1 (length bytes) l by.bytes) (closing_told file shut t) by.step));
  rest = by.rest ∙ closing_frame file shut by.bytes t;
}

while_opening : (file : FileNo) (shut : Bool) (bytes : List ℕ) (t : Told) (left : Left) → InFile file (Torn 0 1) (after_writing file shut bytes t).here left → DuringFormatting file shut bytes t left
while_opening file shut bytes t left by = record {
  bytes = by.bytes;
  step = inr (inr (subst (λ (l : List ℕ). Torn 0 1 l by.bytes) (writing_told file shut bytes t) by.step));
  rest = by.rest ∙ writing_frame file shut bytes by.bytes t;
}

pub moment_formats : (file : FileNo) (shut : Bool) (bytes : List ℕ) (t : Told) (left : Left) → Moment (formatting_acts file shut bytes) t left → InFile file (Formatting shut bytes) t.here left
moment_formats file true bytes t left (inl torn) = while_writing file true bytes t left torn
moment_formats file true bytes t left (inr (inl torn)) = while_opening file true bytes t left torn
moment_formats file true bytes t left (inr (inr never)) = absurd never
moment_formats file false bytes t left (inl torn) = while_closing file false bytes t left (record { bytes = torn.bytes; step = (refl, torn.step); rest = torn.rest })
moment_formats file false bytes t left (inr (inl torn)) = while_writing file false bytes t left torn
moment_formats file false bytes t left (inr (inr (inl torn))) = while_opening file false bytes t left torn
moment_formats file false bytes t left (inr (inr (inr never))) = absurd never
