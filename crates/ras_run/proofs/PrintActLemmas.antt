-- The acts of a line, one kind after another: what they leave, and which disk calls they are.
use Rattle.std.proofs.Common.{◌≡◌, ℕ, ◌+◌, ◌≤◌, Bool, true, false, ◌&&◌, List, [], ◌∷◌, ◌++◌, length, map, IsTrue, refl, sym, ap, ◌∙◌, append_assoc, append-nil, length-append, arith}
use Rattle.std.proofs.lemmas.Bool.Decides.{nat_tests}
use Rattle.std.specs.List.{flat_map}
use Rattle.board_core.specs.declared.board.DiskCall.{DiskCall}
use Rattle.board_core.specs.Told.{Told}
use Rattle.board_core.specs.Doing.{Act, AreOffDevice, after_acts, calls, calls_of, disk_calls_by}
use Rattle.board_core.proofs.ActLemmas.{acts_out, on_disk_off}
use Rattle.board_core.proofs.DoingLemmas.{after-append}
use Rattle.dimm_topology.specs.Labels.{Bytes}
use Rattle.journal_format.specs.Checkpoints.{checkpoint_bytes, module_bytes}
use Rattle.journal_format.proofs.SizeLemmas.{checkpoint_size}
use Rattle.entry_format.specs.Spelling.{label_bytes}
use Rattle.entry_format.specs.declared.version.Version.TheVariants.{Two}
use Rattle.ras_account.specs.Account.{State}
use Rattle.ras_account.specs.Accounts.{IsAccount}
use Rattle.ras_account.specs.Modules.{Module}
use Rattle.ras_facts.specs.declared.entry.Entry.{Entry}
use Rattle.ras_journal.specs.declared.standing.Standing.{Standing}
use Rattle.ras_journal.specs.Appending.{needs_switch}
use Rattle.ras_journal.specs.declared.limits.TheConstants.{LONGEST_FILE}
use Rattle.ras_recover.specs.Switching.{CanSwitch, has_no_room}
use Rattle.journal_format.specs.Links.{link_bytes}
use Rattle.ras_run.specs.Keeping.{CanMake, lacks_room}
use Rattle.ras_run.proofs.KeepingLemmas.{is_keeping, keeping_on_disk}
use Rattle.ras_exit.specs.Acts.{print_acts}
use Rattle.ras_exit.proofs.PrintLemmas.{after_printed}
use Rattle.ras_account.specs.Numbers.{fresh_entries_in}
use Rattle.ras_events.specs.declared.made.Piece.{Piece}
use Rattle.ras_events.specs.Making.{entries_in}
use Rattle.ras_run.specs.LineActs.{news_acts, telling_acts}
use Rattle.ras_run.specs.LineCalls.{AreNewsCalls}
use Rattle.ras_recover.proofs.OpeningActsLemmas.{after_reading}

-- ---- acts that leave the device alone

pub off_both : (xs ys : List Act) → AreOffDevice xs → AreOffDevice ys → AreOffDevice (xs ++ ys)
off_both [] ys one two = two
off_both (x ∷ xs) ys one two = (one.0, off_both xs ys one.1 two)

pub print_off : (text : List ℕ) → AreOffDevice (print_acts text)
print_off [] = tt
print_off (b ∷ text) = (tt, tt)

pub reading_off : (made : List DiskCall) → AreOffDevice (map calls made)
reading_off [] = tt
reading_off (call ∷ made) = (tt, reading_off made)

pub news_off : (s : Standing) (a : State) (news : List Entry) → AreOffDevice (news_acts s a news)
news_off s a [] = tt
news_off s a (entry ∷ entries) = (let link : List ℕ = link_bytes (entry ∷ entries) in on_disk_off _ (keeping_on_disk s a link))

pub told_off : (s : Standing) (a : State) (made : List Piece) (text : List ℕ) → AreOffDevice (telling_acts a s made text)
told_off s a made text = off_both (news_acts s a (fresh_entries_in a (entries_in made))) (print_acts text) (news_off s a (fresh_entries_in a (entries_in made))) (print_off text)

-- ---- the disk calls

pub calls_both : (xs ys : List Act) → calls_of (xs ++ ys) ≡ calls_of xs ++ calls_of ys
calls_both [] ys = refl
calls_both (x ∷ xs) ys = ap (λ (l : List DiskCall). disk_calls_by x ++ l) (calls_both xs ys) ∙ sym (append_assoc (disk_calls_by x) (calls_of xs) (calls_of ys))

pub print_calls : (text : List ℕ) → calls_of (print_acts text) ≡ []
print_calls [] = refl
print_calls (b ∷ text) = refl

pub calls_before : (xs ys : List Act) → calls_of ys ≡ [] → calls_of (xs ++ ys) ≡ calls_of xs
calls_before xs ys none = calls_both xs ys ∙ (ap (λ (l : List DiskCall). calls_of xs ++ l) none ∙ append-nil (calls_of xs))

pub reading_calls : (made : List DiskCall) → calls_of (map calls made) ≡ made
reading_calls [] = refl
reading_calls (call ∷ made) = ap (λ (l : List DiskCall). call ∷ l) (reading_calls made)

pub news_calls : (s : Standing) (a : State) (news : List Entry) → AreNewsCalls news (calls_of (news_acts s a news))
news_calls s a [] = refl
news_calls s a (entry ∷ entries) = is_keeping s a (link_bytes (entry ∷ entries))

-- ---- the text

pub news_out : (s : Standing) (a : State) (news : List Entry) (t : Told) → (after_acts (news_acts s a news) t).here.out ≡ t.here.out
news_out s a [] t = refl
news_out s a (entry ∷ entries) t = acts_out _ (keeping_on_disk s a (link_bytes (entry ∷ entries))) t

pub reading_here : (made : List DiskCall) (t : Told) → (after_acts (map calls made) t).here ≡ t.here
reading_here made t = ap (λ (u : Told). u.here) (after_reading made t)

-- ---- the new entries and the text of pieces

pub told_is : (s : Standing) (a : State) (made : List Piece) (text : List ℕ) (t : Told)
    → after_acts (telling_acts a s made text) t ≡ after_acts (print_acts text) (after_acts (news_acts s a (fresh_entries_in a (entries_in made))) t)
told_is s a made text t = after-append (news_acts s a (fresh_entries_in a (entries_in made))) (print_acts text) t

pub told_out : (s : Standing) (a : State) (made : List Piece) (text : List ℕ) (t : Told) → (after_acts (telling_acts a s made text) t).here.out ≡ t.here.out ++ text
told_out s a made text t =
    let news : List Entry = fresh_entries_in a (entries_in made) in
    ap (λ (u : Told). u.here.out) (told_is s a made text t ∙ after_printed text (after_acts (news_acts s a news) t)) ∙ ap (λ out. out ++ text) (news_out s a news t)

-- ---- a switch that is due can be made, if the account is one

module_size : (row : Bytes × Module) → 1 ≤ length (module_bytes Two row)
unfolding module_bytes label_bytes
module_size row = omega arith

modules_size : (rows : List (Bytes × Module)) → length rows ≤ length (flat_map (module_bytes Two) rows)
modules_size [] = omega arith
modules_size (row ∷ rows) = omega (arith, length-append (module_bytes Two row) (flat_map (module_bytes Two) rows), module_size row, modules_size rows)

pub can_make : (s : Standing) (a : State) (link : List ℕ) → IsAccount a → ¬ IsTrue (lacks_room s a link) → CanMake s a link
can_make s a link account not = by (needs_switch s link) not
  where
    by : (due : Bool) → ¬ IsTrue (due && has_no_room s a link) → IsTrue due → CanSwitch s a
    by false not never = absurd cc
    by true not due =
        let short : 27 + length (checkpoint_bytes Two a) ≤ LONGEST_FILE = grind (arith, nat_tests) in
        record {
          generation = grind (arith, nat_tests);
          room = short;
          is = record {
            account = account;
            told = tt;
            module_count = omega (arith, short, checkpoint_size a, modules_size a.modules);
            page_count = omega (arith, short, checkpoint_size a);
            spelled = refl;
          };
        }
