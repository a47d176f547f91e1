-- How many links the files of a journal have, at each point of an append and afterwards.
use Rattle.std.proofs.Common.{◌≡◌, ◌∙◌, ℕ, ◌+◌, ◌≤◌, ◌<◌, List, [], ◌∷◌, length, Option, None, Some, Result, Ok, refl, sym, ap, subst, arith, inl, inr, length-append}
use Rattle.board_core.specs.declared.board.FileNo.{FileNo}
use Rattle.board_core.specs.declared.board.FileNo.TheVariants.{Zero, One}
use Rattle.board_core.specs.Doing.{Moment}
use Rattle.board_core.specs.Stop.{Left, InFile, file_in, with_file_in}
use Rattle.board_core.specs.Told.{Told, Torn}
use Rattle.ras_account.specs.Account.{State}
use Rattle.ras_facts.specs.declared.entry.Entry.{Entry}
use Rattle.ras_journal.specs.declared.standing.Standing.{Standing}
use Rattle.ras_journal.specs.File.{AreLinksFew, FileFront, front_of}
use Rattle.ras_journal.specs.Recovered.{HasFewLinks, IsAt}
use Rattle.ras_journal.specs.Appending.{HasRoom, Links, after_append, append_acts}
use Rattle.ras_journal.specs.Laws.{followed}
use Rattle.ras_journal.proofs.AppendLemmas.{Ready, after_link, append_told, behind_reads, first_reads, opened_file, ready, second_left, second_reads}
use Rattle.ras_journal.proofs.SwitchLemmas.{taken_other}

-- ---- one file

-- The front has the number of links, whatever generation the other file has.
few_found : (file : List ℕ) → ((front : FileFront) → front_of None file ≡ Ok (Some front) → front.links ≤ 256) → AreLinksFew file
few_found file few = λ taken front reads. few front (taken_other taken None file front reads refl)

pub few_read : (taken : Option ℕ) (file : List ℕ) (front : FileFront) → front_of taken file ≡ Ok (Some front) → front.links ≤ 256 → AreLinksFew file
few_read taken file front reads few =
    few_found file (λ found is.
    let links : found.links ≡ front.links = ap (λ (f : FileFront). f.links) (same_front found front (sym is ∙ taken_other taken None file front reads refl)) in
    omega arith)
  where
    same_front : (one other : FileFront) → ◌≡◌ {A = Result (Option FileFront) ℕ} (Ok (Some one)) (Ok (Some other)) → one ≡ other
    same_front one other e = cc

pub few_absent : (file : List ℕ) → front_of None file ≡ Ok None → AreLinksFew file
few_absent file nothing = few_found file (λ found is. absurd (no_front found (sym nothing ∙ is)))
  where
    no_front : (front : FileFront) → ◌≡◌ {A = Result (Option FileFront) ℕ} (Ok None) (Ok (Some front)) → ⊥
    no_front front e = cc

pub few_as_before : (old new : List ℕ) → front_of None new ≡ front_of None old → AreLinksFew old → AreLinksFew new
few_as_before old new same few = few_found new (λ found is. few None found (sym same ∙ is))

-- ---- both files

pub few_in : (file : FileNo) (left : Left) → HasFewLinks left → AreLinksFew (file_in file left)
few_in Zero left few = few.zero
few_in One left few = few.one

pub few_with : (file : FileNo) (bytes : List ℕ) (left : Left) → AreLinksFew bytes → HasFewLinks left → HasFewLinks (with_file_in file bytes left)
few_with Zero bytes left few both = record { zero = few; one = both.one }
few_with One bytes left few both = record { zero = both.zero; one = few }

-- ---- an append to a chain of fewer than 256 links

module _ (standing : Standing) (account : State) (entries : List Entry) (link : List ℕ) (t : Told) (has : HasRoom standing link) (links : Links account entries link) (at : IsAt standing account t.here) (less : standing.links < 256) (few : HasFewLinks t.here) where
  r : Ready standing account entries link t.here
  r = ready standing account entries link t.here has.version has.room at links

  without : (bytes : List ℕ) → front_of r.here.counts.taken bytes ≡ Ok (Some r.here.front) → AreLinksFew bytes
  without bytes reads = let count : r.here.front.links ≡ standing.links = r.links in few_read r.here.counts.taken bytes r.here.front reads (omega arith)

  with_it : (bytes : List ℕ) → front_of r.here.counts.taken bytes ≡ Ok (Some (followed r.here.front entries)) → AreLinksFew bytes
  with_it bytes reads = let count : r.here.front.links ≡ standing.links = r.links in few_read r.here.counts.taken bytes (followed r.here.front entries) reads (omega arith)

  changed : (bytes : List ℕ) (left : Left) → left ≡ with_file_in standing.file bytes t.here → AreLinksFew bytes → HasFewLinks left
  changed bytes left is in_file = subst HasFewLinks (sym is) (few_with standing.file bytes t.here in_file few)

  first_few : (left : Left) → InFile standing.file (Torn (standing.length + 1) (length link + 1)) t.here left → HasFewLinks left
  first_few left by = changed by.bytes left by.rest (without by.bytes (first_reads standing account entries link t.here left r by))

  second_few : (left : Left) → InFile standing.file (Torn standing.length 1) (after_link standing link t).here left → HasFewLinks left
  second_few left by =
      changed by.bytes left (second_left standing account entries link t.here (after_link standing link t).here left r refl by)
      (elim (second_reads standing account entries link t.here (after_link standing link t).here left r refl by) [ inl before ↦ without by.bytes before | inr behind ↦ with_it by.bytes behind ])

  pub append_few : (left : Left) → Moment (append_acts standing link) t left → HasFewLinks left
  append_few left (inl torn) = first_few left (subst (λ (n : ℕ). InFile standing.file (Torn (standing.length + 1) n) t.here left) (length-append link (0 ∷ [])) torn)
  append_few left (inr (inl torn)) = second_few left torn
  append_few left (inr (inr never)) = absurd never

  pub append_few_done : HasFewLinks (after_append standing link t).here
  append_few_done = changed (opened_file standing link t.here) (after_append standing link t).here (append_told standing link t) (with_it (opened_file standing link t.here) (behind_reads standing account entries link t.here r))
