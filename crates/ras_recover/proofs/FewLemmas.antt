-- How many links the files of a journal have while one of them is formatted, and afterwards.
use Rattle.std.proofs.Common.{◌≡◌, ℕ, ◌+◌, List, None, refl, sym, subst, arith, inl, inr}
use Rattle.std.specs.Prelude.{Bool}
use Rattle.board_core.specs.Doing.{Moment}
use Rattle.board_core.specs.Stop.{Left, file_in}
use Rattle.board_core.specs.Told.{Told}
use Rattle.ras_account.specs.Account.{State}
use Rattle.entry_format.specs.declared.version.Version.TheVariants.{Two}
use Rattle.journal_format.specs.Checkpoints.{checkpoint_bytes}
use Rattle.ras_journal.specs.declared.standing.Standing.{Standing}
use Rattle.ras_journal.specs.File.{AreLinksFew}
use Rattle.ras_journal.specs.Laws.{CanBegin, begun_front}
use Rattle.ras_journal.specs.Recovered.{HasFewLinks, IsAt, is_shut, other}
use Rattle.ras_journal.proofs.FewLemmas.{few_absent, few_as_before, few_in, few_read, few_with}
use Rattle.ras_recover.specs.Formatting.{behind_gate}
use Rattle.ras_recover.specs.Switching.{CanSwitch, after_switch, next_bytes, switch_acts}
use Rattle.ras_recover.proofs.FormattingLemmas.{Formatting, formatted, formatted_reads, formatting_reads, moment_formats}
use Rattle.ras_recover.proofs.SwitchingLemmas.{Ready, ready, switched_told}

-- ---- the formatted file

pub formatting_few : (shut : Bool) (base file : List ℕ) (generation : ℕ) (checkpoint : List ℕ) (account : State) → shut ≡ is_shut base → CanBegin None Two generation checkpoint account
    → Formatting shut (behind_gate generation checkpoint) base file → AreLinksFew base → AreLinksFew file
formatting_few shut base file generation checkpoint account is can by few =
    elim (formatting_reads None shut base file generation checkpoint account is can by) [
      | inl same ↦ few_as_before base file same few
      | inr (inl nothing) ↦ few_absent file nothing
      | inr (inr reads) ↦ few_read None file (begun_front Two generation checkpoint account) reads (omega arith)
    ]

pub formatted_few : (shut : Bool) (base : List ℕ) (generation : ℕ) (checkpoint : List ℕ) (account : State) → shut ≡ is_shut base → CanBegin None Two generation checkpoint account
    → AreLinksFew (formatted shut (behind_gate generation checkpoint) base)
formatted_few shut base generation checkpoint account is can =
    few_read None (formatted shut (behind_gate generation checkpoint) base) (begun_front Two generation checkpoint account) (formatted_reads None shut base generation checkpoint account is can) (omega arith)

-- ---- a switch

module _ (standing : Standing) (account : State) (t : Told) (can : CanSwitch standing account) (at : IsAt standing account t.here) (few : HasFewLinks t.here) where
  r : Ready standing account t.here
  r = ready standing account t.here at can

  next_begins : CanBegin None Two (standing.generation + 1) (checkpoint_bytes Two account) account
  next_begins = record { first = r.can.first; last = r.can.last; free = refl; size = r.can.size; is = r.can.is }

  pub switch_few : (left : Left) → Moment (switch_acts standing account) t left → HasFewLinks left
  switch_few left moment =
      let file = other standing.file in
      let by = moment_formats file standing.shut (next_bytes standing account) t left moment in
      subst HasFewLinks (sym by.rest) (few_with file by.bytes t.here
      (formatting_few standing.shut (file_in file t.here) by.bytes (standing.generation + 1) (checkpoint_bytes Two account) account r.shut next_begins by.step (few_in file t.here few)) few)

  pub switch_few_done : HasFewLinks (after_switch standing account t).here
  switch_few_done =
      let file = other standing.file in
      subst HasFewLinks (sym (switched_told standing account t)) (few_with file (formatted standing.shut (next_bytes standing account) (file_in file t.here)) t.here
      (formatted_few standing.shut (file_in file t.here) (standing.generation + 1) (checkpoint_bytes Two account) account r.shut next_begins) few)
