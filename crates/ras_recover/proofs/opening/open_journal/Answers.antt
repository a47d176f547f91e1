use Rattle.std.proofs.Common.{ap, ◌∙◌, inl}
use Rattle.std.proofs.lemmas.Result.{err_from_is_err_and}
use Rattle.ras_account.specs.declared.account.Account.{Account}
use Rattle.ras_journal.specs.declared.journal.Journal.{Journal}
use Rattle.ras_journal.specs.View.{JournalView}
use Rattle.ras_recover.specs.Recovering.{open_end}
use Rattle.ras_recover.proofs.KeepingLemmas.{no_faults, same_faults}
use Rattle.ras_recover.proofs.OpeningLemmas.{first_acts, is_opened, not_refused, on_refusal, opening_formats, opening_opens, opening_stops, refuses_any, shut_still, stands_first, zero_is_shut}
use Rattle.ras_recover.proofs.OpeningActsLemmas.{unopened_formatting, unopened_read}
use Rattle.ras_recover.proofs.OpeningCallsLemmas.{opens_formatted, opens_standing, recovered_none, refusal_cause, told_formatted, told_opened}
use Rattle.ras_recover.proofs.SyncsLemmas.{opening_may_sync, opening_synced, synced_formats}
use Rattle.ras_recover.proofs.opening.open_journal.Goals as goal

pub returns-in_err-recovered-clause-does : goal.returns-in_err-recovered-clause-does
returns-in_err-recovered-clause-does g c =
    let p = err_from_is_err_and c.from_residual.result c.from_residual.ensures.1 in
    rw p.1 (record {
      told = told_opened _ _ c.recover_files.ensures.does.told;
      whole = tt;
      unopened = unopened_read _ _ _ c.recover_files.ensures.does.told;
    })

pub returns-in_err-recovered-clause-refused : goal.returns-in_err-recovered-clause-refused
returns-in_err-recovered-clause-refused g c =
    let p = err_from_is_err_and c.from_residual.result c.from_residual.ensures.1 in
    rw (p.1, p.2) (on_refusal c.in_err-recovered.field-0.0 _ c.in_err-recovered.ensures.rests)

pub returns-in_err-recovered-clause-syncs : goal.returns-in_err-recovered-clause-syncs
returns-in_err-recovered-clause-syncs g c =
    let p = err_from_is_err_and c.from_residual.result c.from_residual.ensures.1 in
    λ t told. rw p.1 (opening_may_sync g.B.Board.seen t c.args.board.now c.recover_files.new.board (c.in_err-recovered.ensures.syncs t told))

pub returns-in_err-journal-clause-recovers : goal.returns-in_err-journal-clause-recovers
returns-in_err-journal-clause-recovers g c =
    let p = err_from_is_err_and c.from_residual-in_err-journal.result c.from_residual-in_err-journal.ensures.1 in
    rw (p.1, p.2) (refuses_any c.in_err-journal.field-0.0 _ c.in_err-journal.ensures.refuses)

pub returns-in_err-journal-clause-refused : goal.returns-in_err-journal-clause-refused
returns-in_err-journal-clause-refused g c =
    let p = err_from_is_err_and c.from_residual-in_err-journal.result c.from_residual-in_err-journal.ensures.1 in
    rw (p.1, p.2) (not_refused c.in_err-journal.field-0.0 _ c.in_err-journal.ensures.refuses)

-- A file is valid.

pub returns-in-Some-clause-opened : goal.returns-in-Some-clause-opened
returns-in-Some-clause-opened g c = λ t told.
    let standing = ap (λ (v : JournalView). v.standing) c.at.ensures in
    rw standing (is_opened c.in_ok-recovered.recovered.0.account.state c.in-Some.standing t _ _ _ told c.in_ok-recovered.ensures.recovers (rw (← c.in-Some.is) c.in_ok-recovered.ensures.standing) (c.in_ok-recovered.ensures.rests t told))

pub returns-in-Some-clause-syncs : goal.returns-in-Some-clause-syncs
returns-in-Some-clause-syncs g c = λ t told. opening_synced g.B.Board.seen t c.args.board.now c.recover_files.new.board (c.in_ok-recovered.ensures.syncs t told)

pub returns-in-Some-clause-does : goal.returns-in-Some-clause-does
returns-in-Some-clause-does g c = record {
  told = told_opened _ _ c.recover_files.ensures.does.told;
  whole = opens_standing c.in-Some.standing _ _ (rw (← c.in-Some.is) c.in_ok-recovered.ensures.standing) c.in_ok-recovered.ensures.does.reads;
  unopened = tt;
}

-- No file is valid.

pub format_first-requires : goal.format_first-requires
format_first-requires g c =
    zero_is_shut c.in_ok-recovered.recovered.1.0 c.in_ok-recovered.recovered.1.1 _ (shut_still c.in_ok-recovered.recovered.1.0 c.in_ok-recovered.recovered.1.1 _ _ c.in_ok-recovered.ensures.keeps.here c.in_ok-recovered.ensures.shut)

pub returns-clause-stops : goal.returns-clause-stops
returns-clause-stops g c = λ t told.
    opening_stops g.B.Board.seen c.in_ok-recovered.recovered.0.account.state c.in_ok-recovered.recovered.1.0 c.in_ok-recovered.recovered.1.1 _ _ _ t told c.in_ok-recovered.ensures.recovers (rw (← c.in_default.is) c.in_ok-recovered.ensures.standing)
    c.in_ok-recovered.ensures.shut (c.in_ok-recovered.ensures.rests t told) (open_end c.format_first.result) c.format_first.ensures.can c.format_first.ensures.does c.in_ok-recovered.ensures.keeps

pub returns-in_err-journal-clause-stops : goal.returns-in_err-journal-clause-stops
returns-in_err-journal-clause-stops g c = λ t told.
    opening_stops g.B.Board.seen c.in_ok-recovered.recovered.0.account.state c.in_ok-recovered.recovered.1.0 c.in_ok-recovered.recovered.1.1 _ _ _ t told c.in_ok-recovered.ensures.recovers (rw (← c.in_default.is) c.in_ok-recovered.ensures.standing)
    c.in_ok-recovered.ensures.shut (c.in_ok-recovered.ensures.rests t told) (open_end c.format_first.result) c.format_first.ensures.can c.format_first.ensures.does c.in_ok-recovered.ensures.keeps

pub returns-clause-syncs : goal.returns-clause-syncs
returns-clause-syncs g c = λ t told.
    synced_formats g.B.Board.seen t c.args.board.now c.recover_files.new.board c.format_first.new.board (c.in_ok-recovered.ensures.syncs t told)
    (opening_formats g.B.Board.seen c.in_ok-recovered.recovered.0.account.state c.in_ok-recovered.recovered.1.0 c.in_ok-recovered.recovered.1.1 _ _ _ t told c.in_ok-recovered.ensures.recovers (rw (← c.in_default.is) c.in_ok-recovered.ensures.standing)
    c.in_ok-recovered.ensures.shut (c.in_ok-recovered.ensures.rests t told) (open_end c.format_first.result) c.format_first.ensures.can c.format_first.ensures.does)

pub returns-in_err-journal-clause-syncs : goal.returns-in_err-journal-clause-syncs
returns-in_err-journal-clause-syncs g c =
    let p = err_from_is_err_and c.from_residual-in_err-journal.result c.from_residual-in_err-journal.ensures.1 in
    λ t told. rw p.1 (inl (synced_formats g.B.Board.seen t c.args.board.now c.recover_files.new.board c.format_first.new.board (c.in_ok-recovered.ensures.syncs t told)
    (opening_formats g.B.Board.seen c.in_ok-recovered.recovered.0.account.state c.in_ok-recovered.recovered.1.0 c.in_ok-recovered.recovered.1.1 _ _ _ t told c.in_ok-recovered.ensures.recovers (rw (← c.in_default.is) c.in_ok-recovered.ensures.standing)
    c.in_ok-recovered.ensures.shut (c.in_ok-recovered.ensures.rests t told) (open_end c.format_first.result) c.format_first.ensures.can c.format_first.ensures.does)))

pub returns-clause-opened : goal.returns-clause-opened
returns-clause-opened g c = λ t told.
    let standing = ap (λ (v : JournalView). v.standing) c.in_ok-journal.ensures.journal in
    rw standing
    (opening_opens g.B.Board.seen c.in_ok-recovered.recovered.0.account.state c.in_ok-recovered.recovered.1.0 c.in_ok-recovered.recovered.1.1 c.args.board.now _ _ t told c.in_ok-recovered.ensures.recovers (rw (← c.in_default.is) c.in_ok-recovered.ensures.standing)
    c.in_ok-recovered.ensures.shut (c.in_ok-recovered.ensures.rests t told) (c.in_ok-journal.ensures.can tt) c.in_ok-journal.ensures.does)

pub returns-clause-ready : goal.returns-clause-ready
returns-clause-ready g c = (c.in_ok-recovered.ensures.waiting, ap (λ (v : JournalView). v.failed) c.in_ok-journal.ensures.journal)

pub returns-clause-standing : goal.returns-clause-standing
returns-clause-standing g c =
    let standing = ap (λ (v : JournalView). v.standing) c.in_ok-journal.ensures.journal in
    rw standing
    (stands_first c.in_ok-recovered.recovered.0.account.state c.in_ok-recovered.recovered.1.0 c.in_ok-recovered.recovered.1.1 _ c.in_ok-recovered.ensures.recovers (rw (← c.in_default.is) c.in_ok-recovered.ensures.standing) c.in_ok-recovered.ensures.shut)

pub returns-clause-does : goal.returns-clause-does
returns-clause-does g c = record {
  told = told_formatted g.B.Board.seen c.in_ok-recovered.recovered.0.account.state c.in_ok-recovered.recovered.1.0 (open_end c.format_first.result) _ _ _
      (recovered_none c.in_ok-recovered.recovered.0.account.state c.in_ok-recovered.recovered.1.0 c.in_ok-recovered.recovered.1.1 _ _ c.in_ok-recovered.ensures.recovers (rw (← c.in_default.is) c.in_ok-recovered.ensures.standing) c.in_ok-recovered.ensures.shut c.in_ok-recovered.ensures.does.reads)
      c.recover_files.ensures.does.told c.format_first.ensures.does;
  whole = opens_formatted c.in_ok-recovered.recovered.0.account.state c.in_ok-recovered.recovered.1.0 _ _ _
      (recovered_none c.in_ok-recovered.recovered.0.account.state c.in_ok-recovered.recovered.1.0 c.in_ok-recovered.recovered.1.1 _ _ c.in_ok-recovered.ensures.recovers (rw (← c.in_default.is) c.in_ok-recovered.ensures.standing) c.in_ok-recovered.ensures.shut c.in_ok-recovered.ensures.does.reads)
      c.in_ok-journal.ensures.does.told;
  unopened = tt;
}

pub returns-in_err-journal-clause-does : goal.returns-in_err-journal-clause-does
returns-in_err-journal-clause-does g c =
    let p = err_from_is_err_and c.from_residual-in_err-journal.result c.from_residual-in_err-journal.ensures.1 in
    rw (p.1, p.2) (record {
      told = told_formatted g.B.Board.seen c.in_ok-recovered.recovered.0.account.state c.in_ok-recovered.recovered.1.0 (open_end c.format_first.result) _ _ _
          (recovered_none c.in_ok-recovered.recovered.0.account.state c.in_ok-recovered.recovered.1.0 c.in_ok-recovered.recovered.1.1 _ _ c.in_ok-recovered.ensures.recovers (rw (← c.in_default.is) c.in_ok-recovered.ensures.standing) c.in_ok-recovered.ensures.shut c.in_ok-recovered.ensures.does.reads)
          c.recover_files.ensures.does.told c.format_first.ensures.does;
      whole = tt;
      unopened = unopened_formatting g.B.Board.seen c.in_ok-recovered.recovered.0.account.state c.in_ok-recovered.recovered.1.0 c.in_err-journal.field-0.0 _ _ _
          (recovered_none c.in_ok-recovered.recovered.0.account.state c.in_ok-recovered.recovered.1.0 c.in_ok-recovered.recovered.1.1 _ _ c.in_ok-recovered.ensures.recovers (rw (← c.in_default.is) c.in_ok-recovered.ensures.standing) c.in_ok-recovered.ensures.shut c.in_ok-recovered.ensures.does.reads)
          c.recover_files.ensures.does.told c.in_err-journal.ensures.does;
    })

pub returns-clause-cause : goal.returns-clause-cause
returns-clause-cause g c = no_faults _ _ tt (c.in_ok-journal.ensures.does.faults ∙ same_faults _ _ tt c.in_ok-recovered.ensures.cause)

pub returns-in_err-journal-clause-cause : goal.returns-in_err-journal-clause-cause
returns-in_err-journal-clause-cause g c =
    let p = err_from_is_err_and c.from_residual-in_err-journal.result c.from_residual-in_err-journal.ensures.1 in
    rw (p.1, p.2) (refusal_cause (Account × Journal) g.B.Board.seen (first_acts c.in_ok-recovered.recovered.1.0 c.in_ok-recovered.recovered.0.account.state) c.in_err-journal.field-0.0 _ _ _ (same_faults _ _ tt c.in_ok-recovered.ensures.cause)
    c.in_err-journal.ensures.does)
