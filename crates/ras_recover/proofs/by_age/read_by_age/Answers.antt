use Rattle.std.proofs.Common.{List, Some, false, arith}
use Rattle.std.proofs.lemmas.Result.{err_from_is_err_and}
use Rattle.board_core.specs.Doing.{went_well}
use Rattle.board_core.specs.declared.board.DiskCall.{DiskCall}
use Rattle.board_core.specs.Stop.{Left}
use Rattle.board_core.specs.Told.{Told}
use Rattle.ras_recover.specs.Steps.Pair.{AreRead}
use Rattle.ras_recover.specs.Steps.Reading.{front_at}
use Rattle.ras_recover.proofs.AgeLemmas.{aged, aged_later, aged_reads, aged_told, older_size, reads_later}
use Rattle.ras_recover.proofs.KeepingLemmas.{before}
use Rattle.ras_recover.proofs.LooksLemmas.{looks_then, read_refused, read_then}
use Rattle.ras_recover.proofs.by_age.read_by_age.Goals as goal

pub returns-in_err-older-clause-looks : goal.returns-in_err-older-clause-looks
returns-in_err-older-clause-looks g c =
    let p = err_from_is_err_and c.from_residual.result c.from_residual.ensures.1 in
    rw (p.1, p.2) (read_refused c.in_err-older.field-0.0 _ _ _ _ c.in_err-older.ensures.looks)

pub read_file-requires-clause-short : goal.read_file-requires-clause-short
read_file-requires-clause-short g c =
    let files = rw c.in-Some.is at c.in_ok-older.ensures.files in
    (aged c.args.zero c.args.one c.in-Some.older c.in-Some.newer _ files c.requires.numbers c.requires.short c.requires.sizes).short.0

pub read_file-requires-clause-size : goal.read_file-requires-clause-size
read_file-requires-clause-size g c =
    let files = rw c.in-Some.is at c.in_ok-older.ensures.files in
    let is = aged c.args.zero c.args.one c.in-Some.older c.in-Some.newer _ files c.requires.numbers c.requires.short c.requires.sizes in
    older_size c.in-Some.older c.in-Some.newer _ (aged_later c.in-Some.older c.in-Some.newer _ _ c.in_ok-older.ensures.looks.keeps.here is)

pub returns-in_err-first-clause-looks : goal.returns-in_err-first-clause-looks
returns-in_err-first-clause-looks g c =
    let p = err_from_is_err_and c.from_residual-in_err-first.result c.from_residual-in_err-first.ensures.1 in
    rw (p.1, p.2) (read_then c.in_err-first.field-0.0 _ _ _ _ _ _ c.in_ok-older.ensures.looks c.in_err-first.ensures.looks)

pub returns-in_default-first-clause-looks : goal.returns-in_default-first-clause-looks
returns-in_default-first-clause-looks g c = looks_then went_well _ _ _ _ _ _ (λ t u here xs ys p q. tt) c.in_ok-older.ensures.looks c.in_ok-first.ensures.looks

pub returns-in_err-second-clause-looks : goal.returns-in_err-second-clause-looks
returns-in_err-second-clause-looks g c =
    let both = looks_then went_well _ _ (λ (t : Told) (calls : List DiskCall). Unit {0}) _ _ _ (λ t u here xs ys p q. tt) c.in_ok-older.ensures.looks c.in_ok-first.ensures.looks in
    let p = err_from_is_err_and c.from_residual-in_err-second.result c.from_residual-in_err-second.ensures.1 in
    rw (p.1, p.2) (read_then c.in_err-second.field-0.0 _ _ _ _ _ _ both c.in_err-second.ensures.looks)

pub returns-in_default-second-clause-looks : goal.returns-in_default-second-clause-looks
returns-in_default-second-clause-looks g c =
    let both = looks_then went_well _ _ (λ (t : Told) (calls : List DiskCall). Unit {0}) _ _ _ (λ t u here xs ys p q. tt) c.in_ok-older.ensures.looks c.in_ok-first.ensures.looks in
    looks_then went_well _ _ _ _ _ _ (λ t u here xs ys p q. tt) both c.in_ok-second.ensures.looks

pub returns-then-place-last-clause-looks : goal.returns-then-place-last-clause-looks
returns-then-place-last-clause-looks g c =
    let both = looks_then went_well _ _ (λ (t : Told) (calls : List DiskCall). Unit {0}) _ _ _ (λ t u here xs ys p q. tt) c.in_ok-older.ensures.looks c.in_ok-first.ensures.looks in
    looks_then went_well _ _ _ _ _ _ (λ t u here xs ys p q. tt) both c.in_ok-second.ensures.looks

pub returns-clause-read : goal.returns-clause-read
returns-clause-read g c =
    let files = rw c.in-Some.is at c.in_ok-older.ensures.files in
    let is = aged c.args.zero c.args.one c.in-Some.older c.in-Some.newer _ files c.requires.numbers c.requires.short c.requires.sizes in
    let later = aged_later c.in-Some.older c.in-Some.newer _ _ c.in_ok-older.ensures.looks.keeps.here is in
    before (λ (l : Left). AreRead (record { shut = (false, false); journal = Some (c.in-Some.newer.no, c.in-Some-second.place, c.in-Some-second.account) }) l.file0 l.file1) _ _ c.in_ok-older.ensures.looks.keeps.here
    (aged_told c.in-Some.newer.no c.in-Some.older.no c.in-Some-second.place c.in-Some-second.account (front_at c.in-Some-first.last c.in-Some-first.account.state) c.in-Some.older.size c.in-Some.newer.size _ _ c.in_ok-first.ensures.looks.keeps.here
    later.others later.short later.sizes (rw c.in-Some-first.is at c.in_ok-first.ensures.read) (rw c.in-Some-second.is at c.in_ok-second.ensures.read) (omega arith))

pub returns-clause-looks : goal.returns-clause-looks
returns-clause-looks g c =
    let files = rw c.in-Some.is at c.in_ok-older.ensures.files in
    let is = aged c.args.zero c.args.one c.in-Some.older c.in-Some.newer _ files c.requires.numbers c.requires.short c.requires.sizes in
    looks_then went_well _ _ _ _ _ _ (reads_later _) c.in_ok-older.ensures.looks
    (looks_then went_well _ _ _ _ _ _ (aged_reads c.in-Some.newer.no c.in-Some.older.no is.others) c.in_ok-first.ensures.looks c.in_ok-second.ensures.looks)
