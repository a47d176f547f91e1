use Rattle.std.proofs.Common.{◌≡◌, Ok, List, length, refl}
use Rattle.std.specs.Option.{option_map}
use Rattle.std.proofs.lemmas.Result.{err_from_is_err_and}
use Rattle.board_core.specs.declared.board.DiskCall.{DiskCall}
use Rattle.board_core.specs.declared.board.FileNo.TheVariants.{Zero, One}
use Rattle.board_core.specs.Doing.{went_well}
use Rattle.board_core.specs.Stop.{Left}
use Rattle.board_core.specs.Told.{Told}
use Rattle.ras_journal.specs.Recovered.{journal_of}
use Rattle.ras_recover.specs.Recovering.{RefusesHeld}
use Rattle.ras_recover.specs.Steps.Reading.{front_at}
use Rattle.ras_recover.proofs.AgeLemmas.{Found, aged_reads, found_none, found_ok, reads_later}
use Rattle.ras_recover.proofs.BothLemmas.{both_told, one_refused, zero_refused}
use Rattle.ras_recover.proofs.KeepingLemmas.{before, still}
use Rattle.ras_recover.proofs.LooksLemmas.{looks_then, open_then}
use Rattle.ras_recover.proofs.pair.read_both.Goals as goal
use Rattle.ras_recover.proofs.pair.read_both.Goals.{in-Ok, in-Err-Damaged}

pub returns-in_err-first-clause-read : goal.returns-in_err-first-clause-read
returns-in_err-first-clause-read g c =
    let f : Found c.match-read_by_age.found (g.B.Board.seen c.args.board.now) (g.B.Board.seen c.read_by_age.new.board) = elim c.match-read_by_age.branch [
      | in-Ok w ↦ rw w.found-is (found_ok w.in-Ok.found _ _ w.in-Ok.ensures.read w.in-Ok.ensures.looks)
      | in-Err-Damaged w ↦ (let told = rw w.in-Err-Damaged.field-0-is at w.in-Err-Damaged.ensures in rw w.found-is (found_none _ _ _ told.looks))
    ] in
    let why = c.in_err-first.field-0.0 in
    let sizes = still (λ (l : Left). (c.args.sizes.0 ≡ length l.file0) × (c.args.sizes.1 ≡ length l.file1)) _ _ f.looks.keeps.here c.requires.sizes in
    let p = err_from_is_err_and c.from_residual.result c.from_residual.ensures.1 in
    rw (p.1, p.2) (before (λ (l : Left). RefusesHeld why (journal_of l.file0 l.file1)) _ _ f.looks.keeps.here (zero_refused why c.args.sizes.0 c.args.sizes.1 _ c.requires.short sizes c.in_err-first.ensures.read))

pub returns-in_err-first-clause-looks : goal.returns-in_err-first-clause-looks
returns-in_err-first-clause-looks g c =
    let f : Found c.match-read_by_age.found (g.B.Board.seen c.args.board.now) (g.B.Board.seen c.read_by_age.new.board) = elim c.match-read_by_age.branch [
      | in-Ok w ↦ rw w.found-is (found_ok w.in-Ok.found _ _ w.in-Ok.ensures.read w.in-Ok.ensures.looks)
      | in-Err-Damaged w ↦ (let told = rw w.in-Err-Damaged.field-0-is at w.in-Err-Damaged.ensures in rw w.found-is (found_none _ _ _ told.looks))
    ] in
    let p = err_from_is_err_and c.from_residual.result c.from_residual.ensures.1 in
    rw (p.1, p.2) (open_then c.in_err-first.field-0.0 _ _ _ _ _ _ f.looks c.in_err-first.ensures.looks)

pub returns-in_err-second-clause-read : goal.returns-in_err-second-clause-read
returns-in_err-second-clause-read g c =
    let f : Found c.match-read_by_age.found (g.B.Board.seen c.args.board.now) (g.B.Board.seen c.read_by_age.new.board) = elim c.match-read_by_age.branch [
      | in-Ok w ↦ rw w.found-is (found_ok w.in-Ok.found _ _ w.in-Ok.ensures.read w.in-Ok.ensures.looks)
      | in-Err-Damaged w ↦ (let told = rw w.in-Err-Damaged.field-0-is at w.in-Err-Damaged.ensures in rw w.found-is (found_none _ _ _ told.looks))
    ] in
    let why = c.in_err-second.field-0.0 in
    let sizes = still (λ (l : Left). (c.args.sizes.0 ≡ length l.file0) × (c.args.sizes.1 ≡ length l.file1)) _ _ f.looks.keeps.here c.requires.sizes in
    let p = err_from_is_err_and c.from_residual-in_err-second.result c.from_residual-in_err-second.ensures.1 in
    rw (p.1, p.2) (before (λ (l : Left). RefusesHeld why (journal_of l.file0 l.file1)) _ _ f.looks.keeps.here
    (one_refused why c.args.sizes.0 c.args.sizes.1 _ c.generation_in.result _ _ c.in_ok-first.ensures.looks.keeps.here c.requires.short sizes c.in_ok-first.ensures.read c.generation_in.ensures c.in_err-second.ensures.read))

pub returns-in_err-second-clause-looks : goal.returns-in_err-second-clause-looks
returns-in_err-second-clause-looks g c =
    let f : Found c.match-read_by_age.found (g.B.Board.seen c.args.board.now) (g.B.Board.seen c.read_by_age.new.board) = elim c.match-read_by_age.branch [
      | in-Ok w ↦ rw w.found-is (found_ok w.in-Ok.found _ _ w.in-Ok.ensures.read w.in-Ok.ensures.looks)
      | in-Err-Damaged w ↦ (let told = rw w.in-Err-Damaged.field-0-is at w.in-Err-Damaged.ensures in rw w.found-is (found_none _ _ _ told.looks))
    ] in
    let both = looks_then went_well _ _ (λ (t : Told) (calls : List DiskCall). Unit {0}) _ _ _ (λ t u here xs ys p q. tt) f.looks c.in_ok-first.ensures.looks in
    let p = err_from_is_err_and c.from_residual-in_err-second.result c.from_residual-in_err-second.ensures.1 in
    rw (p.1, p.2) (open_then c.in_err-second.field-0.0 _ _ _ _ _ _ both c.in_err-second.ensures.looks)

pub returns-clause-read : goal.returns-clause-read
returns-clause-read g c =
    let f : Found c.match-read_by_age.found (g.B.Board.seen c.args.board.now) (g.B.Board.seen c.read_by_age.new.board) = elim c.match-read_by_age.branch [
      | in-Ok w ↦ rw w.found-is (found_ok w.in-Ok.found _ _ w.in-Ok.ensures.read w.in-Ok.ensures.looks)
      | in-Err-Damaged w ↦ (let told = rw w.in-Err-Damaged.field-0-is at w.in-Err-Damaged.ensures in rw w.found-is (found_none _ _ _ told.looks))
    ] in
    let sizes = still (λ (l : Left). (c.args.sizes.0 ≡ length l.file0) × (c.args.sizes.1 ≡ length l.file1)) _ _ f.looks.keeps.here c.requires.sizes in
    before (λ (l : Left). journal_of l.file0 l.file1 ≡ Ok (option_map (λ j. record { file = j.0; front = front_at j.1 j.2.state }) c.greater.result)) _ _ f.looks.keeps.here
    (both_told c.args.sizes.0 c.args.sizes.1 _ _ c.generation_in.result _ _ _ c.in_ok-first.ensures.looks.keeps.here c.requires.short sizes c.in_ok-first.ensures.read c.generation_in.ensures c.in_ok-second.ensures.read c.greater.ensures)

pub returns-clause-looks : goal.returns-clause-looks
returns-clause-looks g c =
    let f : Found c.match-read_by_age.found (g.B.Board.seen c.args.board.now) (g.B.Board.seen c.read_by_age.new.board) = elim c.match-read_by_age.branch [
      | in-Ok w ↦ rw w.found-is (found_ok w.in-Ok.found _ _ w.in-Ok.ensures.read w.in-Ok.ensures.looks)
      | in-Err-Damaged w ↦ (let told = rw w.in-Err-Damaged.field-0-is at w.in-Err-Damaged.ensures in rw w.found-is (found_none _ _ _ told.looks))
    ] in
    looks_then went_well _ _ _ _ _ _ (reads_later _) f.looks (looks_then went_well _ _ _ _ _ _ (aged_reads One Zero refl) c.in_ok-first.ensures.looks c.in_ok-second.ensures.looks)
