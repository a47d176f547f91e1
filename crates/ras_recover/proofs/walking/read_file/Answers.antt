use Rattle.std.proofs.Common.{◌≡◌, Ok, Err, length, ap, arith}
use Rattle.std.specs.Option.{option_map}
use Rattle.std.proofs.lemmas.Result.{err_from_is_err_and}
use Rattle.board_core.specs.Doing.{went_well}
use Rattle.ras_recover.specs.declared.place.Place.{Place}
use Rattle.ras_recover.specs.declared.walking.FileRead.{FileRead}
use Rattle.ras_recover.specs.Steps.Reading.{front_at}
use Rattle.ras_recover.specs.Steps.Windows.{end_of}
use Rattle.ras_recover.proofs.LooksLemmas.{looks_on, read_refused, read_then}
use Rattle.ras_recover.proofs.StandingLemmas.{file_absent, file_whole, file_wrong, file_unbegun, walks_before, gate_before, no_gate, all_read}
use Rattle.ras_recover.proofs.walking.read_file.Goals as goal

pub returns-in_err-shut-clause-read : goal.returns-in_err-shut-clause-read
returns-in_err-shut-clause-read g c =
    let p = err_from_is_err_and c.from_residual.result c.from_residual.ensures.1 in
    rw (p.1, p.2) (file_unbegun (λ (r : FileRead). option_map (λ p. front_at p.0 p.1.state) r.front) c.in_err-shut.field-0.0 c.args.taken c.args.file _ c.in_err-shut.ensures.broken)

pub returns-in_err-shut-clause-looks : goal.returns-in_err-shut-clause-looks
returns-in_err-shut-clause-looks g c =
    let p = err_from_is_err_and c.from_residual.result c.from_residual.ensures.1 in
    rw (p.1, p.2) (read_refused c.in_err-shut.field-0.0 _ _ _ _ c.in_err-shut.ensures.looks)

pub returns-in_default-clause-read : goal.returns-in_default-clause-read
returns-in_default-clause-read g c = file_absent c.args.taken c.args.file _ (rw c.in_default.is at c.in_ok-shut.ensures.begun)

pub returns-in_default-clause-looks : goal.returns-in_default-clause-looks
returns-in_default-clause-looks g c =
    let start : end_of c.new-window.result ≡ 0 = omega (arith, c.new-window.ensures.start, ap length c.new-window.ensures.bytes) in
    all_read c.args.file.no _ _ _ _ start (no_gate c.args.file _ _ (rw c.in_default.is at c.in_ok-shut.ensures.begun)) c.in_ok-shut.ensures.looks

pub returns-in_err-place-clause-read : goal.returns-in_err-place-clause-read
returns-in_err-place-clause-read g c =
    let p = err_from_is_err_and c.from_residual-in_err-place.result c.from_residual-in_err-place.ensures.1 in
    rw (p.1, p.2) (file_wrong (λ (place : Place). front_at place c.last_in.new.account.state) (λ (r : FileRead). option_map (λ p. front_at p.0 p.1.state) r.front) c.in_err-place.field-0.0 c.args.taken c.args.file _
    (front_at c.in-Some.first c.in-Some.account.state) (rw c.in-Some.is at c.in_ok-shut.ensures.begun)
    (walks_before (λ (place : Place). front_at place c.last_in.new.account.state) (Err c.in_err-place.field-0.0) c.args.file (front_at c.in-Some.first c.in-Some.account.state) _ _ c.in_ok-shut.ensures.looks.keeps.here c.in_err-place.ensures.read))

pub returns-in_err-place-clause-looks : goal.returns-in_err-place-clause-looks
returns-in_err-place-clause-looks g c =
    let p = err_from_is_err_and c.from_residual-in_err-place.result c.from_residual-in_err-place.ensures.1 in
    rw (p.1, p.2) (read_then c.in_err-place.field-0.0 _ _ _ _ _ _ c.in_ok-shut.ensures.looks c.in_err-place.ensures.looks)

pub returns-clause-read : goal.returns-clause-read
returns-clause-read g c =
    file_whole c.args.taken c.args.file _ (front_at c.in-Some.first c.in-Some.account.state) (front_at c.in_ok-place.place c.last_in.new.account.state) (rw c.in-Some.is at c.in_ok-shut.ensures.begun)
    (walks_before (λ (place : Place). front_at place c.last_in.new.account.state) (Ok c.in_ok-place.place) c.args.file (front_at c.in-Some.first c.in-Some.account.state) _ _ c.in_ok-shut.ensures.looks.keeps.here c.in_ok-place.ensures.read)

pub returns-clause-looks : goal.returns-clause-looks
returns-clause-looks g c =
    let start : end_of c.new-window.result ≡ 0 = omega (arith, c.new-window.ensures.start, ap length c.new-window.ensures.bytes) in
    all_read c.args.file.no _ _ _ _ start
    (gate_before c.args.file _ c.args.taken (front_at c.in_ok-place.place c.last_in.new.account.state) _ c.in_ok-place.ensures.closed
    (file_whole c.args.taken c.args.file _ (front_at c.in-Some.first c.in-Some.account.state) (front_at c.in_ok-place.place c.last_in.new.account.state) (rw c.in-Some.is at c.in_ok-shut.ensures.begun)
    (walks_before (λ (place : Place). front_at place c.last_in.new.account.state) (Ok c.in_ok-place.place) c.args.file (front_at c.in-Some.first c.in-Some.account.state) _ _ c.in_ok-shut.ensures.looks.keeps.here c.in_ok-place.ensures.read)))
    (looks_on went_well c.args.file.no _ _ _ _ _ _ c.in_ok-shut.ensures.looks c.in_ok-place.ensures.looks)
