use Rattle.std.proofs.Common.{◌≤◌, true, cond, refl, ap, ◌∙◌, arith}
use Rattle.std.proofs.lemmas.Bool.Decides.{nat_tests}
use Rattle.dimm_topology.specs.Labels.{same_label}
use Rattle.dimm_topology.proofs.TableLemmas.{cpu_more, module_more, place_more, range_more, same_entries, after, on_failure}
use Rattle.dimm_topology.proofs.tables.Tables.take.Goals as goal

pub returns-in_ok-insert-in-Cpu-clause-ok : goal.returns-in_ok-insert-in-Cpu-clause-ok
returns-in_ok-insert-in-Cpu-clause-ok c =
    λ rows tells. rw c.in-Cpu.is (cpu_more rows c.in-Cpu.cpu c.in-Cpu.socket c.args.self.now _ refl refl refl c.in_ok-insert-in-Cpu.ensures.updates.0 tells)

pub returns-in_err-note-in-Module-clause-err : goal.returns-in_err-note-in-Module-clause-err
returns-in_err-note-in-Module-clause-err c =
    on_failure c.from_residual-in_err-note-in-Module.result
    (λ rows. same_entries rows c.args.self.now _ refl refl c.reserve.ensures.keys.2 c.in_err-note-in-Module.ensures.err)

pub returns-in_ok-insert-in-Module-clause-ok : goal.returns-in_ok-insert-in-Module-clause-ok
returns-in_ok-insert-in-Module-clause-ok c =
    let row = c.in-Module in
    λ rows tells. rw c.in-Module.is (module_more rows c.in-Module.label c.in-Module.socket c.in-Module.bank c.in-Module.channel c.args.self.now _ refl refl
    (λ at. c.in_ok-insert-in-Module.ensures.updates.0 at ∙ ap (cond (same_label c.in-Module.label at) true) (c.reserve.ensures.keys.2 at))
    c.in_ok-note-in-Module.ensures.ok tells)

pub returns-in-Range-clause-ok : goal.returns-in-Range-clause-ok
returns-in-Range-clause-ok c =
    let upright = rw c.in-Range.is at c.requires.upright in
    let apart = rw c.in-Range.is at c.requires.apart in
    let low : c.in-Range.first ≤ c.in-Range.last = grind (arith, nat_tests, upright) in
    after c.put.result
    (λ put rows tells. rw c.in-Range.is (range_more rows c.in-Range.label c.in-Range.first c.in-Range.last c.args.self.now _ refl refl refl low apart put tells))
    c.put.ensures.ok

pub returns-in-Place-clause-ok : goal.returns-in-Place-clause-ok
returns-in-Place-clause-ok c =
    after c.note-in-Place.result
    (λ note rows tells. rw c.in-Place.is (place_more rows c.in-Place.label c.in-Place.node c.in-Place.card c.in-Place.«module» c.args.self.now _ refl refl refl note tells))
    c.note-in-Place.ensures.ok
