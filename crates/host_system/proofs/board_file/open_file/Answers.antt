use Rattle.host_system.proofs.FileLemmas.{none_then, locked_end}
use Rattle.host_system.proofs.UseLemmas.{locked_openable, held_end}
use Rattle.host_system.proofs.board_file.open_file.Goals as goal

pub returns-clause-told : goal.returns-clause-told
returns-clause-told g c =
    (none_then c.args.file _ _ _ c.in_ok-open_or_make.ensures.told c.in_ok-open_or_make.ensures.keeps c.in_ok-open_or_make.ensures.stops
    (locked_end c.args.file c.lock.result _ _ c.lock.ensures.told c.lock.ensures.failed)).told

pub returns-clause-keeps : goal.returns-clause-keeps
returns-clause-keeps g c =
    (none_then c.args.file _ _ _ c.in_ok-open_or_make.ensures.told c.in_ok-open_or_make.ensures.keeps c.in_ok-open_or_make.ensures.stops
    (locked_end c.args.file c.lock.result _ _ c.lock.ensures.told c.lock.ensures.failed)).keeps

pub returns-clause-stops : goal.returns-clause-stops
returns-clause-stops g c =
    (none_then c.args.file _ _ _ c.in_ok-open_or_make.ensures.told c.in_ok-open_or_make.ensures.keeps c.in_ok-open_or_make.ensures.stops
    (locked_end c.args.file c.lock.result _ _ c.lock.ensures.told c.lock.ensures.failed)).stops

pub returns-clause-openable : goal.returns-clause-openable
returns-clause-openable g c = locked_openable c.args.file c.lock.result _ _ c.in_ok-open_or_make.ensures.there c.in_ok-open_or_make.ensures.openable c.lock.ensures.told c.lock.ensures.failed

pub returns-clause-held : goal.returns-clause-held
returns-clause-held g c = held_end c.args.file c.lock.result _ _ c.in_ok-open_or_make.ensures.there c.lock.ensures.told
