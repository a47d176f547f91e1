use Rattle.host_system.proofs.OpenLemmas.{both_opened, both_usable}
use Rattle.host_system.proofs.board_file.open_files.Goals as goal

pub returns-clause-told : goal.returns-clause-told
returns-clause-told g c =
    (both_opened c.sync_names.result _ _ _ _ c.requires c.in_ok-open_file.ensures.told c.in_ok-open_file.ensures.keeps c.in_ok-open_file.ensures.stops c.in_ok-open_file.ensures.openable
    c.in_ok-open_file-2.ensures.told c.in_ok-open_file-2.ensures.keeps c.in_ok-open_file-2.ensures.stops c.in_ok-open_file-2.ensures.openable c.sync_names.ensures.told c.sync_names.ensures.failed).told

pub returns-clause-store : goal.returns-clause-store
returns-clause-store g c =
    (both_opened c.sync_names.result _ _ _ _ c.requires c.in_ok-open_file.ensures.told c.in_ok-open_file.ensures.keeps c.in_ok-open_file.ensures.stops c.in_ok-open_file.ensures.openable
    c.in_ok-open_file-2.ensures.told c.in_ok-open_file-2.ensures.keeps c.in_ok-open_file-2.ensures.stops c.in_ok-open_file-2.ensures.openable c.sync_names.ensures.told c.sync_names.ensures.failed).store

pub returns-clause-stops : goal.returns-clause-stops
returns-clause-stops g c =
    (both_opened c.sync_names.result _ _ _ _ c.requires c.in_ok-open_file.ensures.told c.in_ok-open_file.ensures.keeps c.in_ok-open_file.ensures.stops c.in_ok-open_file.ensures.openable
    c.in_ok-open_file-2.ensures.told c.in_ok-open_file-2.ensures.keeps c.in_ok-open_file-2.ensures.stops c.in_ok-open_file-2.ensures.openable c.sync_names.ensures.told c.sync_names.ensures.failed).stops

pub returns-clause-openable : goal.returns-clause-openable
returns-clause-openable g c =
    (both_opened c.sync_names.result _ _ _ _ c.requires c.in_ok-open_file.ensures.told c.in_ok-open_file.ensures.keeps c.in_ok-open_file.ensures.stops c.in_ok-open_file.ensures.openable
    c.in_ok-open_file-2.ensures.told c.in_ok-open_file-2.ensures.keeps c.in_ok-open_file-2.ensures.stops c.in_ok-open_file-2.ensures.openable c.sync_names.ensures.told c.sync_names.ensures.failed).openable

pub returns-clause-opened : goal.returns-clause-opened
returns-clause-opened g c = both_usable c.sync_names.result _ _ _ c.in_ok-open_file.ensures.held c.in_ok-open_file-2.ensures.keeps c.in_ok-open_file-2.ensures.held c.sync_names.ensures.told
