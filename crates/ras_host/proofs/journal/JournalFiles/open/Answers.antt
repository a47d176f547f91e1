use Rattle.host_system.proofs.CallLemmas.{names}
use Rattle.ras_host.proofs.JournalLemmas.{names_held, names_moves}
use Rattle.ras_host.proofs.ReadingLemmas.{goes_names}
use Rattle.ras_host.proofs.journal.JournalFiles.open.Goals as goal

pub returns-in_ok-files-in-Unread-clause-moves : goal.returns-in_ok-files-in-Unread-clause-moves
returns-in_ok-files-in-Unread-clause-moves g c =
    let read = c.in_ok-files-in-Unread in
    let n = c.sync_names-answer in
    let after = names n.result _ _ n.ensures.told n.ensures.failed in
    names_moves c.sync_names-answer.result c.is_ok-is_sound-in-Unread.result read.files c.both-in-Unread.result _ _ _ _
    c.in-Unread.is read.ensures.told c.is_ok-is_sound-in-Unread.ensures.value c.both-in-Unread.ensures
    after.told after.keeps after.stops after.named (goes_names n.result _ _ n.ensures.told n.ensures.failed)

pub returns-in_ok-files-in-Unread-clause-held : goal.returns-in_ok-files-in-Unread-clause-held
returns-in_ok-files-in-Unread-clause-held g c =
    let read = c.in_ok-files-in-Unread in
    let n = c.sync_names-answer in
    let after = names n.result _ _ n.ensures.told n.ensures.failed in
    names_held c.sync_names-answer.result c.is_ok-is_sound-in-Unread.result read.files c.both-in-Unread.result _ _ _ _
    c.in-Unread.is read.ensures.told c.is_ok-is_sound-in-Unread.ensures.value c.both-in-Unread.ensures
    c.requires.held read.ensures.read after.told after.keeps after.named
