-- The journal's position once the new ones of some entries are appended, and whether there is room for them.
use Rattle.std.specs.Prelude.{Bool, false, ◌||◌, List, [], ◌∷◌}
use Rattle.ras_facts.specs.declared.entry.Entry.{Entry}
use Rattle.ras_account.specs.Account.{State}
use Rattle.ras_account.specs.Numbers.{are_past, fresh_entries_in, numbers_with}
use Rattle.journal_format.specs.Links.{link_bytes}
use Rattle.ras_journal.specs.declared.standing.Standing.{Standing}
use Rattle.ras_run.specs.Keeping.{lacks_room, standing_kept}

-- The journal's position once an account's new entries are appended: they are one link, and without new entries there
-- is no link.
abbrev pub standing_with_news : State → Standing → List Entry → Standing
standing_with_news account standing [] = standing
standing_with_news account standing (entry ∷ entries) = standing_kept standing account (link_bytes (entry ∷ entries))

-- Whether the journal has no room for the link of an event's new entries.
abbrev pub lacks_room_for : State → Standing → List Entry → Bool
lacks_room_for account standing [] = false
lacks_room_for account standing (entry ∷ entries) = lacks_room standing account (link_bytes (entry ∷ entries))

-- Whether the account or the journal has no room for the new ones of some entries.
abbrev pub has_no_room_for : State → Standing → List Entry → Bool
has_no_room_for account standing entries =
    are_past (numbers_with account entries)
    || lacks_room_for account standing (fresh_entries_in account entries)
