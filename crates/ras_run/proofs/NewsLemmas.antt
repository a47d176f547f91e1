-- The new entries of an event, appended to the journal and counted.
use Rattle.std.proofs.Common.{◌≡◌, ◌≤◌, List, [], ◌∷◌, length, All, Option, None, Some, IfSome, refl, ap, arith}
use Rattle.std.proofs.lemmas.List.Elements.{All-from_recursion, recursion_from_All}
use Rattle.std.specs.List.{AllByRecursion}
use Rattle.ras_account.specs.Account.{State}
use Rattle.ras_account.specs.Numbers.{StaysWithin, fresh_entries_in}
use Rattle.ras_facts.specs.declared.entry.Entry.{Entry}
use Rattle.ras_facts.specs.Entries.{IsValidEntry}
use Rattle.entry_format.specs.declared.version.Version.TheVariants.{Two}
use Rattle.entry_format.specs.File.{IsEntryOf}
use Rattle.journal_format.specs.declared.link.TheConstants.{MOST_LINK_ENTRIES, MOST_PAYLOAD}
use Rattle.journal_format.specs.Links.{CanLink, link_bytes, payload_bytes}
use Rattle.ras_journal.specs.declared.standing.Standing.{Standing}
use Rattle.ras_journal.specs.Appending.{Links}
use Rattle.ras_run.specs.Keeping.{keeping_acts}
use Rattle.ras_events.specs.declared.preparing.News.{News}
use Rattle.ras_events.specs.declared.made.Piece.{Piece}
use Rattle.ras_events.specs.Making.{entries_in}
use Rattle.ras_events.specs.Preparing.{news_entries}
use Rattle.ras_events.specs.Sizes.{IsFit}
use Rattle.ras_events.proofs.NewsLemmas.{few_news, short_news, valid_news}
use Rattle.ras_run.specs.LineActs.{news_acts}
use Rattle.ras_run.specs.Taking.{CanBeKept}

-- ---- the link of new entries

pub acts_of : (s : Standing) (a : State) (news : News) → CanBeKept news → keeping_acts s a news.link ≡ news_acts s a news.entries.items
acts_of s a news can = by news.entries.items can.can.payload.some can.bytes
  where
    by : (entries : List Entry) → 1 ≤ length entries → news.link ≡ link_bytes entries → keeping_acts s a news.link ≡ news_acts s a entries
    by [] some is = absurd (omega arith)
    by (entry ∷ entries) some is = ap (keeping_acts s a) is

pub links_of : (a : State) (news : News) → CanBeKept news → StaysWithin a news.entries.items → Links a news.entries.items news.link
links_of a news can within = record { can = can.can; bytes = can.bytes; within = within }

-- ---- the new entries of an event that can be done can be appended

each_held : (entries : List Entry) → AllByRecursion IsValidEntry entries → AllByRecursion (IsEntryOf Two) entries
each_held [] all = tt
each_held (entry ∷ entries) all = (record { valid = all.0; held = tt }, each_held entries all.1)

can_link : (entries : List Entry) → 1 ≤ length entries → length entries ≤ MOST_LINK_ENTRIES → All IsValidEntry entries → length (payload_bytes entries) ≤ MOST_PAYLOAD → CanLink Two entries
can_link entries some few valid short = record {
  payload = record {
    some = some;
    few = few;
    each = All-from_recursion (IsEntryOf Two) entries (each_held entries (recursion_from_All IsValidEntry entries valid));
    spelled = refl;
  };
  fits = omega arith;
}

-- The new entries found among an event's pieces can be appended too.
pub fit_news : (a : State) (made : List Piece) (news : List Entry) → news ≡ fresh_entries_in a (entries_in made) → 1 ≤ length news → IsFit made → CanLink Two news
fit_news a made news is some fit =
    can_link news some (few_news a (entries_in made) news MOST_LINK_ENTRIES is fit.few) (valid_news a (entries_in made) news is fit.valid)
    (short_news a (entries_in made) news MOST_PAYLOAD is fit.short)

pub can_keep : (a : State) (made : List Piece) (found : Option News) → news_entries found ≡ fresh_entries_in a (entries_in made) → IfSome found (λ news. 1 ≤ length news.entries.items)
    → IfSome found (λ news. news.link ≡ link_bytes news.entries.items) → IsFit made → IfSome found CanBeKept
can_keep a made None is some link fit = tt
can_keep a made (Some news) is some link fit = record { bytes = link; can = fit_news a made news.entries.items is some fit }
