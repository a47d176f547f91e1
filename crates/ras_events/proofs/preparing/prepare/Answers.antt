use Rattle.std.proofs.Common.{◌∙◌, List, sym, ap, subst}
use Rattle.ras_facts.specs.declared.entry.Entry.{Entry}
use Rattle.ras_account.specs.Numbers.{HasRoomFor, fresh_entries_in}
use Rattle.ras_account.specs.View.{added_by}
use Rattle.journal_format.specs.declared.link.TheConstants.{MOST_LINK_ENTRIES, MOST_PAYLOAD}
use Rattle.ras_events.specs.Making.{entries_in}
use Rattle.ras_events.proofs.NewsLemmas.{few_news, short_news, valid_news}
use Rattle.ras_events.proofs.ReadyLemmas.{ready}
use Rattle.ras_events.proofs.preparing.prepare.Goals as goal

pub link_told-requires-clause-few : goal.link_told-requires-clause-few
link_told-requires-clause-few c =
    few_news c.begin_tally-tally.new.self.state (entries_in c.args.made) c.in_ok-told.told.news.items MOST_LINK_ENTRIES c.in_ok-told.ensures.news c.requires.fit.few

pub link_told-requires-clause-valid : goal.link_told-requires-clause-valid
link_told-requires-clause-valid c =
    valid_news c.begin_tally-tally.new.self.state (entries_in c.args.made) c.in_ok-told.told.news.items c.in_ok-told.ensures.news c.requires.fit.valid

pub link_told-requires-clause-payload : goal.link_told-requires-clause-payload
link_told-requires-clause-payload c =
    short_news c.begin_tally-tally.new.self.state (entries_in c.args.made) c.in_ok-told.told.news.items MOST_PAYLOAD c.in_ok-told.ensures.news c.requires.fit.short

pub returns-in-Ok-clause-ready : goal.returns-in-Ok-clause-ready
returns-in-Ok-clause-ready c =
    let made : List Entry = entries_in c.args.made in
    let event = c.in_ok-link_told-in-Ok.field-0 in
    let reserved = c.in-Ok.ensures made c.in_ok-told.ensures.tally in
    ready c.end_tally.new.self made c.in_ok-told.told.news.items
    (c.in_ok-told.ensures.news ∙ ap (λ a. fresh_entries_in a made) (sym (reserved.state ∙ c.in_ok-told.ensures.state)))
    (reserved.ok ∙ ap (λ a. added_by a made) (sym reserved.state))
    (subst (λ a. HasRoomFor a made) (sym reserved.state) reserved.within)
    (valid_news c.begin_tally-tally.new.self.state made c.in_ok-told.told.news.items c.in_ok-told.ensures.news c.requires.fit.valid)
    event.news event.text event.done c.in_ok-link_told-in-Ok.ensures.entries c.in_ok-link_told-in-Ok.ensures.news c.in_ok-link_told-in-Ok.ensures.room
