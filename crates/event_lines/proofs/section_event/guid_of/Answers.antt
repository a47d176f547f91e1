use Rattle.event_lines.proofs.GuidLemmas.{no_guid}
use Rattle.event_lines.proofs.section_event.guid_of.Goals as goal

pub returns-in-Err : goal.returns-in-Err
returns-in-Err c = no_guid c.args.text.now c.try_parse_ascii.result c.in-Err.field-0 c.in-Err.is c.try_parse_ascii.ensures.ok
