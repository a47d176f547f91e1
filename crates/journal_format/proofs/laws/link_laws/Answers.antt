use Rattle.std.proofs.Common.{◌++◌, refl}
use Rattle.journal_format.specs.Links.{link_bytes}
use Rattle.journal_format.proofs.PayloadLemmas.{payload_is_read, payload_found}
use Rattle.journal_format.proofs.LinkLemmas.{link_is_whole, front_ends_early, no_link_begins, made_of}
use Rattle.journal_format.proofs.laws.link_laws.Goals as goal

pub returns-clause-payload : goal.returns-clause-payload
returns-clause-payload c version entries bytes fits = (payload_found version entries bytes fits, payload_is_read version entries bytes)

pub returns-clause-payload_read : goal.returns-clause-payload_read
returns-clause-payload_read c = payload_is_read

pub returns-clause-whole : goal.returns-clause-whole
returns-clause-whole c version entries rest can = (link_is_whole version entries rest (link_bytes entries ++ rest) can refl).early

pub returns-clause-length : goal.returns-clause-length
returns-clause-length c version entries rest can = (link_is_whole version entries rest (link_bytes entries ++ rest) can refl).length_is

pub returns-clause-inside : goal.returns-clause-inside
returns-clause-inside c version entries rest can = (link_is_whole version entries rest (link_bytes entries ++ rest) can refl).payload

pub returns-clause-cut : goal.returns-clause-cut
returns-clause-cut c = front_ends_early

pub returns-clause-none_begins_another : goal.returns-clause-none_begins_another
returns-clause-none_begins_another c = no_link_begins

pub returns-clause-made : goal.returns-clause-made
returns-clause-made c = made_of
