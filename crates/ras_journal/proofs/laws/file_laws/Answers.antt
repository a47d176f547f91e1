use Rattle.ras_journal.proofs.FileLemmas.{reads_same}
use Rattle.std.proofs.Common.{take, arith}
use Rattle.std.proofs.lemmas.List.{length-take}
use Rattle.journal_format.specs.Links.{link_bytes}
use Rattle.ras_journal.proofs.LawLemmas.{begun_reads, reads_one_more, cut_in_length, cut_in_link, cut_at_next_gate, follows_whole}
use Rattle.ras_journal.proofs.laws.file_laws.Goals as goal

pub returns-clause-checkpoint : goal.returns-clause-checkpoint
returns-clause-checkpoint c = λ taken version generation bytes account gate rest checks shut. begun_reads taken version generation bytes account gate rest checks shut

pub returns-clause-after_the_closed_gate : goal.returns-clause-after_the_closed_gate
returns-clause-after_the_closed_gate c = λ taken file other front reads same. reads_same taken other file front reads same

pub returns-clause-one_link_more : goal.returns-clause-one_link_more
returns-clause-one_link_more c = λ taken file front entries gate rest reads can shut. reads_one_more taken file front entries gate rest reads can shut

pub returns-clause-cut_in_the_length : goal.returns-clause-cut_in_the_length
returns-clause-cut_in_the_length c = λ taken file front entries n reads can short.
    cut_in_length taken file front (take n (link_bytes entries)) reads (omega (arith, length-take n (link_bytes entries)))

pub returns-clause-cut_in_the_payload : goal.returns-clause-cut_in_the_payload
returns-clause-cut_in_the_payload c = λ taken file front entries n reads can some short. cut_in_link taken file front entries n reads can some short

pub returns-clause-cut_at_the_next_gate : goal.returns-clause-cut_at_the_next_gate
returns-clause-cut_at_the_next_gate c = λ taken file front entries reads can. cut_at_next_gate taken file front entries reads can

pub returns-clause-whole_or_damaged : goal.returns-clause-whole_or_damaged
returns-clause-whole_or_damaged c = λ taken file front longer bytes reads fits after. follows_whole taken file front longer bytes reads fits after
