use Rattle.event_lines.proofs.AerLemmas.{text_read}
use Rattle.event_lines.proofs.LineLemmas.{line_read, extlog_read, memory_read, section_bytes_read, section_read}
use Rattle.event_lines.proofs.laws.printed_events_are_read.Goals as goal

pub returns-clause-text : goal.returns-clause-text
returns-clause-text c = λ p within. text_read p within

pub returns-clause-line : goal.returns-clause-line
returns-clause-line c = λ tracer front seconds micros spaces more p is within. line_read tracer front seconds micros spaces more p is within

pub returns-clause-section : goal.returns-clause-section
returns-clause-section c = λ tracer front seconds micros spaces more p is within. section_read tracer front seconds micros spaces more p is within

pub returns-clause-bytes : goal.returns-clause-bytes
returns-clause-bytes c = λ tracer front seconds micros spaces more p is within. section_bytes_read tracer front seconds micros spaces more p is within

pub returns-clause-memory : goal.returns-clause-memory
returns-clause-memory c = λ tracer front seconds micros spaces more p is within. memory_read tracer front seconds micros spaces more p is within

pub returns-clause-extlog : goal.returns-clause-extlog
returns-clause-extlog c = λ tracer front seconds micros spaces more p is within. extlog_read tracer front seconds micros spaces more p is within
