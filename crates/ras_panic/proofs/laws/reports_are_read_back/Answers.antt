-- A panic record contains its report, so it gives this report.
use Rattle.ras_panic.proofs.HeldLemmas.{fact_of_held, held_is_given}
use Rattle.ras_panic.specs.Panics.{panic_bytes}
use Rattle.ras_panic.proofs.RecordLemmas.{is_read, is_read_first, is_named, is_held}
use Rattle.ras_panic.proofs.laws.reports_are_read_back.Goals as goal

pub returns-clause-read : goal.returns-clause-read
returns-clause-read c = λ id bank. is_read id bank

pub returns-clause-first : goal.returns-clause-first
returns-clause-first c = λ id bank rest. is_read_first id bank rest

pub returns-clause-id : goal.returns-clause-id
returns-clause-id c = λ id bank fits. is_named id bank fits

pub returns-clause-report : goal.returns-clause-report
returns-clause-report c = λ id bank fits held. held_is_given (panic_bytes id bank) bank fits (is_held id bank held)

pub returns-clause-fact : goal.returns-clause-fact
returns-clause-fact c = λ rows seconds id bank fits held. fact_of_held rows seconds (panic_bytes id bank) bank fits (is_held id bank held)
