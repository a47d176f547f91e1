use Rattle.std.proofs.Common.{◌∙◌, ap}
use Rattle.line_filters.specs.Filter.{Filter}
use Rattle.bank_lines.proofs.LogFilterLemmas.{filter_is}
use Rattle.log_lines.specs.LogFeed.{log_start}
use Rattle.log_lines.specs.TraceFeed.{trace_begun}
use Rattle.log_lines.proofs.CheckLemmas.{log_named, trace_named}
use Rattle.log_lines.proofs.laws.machine_checks_are_named_alike.Goals as goal

pub returns-clause-trace : goal.returns-clause-trace
returns-clause-trace c = λ boot cap began drivers lines. trace_named (trace_begun boot cap began drivers) lines

pub returns-clause-log : goal.returns-clause-log
returns-clause-log c = λ boot cap began borders lines never.
    log_named (log_start boot cap began borders) lines never ∙ ap (λ (filter : Filter). filter.answers lines) (filter_is boot cap)
