use Rattle.std.proofs.Common.{[], ◌∙◌, ap, sym}
use Rattle.bank_lines.specs.Counts.{named_found}
use Rattle.bank_lines.proofs.saved.LawLemmas.{as_logged, as_traced}
use Rattle.bank_lines.proofs.saved.LayoutLemmas.{is_read}
use Rattle.bank_lines.proofs.saved.laws.records_are_read.Goals as goal

pub returns : goal.returns
returns c = record {
  bytes = is_read;
  trace = λ boot before form p spaces printed traced.
      as_traced boot p.event ∙ ap (named_found []) (sym (c.printed_events_are_read.ensures.line boot before form p spaces printed traced));
  log = as_logged;
}
