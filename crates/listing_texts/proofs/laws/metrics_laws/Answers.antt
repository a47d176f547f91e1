use Rattle.listing_texts.proofs.CountLemmas.{errors_are_counts}
use Rattle.listing_texts.proofs.ReaderLemmas.{line_read}
use Rattle.listing_texts.proofs.SampleLemmas.{text_read}
use Rattle.listing_texts.proofs.laws.metrics_laws.Goals as goal

pub returns-clause-read : goal.returns-clause-read
returns-clause-read c = text_read

pub returns-clause-line : goal.returns-clause-line
returns-clause-line c = line_read

pub returns-clause-errors : goal.returns-clause-errors
returns-clause-errors c = errors_are_counts
