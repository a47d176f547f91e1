use Rattle.ras_script.proofs.LineAndWordLemmas.{words_single, words_separated, words_apart, words_joined}
use Rattle.ras_script.proofs.splitting.spaces_separate_words.Goals as goal

pub returns-clause-single : goal.returns-clause-single
returns-clause-single c = words_single

pub returns-clause-separated : goal.returns-clause-separated
returns-clause-separated c = words_separated

pub returns-clause-apart : goal.returns-clause-apart
returns-clause-apart c = words_apart

pub returns-clause-joined : goal.returns-clause-joined
returns-clause-joined c = words_joined
