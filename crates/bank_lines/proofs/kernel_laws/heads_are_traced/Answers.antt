use Rattle.bank_lines.proofs.TraceHeadLemmas.{pipe_is_front, traced}
use Rattle.bank_lines.proofs.kernel_laws.heads_are_traced.Goals as goal

pub returns : goal.returns
returns c = record {
  traced = traced;
  names = λ name rest process seconds micros short fits none most low. pipe_is_front name rest process seconds micros short fits none most low;
}
