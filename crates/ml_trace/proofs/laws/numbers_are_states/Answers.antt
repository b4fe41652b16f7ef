use Rattle.ml_trace.proofs.Numbers.{numbers_are_states}
use Rattle.ml_trace.proofs.laws.numbers_are_states.Goals as goal

pub returns : goal.returns
returns c = numbers_are_states
