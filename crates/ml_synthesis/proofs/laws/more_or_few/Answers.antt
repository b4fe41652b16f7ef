use Rattle.ml_synthesis.proofs.SomeOutcomes.{more_or_few}
use Rattle.ml_synthesis.proofs.laws.more_or_few.Goals as goal

pub returns : goal.returns
returns c = more_or_few
