use Rattle.ml_realize.proofs.NeverBoth.{never_both}
use Rattle.ml_realize.proofs.laws.never_both.Goals as goal

pub returns : goal.returns
returns c = never_both
