use Rattle.ml_families.proofs.Counted.{loops_satisfiable}
use Rattle.ml_families.proofs.laws.loops_are_satisfiable.Goals as goal

pub returns : goal.returns
returns c = loops_satisfiable
