use Rattle.ml_driver.proofs.GameAnswers.{one_solution_due}
use Rattle.ml_driver.proofs.laws.one_solution.Goals as goal

pub returns : goal.returns
returns c = one_solution_due
