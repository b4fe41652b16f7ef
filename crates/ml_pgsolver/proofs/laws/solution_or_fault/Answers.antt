use Rattle.ml_pgsolver.proofs.SolutionAnswers.{solution_or_fault}
use Rattle.ml_pgsolver.proofs.laws.solution_or_fault.Goals as goal

pub returns : goal.returns
returns c = solution_or_fault
