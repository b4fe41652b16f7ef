use Rattle.ml_game_check.proofs.OfSolutions.{solutions_are_right}
use Rattle.ml_game_check.proofs.laws.solutions_are_right.Goals as goal

pub returns : goal.returns
returns c = record { law = solutions_are_right }
