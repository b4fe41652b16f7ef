use Rattle.ml_game_check.proofs.Won.{right_are_won}
use Rattle.ml_game_check.proofs.laws.right_are_won.Goals as goal

pub returns : goal.returns
returns c = record { law = right_are_won }
