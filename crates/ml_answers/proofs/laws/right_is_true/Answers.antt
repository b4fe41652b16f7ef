use Rattle.ml_answers.proofs.RightIsTrue as right
use Rattle.ml_answers.proofs.laws.right_is_true.Goals as goal

pub returns : goal.returns
returns c = right.right_is_true
