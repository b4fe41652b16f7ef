use Rattle.ml_answers.proofs.AnswersAreRight as right
use Rattle.ml_answers.proofs.laws.answers_are_right.Goals as goal

pub returns : goal.returns
returns c = right.answers_are_right
