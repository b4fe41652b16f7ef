use Rattle.ml_make.proofs.Answered as answered
use Rattle.ml_make.proofs.laws.some_answer.Goals as goal

pub returns : goal.returns
returns c = answered.some_answer
