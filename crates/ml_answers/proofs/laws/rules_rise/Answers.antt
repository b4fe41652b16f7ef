use Rattle.std.proofs.Common.{[], arith}
use Rattle.ml_lists.proofs.Ascending.{ascending-cons, ascending-one}
use Rattle.ml_answers.proofs.laws.rules_rise.Goals as goal

pub returns : goal.returns
returns c = λ xs S q. ascending-cons 71 72 [] (omega arith) (ascending-one 72)
