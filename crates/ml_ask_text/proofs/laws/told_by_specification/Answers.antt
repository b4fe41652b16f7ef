use Rattle.ml_ask_text.proofs.ToldBySpecification.{told_by_specification}
use Rattle.ml_ask_text.proofs.laws.told_by_specification.Goals as goal

pub returns : goal.returns
returns c = told_by_specification
