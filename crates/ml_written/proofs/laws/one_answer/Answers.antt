use Rattle.ml_written.proofs.OneAnswer.{one_answer}
use Rattle.ml_written.proofs.laws.one_answer.Goals as goal

pub returns : goal.returns
returns c = one_answer c.args.logic
