use Rattle.ml_answers.proofs.Reading.{tells_refutation}
use Rattle.ml_answers.proofs.parts.read_refutation.Goals as goal

pub returns-clause-refused : goal.returns-clause-refused
returns-clause-refused c =
    tells_refutation c.args.at c.next_body.result.0.now c.in-Err.refusal c.next_body.ensures.body c.in-Err.ensures.refused
