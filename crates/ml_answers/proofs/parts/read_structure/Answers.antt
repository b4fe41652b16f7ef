use Rattle.ml_answers.proofs.Reading.{tells_model}
use Rattle.ml_answers.proofs.parts.read_structure.Goals as goal

pub returns-in-Err-clause-refused : goal.returns-in-Err-clause-refused
returns-in-Err-clause-refused c =
    tells_model c.args.at c.next_body.result.0.now c.in-Err.refusal c.next_body.ensures.body c.in-Err.ensures.refused
