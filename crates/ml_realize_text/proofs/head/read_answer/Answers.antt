use Rattle.ml_lines.specs.Reading.{words_of}
use Rattle.ml_realize_text.specs.RealizeRules.{AtAnswer}
use Rattle.ml_realize_text.proofs.Told.{line_refused}
use Rattle.ml_realize_text.proofs.head.read_answer.Goals as goal

pub returns-in-Err-clause-refused : goal.returns-in-Err-clause-refused
returns-in-Err-clause-refused c =
    line_refused AtAnswer c.args.at c.in-Some.rest (words_of c.in-Some.line.now) c.in-Err.rule c.fault.result c.in-Some.ensures
    c.in-Err.ensures.refused c.fault.ensures
