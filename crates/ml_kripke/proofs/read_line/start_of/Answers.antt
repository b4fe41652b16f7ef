use Rattle.ml_lines.specs.Reading.{words_of}
use Rattle.ml_kripke.proofs.BrokenRules.{bad_start}
use Rattle.ml_kripke.proofs.read_line.start_of.Goals as goal

pub returns-else-start-states-clause-refused : goal.returns-else-start-states-clause-refused
returns-else-start-states-clause-refused c =
    λ left.
    bad_start left (words_of c.args.line.now) c.in-Some.word.now c.in-Some.ensures.0 c.args.states c.in-Some.ensures.1
    c.in-Some-read_number.start c.in-Some-read_number.ensures.0 c.in-Some-read_number.ensures.1 c.if-start-states.false
