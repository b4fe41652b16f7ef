use Rattle.std.proofs.Common.{arith}
use Rattle.ml_lines.specs.Reading.{words_of}
use Rattle.ml_realize_text.proofs.BodyLines.{no_states}
use Rattle.ml_realize_text.proofs.body_lines.states_of.Goals as goal

pub returns-else-states-gt0-clause-refused : goal.returns-else-states-gt0-clause-refused
returns-else-states-gt0-clause-refused c = λ g.
    no_states g (words_of c.args.line.now) c.in-Ok.states c.in-Ok.ensures.read.1 c.in-Ok.ensures.read.0
    (omega (arith, c.if-states-gt0.false))
