use Rattle.ml_lines.specs.Reading.{words_of}
use Rattle.ml_realize_text.proofs.BodyLines.{other_state}
use Rattle.ml_realize_text.proofs.body_lines.check_state.Goals as goal

pub returns-else-told-state-clause-refused : goal.returns-else-told-state-clause-refused
returns-else-told-state-clause-refused c = λ g n.
    other_state g n c.args.state (words_of c.args.line.now) c.in-Ok.told c.in-Ok.ensures.read.1 c.in-Ok.ensures.read.0
    c.if-told-state.false
