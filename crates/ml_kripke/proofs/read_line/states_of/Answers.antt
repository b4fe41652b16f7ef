use Rattle.std.proofs.Common.{ap, ◌∙◌}
use Rattle.ml_lines.specs.Lines.{number}
use Rattle.ml_lines.specs.Reading.{words_of}
use Rattle.ml_kripke.proofs.BrokenRules.{no_states}
use Rattle.ml_kripke.proofs.read_line.states_of.Goals as goal

pub returns-then-states-eq0-clause-refused : goal.returns-then-states-eq0-clause-refused
returns-then-states-eq0-clause-refused c =
    λ left.
    no_states left (words_of c.args.line.now) c.in-Some.word.now c.in-Some.ensures.0 c.in-Some.ensures.1
    (c.in-Some-read_number.ensures.0 ∙ ap number c.if-states-eq0.true)
