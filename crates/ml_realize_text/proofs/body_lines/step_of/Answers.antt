use Rattle.ml_lines.specs.Reading.{words_of}
use Rattle.ml_realize_text.specs.private.Reads.{machine_of}
use Rattle.ml_realize_text.proofs.BodyLines.{step_no_set, step_no_state}
use Rattle.ml_realize_text.proofs.BodyReads.{not_below}
use Rattle.ml_realize_text.proofs.body_lines.step_of.Goals as goal

pub returns-in_default-read_set-clause-refused : goal.returns-in_default-read_set-clause-refused
returns-in_default-read_set-clause-refused c = λ i.
    let read = c.in-Some-read_number.ensures in
    step_no_set (machine_of c.args.inputs.now c.args.outputs.now) c.args.states i c.args.set (words_of c.args.line.now)
    (words_of c.in-Some.given.now) c.in-Some.word.now c.in-Some.ensures (c.in-Some-read_number.next, read.1, read.0)
    c.in_default-read_set.ensures

pub returns-else-next-states-clause-refused : goal.returns-else-next-states-clause-refused
returns-else-next-states-clause-refused c = λ i.
    let read = c.in-Some-read_number.ensures in
    let next = c.in-Some-read_number.next in
    let set = c.in-Some-read_set.ensures in
    step_no_state (machine_of c.args.inputs.now c.args.outputs.now) c.args.states i c.args.set (words_of c.args.line.now)
    (words_of c.in-Some.given.now) c.in-Some.word.now c.in-Some.ensures (next, read.1, read.0) (c.in-Some-read_set.give, set.0, set.1)
    (not_below c.in-Some.word.now next c.args.states read.1 read.0 c.if-next-states.false)
