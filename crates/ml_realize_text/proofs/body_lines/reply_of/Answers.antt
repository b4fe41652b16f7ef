use Rattle.ml_lines.specs.Reading.{words_of}
use Rattle.ml_realize_text.specs.private.Reads.{environment_of}
use Rattle.ml_realize_text.proofs.BodyLines.{reply_no_state}
use Rattle.ml_realize_text.proofs.BodyReads.{not_below}
use Rattle.ml_realize_text.proofs.body_lines.reply_of.Goals as goal

pub returns-else-next-states-clause-refused : goal.returns-else-next-states-clause-refused
returns-else-next-states-clause-refused c = λ ins i.
    let read = c.in-Some-read_number.ensures in
    let next = c.in-Some-read_number.next in
    reply_no_state (environment_of ins c.args.outputs.now) c.args.states i c.args.set (words_of c.args.line.now) c.in-Some.word.now
    c.in-Some.ensures (next, read.1, read.0) (not_below c.in-Some.word.now next c.args.states read.1 read.0 c.if-next-states.false)
