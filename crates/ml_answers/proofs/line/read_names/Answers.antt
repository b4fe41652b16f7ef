use Rattle.ml_lines.specs.Reading.{words_of}
use Rattle.ml_answers.proofs.AnswerLines.{names_told_none, told_names}
use Rattle.ml_answers.proofs.line.read_names.Goals as goal

pub returns-in-Ok-Some-clause-read : goal.returns-in-Ok-Some-clause-read
returns-in-Ok-Some-clause-read c = λ S agrees.
    let marked = rw c.in-Ok-Some.field-0-is at c.in-Ok-Some.ensures in
    told_names c.args.items.now S c.args.question (words_of c.args._line.now) c.args.names c.in-Ok-Some.marks
    c.is_of_conflict.result c.requires.line c.is_of_conflict.ensures (marked S agrees)

pub returns-in-Ok-None-clause-refused : goal.returns-in-Ok-None-clause-refused
returns-in-Ok-None-clause-refused c = λ S agrees.
    let none = rw c.in-Ok-None.field-0-is at c.in-Ok-None.ensures in
    names_told_none c.args.items.now S c.args.question (words_of c.args._line.now) c.args.names c.is_of_conflict.result
    c.requires.line c.is_of_conflict.ensures (none S agrees)
