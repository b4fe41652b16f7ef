use Rattle.std.proofs.lemmas.Result.{IfOk-weaker}
use Rattle.ml_answers.specs.private.Words.{words_left}
use Rattle.ml_answers.proofs.Marking.{items_differ}
use Rattle.ml_answers.proofs.Splitting.{marks_read, no_marks}
use Rattle.ml_answers.proofs.names.read_marks.Goals as goal

pub returns-in-Some : goal.returns-in-Some
returns-in-Some c =
    let xs = c.args.items.now in
    IfOk-weaker c.mark_items.result _ _
    (λ made is S agrees.
    marks_read S c.args.wants_some xs (words_left c.args.words) (items_differ xs c.requires.new) c.requires.named
    (words_left c.in-Some.needed) (words_left c.in-Some.perhaps) made c.in-Some.ensures (is S agrees))
    c.mark_items.ensures

pub returns-in-None : goal.returns-in-None
returns-in-None c = λ S agrees ms marked.
    let xs = c.args.items.now in
    no_marks S c.args.wants_some xs (words_left c.args.words) (items_differ xs c.requires.new) c.requires.named
    c.in-None.ensures ms marked
