use Rattle.std.proofs.Common.{codes}
use Rattle.ml_lines.specs.Reading.{words_of}
use Rattle.ml_realize_text.proofs.BodyReads.{goto_other, goto_read}
use Rattle.ml_realize_text.proofs.FixedWords.{other_word, same_word}
use Rattle.ml_realize_text.proofs.body_lines.split_goto.Goals as goal

pub returns-then-eq : goal.returns-then-eq
returns-then-eq c =
    goto_read (words_of c.args.text.now) (words_of c.in_ok-front.front.now) (words_of c.in_ok-given.given.now)
    c.in_ok-given.goto.now c.in_ok-front.last.now c.in_ok-front.ensures c.in_ok-given.ensures
    (same_word c.in_ok-given.goto.now c.as_slice.result.now (codes "goto") c.if-eq.ensures c.as_slice.ensures)

pub returns-else-eq : goal.returns-else-eq
returns-else-eq c =
    goto_other (words_of c.args.text.now) (words_of c.in_ok-front.front.now) (words_of c.in_ok-given.given.now)
    c.in_ok-given.goto.now c.in_ok-front.last.now c.in_ok-front.ensures c.in_ok-given.ensures
    (other_word c.in_ok-given.goto.now c.as_slice.result.now (codes "goto") c.if-eq.ensures c.as_slice.ensures)
