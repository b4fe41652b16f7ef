use Rattle.ml_lines.specs.Reading.{words_of}
use Rattle.ml_realize_text.proofs.BodyReads.{on_read}
use Rattle.ml_realize_text.proofs.body_lines.behind_on.Goals as goal

pub returns : goal.returns
returns c =
    on_read (λ x. words_of x.now) c.args.names.now c.args.set c.args.fixed.now (words_of c.args.line.now)
    (words_of c.in_ok-behind.behind.now) (words_of c.in_ok-behind-2.behind.now) c.text_behind-2.result c.in_ok-behind.ensures
    c.in_ok-behind-2.ensures c.text_behind-2.ensures
