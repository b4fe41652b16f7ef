use Rattle.std.proofs.Common.{sym, ◌∙◌}
use Rattle.ml_lines.specs.Reading.{is_blank, words_of}
use Rattle.ml_lines.proofs.Cuts.{some_part}
use Rattle.ml_realize_text.proofs.BodyReads.{step_none, step_read}
use Rattle.ml_realize_text.proofs.body_lines.step_words.Goals as goal

pub returns-in-Some : goal.returns-in-Some
returns-in-Some c =
    step_read c.args.inputs.now c.args.set (words_of c.args.line.now) (words_of c.in-Some.tail.now) (λ p. words_of p.0.now)
    (λ p. p.1.now) (λ p. some_part is_blank p.0.now) c.split_goto.result (sym c.are_words.ensures ∙ c.if-are_words.true)
    c.in-Some.ensures c.split_goto.ensures

pub returns-in-None : goal.returns-in-None
returns-in-None c = step_none c.args.inputs.now c.args.set (words_of c.args.line.now) c.in-None.ensures
