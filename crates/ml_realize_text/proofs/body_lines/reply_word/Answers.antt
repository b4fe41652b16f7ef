use Rattle.std.proofs.Common.{sym, ◌∙◌}
use Rattle.ml_lines.specs.Reading.{words_of}
use Rattle.ml_realize_text.proofs.BodyReads.{reply_read}
use Rattle.ml_realize_text.proofs.body_lines.reply_word.Goals as goal

pub returns-in_ok-behind_on : goal.returns-in_ok-behind_on
returns-in_ok-behind_on c =
    reply_read c.args.outputs.now c.args.set (words_of c.args.line.now) (words_of c.in_ok-behind_on.field-0.now) (λ x. x.now)
    c.one_word.result (sym c.are_words.ensures ∙ c.if-are_words.true) c.in_ok-behind_on.ensures c.one_word.ensures
