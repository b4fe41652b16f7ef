use Rattle.std.proofs.Common.{sym, ◌∙◌}
use Rattle.ml_lines.specs.Reading.{is_blank, words_of}
use Rattle.ml_lines.proofs.Cuts.{some_part}
use Rattle.ml_realize_text.proofs.BodyReads.{play_read}
use Rattle.ml_realize_text.proofs.body_lines.play_words.Goals as goal

pub returns-then-are_words : goal.returns-then-are_words
returns-then-are_words c =
    play_read (λ x. words_of x.now) (λ x. some_part is_blank x.now) (words_of c.args.line.now) c.text_behind.result
    (sym c.are_words.ensures ∙ c.if-are_words.true) c.text_behind.ensures
