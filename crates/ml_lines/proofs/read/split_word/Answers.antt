use Rattle.std.proofs.Common.{◌+◌, ◌∷◌, take, sym, ap, ◌∙◌}
use Rattle.ml_lines.specs.Reading.{words_of}
use Rattle.ml_lines.proofs.Cuts.{words_at, words_none, slice_end}
use Rattle.ml_lines.proofs.read.split_word.Goals as goal

pub returns-in-Some-clause-words : goal.returns-in-Some-clause-words
returns-in-Some-clause-words c =
    let line = c.args.line.now in
    let end = c.in-Some.end in
    words_at line end (sym c.in-Some.ensures) ∙ ap (λ rest. take end line ∷ words_of rest) (slice_end line (end + 1))

pub returns-in-None-clause-words : goal.returns-in-None-clause-words
returns-in-None-clause-words c = words_none c.args.line.now (sym c.in-None.ensures)
