use Rattle.std.proofs.Common.{◌+◌, ◌∷◌, take, sym, ap, ◌∙◌}
use Rattle.ml_lines.specs.Reading.{words_of, lines_of, left_of}
use Rattle.ml_lines.proofs.Cuts.{line_at, line_none, slice_end}
use Rattle.ml_lines.proofs.read.split_line.Goals as goal

pub returns-in-Some-clause-lines : goal.returns-in-Some-clause-lines
returns-in-Some-clause-lines c =
    let text = c.args.text.now in
    let end = c.in-Some.end in
    (line_at text end (sym c.in-Some.ensures)).0
    ∙ ap (λ rest. words_of (take end text) ∷ lines_of rest) (slice_end text (end + 1))

pub returns-in-Some-clause-left : goal.returns-in-Some-clause-left
returns-in-Some-clause-left c =
    let text = c.args.text.now in
    let end = c.in-Some.end in
    (line_at text end (sym c.in-Some.ensures)).1 ∙ ap left_of (slice_end text (end + 1))

pub returns-in-None-clause-lines : goal.returns-in-None-clause-lines
returns-in-None-clause-lines c = (line_none c.args.text.now (sym c.in-None.ensures)).0

pub returns-in-None-clause-left : goal.returns-in-None-clause-left
returns-in-None-clause-left c = (line_none c.args.text.now (sym c.in-None.ensures)).1
