use Rattle.std.proofs.Common.{◌∷◌, ◌∙◌, ap}
use Rattle.ml_lines.specs.Reading.{words_of}
use Rattle.ml_refutation_text.proofs.BranchLines.{lacks_mark}
use Rattle.ml_refutation_text.proofs.branches.go_words.Goals as goal

pub returns-in-Err-clause-refused : goal.returns-in-Err-clause-refused
returns-in-Err-clause-refused c =
    let d = c.in-Some.split.0.now in
    let e = c.in-Some-more_words.split.0.now in
    let rest = c.in-Some-more_words.split.1.now in
    lacks_mark (words_of c.args.words.now) (words_of rest) d e
    (c.in-Some.ensures ∙ ap (λ ws. d ∷ ws) c.in-Some-more_words.ensures)
    c.in-Err.rule c.in-Err.ensures.refused
