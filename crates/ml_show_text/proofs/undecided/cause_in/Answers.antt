use Rattle.std.proofs.Common.{codes}
use Rattle.ml_lines.specs.Reading.{words_of}
use Rattle.ml_realize_text.proofs.FixedWords.{other_word, same_word}
use Rattle.ml_show_text.proofs.CauseWords.{closure_told, no_cause, not_closure}
use Rattle.ml_show_text.proofs.undecided.cause_in.Goals as goal

pub returns-then-eq-clause-read : goal.returns-then-eq-clause-read
returns-then-eq-clause-read c =
    let line = c.args.line.now in
    closure_told line (same_word line c.as_slice.result.now (codes "cause closure 4096") c.if-eq.ensures c.as_slice.ensures)

pub returns-in-None-clause-refused : goal.returns-in-None-clause-refused
returns-in-None-clause-refused c =
    let line = c.args.line.now in
    no_cause (words_of line)
    (not_closure line (other_word line c.as_slice.result.now (codes "cause closure 4096") c.if-eq.ensures c.as_slice.ensures))
    c.in-None.ensures
