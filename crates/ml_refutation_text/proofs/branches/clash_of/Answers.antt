use Rattle.ml_lines.specs.Reading.{words_of}
use Rattle.ml_refutation_text.proofs.BranchLines.{clash_broken}
use Rattle.ml_refutation_text.proofs.branches.clash_of.Goals as goal

pub returns-in-Err-clause-refused : goal.returns-in-Err-clause-refused
returns-in-Err-clause-refused c =
    λ names wanted depth.
    clash_broken names wanted depth (words_of c.args.line.now) (words_of c.args.rest.now) c.in-Err.rule c.requires.begins
    c.requires.are_words c.in-Err.ensures.refused
