use Rattle.ml_refutation_text.proofs.words.read_numbered.Goals as goal

pub returns-in-Err-clause-refused : goal.returns-in-Err-clause-refused
returns-in-Err-clause-refused c = λ v p is usual. c.in-Err.ensures.missing v p usual
