use Rattle.ml_history.proofs.cycle_laws.FirstLaw.{odd_mark_has_run}
use Rattle.ml_history.proofs.laws.odd_mark_has_run.Goals as goal

pub returns : goal.returns
returns c = λ some back odd. odd_mark_has_run c.args.start.now c.args.word.now
    (record { history = c.keeps.ensures.history; not_empty = some; returns = back }) odd
