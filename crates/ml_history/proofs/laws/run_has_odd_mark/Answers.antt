use Rattle.ml_history.proofs.cycle_laws.SecondLaw.{run_has_odd_mark}
use Rattle.ml_history.proofs.laws.run_has_odd_mark.Goals as goal

pub returns : goal.returns
returns c = λ some back run. run_has_odd_mark c.args.start.now c.args.word.now
    (record { history = c.keeps.ensures.history; not_empty = some; returns = back }) run
