use Rattle.ml_history.proofs.cycle_laws.SecondLaw.{run_has_odd_mark}
use Rattle.ml_history.proofs.laws.runs_have_odd_marks.Goals as goal

pub returns : goal.returns
returns c = run_has_odd_mark
