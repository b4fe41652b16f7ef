use Rattle.ml_history.proofs.cycle_laws.FirstLaw.{odd_mark_has_run}
use Rattle.ml_history.proofs.laws.odd_marks_have_runs.Goals as goal

pub returns : goal.returns
returns c = odd_mark_has_run
