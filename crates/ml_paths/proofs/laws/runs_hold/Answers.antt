use Rattle.ml_paths.proofs.WordRuns as runs
use Rattle.ml_paths.proofs.laws.runs_hold.Goals as goal

pub returns-clause-hold : goal.returns-clause-hold
returns-clause-hold c = runs.runs_hold

pub returns-clause-shown : goal.returns-clause-shown
returns-clause-shown c = runs.shown_are_runs
