use Rattle.ml_make.proofs.Numbered.{AreMet}
use Rattle.ml_make.proofs.numbering.is_environment_numbered.Given as goal

abbrev pub invariant-loop-state : goal.invariant-loop-state
invariant-loop-state l = AreMet l.environment.next l.state l.met
