use Rattle.std.proofs.Common.{map}
use Rattle.ml_synthesis.specs.Synthesis.{nexts}
use Rattle.ml_make.proofs.Numbered.{AreMet}
use Rattle.ml_make.proofs.numbering.is_machine_numbered.Given as goal

abbrev pub invariant-loop-state : goal.invariant-loop-state
invariant-loop-state l = AreMet (map nexts l.machine) l.state l.met
