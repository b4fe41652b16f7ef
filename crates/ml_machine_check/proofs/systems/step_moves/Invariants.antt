use Rattle.ml_machine_check.specs.private.AsSystems.{AreMoves, IsStep}
use Rattle.ml_machine_check.proofs.systems.step_moves.Given as goal

abbrev pub invariant-loop-set : goal.invariant-loop-set
invariant-loop-set l = AreMoves (IsStep l.inputs l.steps l.set) l.moves.items
