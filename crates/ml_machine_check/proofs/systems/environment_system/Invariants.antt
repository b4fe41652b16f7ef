use Rattle.ml_emptiness.specs.Systems.{table_of}
use Rattle.ml_synthesis.specs.Machines.{EnvironmentGoes}
use Rattle.ml_machine_check.specs.private.AsSystems.{AreMovesOf}
use Rattle.ml_machine_check.proofs.systems.environment_system.Given as goal

abbrev pub invariant-loop-state : goal.invariant-loop-state
invariant-loop-state l = AreMovesOf (EnvironmentGoes l.inputs l.outputs l.environment) l.state (table_of l.system.items)
