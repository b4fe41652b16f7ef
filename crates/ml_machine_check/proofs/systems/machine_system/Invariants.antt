use Rattle.ml_emptiness.specs.Systems.{table_of}
use Rattle.ml_synthesis.specs.Machines.{MachineGoes}
use Rattle.ml_machine_check.specs.private.AsSystems.{AreMovesOf}
use Rattle.ml_machine_check.proofs.systems.machine_system.Given as goal

abbrev pub invariant-loop-steps : goal.invariant-loop-steps
invariant-loop-steps l = AreMovesOf (MachineGoes l.inputs l.machine) l.steps-index (table_of l.system.items)
