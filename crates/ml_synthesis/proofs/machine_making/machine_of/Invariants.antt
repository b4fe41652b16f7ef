use Rattle.std.proofs.Common.{◌-◌, ◌/◌, length, map}
use Rattle.std.specs.Global.{Vec}
use Rattle.ml_synthesis.specs.declared.machines.MachineStep.{MachineStep}
use Rattle.ml_synthesis.specs.private.Numbered.{IsMachineMet}
use Rattle.ml_synthesis.proofs.machine_making.machine_of.Given as goal

abbrev pub invariant-loop-state : goal.invariant-loop-state
invariant-loop-state l =
    IsMachineMet l.arena.input_sets l.arena.base l.arena.arrivals.keys l.arena.game l.solution.choice l.states.keys
    (map (λ (row : Vec MachineStep). row.items) l.steps.items)

abbrev pub decreases-loop-state : goal.decreases-loop-state
decreases-loop-state l = l.arena.base / l.arena.input_sets - length l.steps.items
