use Rattle.std.proofs.Common.{◌≡◌, length}
use Rattle.ml_realize_text.proofs.MachineRead.{StepsTo}
use Rattle.ml_realize_text.proofs.read_machine.read_steps.Given as goal

abbrev pub invariant-loop-set : goal.invariant-loop-set
invariant-loop-set l =
    StepsTo l.inputs l.outputs l.states l.fn.at l.steps.items l.rest × (length l.steps.items ≡ l.set)
