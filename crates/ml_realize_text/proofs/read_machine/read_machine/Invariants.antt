use Rattle.std.proofs.Common.{◌≡◌, length}
use Rattle.ml_realize_text.specs.private.Rows.{steps_of}
use Rattle.ml_realize_text.proofs.MachineRead.{RowsTo}
use Rattle.ml_realize_text.proofs.read_machine.read_machine.Given as goal

abbrev pub invariant-loop-state : goal.invariant-loop-state
invariant-loop-state l =
    RowsTo l.inputs l.outputs l.states l.fn.at (steps_of l.steps.items) l.rest × (length (steps_of l.steps.items) ≡ l.state)
