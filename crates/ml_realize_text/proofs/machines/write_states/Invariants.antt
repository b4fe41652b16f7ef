use Rattle.std.proofs.Common.{◌≡◌, ◌++◌, drop}
use Rattle.std.specs.List.{enumerate_from, flat_map}
use Rattle.ml_lines.specs.Lines.{text_of}
use Rattle.ml_realize_text.specs.RealizeText.{machine_state_lines}
use Rattle.ml_realize_text.specs.private.Rows.{steps_of}
use Rattle.ml_realize_text.proofs.machines.write_states.Given as goal

abbrev pub invariant-loop-state : goal.invariant-loop-state
invariant-loop-state l =
    l.out.items
    ++ text_of (flat_map (machine_state_lines l.inputs l.outputs) (enumerate_from l.state (drop l.state (steps_of l.rows))))
    ≡ l.fn.out.items ++ text_of (flat_map (machine_state_lines l.inputs l.outputs) (enumerate_from 0 (steps_of l.rows)))
