use Rattle.std.proofs.Common.{◌≡◌, ◌++◌, drop}
use Rattle.std.specs.List.{enumerate_from, flat_map}
use Rattle.ml_lines.specs.Lines.{text_of}
use Rattle.ml_parity.specs.Refusal.{lists_of}
use Rattle.ml_realize_text.specs.RealizeText.{environment_state_lines}
use Rattle.ml_realize_text.proofs.environments.write_states.Given as goal

abbrev pub invariant-loop-state : goal.invariant-loop-state
invariant-loop-state l =
    l.out.items
    ++ text_of (flat_map (environment_state_lines l.inputs l.outputs (lists_of l.next)) (enumerate_from l.state (drop l.state l.plays)))
    ≡ l.fn.out.items
    ++ text_of (flat_map (environment_state_lines l.inputs l.outputs (lists_of l.next)) (enumerate_from 0 l.plays))
