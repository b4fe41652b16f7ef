use Rattle.std.proofs.Common.{◌≡◌, length}
use Rattle.ml_parity.specs.Refusal.{lists_of}
use Rattle.ml_realize_text.proofs.EnvironmentRead.{PlaysTo}
use Rattle.ml_realize_text.proofs.Tables.{play_rows}
use Rattle.ml_realize_text.proofs.read_environment.read_environment.Given as goal

abbrev pub invariant-loop-state : goal.invariant-loop-state
invariant-loop-state l =
    PlaysTo l.inputs l.outputs l.states l.fn.at (play_rows l.plays.items (lists_of l.next.items)) l.rest
    × (length l.plays.items ≡ l.state)
    × (length (lists_of l.next.items) ≡ l.state)
