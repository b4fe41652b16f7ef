use Rattle.std.proofs.Common.{◌-◌, length}
use Rattle.ml_parity.specs.Game.{size}
use Rattle.ml_parity.specs.Refusal.{lists_of}
use Rattle.ml_synthesis.specs.private.Numbered.{IsEnvironmentMet}
use Rattle.ml_synthesis.proofs.environment_making.environment_of.Given as goal

abbrev pub invariant-loop-state : goal.invariant-loop-state
invariant-loop-state l =
    IsEnvironmentMet l.arena.input_sets l.arena.base l.arena.game l.solution.choice l.states.keys
    (record { plays = l.plays.items; next = lists_of l.next.items })

abbrev pub decreases-loop-state : goal.decreases-loop-state
decreases-loop-state l = size l.arena.game - length l.next.items
