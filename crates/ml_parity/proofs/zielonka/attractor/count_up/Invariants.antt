-- The vertices so far are counted.
use Rattle.std.proofs.Common.{ℕ, ◌≡◌, ◌+◌, ◌<◌, take}
use Rattle.ml_parity.specs.Game.{size}
use Rattle.ml_parity.specs.private.SolverSteps.{number_at, times}
use Rattle.ml_parity.proofs.zielonka.attractor.count_up.Given as goal

abbrev pub invariant-loop-from : goal.invariant-loop-from
invariant-loop-from l = (v : ℕ) → v < size l.game → number_at l.left v
    ≡ number_at l.initial.left v + times v (take l.from-index l.predecessors)
