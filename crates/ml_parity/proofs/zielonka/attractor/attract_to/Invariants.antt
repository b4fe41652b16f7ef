-- The predecessors so far are followed.
use Rattle.std.proofs.Common.{ℕ, ◌≡◌, ◌+◌, ◌<◌, ◌≤◌, drop}
use Rattle.ml_parity.specs.Game.{size}
use Rattle.ml_parity.specs.private.SolverSteps.{places, lefts, times, moves_before, Attracts, IsWork, Keeps}
use Rattle.ml_parity.proofs.zielonka.attractor.attract_to.Given as goal

abbrev pub invariant-loop-from : goal.invariant-loop-from
invariant-loop-from l = record {
  work : IsWork l.game l.work;
  low : l.rest ≤ l.count;
  counts : (v : ℕ) → v < size l.game → lefts l.work v
      ≡ moves_before l.game (places l.work) (places l.initial.work l.to) v + times v (drop l.from-index l.predecessors);
  kept : Keeps l.count l.initial.work l.work;
  attracts : (n mid a : ℕ)
      → places l.initial.work l.to ≡ a
      → a < n
      → Attracts l.game l.initial.work n mid l.count a l.player l.predecessors
      → Attracts l.game l.work n mid l.rest a l.player (drop l.from-index l.predecessors);
}
