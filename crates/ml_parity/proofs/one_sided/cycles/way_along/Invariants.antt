-- The way so far leads to a vertex that is the goal, or that one of the steps not read yet leaves.
use Rattle.std.proofs.Common.{◌≤◌, length, All, Contains}
use Rattle.ml_parity.specs.private.HeightSteps.{Comes, Chain}
use Rattle.ml_parity.proofs.one_sided.cycles.way_along.Given as goal

abbrev pub invariant-loop-rest : goal.invariant-loop-rest
invariant-loop-rest l = record {
  low : l.rest ≤ length l.steps;
  chain : Chain l.start l.way.items l.at;
  among : All (Contains l.steps) l.way.items;
  comes : Comes l.steps l.rest l.goal l.at;
}

abbrev pub decreases-loop-rest : goal.decreases-loop-rest
decreases-loop-rest l = l.rest
