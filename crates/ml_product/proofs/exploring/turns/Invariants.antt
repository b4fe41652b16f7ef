use Rattle.std.proofs.Common.{ℕ, ◌≡◌, ◌<◌, ◌-◌, []}
use Rattle.ml_product.specs.private.Exploring.{IsUnderway, IsWaiting, AreWaiting, AreRooted}
use Rattle.ml_product.proofs.exploring.turns.Given as goal

abbrev pub invariant-loop-v : goal.invariant-loop-v
invariant-loop-v l = record {
  graph : l.branch.graph ≡ l.fn.branch.graph;
  underway : IsUnderway l.fn.branch.graph l.limit l.pool l.turns;
  waiting : AreWaiting l.fn.branch.graph l.pool l.turns [];
  rooted : AreRooted l.pool.positions l.turns l.trees.sites.keys l.trees.tops.items;
  done : (w : ℕ) → w < l.v → IsWaiting l.turns w → ⊥;
}

abbrev pub decreases-loop-v : goal.decreases-loop-v
decreases-loop-v l = l.limit - l.v
