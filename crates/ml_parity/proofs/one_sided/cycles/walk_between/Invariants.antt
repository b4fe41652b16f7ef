-- The search goes on, and each pass but the last finds something.
use Rattle.std.proofs.Common.{◌≡◌}
use Rattle.ml_parity.specs.private.HeightSteps.{IsSearch, missing}
use Rattle.ml_parity.proofs.one_sided.cycles.walk_between.Given as goal

abbrev pub invariant-loop-search : goal.invariant-loop-search
invariant-loop-search l = record {
  search : IsSearch l.graph l.priority l.goal l.search.found.items l.search.steps.items;
  goal : l.search.goal ≡ l.goal;
}

abbrev pub decreases-loop-search : goal.decreases-loop-search
decreases-loop-search l = missing l.search.found.items
