-- The search goes on, and so far something was found or nothing was to be found.
use Rattle.std.proofs.Common.{◌≡◌}
use Rattle.ml_parity.specs.private.HeightSteps.{IsSearch, IsSpread}
use Rattle.ml_parity.proofs.one_sided.cycles.spread.Given as goal

abbrev pub invariant-loop-arc : goal.invariant-loop-arc
invariant-loop-arc l = record {
  search : IsSearch l.graph l.priority l.search.goal l.search.found.items l.search.steps.items;
  goal : l.search.goal ≡ l.fn.search.goal;
  spread : IsSpread l.graph l.priority l.fn.search.found.items l.search.found.items l.arc-index l.changed;
}
