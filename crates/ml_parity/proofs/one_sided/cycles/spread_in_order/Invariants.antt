-- The search goes on, and so far something was found or nothing changed.
use Rattle.std.proofs.Common.{◌≡◌}
use Rattle.ml_parity.specs.private.HeightSteps.{IsSearch, IsSpread}
use Rattle.ml_parity.proofs.one_sided.cycles.spread_in_order.Given as goal

abbrev pub invariant-loop-k : goal.invariant-loop-k
invariant-loop-k l = record {
  search : IsSearch l.graph l.priority l.search.goal l.search.found.items l.search.steps.items;
  goal : l.search.goal ≡ l.initial.search.goal;
  spread : IsSpread l.graph l.priority l.initial.search.found.items l.search.found.items 0 l.changed;
}
