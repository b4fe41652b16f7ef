use Rattle.std.proofs.Common.{◌≡◌, ◌<◌, length, All}
use Rattle.ml_graph.specs.Graph.{size}
use Rattle.ml_sequent.specs.private.Descents.{Falls}
use Rattle.ml_sequent.proofs.descent.Descent.of.Given as goal

abbrev pub invariant-loop : goal.invariant-loop
invariant-loop l = record {
  falls : Falls l.graph l.ranks.items;
  entered : length l.entered.items ≡ size l.graph;
  path : All (λ n. n < size l.graph) l.path.items;
}
