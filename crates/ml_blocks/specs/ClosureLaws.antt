-- How large the closure of a problem is, and its graph.
--
--   OneSize            == more than n nodes are reached exactly where the graph of the closure has more than n nodes
--   SomeGraph          == each problem has a graph of at most n nodes, or more than n nodes are reached
use Rattle.std.specs.Prelude.{ℕ, ◌<◌, ◌≤◌, ◌⊎◌, ◌↔◌}
use Rattle.ml_graph.specs.Graph.{Graph, size}
use Rattle.ml_blocks.specs.BlockGraph.{IsGraphAt}
use Rattle.ml_blocks.specs.Places.{Place, Root}
use Rattle.ml_blocks.specs.Closures.{HasMoreThan}

abbrev pub OneSize : Type 0
OneSize = (start : Place) (g : Graph) (n : ℕ) → IsGraphAt g start → HasMoreThan (Root start) n ↔ (n < size g)

abbrev pub SomeGraph : Type 0
SomeGraph = (start : Place) (n : ℕ) → ((g : Graph) × IsGraphAt g start × (size g ≤ n)) ⊎ HasMoreThan (Root start) n
