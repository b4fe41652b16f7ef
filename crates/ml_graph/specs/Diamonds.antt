-- Graphs with one diamond at most.
--
--   HasOneDiamond g == no two nodes of g are diamonds
use Rattle.std.specs.Prelude.{ℕ, ◌≡◌, ◌<◌}
use Rattle.ml_graph.specs.Graph.{Graph, node_at, size}
use Rattle.ml_graph.specs.declared.node.Node.TheVariants as node

abbrev pub HasOneDiamond : Graph → Type 0
HasOneDiamond g =
    (d e a b c k : ℕ)
    → d < size g
    → e < size g
    → node_at g d ≡ node.Diamond a c
    → node_at g e ≡ node.Diamond b k
    → d ≡ e
