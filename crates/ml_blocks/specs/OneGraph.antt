-- A problem has one graph at most, up to the lists of names: their order, and names that stand at no node.
--
--   OneGraph == two graphs of one closure are alike
use Rattle.ml_graph.specs.Graph.{Graph}
use Rattle.ml_nodes.specs.AlikeNodes.{AreAlike}
use Rattle.ml_blocks.specs.BlockGraph.{IsGraphAt}
use Rattle.ml_blocks.specs.Places.{Place}

abbrev pub OneGraph : Type 0
OneGraph = (start : Place) (g h : Graph) → IsGraphAt g start → IsGraphAt h start → AreAlike g h
