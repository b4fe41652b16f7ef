-- What holds of the graphs of closures, of those of CTL* and LTL.
--
--   one_graph  == a closure has one graph at most
--   one_size   == more than n nodes are reached exactly where the graph has more
--   some_graph == a closure has a graph of at most n nodes, or more than n nodes are reached
use Rattle.ml_nodes.proofs.OneNumbering as numbering
use Rattle.ml_nodes.proofs.OneSize as sizes
use Rattle.ml_nodes.proofs.SomeGraph as graphs
use Rattle.ml_blocks.specs.ClosureLaws.{OneSize, SomeGraph}
use Rattle.ml_blocks.specs.OneGraph.{OneGraph}
use Rattle.ml_blocks.specs.Places.{Root, forms}
use Rattle.ml_blocks.proofs.PlaceEquality.{same_place}

pub one_graph : OneGraph
one_graph start g h x y = numbering.one_graph forms (Root start) g h x y

pub one_size : OneSize
one_size start g n is = sizes.one_size forms same_place (Root start) g n is

pub some_graph : SomeGraph
some_graph start n = graphs.some_graph forms same_place (Root start) n
