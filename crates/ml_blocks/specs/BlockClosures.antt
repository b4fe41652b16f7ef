-- Closures of blocks, of which a graph is made.
--
--   IsReached root p            == the node p is reached from the root
--   IsClosure root places       == these are the nodes that are reached, each once
--   IsNumberedBy g root places  == the nodes of g are those of the closure, numbered by their places
--   IsBlockGraph g f negated    == g is the graph of the nodes that are reached from the block of a problem of LTL, without
--                                  the root and its part on edges
use Rattle.std.specs.Prelude.{Bool, List}
use Rattle.ml_graph.specs.Graph.{Graph}
use Rattle.ml_nodes.specs.ClosureGraph as closure
pub use Rattle.ml_nodes.specs.ClosureGraph.{IsNumberOf, HasForm, at_root, behind, children, row_of}
use Rattle.ml_ctl.specs.Formula.{Formula}
use Rattle.ml_blocks.specs.Places.{Place, forms}
use Rattle.ml_blocks.specs.BlockGraph.{linear_start_of}

-- the node p is reached from the root
abbrev pub IsReached : Place → Place → Type 0
IsReached root = closure.IsReached forms root

abbrev pub IsClosure : Place → List Place → Type 0
IsClosure root places = closure.IsClosure forms root places

abbrev pub IsNumberedBy : Graph → Place → List Place → Type 0
IsNumberedBy g root places = closure.IsNumberedBy forms g root places

-- the graph of the nodes that are reached from the block
abbrev pub IsBlockGraph : Graph → Formula → Bool → Type 0
IsBlockGraph g f negated = closure.IsGraphFrom forms g (linear_start_of f negated)
