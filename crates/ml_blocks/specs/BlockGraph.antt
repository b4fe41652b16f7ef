-- The modal graph of a formula of CTL* or LTL.
--
-- It is the graph of a closure: of the nodes, as values, that are reached from the root of the problem
-- (`ml_nodes/specs/ClosureGraph`).
--
--   start_of f negated          == the node that a problem of CTL* starts with
--   linear_start_of f negated   == that of a problem of LTL: some path satisfies f, or the negation of f
--   IsGraphAt g start           == g is the graph of the closure whose root starts with this node
use Rattle.std.specs.Prelude.{Bool, true, not}
use Rattle.ml_graph.specs.Graph.{Graph}
use Rattle.ml_nodes.specs.ClosureGraph as closure
use Rattle.ml_ctl.specs.Formula.{Formula}
use Rattle.ml_blocks.specs.Items.{now}
use Rattle.ml_blocks.specs.Places.{Place, Root, Holding, block_of, forms}

abbrev pub start_of : Formula → Bool → Place
start_of f negated = Holding 0 f (not negated)

abbrev pub linear_start_of : Formula → Bool → Place
linear_start_of f negated = block_of (now 0 f (not negated)) true

abbrev pub IsGraphAt : Graph → Place → Type 0
IsGraphAt g start = closure.IsGraphFrom forms g (Root start)
