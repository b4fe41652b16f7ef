-- With a side more fewer are left. Between a position and its sides stand a function for its or-node and one for a side.
use Rattle.std.proofs.Common.{◌+◌, ◌-◌, ◌*◌, length}
use Rattle.ml_graph.specs.Graph.{size}
use Rattle.ml_product.proofs.deciding.+deciding.Given as goal

abbrev pub decreases-explore_at : goal.decreases-explore_at
decreases-explore_at l = 3 * (size l.branch.now.graph - length l.branch.now.spread.choice) + 2

abbrev pub decreases-explore_open : goal.decreases-explore_open
decreases-explore_open l = 3 * (size l.branch.now.graph - length l.branch.now.spread.choice) + 1

abbrev pub decreases-explore_side : goal.decreases-explore_side
decreases-explore_side l = 3 * (size l.branch.now.graph - length l.branch.now.spread.choice)
