-- With a side more fewer are left. A function for one side stands between a position and its sides.
use Rattle.std.proofs.Common.{length, ◌+◌, ◌-◌, ◌*◌}
use Rattle.ml_graph.specs.Graph.{size}
use Rattle.ml_refute.specs.private.Found.{position_at}
use Rattle.ml_refute.proofs.deciding.+deciding.Given as goal

abbrev pub decreases-decide : goal.decreases-decide
decreases-decide l = 2
    * (size l.game.now.graph.now - length (position_at l.game.now.graph.now l.game.now.arena.now l.v).choice) + 1

abbrev pub decreases-decide_side : goal.decreases-decide_side
decreases-decide_side l = 2
    * (size l.game.now.graph.now - length (position_at l.game.now.graph.now l.game.now.arena.now l.w).choice) + 2
