use Rattle.std.proofs.Common.{arith}
use Rattle.ml_graph.proofs.EdgeRows.{emptied}
use Rattle.ml_graph.proofs.at_state.clear.Goals as goal

pub loop-row-preserved : goal.loop-row-preserved
loop-row-preserved c =
    emptied c.loop-row.rows c.loop-row.row-index c.clear.new.self (omega arith) c.clear.ensures.items
    c.loop-row.invariant
