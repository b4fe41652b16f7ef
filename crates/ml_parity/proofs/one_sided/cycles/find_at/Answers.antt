-- The arc of this number is an arc of the graph.
use Rattle.std.proofs.Common.{arith}
use Rattle.ml_parity.specs.HeightLists.{graph_of}
use Rattle.ml_parity.proofs.HeightRows.{arc_among}
use Rattle.ml_parity.proofs.one_sided.cycles.find_at.Goals as goal

pub find_along-requires-clause-member : goal.find_along-requires-clause-member
find_along-requires-clause-member c =
    arc_among (graph_of c.graph.inside.size c.graph.inside.top c.graph.inside.arcs) c.args.graph.now c.graph.view_is
    c.args.number c.index.result.now (omega (arith, c.if-number-len.false, c.len.ensures, c.graph.inside.arcs.ok.0))
    c.index.ensures
