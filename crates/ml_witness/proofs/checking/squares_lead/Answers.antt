use Rattle.std.proofs.Common.{refl, arith}
use Rattle.ml_lists.proofs.Members.{All-more_read, All-read}
use Rattle.ml_witness.specs.private.Claims.{SquaresLead}
use Rattle.ml_witness.proofs.checking.squares_lead.Goals as goal

pub loop-edge-preserved : goal.loop-edge-preserved
loop-edge-preserved c =
    All-more_read (SquaresLead c.args.graph.now c.args.ranks.now) c.args.edges.now c.loop-edge.edge-index
    c.edge-item.result c.loop-edge-test.true c.edge-item.is (c.if-not-squares_lead_along.ensures refl)
    c.loop-edge.invariant

pub returns : goal.returns
returns c =
    λ _.
    All-read (SquaresLead c.args.graph.now c.args.ranks.now) c.args.edges.now c.loop-edge.edge-index
    (omega (arith, c.loop-edge-test.false)) c.loop-edge.invariant
