-- So edges are few.
use Rattle.std.proofs.Common.{ap, length, arith}
use Rattle.ml_search.proofs.Edges.{few_at_places}
use Rattle.ml_search.proofs.checking_models.has_few_edges.Goals as goal

pub returns : goal.returns
returns c =
    λ is_true.
    few_at_places c.args.graph.now c.args.structure.now c.keeps.ensures.is_ordered.edges_ascend
    (λ k low. c.loop-place.invariant k
    (omega (arith, low, c.loop-place-test.false, ap length c.edges-edges.ensures)))
