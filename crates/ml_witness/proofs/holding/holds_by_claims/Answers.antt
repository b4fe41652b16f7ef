use Rattle.std.proofs.Common.{◌<◌, ◌∙◌, ap, subst, arith}
use Rattle.ml_graph.specs.Graph.{size}
use Rattle.ml_witness.proofs.KeptClaims.{kept_holds}
use Rattle.ml_witness.specs.private.Claims.{rank_of}
use Rattle.ml_witness.proofs.holding.holds_by_claims.Goals as goal

pub returns : goal.returns
returns c =
    λ yes.
    let g = c.args.graph.now in
    let rank = c.rank_of.ensures ∙ ap (rank_of g c.args.ranks.now c.args.state) c.root.ensures.value in
    kept_holds g c.args.structure.now c.keeps.ensures.is_graph c.keeps-2.ensures.is_structure c.args.ranks.now
    (c.are_kept.ensures yes) c.args.state g.root c.requires
    (subst (λ n. n < size g) c.root.ensures.value c.root.ensures.is_node) (omega (arith, rank, c.if-rank_of-eq0.false))
