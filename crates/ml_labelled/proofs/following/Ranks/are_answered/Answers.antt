use Rattle.std.proofs.Common.{map, sym, subst}
use Rattle.ml_lists.proofs.Member.{All-member, member-map_from}
use Rattle.ml_lists.proofs.Members.{All-more_read, All-read}
use Rattle.ml_labelled.specs.Labelled.{Edge}
use Rattle.ml_labelled.specs.private.Following.{Answered}
use Rattle.ml_labelled.specs.private.Views.{edge_of}
use Rattle.ml_labelled.specs.declared.labelled.CubeEdge.{CubeEdge}
use Rattle.ml_labelled.proofs.following.Ranks.are_answered.Goals as goal

pub loop-edge-preserved : goal.loop-edge-preserved
loop-edge-preserved c =
    All-more_read (λ (x : CubeEdge). Answered c.args.self.now c.args.rank (edge_of x) (map edge_of c.args.others.now))
    c.args.edges.now c.loop-edge.edge-index c.edge-item.result c.loop-edge-test.true c.edge-item.is
    (c.is_answered.ensures c.if-not-is_answered.false) c.loop-edge.invariant

pub returns : goal.returns
returns c = λ _ e m.
    let edges = c.args.edges.now in
    let i = member-map_from edge_of e edges m in
    let all =
    All-read (λ (x : CubeEdge). Answered c.args.self.now c.args.rank (edge_of x) (map edge_of c.args.others.now)) edges
    c.loop-edge.edge-index c.loop-edge-test.false c.loop-edge.invariant in
    subst (λ (f : Edge). Answered c.args.self.now c.args.rank f (map edge_of c.args.others.now)) (sym i.holds)
    (All-member (λ (x : CubeEdge). Answered c.args.self.now c.args.rank (edge_of x) (map edge_of c.args.others.now)) edges all
    i.from i.member)
