use Rattle.std.proofs.Common.{sym, subst}
use Rattle.ml_lists.proofs.Member.{All-member, member-map_from}
use Rattle.ml_lists.proofs.Members.{All-more_read, All-read}
use Rattle.ml_labelled.specs.Labelled.{IsEdge}
use Rattle.ml_labelled.specs.private.Views.{edge_of}
use Rattle.ml_labelled.specs.declared.labelled.CubeEdge.{CubeEdge}
use Rattle.ml_labelled.proofs.fitting.row_fits.Goals as goal

pub loop-edge-preserved : goal.loop-edge-preserved
loop-edge-preserved c =
    All-more_read (λ (x : CubeEdge). IsEdge c.args.states c.args.props (edge_of x)) c.args.row.now c.loop-edge.edge-index
    c.edge-item.result c.loop-edge-test.true c.edge-item.is (c.is_edge.ensures c.if-not-is_edge.false) c.loop-edge.invariant

pub returns : goal.returns
returns c = λ _ e m.
    let row = c.args.row.now in
    let i = member-map_from edge_of e row m in
    let all =
    All-read (λ (x : CubeEdge). IsEdge c.args.states c.args.props (edge_of x)) row c.loop-edge.edge-index
    c.loop-edge-test.false c.loop-edge.invariant in
    subst (IsEdge c.args.states c.args.props) (sym i.holds)
    (All-member (λ (x : CubeEdge). IsEdge c.args.states c.args.props (edge_of x)) row all i.from i.member)
