use Rattle.std.proofs.Common.{List, ℕ, length, map, subst, sym}
use Rattle.std.proofs.lemmas.List.{length-map}
use Rattle.ml_lists.specs.Member.{IsMember}
use Rattle.ml_labelled.specs.Labelled.{Edge, IsEdge}
use Rattle.ml_labelled.specs.declared.labelled.CubeEdge.{CubeEdge}
use Rattle.ml_labelled.specs.private.Views.{edge_of, edges_in}
use Rattle.ml_labelled.proofs.FollowedAutomata.{rows_all, rows_more}
use Rattle.ml_labelled.proofs.fitting.rows_fit.Goals as goal

pub loop-row-preserved : goal.loop-row-preserved
loop-row-preserved c =
    rows_more (λ (k : ℕ) (es : List Edge). (e : Edge) → IsMember e es → IsEdge (length c.args.rows.now) c.args.props e)
    c.args.rows.now c.loop-row.row-index c.row-item.result c.loop-row-test.true c.row-item.is
    (subst (λ (es : List CubeEdge). (e : Edge) → IsMember e (map edge_of es) → IsEdge (length c.args.rows.now) c.args.props e)
    c.deref.ensures.value (c.row_fits.ensures c.if-not-row_fits.false))
    c.loop-row.invariant

pub returns : goal.returns
returns c = λ _ k low e m.
    subst (λ n. IsEdge n c.args.props e) (sym (length-map c.args.rows.now edges_in))
    (rows_all (λ (k : ℕ) (es : List Edge). (e : Edge) → IsMember e es → IsEdge (length c.args.rows.now) c.args.props e)
    c.args.rows.now c.loop-row.row-index c.loop-row-test.false c.loop-row.invariant k low e m)
