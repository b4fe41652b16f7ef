use Rattle.std.proofs.Common.{◌∙◌, subst}
use Rattle.ml_labelled.specs.private.Fitting.{AreEdges}
use Rattle.ml_labelled.specs.private.Views.{rows_of}
use Rattle.ml_labelled.proofs.ReplacedEdges.{edges_labelled}
use Rattle.ml_labelled.proofs.beside.with_rows.Goals as goal

pub new-requires : goal.new-requires
new-requires c =
    let a = c.args.automaton.now in
    let names = c.in_ok-names.names.items in
    edges_labelled a.props names a.edges (rows_of c.args.rows.items) c.edges-edges.ensures.labelled
    (c.in_ok-names.ensures ∙ c.props.ensures)
    (subst (λ n. AreEdges n (rows_of c.args.rows.items)) (c.len.ensures ∙ c.in_ok-names.names.ok.0)
    (subst (λ xs. AreEdges c.len.result (rows_of xs)) c.deref.ensures.value (c.are_edges.ensures c.if-not-are_edges.false)))
