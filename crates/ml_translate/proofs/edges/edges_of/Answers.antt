use Rattle.std.proofs.Common.{◌<◌, length, sym, ap, ◌∙◌, subst}
use Rattle.ml_graph.specs.Graph.{size}
use Rattle.ml_labelled.specs.private.Views.{rows_of}
use Rattle.ml_translate.specs.private.Finding.{HaveEdges}
use Rattle.ml_translate.proofs.edges.edges_of.Goals as goal

pub put_all-requires-clause-fit : goal.put_all-requires-clause-fit
put_all-requires-clause-fit c = λ s m.
    let fit = c.requires s m in (
      subst (λ g. s.node < size g) (sym c.graph-graph.ensures.value) fit.0,
      subst (λ n. s.state < n) (sym (c.in_ok-rows.ensures.rows ∙ ap length c.states.ensures.value)) fit.1,
    )

pub returns-clause-edges : goal.returns-clause-edges
returns-clause-edges c =
    let g = c.args.automaton.now.graph in
    let keys = c.args.places.keys in
    let rows = rows_of c.put_all.new.rows.items in
    record {
      numbers = c.in_ok-numbers.numbers.items;
      are_numbers = c.in_ok-numbers.ensures;
      have_edges =
          subst (λ ns. HaveEdges g ns keys rows) c.deref.ensures.value
          (subst (λ h. HaveEdges h c.deref.result.now keys rows) c.graph-graph.ensures.value c.in_ok-put_all.ensures.edges);
    }
