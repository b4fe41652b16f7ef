use Rattle.std.proofs.Common.{length, ap, sym, subst, ◌≤◌, arith}
use Rattle.ml_mu.specs.Formula.{occurrences}
use Rattle.ml_mu.specs.Term.{formula_of}
use Rattle.ml_mu_graph.specs.private.Views.{none_around}
use Rattle.ml_mu_graph.proofs.Agreement.{graphs_agree}
use Rattle.ml_mu_graph.proofs.InRange.{lists_make_graph}
use Rattle.ml_mu_graph.proofs.Made.{graph_made}
use Rattle.ml_mu_graph.proofs.NodeLists.{length-nodes}
use Rattle.ml_mu_graph.proofs.graph.graph_of.Goals as goal

pub into_graph-requires-clause-few : goal.into_graph-requires-clause-few
into_graph-requires-clause-few c =
    let lists = c.in_ok-lists.lists in
    let f = formula_of c.root.result.now in
    let small = subst (λ f. occurrences f ≤ 1000) (sym c.root.ensures.tree) c.root.ensures.well_formed.is_small in
    let size = length-nodes lists.props.items lists.actions.items none_around 0 f in
    omega (arith, ap length c.in_ok-lists.ensures.nodes, size, small)

pub into_graph-requires-clause-is_graph : goal.into_graph-requires-clause-is_graph
into_graph-requires-clause-is_graph c =
    let made = c.in_ok-lists.ensures in
    lists_make_graph _ _ _ made.props made.actions made.nodes made.priorities c.root_of.ensures

pub returns-clause-graph : goal.returns-clause-graph
returns-clause-graph c =
    let made = c.in_ok-lists.ensures in
    graph_made c.into_graph.ensures c.root.ensures.tree made.props made.actions made.nodes made.priorities
    c.root_of.ensures

pub returns-clause-agrees : goal.returns-clause-agrees
returns-clause-agrees c =
    let made = c.in_ok-lists.ensures in
    let whole = c.root.ensures.well_formed in
    graphs_agree c.args.formula.now c.args.negated c.into_graph.result whole.variables_are_bound
    whole.variables_are_positive
    (graph_made c.into_graph.ensures c.root.ensures.tree made.props made.actions made.nodes made.priorities
    c.root_of.ensures)
