use Rattle.std.proofs.Common.{sym, subst, ◌≤◌, arith}
use Rattle.ml_ctl.specs.Formula.{occurrences}
use Rattle.ml_ctl.specs.Term.{formula_of}
use Rattle.ml_word_graph.specs.WordGraph.{IsGraphOf}
use Rattle.ml_word_graph.proofs.Agreement.{graphs_agree}
use Rattle.ml_word_graph.proofs.Made.{few_nodes, graph_made}
use Rattle.ml_word_graph.proofs.graph.graph_of.Goals as goal

pub into_graph-requires-clause-few : goal.into_graph-requires-clause-few
into_graph-requires-clause-few c =
    let lists = c.in_ok-lists.lists in
    let f = formula_of c.root.result.now in
    let small = subst (λ f. occurrences f ≤ 1000) (sym c.root.ensures.tree) c.root.ensures.well_formed.is_small in
    omega
    (arith, few_nodes f c.args.negated lists.props.items lists.nodes.items lists.priorities.items c.in_ok-lists.ensures.trimmed, small)

pub into_graph-requires-clause-is_graph : goal.into_graph-requires-clause-is_graph
into_graph-requires-clause-is_graph c =
    let lists = c.in_ok-lists.lists in
    let made = c.in_ok-lists.ensures in
    (graph_made (formula_of c.root.result.now) c.args.negated lists.props.items lists.actions.items lists.nodes.items
    lists.priorities.items made.props made.actions made.trimmed).is_graph

pub returns-clause-graph : goal.returns-clause-graph
returns-clause-graph c =
    let lists = c.in_ok-lists.lists in
    let made = c.in_ok-lists.ensures in
    let f = formula_of c.root.result.now in
    let is =
    graph_made f c.args.negated lists.props.items lists.actions.items lists.nodes.items lists.priorities.items made.props
    made.actions made.trimmed in
    subst (λ h. IsGraphOf c.into_graph.result h c.args.negated) c.root.ensures.tree
    (subst (λ g. IsGraphOf g f c.args.negated) (sym c.into_graph.ensures) is)

pub returns-clause-agrees : goal.returns-clause-agrees
returns-clause-agrees c =
    let lists = c.in_ok-lists.lists in
    let made = c.in_ok-lists.ensures in
    let f = formula_of c.root.result.now in
    let is =
    graph_made f c.args.negated lists.props.items lists.actions.items lists.nodes.items lists.priorities.items made.props
    made.actions made.trimmed in
    graphs_agree c.args.formula.now c.args.negated c.into_graph.result c.root.ensures.well_formed.is_of_logic
    (subst (λ h. IsGraphOf c.into_graph.result h c.args.negated) c.root.ensures.tree
    (subst (λ g. IsGraphOf g f c.args.negated) (sym c.into_graph.ensures) is))
