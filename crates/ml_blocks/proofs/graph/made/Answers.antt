use Rattle.std.proofs.Common.{rules, ◌∙◌, ap, arith, length, subst, sym}
use Rattle.ml_text.specs.Names.{Proposition}
use Rattle.ml_text.proofs.Names.{few_added}
use Rattle.ml_ctl.specs.Formula.{occurrences}
use Rattle.ml_ctl.specs.FormulaNames.{names}
use Rattle.ml_ctl.specs.Term.{formula_of}
use Rattle.ml_ctl.proofs.Counting.{few_names}
use Rattle.ml_blocks.specs.private.Occurrences.{lists_of}
use Rattle.ml_blocks.specs.private.Views.{begin_place, start_place}
use Rattle.ml_blocks.specs.Places.{forms}
use Rattle.ml_nodes.specs.ClosureGraph.{IsGraphFrom}
use Rattle.ml_blocks.proofs.GraphMade.{closure_large, graph_listed}
use Rattle.ml_blocks.proofs.graph.made.Goals as goal

pub of-requires-clause-names : goal.of-requires-clause-names
of-requires-clause-names c =
    let f = formula_of c.args.term.now in
    omega (arith, ap length c.in_ok-names.ensures.props, few_added Proposition (names f) (occurrences f) (few_names f), c.requires.few)

pub returns-in_err-draft-clause-too_large : goal.returns-in_err-draft-clause-too_large
returns-in_err-draft-clause-too_large c = λ e.
    let table = c.in_ok-table.table in
    closure_large (formula_of c.args.term.now) c.args.first c.args.positive c.args.beginning c.args.max
    c.in_ok-names.names.props.keys table.occurrences.items (lists_of table.eventualities.items) c.in_ok-names.ensures.props
    c.in_ok-table.ensures.occurrences c.in_ok-table.ensures.eventualities
    (c.in_err-draft.ensures.too_large (search rules))

pub into_graph-requires-clause-is_graph : goal.into_graph-requires-clause-is_graph
into_graph-requires-clause-is_graph c =
    let table = c.in_ok-table.table in
    let lists = c.in_ok-lists.lists in
    let made = c.in_ok-lists.ensures in
    (graph_listed (formula_of c.args.term.now) c.args.first c.args.positive c.args.beginning c.args.max
    c.in_ok-names.names.props.keys table.occurrences.items (lists_of table.eventualities.items) c.in_ok-names.ensures.props
    c.in_ok-table.ensures.occurrences c.in_ok-table.ensures.eventualities c.in_ok-draft.draft.nodes.items
    c.in_ok-draft.draft.priorities.items c.in_ok-draft.ensures.draft lists.nodes.items lists.priorities.items lists.props.items
    lists.actions.items made.nodes made.priorities made.props (made.actions ∙ c.in_ok-names.ensures.actions)).is_graph

pub returns-clause-graph : goal.returns-clause-graph
returns-clause-graph c =
    let f = formula_of c.args.term.now in
    let table = c.in_ok-table.table in
    let lists = c.in_ok-lists.lists in
    let made = c.in_ok-lists.ensures in
    subst (λ g. IsGraphFrom forms g (begin_place c.args.beginning (start_place c.args.first f c.args.positive)))
    (sym c.into_graph.ensures)
    (graph_listed f c.args.first c.args.positive c.args.beginning c.args.max
    c.in_ok-names.names.props.keys table.occurrences.items (lists_of table.eventualities.items) c.in_ok-names.ensures.props
    c.in_ok-table.ensures.occurrences c.in_ok-table.ensures.eventualities c.in_ok-draft.draft.nodes.items
    c.in_ok-draft.draft.priorities.items c.in_ok-draft.ensures.draft lists.nodes.items lists.priorities.items lists.props.items
    lists.actions.items made.nodes made.priorities made.props (made.actions ∙ c.in_ok-names.ensures.actions))
