use Rattle.std.proofs.Common.{◌≡◌, ap, sym, ◌∙◌, refl, arith}
use Rattle.ml_graph.specs.declared.node.Node.TheVariants as node
use Rattle.ml_graph.specs.Graph.{node_at, size}
use Rattle.ml_graph.specs.CheckingGame.{successors_of, pairs_or_sink}
use Rattle.ml_graph.proofs.References.{prop_in_range, diamond_action, square_action}
use Rattle.ml_graph.proofs.Making.{modal_moves, sink_number}
use Rattle.ml_graph.proofs.checking.moves_from.Goals as goal

pub is_true-requires-clause-prop : goal.is_true-requires-clause-prop
is_true-requires-clause-prop c =
    let is : node_at c.args.graph.now c.args.n ≡ node.Lit c.in-Lit.prop c.in-Lit.positive = cc in
    prop_in_range c.args.graph.now c.size-size.ensures.is_graph c.args.n c.requires.node c.in-Lit.prop c.in-Lit.positive
    is

pub targets-targets-requires-clause-action : goal.targets-targets-requires-clause-action
targets-targets-requires-clause-action c =
    let is : node_at c.args.graph.now c.args.n ≡ node.Diamond c.in-Diamond.action c.in-Diamond.to = cc in
    diamond_action c.args.graph.now c.size-size.ensures.is_graph c.args.n c.requires.node c.in-Diamond.action
    c.in-Diamond.to is

pub targets-targets-requires-in-Square-clause-action : goal.targets-targets-requires-in-Square-clause-action
targets-targets-requires-in-Square-clause-action c =
    let is : node_at c.args.graph.now c.args.n ≡ node.Square c.in-Square.action c.in-Square.to = cc in
    square_action c.args.graph.now c.size-size.ensures.is_graph c.args.n c.requires.node c.in-Square.action
    c.in-Square.to is

pub returns-in-Diamond : goal.returns-in-Diamond
returns-in-Diamond c =
    let is : node_at c.args.graph.now c.args.n ≡ node.Diamond c.in-Diamond.action c.in-Diamond.to = cc in
    let next = ap (successors_of c.args.graph.now c.args.structure.now c.args.state) is
    ∙ ap (pairs_or_sink c.in-Diamond.to 1) (sym c.targets-targets.ensures) in
    modal_moves c.args.graph.now c.args.structure.now c.args.state c.args.n c.in-Diamond.to 1 c.size-size.result _
    c.targets-targets.result.now c.pairs_or_sink.result c.pairs_or_sink.ensures c.size-size.ensures.value
    (sink_number c.states.result c.size-size.result c.args.structure.now.states (size c.args.graph.now) 1
    c.pair-good.result _ c.pair-good.ensures c.states.ensures.value c.size-size.ensures.value refl) next

pub returns-in-Square : goal.returns-in-Square
returns-in-Square c =
    let is : node_at c.args.graph.now c.args.n ≡ node.Square c.in-Square.action c.in-Square.to = cc in
    let next = ap (successors_of c.args.graph.now c.args.structure.now c.args.state) is
    ∙ ap (pairs_or_sink c.in-Square.to 0) (sym c.targets-targets-in-Square.ensures) in
    modal_moves c.args.graph.now c.args.structure.now c.args.state c.args.n c.in-Square.to 0 c.size-size.result _
    c.targets-targets-in-Square.result.now c.pairs_or_sink-in-Square.result c.pairs_or_sink-in-Square.ensures
    c.size-size.ensures.value (sink_number c.states.result c.size-size.result c.args.structure.now.states
    (size c.args.graph.now) 0 c.pair-good.result _ c.pair-good.ensures c.states.ensures.value
    c.size-size.ensures.value (omega arith)) next
