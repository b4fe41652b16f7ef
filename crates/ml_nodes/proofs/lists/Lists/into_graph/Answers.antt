use Rattle.std.proofs.Common.{◌≡◌, sym, ◌∙◌, true, false, arith}
use Rattle.ml_nodes.proofs.lists.Lists.into_graph.Goals as goal

pub build-requires-clause-few : goal.build-requires-clause-few
build-requires-clause-few c = omega (arith, c.args.self.nodes.ok.0, c.requires.few)

pub build-requires-clause-priorities : goal.build-requires-clause-priorities
build-requires-clause-priorities c =
    c.args.self.priorities.ok.0 ∙ c.requires.is_graph.priorities ∙ sym c.args.self.nodes.ok.0

pub build-requires-clause-props : goal.build-requires-clause-props
build-requires-clause-props c = c.requires.is_graph.props_differ

pub build-requires-clause-actions : goal.build-requires-clause-actions
build-requires-clause-actions c = c.requires.is_graph.actions_differ

pub unreachable-requires : goal.unreachable-requires
unreachable-requires c = let wrong : false ≡ true = c.in-Err.ensures.accepted.1 c.requires.is_graph in cc
