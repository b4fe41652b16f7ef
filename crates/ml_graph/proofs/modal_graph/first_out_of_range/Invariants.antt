use Rattle.std.proofs.Common.{◌≡◌, ◌++◌, [], ◌∷◌, drop}
use Rattle.std.specs.List.{flat_map}
use Rattle.ml_graph.specs.Graph.{references_of, references_from}
use Rattle.ml_graph.specs.Building.{first_bad}
use Rattle.ml_graph.proofs.modal_graph.first_out_of_range.Given as goal

abbrev pub invariant-loop-node : goal.invariant-loop-node
invariant-loop-node l =
    first_bad (references_from l.nodes l.root l.props l.actions)
    ≡ first_bad (flat_map (references_of l.size l.props l.actions)
    (drop l.node-index l.nodes) ++ record { number = l.root; bound = l.size } ∷ [])
