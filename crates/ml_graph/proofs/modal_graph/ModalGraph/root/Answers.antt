use Rattle.std.proofs.Common.{◌<◌, subst}
use Rattle.ml_graph.specs.Graph.{Graph, size}
use Rattle.ml_graph.proofs.References.{root_in_range}
use Rattle.ml_graph.proofs.modal_graph.ModalGraph.root.Goals as goal

pub returns-clause-is_node : goal.returns-clause-is_node
returns-clause-is_node c =
    let low = root_in_range _ c.self.invariant.0 in
    subst (λ (g : Graph). c.self.inside.root < size g) c.self.view_is low
