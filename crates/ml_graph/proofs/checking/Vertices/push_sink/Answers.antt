use Rattle.std.proofs.Common.{[], ◌∷◌, refl, ap, ◌∙◌}
use Rattle.ml_graph.specs.Graph.{size}
use Rattle.ml_graph.specs.CheckingGame.{Sink}
use Rattle.ml_graph.proofs.Making.{vertex_more, sink_number}
use Rattle.ml_graph.proofs.checking.Vertices.push_sink.Goals as goal

pub returns : goal.returns
returns c = λ vs has.
    let number = sink_number c.states.result c.size.result c.args.structure.now.states (size c.args.graph.now)
    c.args.priority _ _ c.pair.ensures c.states.ensures.value c.size.ensures.value refl in
    vertex_more c.args.graph.now c.args.structure.now _ _ vs (Sink c.args.priority) _ _ _ has
    c.in_ok-push.ensures.owners c.in_ok-push.ensures.priorities c.in_ok-push.ensures.moves
    refl refl (c.in_ok-vec.ensures.items ∙ ap (λ k. k ∷ []) number)
