use Rattle.std.proofs.Common.{take, ◌+◌, max, ap, ◌∙◌}
use Rattle.ml_history.specs.private.Forest.{names}
use Rattle.ml_history.specs.HistoryStep.{above}
use Rattle.ml_history.specs.private.Vertices.{joined}
use Rattle.ml_history.proofs.trees.GrowingRows.{above_next}
use Rattle.ml_history.proofs.tree.vertices.+above.Goals as goal

pub loop-vertex-preserved : goal.loop-vertex-preserved
loop-vertex-preserved t c =
    c.max-most.ensures
    ∙ ap (λ n. max c.max.result (n + 1)) c.from.ensures
    ∙ ap (λ n. max n (c.vertex.inside.age + 1))
    (c.max.ensures ∙ ap (λ n. max n c.above-children.result) c.loop-vertex.invariant
    ∙ ap (λ n. max (above (names (joined (take c.loop-vertex.vertex-index c.args.siblings.now)))) n)
    (c.above-children.ensures ∙ ap (λ vs. above (names (joined vs))) c.as_slice.ensures.value))
    ∙ above_next c.args.siblings.now c.loop-vertex.vertex-index c.vertex.inside.age c.vertex.inside.own
    (joined c.vertex.inside.children.items) c.vertex-item.result c.vertex.view_is c.loop-vertex-test.true
    c.vertex-item.is
