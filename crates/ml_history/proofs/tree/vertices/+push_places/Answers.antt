use Rattle.std.proofs.Common.{ap, ◌∙◌, map, ◌++◌, ◌∷◌, []}
use Rattle.ml_history.specs.private.Forest.{places, lies_at}
use Rattle.ml_history.specs.Stacks.{stacked}
use Rattle.ml_history.specs.private.TreeWalks.{behind}
use Rattle.ml_history.specs.private.Vertices.{joined}
use Rattle.ml_history.proofs.trees.GrowingRows.{places_next}
use Rattle.ml_history.proofs.tree.vertices.+push_places.Goals as goal

pub loop-vertex-preserved : goal.loop-vertex-preserved
loop-vertex-preserved t c =
    let before = map stacked c.loop-vertex.stacks.items in
    let between = map stacked c.push_places.new.stacks.items in
    places_next c.args.path.now c.push.new.self.items c.args.siblings.now c.loop-vertex.vertex-index c.vertex.inside.age
    c.vertex.inside.own (joined c.vertex.inside.children.items) c.vertex-item.result
    (map stacked c.args.stacks.now.items) before between (map stacked c.push_own.new.stacks.items) c.vertex.view_is
    c.loop-vertex-test.true c.vertex-item.is
    (c.in_ok-push.ensures.items ∙ ap (λ l. l ++ c.vertex.inside.age ∷ []) c.in_ok-stack.ensures.items)
    c.loop-vertex.invariant
    (c.in_ok-push_places.ensures ∙ ap (λ l. before ++ map (behind l) (places (joined c.as_slice.result.now)))
    c.as_slice-in-loop-vertex.ensures.value
    ∙ ap (λ vs. before ++ map (behind c.push.new.self.items) (places (joined vs))) c.as_slice.ensures.value)
    (c.in_ok-push_own.ensures ∙ ap (λ l. between ++ map (lies_at l) c.vertex.inside.own)
    c.as_slice-in-loop-vertex-2.ensures.value)
