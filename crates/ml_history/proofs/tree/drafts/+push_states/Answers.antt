use Rattle.std.proofs.Common.{ap, ◌∙◌, ◌++◌}
use Rattle.ml_history.specs.private.Forest.{states}
use Rattle.ml_history.specs.private.Vertices.{joined}
use Rattle.ml_history.proofs.trees.RowsOfVertices.{states_next}
use Rattle.ml_history.proofs.tree.drafts.+push_states.Goals as goal

pub loop-draft-preserved : goal.loop-draft-preserved
loop-draft-preserved t c =
    states_next c.args.siblings.now c.loop-draft.draft-index c.draft.inside.age c.draft.inside.own.items
    (joined c.draft.inside.children.items) c.draft-item.result c.args.all.now.items c.loop-draft.all.items
    c.push_states.new.all.items c.extend_from_slice.new.self.items c.draft.view_is c.loop-draft-test.true
    c.draft-item.is
    c.loop-draft.invariant
    (c.in_ok-push_states.ensures ∙ ap (λ vs. c.loop-draft.all.items ++ states (joined vs)) c.as_slice.ensures.value)
    (c.in_ok-extend_from_slice.ensures.items
    ∙ ap (λ l. c.push_states.new.all.items ++ l) c.as_slice-in-loop-draft.ensures.value)
