use Rattle.std.proofs.Common.{ap, ◌∙◌, ◌++◌}
use Rattle.ml_history.specs.private.Forest.{names}
use Rattle.ml_history.specs.private.Vertices.{joined}
use Rattle.ml_history.proofs.trees.FlagsOfNames.{names_next}
use Rattle.ml_history.proofs.tree.renewal.+push_names.Goals as goal

pub loop-draft-preserved : goal.loop-draft-preserved
loop-draft-preserved t c =
    names_next c.args.siblings.now c.loop-draft.draft-index c.draft.inside.age c.draft.inside.own.items
    (joined c.draft.inside.children.items) c.draft-item.result c.args.all.now.items c.loop-draft.all.items
    c.push_names.new.all.items c.push.new.self.items c.draft.view_is c.loop-draft-test.true c.draft-item.is
    c.loop-draft.invariant
    (c.in_ok-push_names.ensures ∙ ap (λ vs. c.loop-draft.all.items ++ names (joined vs)) c.as_slice.ensures.value)
    c.in_ok-push.ensures.items
