use Rattle.std.proofs.Common.{◌++◌, [], ◌∷◌, ap, ◌∙◌}
use Rattle.ml_replies.proofs.Taken.{filled}
use Rattle.ml_ask.proofs.sets.for_all.Goals as goal

pub loop-preserved : goal.loop-preserved
loop-preserved c =
    c.in_ok-push.ensures.items ∙ ap (λ bs. bs ++ c.args.taken ∷ []) c.loop.invariant ∙ filled c.loop.counter c.args.taken
