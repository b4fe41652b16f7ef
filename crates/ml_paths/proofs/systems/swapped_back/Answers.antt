use Rattle.std.proofs.Common.{◌∷◌, ◌++◌, ◌∙◌, [], sym}
use Rattle.ml_paths.proofs.Moves.{back_more}
use Rattle.ml_paths.proofs.systems.swapped_back.Goals as goal

pub loop-state-preserved : goal.loop-state-preserved
loop-state-preserved c =
    c.in_ok-push.ensures.items
    ∙ (λ j. c.loop-state.invariant j ++ c.swapped.ensures j ∷ [])
    ∙ sym (back_more c.args.start c.args.states.now c.loop-state.state-index c.loop-state-test.true)
