use Rattle.ml_make.proofs.Numbered.{step_more}
use Rattle.ml_make.proofs.numbering.met_with_steps.Goals as goal

pub loop-step-preserved : goal.loop-step-preserved
loop-step-preserved c =
    step_more c.args.met c.loop-step.more c.in_ok-more.more c.args.steps.now c.loop-step.step-index
    (record { give = 0; next = 0 }) c.loop-step-test.true c.loop-step.invariant c.in_ok-more.ensures
