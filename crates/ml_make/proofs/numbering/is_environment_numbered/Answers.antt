use Rattle.ml_make.proofs.Numbered.{environment_all, environment_met}
use Rattle.ml_make.proofs.numbering.is_environment_numbered.Goals as goal

pub loop-state-preserved : goal.loop-state-preserved
loop-state-preserved c =
    environment_met c.next-rows.result.now c.args.environment.now.next c.loop-state.state c.loop-state.met c.in-Some.more
    c.index-rows-state.result c.deref.result.now c.next-rows.ensures c.loop-state-test.true c.index-rows-state.is
    c.deref.ensures.value c.if-met-state.false c.loop-state.invariant c.in-Some.ensures

pub returns : goal.returns
returns c =
    environment_all c.next-rows.result.now c.args.environment.now.next c.loop-state.state c.loop-state.met c.next-rows.ensures
    c.loop-state-test.false c.loop-state.invariant
