use Rattle.ml_make.proofs.Numbered.{machine_all, machine_met}
use Rattle.ml_make.proofs.numbering.is_machine_numbered.Goals as goal

pub loop-state-preserved : goal.loop-state-preserved
loop-state-preserved c =
    machine_met c.steps-rows.result.now c.args.machine.now c.loop-state.state c.loop-state.met c.in-Some.more
    c.index-rows-state.result c.deref.result.now c.steps-rows.ensures c.loop-state-test.true c.index-rows-state.is
    c.deref.ensures.value c.if-met-state.false c.loop-state.invariant c.in-Some.ensures

pub returns : goal.returns
returns c =
    machine_all c.steps-rows.result.now c.args.machine.now c.loop-state.state c.loop-state.met c.steps-rows.ensures
    c.loop-state-test.false c.loop-state.invariant
