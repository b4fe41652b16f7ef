use Rattle.std.proofs.Common.{refl}
use Rattle.ml_make.proofs.Fitted.{machine_more}
use Rattle.ml_make.proofs.fitting.machine_fits.Goals as goal

pub loop-row-preserved : goal.loop-row-preserved
loop-row-preserved c =
    machine_more c.args.inputs c.args.outputs c.args.machine.now c.steps-rows.result.now c.loop-row.row-index
    c.row-item.result c.deref.result.now c.sets.result c.sets-in-loop-row.result c.steps-rows.ensures c.loop-row-test.true
    c.row-item.is c.deref.ensures.value c.sets.ensures c.sets-in-loop-row.ensures c.loop-row.invariant
    (c.if-not-steps_fit.ensures refl)
