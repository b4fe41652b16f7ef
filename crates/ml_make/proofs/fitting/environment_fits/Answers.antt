use Rattle.std.proofs.Common.{refl}
use Rattle.ml_make.proofs.Fitted.{environment_more}
use Rattle.ml_make.proofs.fitting.environment_fits.Goals as goal

pub loop-row-preserved : goal.loop-row-preserved
loop-row-preserved c =
    environment_more c.args.outputs c.args.environment.now c.next-rows.result.now c.plays-plays.result.now
    c.loop-row.row-index c.row-item.result c.deref.result.now c.sets.result c.next-rows.ensures c.plays-plays.ensures
    c.loop-row-test.true c.row-item.is c.deref.ensures.value c.sets.ensures c.loop-row.invariant
    (c.if-not-nexts_fit.ensures refl)
