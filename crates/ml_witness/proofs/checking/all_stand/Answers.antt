use Rattle.std.proofs.Common.{below_more, refl}
use Rattle.ml_witness.specs.private.Claims.{AllStandAt}
use Rattle.ml_witness.proofs.checking.all_stand.Goals as goal

pub loop-state-preserved : goal.loop-state-preserved
loop-state-preserved c =
    below_more (AllStandAt c.args.graph.now c.args.structure.now c.args.ranks.now) c.loop-state.state
    c.loop-state.invariant (c.if-not-all_stand_at.ensures refl)
