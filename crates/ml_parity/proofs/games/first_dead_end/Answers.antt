-- A vertex whose vector is not empty is no dead end.
use Rattle.std.proofs.Common.{below_more}
use Rattle.ml_parity.proofs.Refusals.{not_dead}
use Rattle.ml_parity.proofs.games.first_dead_end.Goals as goal

pub loop-v-preserved : goal.loop-v-preserved
loop-v-preserved c =
    below_more _ _ c.loop-v.invariant (not_dead c.args.successors.now c.loop-v.v c.index-successors-v.result
    c.deref.result.now c.is_dead_end.result c.loop-v-test.true c.index-successors-v.is c.deref.ensures.value
    c.is_dead_end.ensures.1 c.if-is_dead_end.false)
