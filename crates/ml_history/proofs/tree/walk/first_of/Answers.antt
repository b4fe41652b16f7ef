use Rattle.ml_history.specs.private.TreeStep.{seen_by}
use Rattle.ml_history.proofs.trees.SeenStates.{news_next, seen_next}
use Rattle.ml_history.proofs.tree.walk.first_of.Goals as goal

pub loop-state-preserved : goal.loop-state-preserved
loop-state-preserved c = (
  news_next (seen_by c.args.seen.now) c.args.states.now c.loop-state.state-index (seen_by c.loop-state.seen)
      c.loop-state.found.items c.push_new.new.states.items c.loop-state-test.true c.loop-state.invariant.0
      c.loop-state.invariant.1 c.in_ok-push_new.ensures.states,
  seen_next (seen_by c.args.seen.now) c.args.states.now c.loop-state.state-index (seen_by c.loop-state.seen)
      (seen_by c.push_new.new.seen) c.loop-state-test.true c.loop-state.invariant.1 c.in_ok-push_new.ensures.seen,
)
