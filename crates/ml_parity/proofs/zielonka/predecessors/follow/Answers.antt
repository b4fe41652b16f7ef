-- One move more is written, and in the end the whole chain is.
use Rattle.std.proofs.Common.{arith, ◌++◌}
use Rattle.ml_parity.proofs.ChainsOfMoves.{followed_more, followed_all}
use Rattle.ml_parity.proofs.zielonka.predecessors.follow.Goals as goal

pub loop-at-preserved : goal.loop-at-preserved
loop-at-preserved c = λ row chain.
    followed_more c.args.arrows.now c.loop-at.at c.loop-at.sources.items c.push.new.self.items
    (c.args.sources.now.items ++ row) _ (omega (arith, c.loop-at-test.true)) c.in_ok-push.ensures.items
    (c.loop-at.invariant row chain)

pub returns : goal.returns
returns c = λ row chain.
    followed_all c.args.arrows.now c.loop-at.at c.loop-at.sources.items (c.args.sources.now.items ++ row)
    (omega (arith, c.loop-at-test.false)) (c.loop-at.invariant row chain)
