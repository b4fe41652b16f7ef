-- One vertex more.
use Rattle.std.proofs.Common.{arith, below_more}
use Rattle.ml_tangles.proofs.solving.is_filled.Goals as goal

pub loop-vertex-preserved : goal.loop-vertex-preserved
loop-vertex-preserved c =
    below_more _ _ c.loop-vertex.invariant (c.is_filled_at.ensures c.if-not-is_filled_at.false)

pub returns : goal.returns
returns c = λ t v low. c.loop-vertex.invariant v (omega (arith, low, c.requires.winner, c.loop-vertex-test.false))
