-- One vertex more.
use Rattle.std.proofs.Common.{arith, below_more}
use Rattle.ml_game_check.proofs.FirstRules.{claimed_low}
use Rattle.ml_game_check.proofs.sorted.all_sorted.Goals as goal

pub loop-vertex-preserved : goal.loop-vertex-preserved
loop-vertex-preserved c =
    below_more _ _ c.loop-vertex.invariant (c.is_sorted_at.ensures c.if-not-is_sorted_at.false)

pub returns : goal.returns
returns c = λ t p v claimed.
    c.loop-vertex.invariant v (omega (arith, claimed_low c.args.claims.now p v claimed, c.loop-vertex-test.false)) p claimed
