-- Each vertex of the list stands before its end.
use Rattle.std.proofs.Common.{arith, below_more, subst}
use Rattle.std.proofs.lemmas.List.{get_or_default}
use Rattle.ml_game_check.specs.RightClaims.{IsClaimed}
use Rattle.ml_game_check.proofs.early.unclaimed.Goals as goal

pub loop-vertex-preserved : goal.loop-vertex-preserved
loop-vertex-preserved c =
    below_more _ _ c.loop-vertex.invariant
    (λ d. subst (IsClaimed c.args.claims.now c.args.player)
    (get_or_default c.args.vertices.now c.loop-vertex.vertex-index 0 d c.loop-vertex-test.true)
    (c.is_claimed.ensures.0 c.if-not-is_claimed.false))

pub returns : goal.returns
returns c = λ w has. subst (IsClaimed c.args.claims.now c.args.player) has.2 (c.loop-vertex.invariant has.0 (omega (arith, has.1)) w)
