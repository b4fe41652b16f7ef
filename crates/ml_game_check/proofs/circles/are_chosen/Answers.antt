-- One choice more.
use Rattle.std.proofs.Common.{◌<◌, arith, below_more, length, subst}
use Rattle.std.proofs.lemmas.List.{get_or_default}
use Rattle.ml_game_check.proofs.FirstRules.{claimed_low}
use Rattle.ml_game_check.proofs.circles.are_chosen.Goals as goal

pub loop-vertex-preserved : goal.loop-vertex-preserved
loop-vertex-preserved c =
    below_more _ _ c.loop-vertex.invariant (c.if-choices-vertex.false, c.is_chosen.ensures c.if-not-is_chosen.false)

pub returns : goal.returns
returns c = λ t. record {
  within = λ k d below.
      subst (λ x. x < length c.args.choices.now) (get_or_default c.args.choices.now k 0 d below)
      (c.loop-vertex.invariant k (omega (arith, below, c.loop-vertex-test.false))).0;
  ways = λ p v claimed.
      (c.loop-vertex.invariant v
      (omega (arith, claimed_low c.args.claims.now p v claimed, c.requires.places, c.requires.choices, c.loop-vertex-test.false))).1
      p claimed;
}
