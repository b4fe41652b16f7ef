use Rattle.std.proofs.Common.{◌≡◌, take, map}
use Rattle.ml_product.specs.DecisionGame.{AreSteps}
use Rattle.ml_product.specs.View.{viewed}
use Rattle.ml_product.specs.private.Exploring.{target_of}
use Rattle.ml_product.proofs.turns.follow_all.Given as goal

abbrev pub invariant-loop-diamond : goal.invariant-loop-diamond
invariant-loop-diamond l = (l.branch ≡ l.fn.branch)
    × AreSteps l.fn.branch.graph (viewed l.view) l.fn.branch.spread (take l.diamond-index l.diamonds)
    (map target_of l.made.items)
