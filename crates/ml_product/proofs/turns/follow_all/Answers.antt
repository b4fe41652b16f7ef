use Rattle.std.proofs.Common.{get_or, sym, ◌∙◌, subst}
use Rattle.ml_sequent.proofs.StepPremises.{diamond_of}
use Rattle.ml_sequent.specs.Branch.{BranchList}
use Rattle.ml_sequent.specs.Step.{IsDiamondOf}
use Rattle.ml_product.specs.Position.{Follows}
use Rattle.ml_product.specs.View.{viewed}
use Rattle.ml_product.specs.private.Pools.{position_of}
use Rattle.ml_product.proofs.Vertices.{steps_pushed}
use Rattle.ml_product.proofs.turns.follow_all.Goals as goal

pub follow-requires-clause-diamond : goal.follow-requires-clause-diamond
follow-requires-clause-diamond c =
    subst (λ (b : BranchList). IsDiamondOf b.graph b.spread (get_or c.args.diamonds.now c.loop-diamond.diamond-index 0))
    (sym c.loop-diamond.invariant.0)
    (diamond_of c.args.branch.now.graph c.args.branch.now.spread c.args.diamonds.now c.loop-diamond.diamond-index 0
    c.requires.diamonds c.loop-diamond-test.true)

pub loop-diamond-preserved : goal.loop-diamond-preserved
loop-diamond-preserved c = (
  c.in_ok-follow.ensures.same ∙ c.loop-diamond.invariant.0,
  steps_pushed c.args.branch.now.graph (viewed c.args.view) c.args.branch.now.spread c.args.diamonds.now
      c.loop-diamond.diamond-index
      c.loop-diamond.made.items c.push.new.self.items c.in_ok-follow.field-0 c.loop-diamond-test.true
      c.in_ok-push.ensures.items c.loop-diamond.invariant.1
      (subst (λ (b : BranchList). Follows b.graph (viewed c.args.view) b.spread
      (get_or c.args.diamonds.now c.loop-diamond.diamond-index 0) (position_of c.in_ok-follow.field-0))
      c.loop-diamond.invariant.0 c.in_ok-follow.ensures.follows),
)
