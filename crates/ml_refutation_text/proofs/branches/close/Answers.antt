use Rattle.std.proofs.Common.{◌∷◌, [], ◌++◌, refl, ap, ◌∙◌, arith}
use Rattle.ml_refutation.specs.Views.{decision_of}
use Rattle.ml_refutation_text.proofs.ClosedBranches.{closes_begin, closes_right, closes_left, closes_whole}
use Rattle.ml_refutation_text.proofs.branches.close.Goals as goal

pub loop-split-init : goal.loop-split-init
loop-split-init c = closes_begin _ _

pub loop-split-preserved : goal.loop-split-preserved
loop-split-preserved c =
    let rest = c.pop.new.self.items in
    closes_right c.loop-split.around.items c.args.around.now.items (decision_of c.loop-split.decision) (decision_of c.args.leaf)
    c.loop-split.invariant rest c.in-InRight.node c.in-InRight.left (decision_of c.in_ok-decision-in-InRight.decision)
    (c.in-Some.ensures.items ∙ ap (λ a. rest ++ a ∷ []) c.in-InRight.is) c.in_ok-decision-in-InRight.ensures

pub returns-in-InLeft : goal.returns-in-InLeft
returns-in-InLeft c =
    let rest = c.pop.new.self.items in
    closes_left c.loop-split.around.items c.args.around.now.items (decision_of c.loop-split.decision) (decision_of c.args.leaf)
    c.loop-split.invariant rest c.push.new.self.items c.in-InLeft.node c.loop-split.decision
    (c.in-Some.ensures.items ∙ ap (λ a. rest ++ a ∷ []) c.in-InLeft.is) c.in_ok-push-in-InLeft.ensures.items refl

pub returns : goal.returns
returns c =
    closes_whole c.loop-split.around.items c.args.around.now.items (decision_of c.loop-split.decision) (decision_of c.args.leaf)
    c.loop-split.invariant c.pop.new.self.items c.loop-split.decision (omega (arith, c.in_default.ensures.cases.0))
    (omega (arith, c.in_default.ensures.cases.1)) refl
