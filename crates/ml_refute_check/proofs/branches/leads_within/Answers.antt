use Rattle.std.proofs.Common.{◌∙◌, refl, subst, sym, arith, below_more}
use Rattle.std.proofs.lemmas.Bool.{true≢false}
use Rattle.std.proofs.lemmas.List.{get_or_default}
use Rattle.ml_lists.specs.Member.{IsMember}
use Rattle.ml_refute_check.proofs.branches.leads_within.Goals as goal

pub returns-then-not-has_number : goal.returns-then-not-has_number
returns-then-not-has_number c = (
  λ h. absurd (true≢false (sym h)),
  λ all. sym c.if-not-has_number.true ∙ c.has_number.ensures.1 (all c.loop-node.node-index 0 c.loop-node-test.true),
)

pub loop-node-preserved : goal.loop-node-preserved
loop-node-preserved c = below_more _ _ c.loop-node.invariant (c.has_number.ensures.0 c.if-not-has_number.false)

pub returns : goal.returns
returns c = (
  λ h k d low. subst (λ n. IsMember n c.args.targets.now) (get_or_default c.args.next.now k 0 d low)
      (c.loop-node.invariant k (omega (arith, c.loop-node-test.false))),
  λ all. refl,
)
