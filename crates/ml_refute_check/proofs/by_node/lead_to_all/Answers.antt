use Rattle.std.proofs.Common.{◌∙◌, refl, subst, sym, arith, below_more}
use Rattle.std.proofs.lemmas.Bool.{true≢false}
use Rattle.std.proofs.lemmas.List.{get_or_default}
use Rattle.ml_refute_check.specs.private.Sources.{IsReached}
use Rattle.ml_refute_check.proofs.FoundByNode.{reached_node, unreached_node}
use Rattle.ml_refute_check.proofs.by_node.lead_to_all.Goals as goal

pub returns-then-is_empty : goal.returns-then-is_empty
returns-then-is_empty c = (
  λ h. absurd (true≢false (sym h)),
  λ all. absurd (unreached_node _ _ _ c.traces_to.ensures (sym c.is_empty.ensures ∙ c.if-is_empty.true) (all c.loop-node.node-index 0 c.loop-node-test.true)),
)

pub loop-node-preserved : goal.loop-node-preserved
loop-node-preserved c =
    below_more _ _ c.loop-node.invariant (reached_node _ _ _ c.traces_to.ensures (sym c.is_empty.ensures ∙ c.if-is_empty.false))

pub returns : goal.returns
returns c = (
  λ h k d low. subst (IsReached c.args.traces.now) (get_or_default c.args.nodes.now k 0 d low)
      (c.loop-node.invariant k (omega (arith, c.loop-node-test.false))),
  λ all. refl,
)
