use Rattle.ml_lists.specs.Member.{IsMember}
use Rattle.ml_refutation.specs.declared.refutation.Item.{Item}
use Rattle.ml_refute_check.proofs.Sources.{AllBefore}
use Rattle.ml_refute_check.proofs.parts.stand_among.Given as goal

abbrev pub invariant-loop-item : goal.invariant-loop-item
invariant-loop-item l = AllBefore (λ (a : Item). IsMember a.node l.nodes) l.items l.item-index
