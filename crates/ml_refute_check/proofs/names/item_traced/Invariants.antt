use Rattle.ml_refute_check.specs.private.Sources.{IsNameTraced, stack_of}
use Rattle.ml_refute_check.proofs.Sources.{AllBefore}
use Rattle.ml_refute_check.proofs.names.item_traced.Given as goal

abbrev pub invariant-loop-name : goal.invariant-loop-name
invariant-loop-name l =
    AllBefore (λ y. IsNameTraced l.stacks l.odds l.traces l.bound l.green l.items y l.behind) (stack_of l.stacks l.behind) l.name-index
