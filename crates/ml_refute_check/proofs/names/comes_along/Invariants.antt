use Rattle.ml_refute_check.specs.private.Sources.{IsSource}
use Rattle.ml_refute_check.proofs.Sources.{NoneBefore}
use Rattle.ml_refute_check.proofs.names.comes_along.Given as goal

abbrev pub invariant-loop-item : goal.invariant-loop-item
invariant-loop-item l =
    NoneBefore (λ item. IsSource l.stacks l.odds l.trace l.name l.progress item l.behind) l.items l.item-index
