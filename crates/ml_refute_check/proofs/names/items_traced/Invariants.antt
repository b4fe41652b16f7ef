use Rattle.ml_refute_check.specs.private.Sources.{IsItemTraced, led}
use Rattle.ml_refute_check.proofs.Sources.{AllBefore}
use Rattle.ml_refute_check.proofs.names.items_traced.Given as goal

abbrev pub invariant-loop-item : goal.invariant-loop-item
invariant-loop-item l = AllBefore (IsItemTraced l.stacks l.odds (led l.next l.traces) l.bound l.green l.items) l.behind l.item-index
