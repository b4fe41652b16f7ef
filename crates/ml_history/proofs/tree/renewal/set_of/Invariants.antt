use Rattle.std.proofs.Common.{◌≡◌, take}
use Rattle.ml_lists.specs.Ascending.{ascending}
use Rattle.ml_history.proofs.tree.renewal.set_of.Given as goal

abbrev pub invariant-loop-state : goal.invariant-loop-state
invariant-loop-state l = l.set ≡ ascending (take l.state-index l.state-items)
