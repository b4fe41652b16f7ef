use Rattle.std.proofs.Common.{◌≡◌, ◌++◌, take}
use Rattle.ml_history.specs.private.Moves.{ends}
use Rattle.ml_history.proofs.tree.moves.push_ends.Given as goal

abbrev pub invariant-loop-t : goal.invariant-loop-t
invariant-loop-t l = l.out.items ≡ l.initial.out.items ++ ends l.accepting (take l.t-index l.transitions)
