use Rattle.std.proofs.Common.{◌≡◌, take}
use Rattle.ml_history.specs.private.TreeStep.{news, with_all, seen_by}
use Rattle.ml_history.proofs.tree.walk.first_of.Given as goal

abbrev pub invariant-loop-state : goal.invariant-loop-state
invariant-loop-state l =
    (l.found.items ≡ news (seen_by l.initial.seen) (take l.state-index l.states))
    × (seen_by l.seen ≡ with_all (take l.state-index l.states) (seen_by l.initial.seen))
