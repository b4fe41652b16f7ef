use Rattle.std.proofs.Common.{◌≡◌, ◌++◌, map, take}
use Rattle.ml_bisim.proofs.merging.push_labels.Given as goal

abbrev pub invariant-loop-name : goal.invariant-loop-name
invariant-loop-name l = l.labels.items ≡ l.initial.labels.items ++ map (λ p. (l.class, p)) (take l.name-index l.names)
