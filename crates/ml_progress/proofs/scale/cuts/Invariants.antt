-- There is a number for each vertex so far.
use Rattle.std.proofs.Common.{◌≡◌, count_by, leb, map, take}
use Rattle.ml_progress.proofs.scale.cuts.Given as goal

abbrev pub invariant-loop-priority : goal.invariant-loop-priority
invariant-loop-priority l = l.cuts.items ≡ map (λ n. count_by (λ k. leb k n) l.priorities) (take l.priority-index l.vertices)
