use Rattle.std.proofs.Common.{◌≤◌}
use Rattle.ml_lists.specs.Counting.{count}
use Rattle.ml_search.specs.Found.{has_diamond}
use Rattle.ml_search.proofs.checking_models.diamonds_with.Given as goal

abbrev pub invariant-loop-n : goal.invariant-loop-n
invariant-loop-n l = (l.many ≤ count (has_diamond l.graph l.action) l.n) × (l.many ≤ l.n)
