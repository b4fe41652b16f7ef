use Rattle.std.proofs.Common.{◌≡◌, ◌<◌, ℕ, length, get_or}
use Rattle.ml_history.specs.HistoryStep.{last_name, live}
use Rattle.ml_history.specs.private.Keys.{stack_at}
use Rattle.ml_history.specs.private.Line.{before_last}
use Rattle.ml_history.proofs.flat.places.parents.Given as goal

abbrev pub invariant-loop-i : goal.invariant-loop-i
invariant-loop-i l =
    (length l.parents.items ≡ live l.history)
    × ((j : ℕ) → j < l.i → get_or l.parents.items (last_name (stack_at l.history j)) 0
    ≡ before_last (live l.history) (stack_at l.history j))
