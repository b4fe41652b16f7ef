use Rattle.std.proofs.Common.{◌≡◌, ◌+◌, ◌-◌, ◌<◌, ℕ, length, get_or}
use Rattle.ml_history.specs.private.Line.{line, parent_in}
use Rattle.ml_history.proofs.flat.places.places_along.Given as goal

abbrev pub invariant-loop-k : goal.invariant-loop-k
invariant-loop-k l =
    (length l.places.items ≡ length l.parents)
    × (l.name ≡ get_or (line (parent_in l.parents) (length l.parents) (length l.parents)) l.k 0)
    × ((j : ℕ) → j < l.k → get_or l.places.items
    (get_or (line (parent_in l.parents) (length l.parents) (length l.parents)) (j + 1) 0) 0
    ≡ length l.parents - 1 - j)
