use Rattle.std.proofs.Common.{◌≡◌, ◌+◌, ℕ, length, get_or}
use Rattle.ml_history.specs.private.Line.{line, Links, parent_in}
use Rattle.ml_history.proofs.flat.places.links.Given as goal

abbrev pub invariant-loop-name : goal.invariant-loop-name
invariant-loop-name l =
    (length l.next.items ≡ length l.parents + 1)
    × Links (λ (v : ℕ). get_or l.next.items v 0) (line (parent_in l.parents) (length l.parents) l.name)
