use Rattle.std.proofs.Common.{◌≡◌, ◌||◌, ℕ, false, length, get_or, take}
use Rattle.ml_trace.specs.Stack.{has}
use Rattle.ml_refute_check.proofs.parts.note.Given as goal

abbrev pub invariant-loop-name : goal.invariant-loop-name
invariant-loop-name l =
    (length l.flags ≡ length l.initial.flags)
    × ((y : ℕ) → get_or l.flags y false ≡ (get_or l.initial.flags y false || has y (take l.name-index l.names)))
