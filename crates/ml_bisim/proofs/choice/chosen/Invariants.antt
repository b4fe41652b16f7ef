use Rattle.std.proofs.Common.{◌≡◌, length}
use Rattle.ml_bisim.specs.private.Rounds.{HasMembers, rows}
use Rattle.ml_bisim.proofs.ChosenStates.{Choosing}
use Rattle.ml_bisim.proofs.choice.chosen.Given as goal

abbrev pub invariant-loop-of : goal.invariant-loop-of
invariant-loop-of l =
    HasMembers l.class (length l.class) (rows l.members)
    × (length l.members ≡ length l.fn.members)
    × Choosing l.class l.is_settled (length l.class) l.fn.states.items l.of-items l.of-index l.chosen.items
