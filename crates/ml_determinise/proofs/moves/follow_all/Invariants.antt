use Rattle.std.proofs.Common.{take}
use Rattle.ml_determinise.specs.private.Walk.{history_at, IsPartway}
use Rattle.ml_determinise.proofs.moves.follow_all.Given as goal

abbrev pub invariant-loop-letter : goal.invariant-loop-letter
invariant-loop-letter l =
    IsPartway l.states l.limit l.fn.histories.keys (history_at l.fn.histories.keys l.v) (take l.letter-index l.letters)
    l.histories.keys l.moves.items
