-- The lowest vertex of those that were met.
use Rattle.std.proofs.Common.{◌≡◌, ◌+◌, ◌<◌, length, get_or}
use Rattle.ml_lists.specs.Walk.{walk}
use Rattle.ml_parity.specs.Solution.{choice_at}
use Rattle.ml_game_check.specs.private.Cycles.{IsLowestTo}
use Rattle.ml_game_check.proofs.cycles.lowest_on_cycle.Given as goal

abbrev pub invariant-loop : goal.invariant-loop
invariant-loop l =
    (walk (choice_at l.choices) l.start (length l.choices + l.counter) ≡ l.at)
    × (l.at < length l.choices)
    × (l.lowest < length l.choices)
    × IsLowestTo (choice_at l.choices) (λ v. get_or l.priorities v 0) (length l.choices) l.start l.counter l.lowest
