-- So many choices lead to the vertex.
use Rattle.std.proofs.Common.{◌≡◌, ◌<◌, length}
use Rattle.ml_lists.specs.Walk.{walk}
use Rattle.ml_parity.specs.Solution.{choice_at}
use Rattle.ml_game_check.proofs.cycles.led.Given as goal

abbrev pub invariant-loop : goal.invariant-loop
invariant-loop l = (l.at ≡ walk (choice_at l.choices) l.start l.counter) × (l.at < length l.choices)
