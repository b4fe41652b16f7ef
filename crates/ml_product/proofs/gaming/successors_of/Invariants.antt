use Rattle.std.proofs.Common.{◌≡◌, map, take}
use Rattle.ml_parity.specs.Refusal.{lists_of}
use Rattle.ml_product.specs.private.Recorded.{moves_of}
use Rattle.ml_product.proofs.gaming.successors_of.Given as goal

abbrev pub invariant-loop-turn : goal.invariant-loop-turn
invariant-loop-turn l = lists_of l.all.items ≡ map (moves_of l.size) (take l.turn-index l.turns)
