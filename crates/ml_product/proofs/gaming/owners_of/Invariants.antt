use Rattle.std.proofs.Common.{◌≡◌, map, take}
use Rattle.ml_product.specs.private.Recorded.{owner_of}
use Rattle.ml_product.proofs.gaming.owners_of.Given as goal

abbrev pub invariant-loop-turn : goal.invariant-loop-turn
invariant-loop-turn l = l.all.items ≡ map owner_of (take l.turn-index l.turns)
