use Rattle.std.proofs.Common.{◌≡◌, map, take}
use Rattle.ml_product.specs.declared.stored.Stored.{Stored}
use Rattle.ml_product.proofs.gaming.priorities_of.Given as goal

abbrev pub invariant-loop-position : goal.invariant-loop-position
invariant-loop-position l = l.all.items ≡ map (λ (x : Stored). x.priority) (take l.position-index l.positions)
