use Rattle.std.proofs.Common.{◌≡◌, ℕ, ◌<◌, true, false, get_or}
use Rattle.ml_refute_check.proofs.parts.set_front.Given as goal

abbrev pub invariant-loop-k : goal.invariant-loop-k
invariant-loop-k l = (l.set ≡ l.k) × ((y : ℕ) → y < l.k → get_or l.flags y false ≡ true)
