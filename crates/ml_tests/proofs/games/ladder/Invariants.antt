-- Each turn adds one.
use Rattle.std.proofs.Common.{◌≡◌, vec_len}
use Rattle.ml_tests.proofs.games.ladder.Given as goal

abbrev pub invariant-loop-v : goal.invariant-loop-v
invariant-loop-v l = vec_len l.all ≡ l.v
