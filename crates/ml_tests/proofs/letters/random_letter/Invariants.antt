-- Each turn adds one.
use Rattle.std.proofs.Common.{◌≡◌, vec_len}
use Rattle.ml_tests.proofs.letters.random_letter.Given as goal

abbrev pub invariant-loop : goal.invariant-loop
invariant-loop l = vec_len l.all ≡ l.counter
