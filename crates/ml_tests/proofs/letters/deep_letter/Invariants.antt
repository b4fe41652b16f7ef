-- Each turn adds two, and the last one adds one.
use Rattle.std.proofs.Common.{◌≡◌, ◌+◌, ◌-◌, min, vec_len}
use Rattle.ml_tests.proofs.letters.deep_letter.Given as goal

abbrev pub invariant-loop-state : goal.invariant-loop-state
invariant-loop-state l = vec_len l.all ≡ l.state + min l.state (l.fn.states - 1)
