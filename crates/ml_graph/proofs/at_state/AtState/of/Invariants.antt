use Rattle.std.proofs.Common.{◌≡◌, length}
use Rattle.ml_graph.proofs.at_state.AtState.of.Given as goal

abbrev pub invariant-loop : goal.invariant-loop
invariant-loop l = length l.targets.items ≡ l.counter
