use Rattle.std.proofs.Common.{ℕ, ◌≡◌, ◌<◌, [], get_or}
use Rattle.ml_parity.specs.Refusal.{lists_of}
use Rattle.ml_graph.proofs.at_state.clear.Given as goal

abbrev pub invariant-loop-row : goal.invariant-loop-row
invariant-loop-row l = (k : ℕ) → k < l.row-index → get_or (lists_of l.rows) k [] ≡ []
