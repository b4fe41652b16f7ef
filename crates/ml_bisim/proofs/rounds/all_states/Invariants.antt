use Rattle.std.proofs.Common.{ℕ, ◌≡◌, ◌<◌, length, get_or}
use Rattle.ml_bisim.proofs.rounds.all_states.Given as goal

abbrev pub invariant-loop-state : goal.invariant-loop-state
invariant-loop-state l =
    (length l.states.items ≡ l.state) × ((k : ℕ) → k < l.state → get_or l.states.items k 0 ≡ k)
