use Rattle.std.proofs.Common.{ℕ, ◌<◌, get_or}
use Rattle.ml_sequent.specs.Spread.{IsOpenNode}
use Rattle.ml_sequent.proofs.questions.open_or.Given as goal

abbrev pub invariant-loop-node : goal.invariant-loop-node
invariant-loop-node l = (k : ℕ) → k < l.node-index → IsOpenNode l.graph l.spread.choice (get_or l.spread.nodes k 0) → ⊥
