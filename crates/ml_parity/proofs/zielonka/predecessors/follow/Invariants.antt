-- What is written, with the rest of the chain, is what was there with the whole chain.
use Rattle.std.proofs.Common.{ℕ, ◌≡◌, ◌++◌, List}
use Rattle.ml_parity.specs.private.Chains.{IsChain}
use Rattle.ml_parity.proofs.zielonka.predecessors.follow.Given as goal

abbrev pub invariant-loop-at : goal.invariant-loop-at
invariant-loop-at l = (row : List ℕ)
    → IsChain l.arrows l.head row
    → (rest : List ℕ) × IsChain l.arrows l.at rest × (l.sources.items ++ rest ≡ l.initial.sources.items ++ row)

abbrev pub decreases-loop-at : goal.decreases-loop-at
decreases-loop-at l = l.at
