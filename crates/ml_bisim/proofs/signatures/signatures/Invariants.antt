use Rattle.std.proofs.Common.{get_or}
use Rattle.ml_bisim.specs.private.Signatures.{IsSignature}
use Rattle.ml_bisim.proofs.Signed.{Signed}
use Rattle.ml_bisim.proofs.signatures.signatures.Given as goal

abbrev pub invariant-loop-state : goal.invariant-loop-state
invariant-loop-state l =
    Signed (λ i k. IsSignature l.structure.edges l.edges.actions.items l.class (get_or l.states i 0) k) l.state-index
    l.signatures.items
