use Rattle.std.proofs.Common.{◌≡◌, length}
use Rattle.ml_mu.specs.VariableFaults.{fault_at}
use Rattle.ml_mu.proofs.variables.first_fault.Given as goal

abbrev pub invariant-loop-standing : goal.invariant-loop-standing
invariant-loop-standing l = fault_at l.fn.standings l.fn.places ≡ fault_at l.standings l.places

abbrev pub decreases-loop-standing : goal.decreases-loop-standing
decreases-loop-standing l = length l.standings
