-- The numbers are attained; so far some was raised, or all are as they were.
use Rattle.ml_parity.specs.private.HeightSteps.{AreAttained, IsPass}
use Rattle.ml_parity.proofs.HeightRaises.{so_far}
use Rattle.ml_parity.proofs.one_sided.search.raise_in_order.Given as goal

abbrev pub invariant-loop-k : goal.invariant-loop-k
invariant-loop-k l = record {
  attained : AreAttained l.graph l.priority l.numbers;
  pass : IsPass l.graph l.priority l.initial.numbers l.numbers 0 (so_far l.raised);
}
