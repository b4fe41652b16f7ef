-- The numbers are attained; so far some was raised, or none was to be raised.
use Rattle.ml_parity.specs.private.HeightSteps.{AreAttained, IsPass}
use Rattle.ml_parity.proofs.HeightRaises.{so_far}
use Rattle.ml_parity.proofs.one_sided.search.raise_all.Given as goal

abbrev pub invariant-loop-arc : goal.invariant-loop-arc
invariant-loop-arc l = record {
  attained : AreAttained l.graph l.priority l.numbers;
  pass : IsPass l.graph l.priority l.fn.numbers l.numbers l.arc-index (so_far l.raised);
}
