-- The rows have the largest counts for the even priorities so far.
use Rattle.ml_parity.specs.private.HeightSteps.{AreLongestBelow}
use Rattle.ml_parity.specs.Refusal.{lists_of}
use Rattle.ml_parity.proofs.one_sided.search.heights.Given as goal

abbrev pub invariant-loop-half : goal.invariant-loop-half
invariant-loop-half l = AreLongestBelow l.graph l.half (lists_of l.rows.items)
