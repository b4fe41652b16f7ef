use Rattle.std.proofs.Common.{ℕ, ◌<◌}
use Rattle.ml_witness.specs.private.Claims.{AllStandAt}
use Rattle.ml_witness.proofs.checking.all_stand.Given as goal

abbrev pub invariant-loop-state : goal.invariant-loop-state
invariant-loop-state l = (s : ℕ) → s < l.state → AllStandAt l.graph l.structure l.ranks s
