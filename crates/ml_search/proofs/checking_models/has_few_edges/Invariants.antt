-- At each place so far the edges of its source and action end soon.
use Rattle.std.proofs.Common.{ℕ, ◌<◌}
use Rattle.ml_search.specs.private.Checked.{EndsSoon}
use Rattle.ml_search.proofs.checking_models.has_few_edges.Given as goal

abbrev pub invariant-loop-place : goal.invariant-loop-place
invariant-loop-place l = (k : ℕ) → k < l.place → EndsSoon l.graph l.structure.edges k
