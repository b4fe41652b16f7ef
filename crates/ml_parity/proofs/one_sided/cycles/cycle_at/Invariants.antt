-- The arcs so far have no walk back.
use Rattle.std.proofs.Common.{ℕ, ◌<◌, get_or}
use Rattle.ml_parity.specs.declared.one_sided.graph.Arc.{Arc}
use Rattle.ml_parity.proofs.HeightSearches.{HasNoBack}
use Rattle.ml_parity.proofs.one_sided.cycles.cycle_at.Given as goal

abbrev pub invariant-loop-arc : goal.invariant-loop-arc
invariant-loop-arc l = (k : ℕ) (d : Arc) → k < l.arc-index → HasNoBack l.graph l.priority (get_or l.graph.arcs k d)
