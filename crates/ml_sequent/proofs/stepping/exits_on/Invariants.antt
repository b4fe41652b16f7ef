use Rattle.std.proofs.Common.{◌≡◌, take}
use Rattle.std.specs.List.{filter_map}
use Rattle.ml_sequent.specs.private.Exits.{exit_at}
use Rattle.ml_sequent.proofs.stepping.exits_on.Given as goal

abbrev pub invariant-loop-place : goal.invariant-loop-place
invariant-loop-place l = l.nodes.items ≡ filter_map (exit_at l.graph l.action l.diamond) (take l.place l.trail.nodes)
