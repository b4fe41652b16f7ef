use Rattle.std.proofs.Common.{◌≡◌, map}
use Rattle.std.specs.List.{range_with_len}
use Rattle.ml_paths.specs.private.Built.{round_edge}
use Rattle.ml_paths.proofs.runs.edges_of.Given as goal

abbrev pub invariant-loop-place : goal.invariant-loop-place
invariant-loop-place l = l.edges.items ≡ map (round_edge l.places l.loop_start) (range_with_len 0 l.place)
