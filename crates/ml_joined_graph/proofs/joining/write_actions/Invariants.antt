-- No name stands twice so far.
use Rattle.std.specs.List.{IsDistinct}
use Rattle.std.specs.Str.{bytes_eq}
use Rattle.ml_joined_graph.proofs.joining.write_actions.Given as goal

abbrev pub invariant-loop-action : goal.invariant-loop-action
invariant-loop-action l = IsDistinct bytes_eq l.all.keys
