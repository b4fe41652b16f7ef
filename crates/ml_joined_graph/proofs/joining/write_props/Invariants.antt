-- No name stands twice so far.
use Rattle.std.specs.List.{IsDistinct}
use Rattle.std.specs.Str.{bytes_eq}
use Rattle.ml_joined_graph.proofs.joining.write_props.Given as goal

abbrev pub invariant-loop-name : goal.invariant-loop-name
invariant-loop-name l = IsDistinct bytes_eq l.all.keys
