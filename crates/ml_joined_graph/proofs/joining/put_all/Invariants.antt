-- No name stands twice so far.
use Rattle.std.specs.List.{IsDistinct}
use Rattle.std.specs.Str.{bytes_eq}
use Rattle.ml_joined_graph.proofs.joining.put_all.Given as goal

abbrev pub invariant-loop-conjunct : goal.invariant-loop-conjunct
invariant-loop-conjunct l = IsDistinct bytes_eq l.props.keys × IsDistinct bytes_eq l.actions.keys
