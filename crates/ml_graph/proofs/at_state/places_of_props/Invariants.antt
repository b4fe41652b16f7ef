use Rattle.std.proofs.Common.{◌≡◌, take}
use Rattle.ml_graph.proofs.at_state.places_of_props.Given as goal

abbrev pub invariant-loop-prop : goal.invariant-loop-prop
invariant-loop-prop l = l.places.keys ≡ take l.prop-index l.props
