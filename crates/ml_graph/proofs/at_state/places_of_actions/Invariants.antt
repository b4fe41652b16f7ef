use Rattle.std.proofs.Common.{◌≡◌, take}
use Rattle.ml_graph.proofs.at_state.places_of_actions.Given as goal

abbrev pub invariant-loop-action : goal.invariant-loop-action
invariant-loop-action l = l.places.keys ≡ take l.action-index l.actions
