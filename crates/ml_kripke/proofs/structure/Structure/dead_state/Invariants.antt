-- The walk along the edges left, from this state, ends where the whole walk does.
use Rattle.std.proofs.Common.{◌≡◌, drop}
use Rattle.ml_kripke.proofs.DeadStates.{dead_from}
use Rattle.ml_kripke.proofs.structure.Structure.dead_state.Given as goal

abbrev pub invariant-loop-edge : goal.invariant-loop-edge
invariant-loop-edge l = dead_from l.action (drop l.edge-index l.edge-items) l.state ≡ dead_from l.action l.edge-items 0
