-- The ways from the vertices before the vertex were made.
use Rattle.ml_parity.specs.Refusal.{lists_of}
use Rattle.ml_game_check.specs.private.WayGame.{AreWays}
use Rattle.ml_game_check.proofs.ways.ways.Given as goal

abbrev pub invariant-loop-vertex : goal.invariant-loop-vertex
invariant-loop-vertex l = AreWays l.owners (lists_of l.successors) l.claims (lists_of l.made.items) l.vertex
