-- The owners of the vertices before the vertex were made.
use Rattle.ml_game_check.specs.private.WayGame.{AreOwners}
use Rattle.ml_game_check.proofs.ways.way_owners.Given as goal

abbrev pub invariant-loop-vertex : goal.invariant-loop-vertex
invariant-loop-vertex l = AreOwners l.owners l.claims l.made.items l.vertex
