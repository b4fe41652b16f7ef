-- What is left to choose is as before; and each choice decides one node more, of which there are so many.
use Rattle.std.proofs.Common.{ℕ, ◌-◌}
use Rattle.ml_graph.specs.Graph.{size}
use Rattle.ml_sequent.specs.Spread.{SpreadList}
use Rattle.ml_extract.specs.Model.{Chooses}
use Rattle.ml_extract.specs.private.WonPositions.{IsWon, sides_at}
use Rattle.ml_extract.proofs.won_game.WonGame.end_of.Given as goal

abbrev pub invariant-loop-next : goal.invariant-loop-next
invariant-loop-next l =
    IsWon l.self.arena.now l.self.solution.now l.last
    × ((w : ℕ) (sp : SpreadList) → Chooses l.self.graph.now l.self.arena.now l.self.solution.now l.last w sp
    → Chooses l.self.graph.now l.self.arena.now l.self.solution.now l.first w sp)

abbrev pub decreases-loop-next : goal.decreases-loop-next
decreases-loop-next l = size l.self.graph.now - sides_at l.self.arena.now l.last
