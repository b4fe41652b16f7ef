-- What is found in the solved game of a graph. Private contracts cite this.
--
--   is_even w       == is this player Even?
--   finding_in g x  == the nodes of the graph g, the positions of the game x, and whether Even wins the first of them
use Rattle.std.specs.Prelude.{Bool, true, false, length}
use Rattle.ml_graph.specs.Graph.{Graph, size}
use Rattle.ml_parity.specs.Solution.{winner_at}
use Rattle.ml_parity.specs.declared.players.Player.{Player}
use Rattle.ml_parity.specs.declared.players.Player.TheVariants.{Even, Odd}
use Rattle.ml_search.specs.declared.whole_game.SolvedGame.{SolvedGame}
use Rattle.ml_decide.specs.declared.finding.Finding.{Finding}
use Rattle.ml_decide.specs.declared.finding.Finding.TheVariants.{Decided}

abbrev pub is_even : Player → Bool
is_even Even = true
is_even Odd = false

abbrev pub finding_in : Graph → SolvedGame → Finding
finding_in g x = Decided (size g) (length x.arena.positions) (is_even (winner_at x.solution.winner 0))
