-- The whole decision game of a graph, solved.
--
--   IsSolvedGame g x == x is the arena of the graph g, with a solution of the arena's game
use Rattle.ml_graph.specs.Graph.{Graph}
use Rattle.ml_parity.specs.Solution.{IsSolution}
use Rattle.ml_product.specs.Arena.{IsArenaOf, game_of}
use Rattle.ml_search.specs.declared.whole_game.SolvedGame.{SolvedGame}

pub record IsSolvedGame (g : Graph) (x : SolvedGame) : Type 0 where
  pub is_arena : IsArenaOf g x.arena
  pub is_solution : IsSolution (game_of x.arena) x.solution
