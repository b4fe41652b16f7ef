-- The decision game of a graph with a solution, in which Even wins.
--
--   Board          == a graph with its arena, and a solution of the arena's game in which Even wins vertex 0
--   board_of       == the board of these
--   even_moves     == Even's moves
--   WonByMoves     == with these moves Even wins from the vertex
--   EvenMove, EvenWalk == a move, and a walk, that follow Even's moves
--   won_at_first   == Even's moves win from vertex 0
use Rattle.std.proofs.Common.{ℕ, ◌<◌, arith}
use Rattle.ml_graph.specs.Graph.{Graph, IsGraph}
use Rattle.ml_parity.specs.declared.players.Player.TheVariants.{Even}
use Rattle.ml_parity.specs.Game.{size}
use Rattle.ml_parity.specs.Solution.{GameSolution, IsSolution, choice_at}
use Rattle.ml_parity.specs.Winner.{Wins, WinsFrom}
use Rattle.ml_parity.proofs.FollowedWalks.{FollowedMove, FollowedWalk}
use Rattle.ml_parity.proofs.SolutionFacts.{solution_winner, solution_wins_from}
use Rattle.ml_product.specs.Arena.{Arena, IsArenaOf, game_of}
use Rattle.ml_product.proofs.ArenaGame.{size_is, is_game}
use Rattle.ml_extract.specs.Extraction.{EvenWins}

pub record Board : Type 0 where
  pub g : Graph
  pub a : Arena
  pub s : GameSolution
  pub g_ok : IsGraph g
  pub arena : IsArenaOf g a
  pub solved : IsSolution (game_of a) s
  pub even_wins : Wins (game_of a) Even 0

-- the board of a graph, an arena and a solution by which Even wins
abbrev pub board_of : (g : Graph) (a : Arena) (s : GameSolution) → EvenWins g a s → Board
board_of g a s even = record {
  g = g;
  a = a;
  s = s;
  g_ok = even.is_graph;
  arena = even.is_arena;
  solved = even.is_solution;
  even_wins = even.wins;
}

abbrev pub even_moves : Board → ℕ → ℕ
even_moves B = choice_at B.s.choice

abbrev pub WonByMoves : Board → ℕ → Type 0
WonByMoves B v = WinsFrom (game_of B.a) Even (even_moves B) v

abbrev pub EvenMove : Board → ℕ → ℕ → Type 0
EvenMove B v w = FollowedMove (game_of B.a) Even (even_moves B) v w

abbrev pub EvenWalk : Board → ℕ → ℕ → ℕ → Type 0
EvenWalk B v k w = FollowedWalk (game_of B.a) Even (even_moves B) v k w

-- Even's moves win from vertex 0
pub won_at_first : (B : Board) → WonByMoves B 0
won_at_first B =
    let ok = is_game B.g B.a B.arena in
    let low : 0 < size (game_of B.a) = omega (arith, size_is B.g B.a B.arena) in
    solution_wins_from (game_of B.a) ok B.s B.solved Even 0 low
    ((solution_winner (game_of B.a) ok B.s B.solved Even 0 low).0 B.even_wins)
