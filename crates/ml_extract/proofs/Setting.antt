-- What the theorem on extracted models is said of.
--
--   Setting == a board, on which Even wins, and the model
--   board   == the board
--   even_moves, WonByMoves, EvenMove, EvenWalk == those of the board
use Rattle.std.proofs.Common.{ℕ}
use Rattle.ml_base.specs.Structure.{Structure}
use Rattle.ml_graph.specs.Graph.{Graph, IsGraph}
use Rattle.ml_parity.specs.declared.players.Player.TheVariants.{Even}
use Rattle.ml_parity.specs.Solution.{GameSolution, IsSolution}
use Rattle.ml_parity.specs.Winner.{Wins}
use Rattle.ml_product.specs.Arena.{Arena, IsArenaOf, game_of}
use Rattle.ml_extract.specs.Model.{IsModelOf}
use Rattle.ml_extract.proofs.Board.{Board}
use Rattle.ml_extract.proofs.Board as boards

pub record Setting : Type 0 where
  pub g : Graph
  pub a : Arena
  pub s : GameSolution
  pub m : Structure
  pub start : ℕ
  pub g_ok : IsGraph g
  pub arena : IsArenaOf g a
  pub solved : IsSolution (game_of a) s
  pub even_wins : Wins (game_of a) Even 0
  pub model : IsModelOf g a s m start

abbrev pub board : Setting → Board
board S = record {
  g = S.g;
  a = S.a;
  s = S.s;
  g_ok = S.g_ok;
  arena = S.arena;
  solved = S.solved;
  even_wins = S.even_wins;
}

abbrev pub even_moves : Setting → ℕ → ℕ
even_moves S = boards.even_moves (board S)

abbrev pub WonByMoves : Setting → ℕ → Type 0
WonByMoves S v = boards.WonByMoves (board S) v

abbrev pub EvenMove : Setting → ℕ → ℕ → Type 0
EvenMove S v w = boards.EvenMove (board S) v w

abbrev pub EvenWalk : Setting → ℕ → ℕ → ℕ → Type 0
EvenWalk S v k w = boards.EvenWalk (board S) v k w
