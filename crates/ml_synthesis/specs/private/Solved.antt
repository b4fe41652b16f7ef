-- The game over an automaton, and a solution of it.
--
--   IsSolved n base ks g s == g, with the arrivals ks, is the game over some automaton with n sets of inputs, and s
--                             solves it
--   IsArenaOver i o neutral moves n base ks g == g, with the arrivals ks, is the game over this automaton
--   IsOverSome n base ks g == it is the game over some automaton
--   HasFewMoves g         == each vertex has so few moves that 8 bits tell them
use Rattle.std.specs.Prelude.{ℕ, ◌≡◌, ◌*◌, ◌^◌, ◌≤◌, List, length}
use Rattle.ml_parity.specs.Game.{ParityGame, moves_of}
use Rattle.ml_parity.specs.Solution.{GameSolution, IsSolution}
use Rattle.ml_determinise.specs.declared.moves.DetMove.{DetMove}
use Rattle.ml_synthesis.specs.Synthesis.{IsAutomaton}
use Rattle.ml_synthesis.specs.declared.arrival.Arrival.{Arrival}
use Rattle.ml_synthesis.specs.private.Arena.{AreMoves, IsArena}

pub record IsSolved (n base : ℕ) (ks : List Arrival) (g : ParityGame) (s : GameSolution) : Type 0 where
  pub output_sets : ℕ
  pub neutral : ℕ
  pub moves : List (List DetMove)
  pub base_is : base ≡ length moves * n
  pub are_moves : AreMoves n output_sets neutral moves
  pub arena : IsArena n output_sets neutral moves ks g
  pub solution : IsSolution g s

abbrev pub HasFewMoves : ParityGame → Type 0
HasFewMoves g = (v : ℕ) → length (moves_of g v) ≤ 256

-- with n sets of inputs, and the states with their priorities from base on
pub record IsArenaOver (i o neutral : ℕ) (moves : List (List DetMove)) (n base : ℕ) (ks : List Arrival) (g : ParityGame)
    : Type 0 where
  pub automaton : IsAutomaton i o neutral moves
  pub sets_are : n ≡ 2 ^ i
  pub base_is : base ≡ length moves * n
  pub arena : IsArena (2 ^ i) (2 ^ o) neutral moves ks g
  pub few_moves : HasFewMoves g

pub record IsOverSome (n base : ℕ) (ks : List Arrival) (g : ParityGame) : Type 0 where
  pub inputs : ℕ
  pub outputs : ℕ
  pub neutral : ℕ
  pub moves : List (List DetMove)
  pub is_over : IsArenaOver inputs outputs neutral moves n base ks g
