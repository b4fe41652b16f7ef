-- Games with sinks on a parity game, as the solvers hold them: lists of flags, of players and of moves.
--
--   board_of g               == the owners, priorities and moves of g
--   flag_at flags v          == the flag of vertex v; past the end no flag is set
--   SolvesLists g live over win choice == the lists of winners and choices solve the game with these live vertices and sinks
--   FilledBelow g win old choice n == below n the choices are the old ones where the owner wins, and first successors
--                                     elsewhere; from n on they are the old ones
use Rattle.std.specs.Prelude.{ℕ, ◌≡◌, ◌≢◌, ◌<◌, ◌≤◌, Bool, false, List, length, get_or}
use Rattle.ml_parity.specs.declared.players.Player.{Player}
use Rattle.ml_parity.specs.Game.{ParityGame, HasMove, owner_of, priority_of, moves_of}
use Rattle.ml_parity.specs.private.Sinks.{Board, Solves}
use Rattle.ml_parity.specs.Solution.{winner_at, choice_at}

-- the owners, priorities and moves of g
abbrev pub board_of : ParityGame → Board
board_of g = record { owner = owner_of g; priority = priority_of g; Move = HasMove g }

-- the flag of vertex v; past the end no flag is set
abbrev pub flag_at : List Bool → ℕ → Bool
flag_at flags v = get_or flags v false

-- the lists of winners and choices solve the game with these live vertices and sinks
abbrev pub SolvesLists : ParityGame → List Bool → List Player → List Player → List ℕ → Type 0
SolvesLists g live over win choice = Solves (board_of g) (flag_at live) (winner_at over) (winner_at win) (choice_at choice)

-- below n the choices are the old ones where the owner wins, and first successors elsewhere; from n on the old ones
pub record FilledBelow (g : ParityGame) (win : List Player) (old choice : List ℕ) (n : ℕ) : Type 0 where
  pub size : length choice ≡ length old
  pub own : (v : ℕ) → v < n → owner_of g v ≡ winner_at win v → choice_at choice v ≡ choice_at old v
  pub other : (v : ℕ) → v < n → owner_of g v ≢ winner_at win v → choice_at choice v ≡ get_or (moves_of g v) 0 0
  pub later : (v : ℕ) → n ≤ v → choice_at choice v ≡ choice_at old v
