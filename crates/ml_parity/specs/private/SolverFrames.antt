-- The frames of the fast solver, and what waits in them. Only private contracts and proofs cite what stands here.
--
-- A frame is a part whose attractor was removed, and that waits for what is left of it to be solved. The frames stand on
-- a list, the last one on top; what is said of them is said from the top.
--
--   FrameWaits g f rest .. == the part of the frame f waits for the part rest, in its half
--   BeginsFirstHalf, EndsFirstHalf, BeginsSecondHalf, EndsSecondHalf == what the steps of a turn make of a part
--   Waits g fs n ..        == the frames fs, from the top, wait for the part n, and the lowest one is of the whole game
--   IsOpen, IsSolved       == the part n is to be solved, or is solved, and the frames wait for it
--   SolvesWhole            == winners and choices solve the whole game
--   HoldsAt                == by where the solver is
--   weight f, work_left    == what is left to do, as a number that falls at each turn
use Rattle.std.specs.Prelude.{ℕ, ◌≡◌, ◌<◌, ◌+◌, ◌^◌, List, [], ◌∷◌, nat_lt, reverse}
use Rattle.std.specs.List.{sum_by}
use Rattle.ml_parity.specs.declared.players.Player.{Player}
use Rattle.ml_parity.specs.declared.zielonka.attractor.Work.{Work}
use Rattle.ml_parity.specs.declared.zielonka.recursion.Half.{Half}
use Rattle.ml_parity.specs.declared.zielonka.recursion.Half.TheVariants.{First, Second}
use Rattle.ml_parity.specs.declared.zielonka.recursion.Frame.{Frame}
use Rattle.ml_parity.specs.declared.zielonka.recursion.At.{At}
use Rattle.ml_parity.specs.declared.zielonka.recursion.At.TheVariants.{Open, Solved}
use Rattle.ml_parity.specs.Game.{ParityGame, size}
use Rattle.ml_parity.specs.Solution.{winner_at, choice_at}
use Rattle.ml_parity.specs.private.Sinks.{Solves}
use Rattle.ml_parity.specs.private.SinkGame.{board_of}
use Rattle.ml_parity.specs.private.Parts.{IsPart, SolvesPart, IsFirstHalf, IsSecondHalf}
use Rattle.ml_parity.specs.private.SolverSteps.{places, choices, lefts, IsWork, IsLeft}

-- the part n of the player q waits for the part rest, in its half
abbrev pub HalfWaits : Half → ParityGame → (ℕ → ℕ) → ℕ → ℕ → ℕ → Player → (ℕ → Player) → (ℕ → ℕ) → Type 0
HalfWaits First g place n mid rest q win s = IsFirstHalf (board_of g) place n mid rest q win s
HalfWaits Second g place n mid rest q win s = IsSecondHalf (board_of g) place n mid rest q win s

-- the part of the frame waits for the part rest
pub record FrameWaits (g : ParityGame) (f : Frame) (rest : ℕ) (place : ℕ → ℕ) (win : ℕ → Player) (s : ℕ → ℕ) : Type 0 where
  pub mid : ℕ
  pub waits : HalfWaits f.half g place f.count mid rest f.player win s

-- the part n is at the end of its first half: what was left of it is solved
pub record EndsFirstHalf (g : ParityGame) (place : ℕ → ℕ) (n : ℕ) (q : Player) (win : ℕ → Player) (s : ℕ → ℕ) : Type 0 where
  pub mid : ℕ
  pub rest : ℕ
  pub half : IsFirstHalf (board_of g) place n mid rest q win s
  pub solves : SolvesPart (board_of g) place rest win s

-- the second half of the part n waits for the part rest, which is smaller
pub record BeginsSecondHalf (g : ParityGame) (place : ℕ → ℕ) (n rest : ℕ) (q : Player) (left : ℕ → ℕ) (win : ℕ → Player) (s : ℕ → ℕ) : Type 0 where
  pub smaller : rest < n
  pub counted : IsLeft g place rest left
  pub mid : ℕ
  pub half : IsSecondHalf (board_of g) place n mid rest q win s

-- the first half of the part n waits for the part rest, which is smaller
pub record BeginsFirstHalf (g : ParityGame) (place : ℕ → ℕ) (n rest : ℕ) (q : Player) (left : ℕ → ℕ) (win : ℕ → Player) (s : ℕ → ℕ) : Type 0 where
  pub smaller : rest < n
  pub counted : IsLeft g place rest left
  pub mid : ℕ
  pub half : IsFirstHalf (board_of g) place n mid rest q win s

-- the part n is solved, with all its moves counted
pub record EndsSecondHalf (g : ParityGame) (place : ℕ → ℕ) (n : ℕ) (left : ℕ → ℕ) (win : ℕ → Player) (s : ℕ → ℕ) : Type 0 where
  pub counted : IsLeft g place n left
  pub solves : SolvesPart (board_of g) place n win s

-- the frames, from the top, wait for the part n, and the lowest one is of the whole game
abbrev pub Waits : ParityGame → List Frame → ℕ → (ℕ → ℕ) → (ℕ → Player) → (ℕ → ℕ) → Type 0
Waits g [] n place win s = n ≡ size g
Waits g (f ∷ fs) n place win s = FrameWaits g f n place win s × Waits g fs f.count place win s

-- the solver's work stands at the part n
pub record IsAtPart (g : ParityGame) (w : Work) (n : ℕ) : Type 0 where
  pub work : IsWork g w
  pub counted : IsLeft g (places w) n (lefts w)

-- the part n is to be solved, and the frames wait for it
pub record IsOpen (g : ParityGame) (frames : List Frame) (w : Work) (winner : List Player) (n : ℕ) : Type 0 where
  pub at_part : IsAtPart g w n
  pub waits : Waits g (reverse frames) n (places w) (winner_at winner) (choices w)
  pub part : IsPart (board_of g) (places w) n (winner_at winner)

-- the part n is solved, and the frames wait for it
pub record IsSolved (g : ParityGame) (frames : List Frame) (w : Work) (winner : List Player) (n : ℕ) : Type 0 where
  pub at_part : IsAtPart g w n
  pub waits : Waits g (reverse frames) n (places w) (winner_at winner) (choices w)
  pub solves : SolvesPart (board_of g) (places w) n (winner_at winner) (choices w)

-- the lists of winners and choices solve the whole game, on its board
abbrev pub SolvesWhole : ParityGame → List Player → List ℕ → Type 0
SolvesWhole g winner choice = Solves (board_of g) (λ v. nat_lt v (size g)) (winner_at winner) (winner_at winner) (choice_at choice)

-- by where the solver is
abbrev pub HoldsAt : At → ParityGame → List Frame → Work → List Player → Type 0
HoldsAt (Open n) g frames w winner = IsOpen g frames w winner n
HoldsAt (Solved n) g frames w winner = IsSolved g frames w winner n

-- what is left to do when a frame is taken up, in a half
abbrev pub half_weight : Half → ℕ → ℕ
half_weight First n = 3 ^ n + 2
half_weight Second n = 1

abbrev pub weight : Frame → ℕ
weight f = half_weight f.half f.count

-- what is left to do where the solver is
abbrev pub at_weight : At → ℕ
at_weight (Open n) = 3 ^ (n + 1)
at_weight (Solved n) = 0

-- what is left to do in all
abbrev pub work_left : List Frame → At → ℕ
work_left frames at = sum_by weight frames + at_weight at
