-- How large the graph of a problem and its decision game are, and whether the problem is satisfiable.
--
-- Each number is told by definitions alone: the graphs of a problem all have as many nodes, and their games as many
-- positions. Nothing is told of what comes behind a limit that is passed.
--
--   HasNodes p k         == a graph of the problem p has k nodes
--   HasPositions p k     == the decision game of a graph of p has k positions
--   IsFinding n p x      == x is what is found of p, where the game may have n positions
--   answer_of x          == satisfiable, unsatisfiable or undecided
use Rattle.std.specs.Prelude.{ℕ, ◌≡◌, ◌<◌, ◌↔◌, true, false, IsTrue}
use Rattle.ml_front.specs.Graphs.{OfGraph}
use Rattle.ml_front.specs.Problems.{IsSatisfiable}
use Rattle.ml_front.specs.declared.answer.Answer.{Answer}
use Rattle.ml_front.specs.declared.answer.Answer.TheVariants.{Satisfiable, Unsatisfiable, Undecided}
use Rattle.ml_front.specs.declared.problem.Problem.{Problem}
use Rattle.ml_graph.specs.Graph.{size}
use Rattle.ml_product.specs.DecisionGame.{HasMoreThan}
use Rattle.ml_decide.specs.Limits.{IsClosed, StaysOpen}
use Rattle.ml_decide.specs.declared.cause.Cause.TheVariants.{Positions, Closure}
use Rattle.ml_decide.specs.declared.finding.Finding.{Finding}
use Rattle.ml_decide.specs.declared.finding.Finding.TheVariants.{Decided, GamePassed, ClosurePassed}
use Rattle.ml_decide.specs.declared.way.Way.TheVariants.{WholeGame}

abbrev pub HasNodes : Problem → ℕ → Type 0
HasNodes p k = OfGraph p (λ g. size g ≡ k)

abbrev pub HasPositions : Problem → ℕ → Type 0
HasPositions p k = OfGraph p (λ g. (n : ℕ) → HasMoreThan g n ↔ (n < k))

abbrev pub IsFinding : ℕ → Problem → Finding → Type 0
IsFinding n p (Decided nodes positions satisfiable) =
    IsClosed WholeGame n p × HasNodes p nodes × HasPositions p positions × (IsTrue satisfiable ↔ IsSatisfiable p)
IsFinding n p (GamePassed nodes) = StaysOpen n p (Positions n) × HasNodes p nodes
IsFinding n p ClosurePassed = StaysOpen n p Closure

abbrev pub answer_of : Finding → Answer
answer_of (Decided nodes positions true) = Satisfiable
answer_of (Decided nodes positions false) = Unsatisfiable
answer_of _ = Undecided
