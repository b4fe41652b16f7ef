-- Which problems stay undecided.
--
-- Whether the limit is kept is told by the definition of the decision game alone. The graphs of a problem differ in the
-- names that they list and in their order, so their games have the same positions, and it doesn't matter which graph is
-- meant. What stays open is said alike for both ways to seek an answer. By the whole game a problem that stays open has no
-- answer; a search may have one all the same, where the closure is small.
--
--   PassesLimit p n       == the decision game of a graph of p has more than n positions
--   StaysOpen n p c       == p stays undecided for the cause c, where the game may have n positions: a closure with more nodes
--                            than are decided, or else a game past the limit
--   IsClosed w n p        == p may be answered: by the whole game, where it stays open for no cause; by a search, where its
--                            closure has no more nodes than are decided
use Rattle.std.specs.Prelude.{ℕ, ◌≡◌}
use Rattle.ml_front.specs.Graphs.{HasLargeClosure, OfGraph}
use Rattle.ml_front.specs.declared.problem.Problem.{Problem}
use Rattle.ml_front.specs.declared.problem.TheConstants.{MOST_NODES}
use Rattle.ml_product.specs.DecisionGame.{HasMoreThan}
use Rattle.ml_decide.specs.declared.cause.Cause.{Cause}
use Rattle.ml_decide.specs.declared.cause.Cause.TheVariants.{Positions, Closure}
use Rattle.ml_decide.specs.declared.way.Way.{Way}
use Rattle.ml_decide.specs.declared.way.Way.TheVariants.{WholeGame, Search}

abbrev pub PassesLimit : Problem → ℕ → Type 0
PassesLimit p n = OfGraph p (λ g. HasMoreThan g n)

abbrev pub StaysOpen : ℕ → Problem → Cause → Type 0
StaysOpen limit p (Positions n) = (n ≡ limit) × (¬ (HasLargeClosure p MOST_NODES)) × PassesLimit p limit
StaysOpen limit p Closure = HasLargeClosure p MOST_NODES

abbrev pub IsClosed : Way → ℕ → Problem → Type 0
IsClosed WholeGame limit p = (c : Cause) → ¬ (StaysOpen limit p c)
IsClosed Search limit p = ¬ (HasLargeClosure p MOST_NODES)
