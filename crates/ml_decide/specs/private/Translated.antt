-- Graphs of problems that are small enough to be decided. Private contracts cite this.
--
--   IsSmall g           == g is a graph with few nodes
--   IsTranslated p g    == g is a graph of p, whose closure is small
--   HasFewBy w g n      == the game of g has no more than n positions, where w is the whole game; a search asks for nothing
use Rattle.std.specs.Prelude.{ℕ, ◌≤◌, ⊤}
use Rattle.ml_front.specs.Graphs.{HasLargeClosure, IsGraphOf}
use Rattle.ml_front.specs.declared.problem.Problem.{Problem}
use Rattle.ml_front.specs.declared.problem.TheConstants.{MOST_NODES}
use Rattle.ml_graph.specs.Graph.{Graph, IsGraph, size}
use Rattle.ml_product.specs.DecisionGame.{HasMoreThan}
use Rattle.ml_decide.specs.declared.way.Way.{Way}
use Rattle.ml_decide.specs.declared.way.Way.TheVariants.{WholeGame, Search}

pub record IsSmall (g : Graph) : Type 0 where
  pub is_graph : IsGraph g
  pub few_nodes : size g ≤ MOST_NODES

pub record IsTranslated (p : Problem) (g : Graph) : Type 0 where
  pub is_graph_of : IsGraphOf g p
  pub fits : ¬ (HasLargeClosure p MOST_NODES)
  pub small : IsSmall g

abbrev pub HasFewBy : Way → Graph → ℕ → Type 0
HasFewBy WholeGame g n = ¬ (HasMoreThan g n)
HasFewBy Search g n = ⊤
