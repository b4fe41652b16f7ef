-- What a search finds.
--
-- A structure with a state is handed out where the graph holds there, each state is reached along edges, and there are no
-- edges that no diamond of the graph asks for: of each action a state has at most as many edges as the graph has diamonds.
-- A refutation is handed out where it is accepted.
--
--   has_diamond g a n  == is the node n a diamond of the action a?
--   diamonds_with g a  == how many diamonds of the action a there are
--   HasFewEdges g m    == of each action each state of m has at most as many edges as g has diamonds
--   IsModelFound g m s == m with the state s may be handed out
--   IsFound g f        == f may be handed out as the answer to g
use Rattle.std.specs.Prelude.{ℕ, ◌≤◌, Bool, false, List, length}
use Rattle.std.specs.Str.{bytes_eq}
use Rattle.ml_base.specs.Structure.{Structure}
use Rattle.ml_lists.specs.Counting.{count}
use Rattle.ml_extract.specs.Extraction.{Extracted}
use Rattle.ml_graph.specs.declared.node.Node.{Node}
use Rattle.ml_graph.specs.declared.node.Node.TheVariants as node
use Rattle.ml_graph.specs.CheckingGame.{targets}
use Rattle.ml_graph.specs.Graph.{Graph, action_at, node_at, size}
use Rattle.ml_refutation.specs.Acceptance.{IsAccepted}
use Rattle.ml_refutation.specs.Views.{of_parts}
use Rattle.ml_search.specs.declared.found.Found.{Found}
use Rattle.ml_search.specs.declared.found.Found.TheVariants as found

-- is the node a diamond of the action?
abbrev pub is_diamond_with : Graph → List ℕ → Node → Bool
is_diamond_with g a node.True = false
is_diamond_with g a node.False = false
is_diamond_with g a (node.Lit p positive) = false
is_diamond_with g a (node.And l r) = false
is_diamond_with g a (node.Or l r) = false
is_diamond_with g a (node.Diamond k to) = bytes_eq (action_at g k) a
is_diamond_with g a (node.Square k to) = false

abbrev pub has_diamond : Graph → List ℕ → ℕ → Bool
has_diamond g a n = is_diamond_with g a (node_at g n)

abbrev pub diamonds_with : Graph → List ℕ → ℕ
diamonds_with g a = count (has_diamond g a) (size g)

abbrev pub HasFewEdges : Graph → Structure → Type 0
HasFewEdges g m = (s : ℕ) (a : List ℕ) → length (targets m s a) ≤ diamonds_with g a

pub record IsModelFound (g : Graph) (m : Structure) (start : ℕ) : Type 0 where
  pub extracted : Extracted g m start
  pub few_edges : HasFewEdges g m

abbrev pub IsFound : Graph → Found → Type 0
IsFound g (found.Model m) = IsModelFound g m.structure m.start
IsFound g (found.Refutation r) = IsAccepted g (of_parts r.names r.sequents r.stacks r.entries)
