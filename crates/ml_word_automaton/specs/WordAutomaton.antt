-- The word automaton of a problem of LTL.
--
-- A problem starts with a block, which asks for a path that satisfies the formula, or its negation (`ml_blocks/specs/Places`).
-- The nodes that are reached from this block make a modal graph, with the block as node 0; the part that asks each state
-- for an edge is left away, since a word goes on anyway. The automaton reads letters on this graph: at a place it begins at
-- a node and walks on, along one child of an Or, and past the state nodes of an And that are true in the letter, until
-- it comes to a Diamond. This leads to the next place, and the transition is accepting if the Diamond has the priority 0:
-- no eventuality in focus is put off. Where it comes to the constant True, nothing more is asked, and it stays there for
-- ever, accepting.
--
-- An And in a block has a state node and a block, or one block twice. So its right child is a block, and the walk goes on
-- there if the left child is the same, or is true in the letter.
--
--   start_block f negated          == the block that asks for a path that satisfies f, or the negation of f
--   IsBlockGraph g f negated       == g is the graph of the nodes that are reached from it, which is node 0
--   IsTrueIn g letter n            == node n is True, or a literal that is true in the letter
--   Walks g letter p n             == under the letter a walk from p comes to n
--   Leads g letter p q accepting   == under the letter p has a transition to q, accepting or not
use Rattle.std.specs.Prelude.{ℕ, ◌≡◌, ◌⊎◌, ◌==◌, Bool, true}
use Rattle.ml_graph.specs.Graph.{Graph, node_at, priority_at, prop_at}
use Rattle.ml_graph.specs.declared.node.Node.{Node}
use Rattle.ml_graph.specs.declared.node.Node.TheVariants as node
use Rattle.ml_ctl.specs.Formula.{Formula}
use Rattle.ml_blocks.specs.BlockGraph.{linear_start_of}
pub use Rattle.ml_blocks.specs.BlockClosures.{IsBlockGraph}
use Rattle.ml_blocks.specs.Places.{Place}
use Rattle.ml_word_automaton.specs.Words.{Letter, has}

abbrev pub start_block : Formula → Bool → Place
start_block = linear_start_of

-- ---- one letter

abbrev pub IsTrueNode : Graph → Letter → Node → Type 0
IsTrueNode g letter node.True = Unit {0}
IsTrueNode g letter (node.Lit p positive) = has letter (prop_at g p) ≡ positive
IsTrueNode g letter _ = ⊥

-- node n is True, or a literal that is true in the letter
abbrev pub IsTrueIn : Graph → Letter → ℕ → Type 0
IsTrueIn g letter n = IsTrueNode g letter (node_at g n)

-- under the letter a walk from p comes to a node
pub data Walks (g : Graph) (letter : Letter) (p : ℕ) : ℕ → Type 0 where
  itself : Walks g letter p p
  past_same : (n l r : ℕ) → Walks g letter p n → node_at g n ≡ node.And l r → l ≡ r → Walks g letter p r
  past_true : (n l r : ℕ) → Walks g letter p n → node_at g n ≡ node.And l r → IsTrueIn g letter l → Walks g letter p r
  to_left : (n l r : ℕ) → Walks g letter p n → node_at g n ≡ node.Or l r → Walks g letter p l
  to_right : (n l r : ℕ) → Walks g letter p n → node_at g n ≡ node.Or l r → Walks g letter p r

-- a walk comes to a Diamond, which leads to q
pub record LeadsOn (g : Graph) (letter : Letter) (p q : ℕ) (accepting : Bool) : Type 0 where
  pub diamond : ℕ
  pub action : ℕ
  pub walks : Walks g letter p diamond
  pub is_diamond : node_at g diamond ≡ node.Diamond action q
  pub accepts : accepting ≡ (priority_at g diamond == 0)

-- a walk comes to q, which is True
pub record LeadsToTrue (g : Graph) (letter : Letter) (p q : ℕ) (accepting : Bool) : Type 0 where
  pub walks : Walks g letter p q
  pub is_true : node_at g q ≡ node.True
  pub accepts : accepting ≡ true

-- under the letter p has a transition to q
abbrev pub Leads : Graph → Letter → ℕ → ℕ → Bool → Type 0
Leads g letter p q accepting = LeadsOn g letter p q accepting ⊎ LeadsToTrue g letter p q accepting
