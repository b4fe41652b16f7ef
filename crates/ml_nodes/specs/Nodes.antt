-- The nodes of a formula's graph. A reader of what a formula's graph is has to believe this page.
--
-- An occurrence has two nodes, for itself and for its negation. Of a program they are for its diamond and for its box.
-- A node that only leads on is an And with the same child twice.
--
--   positive i, negative i == the two nodes of occurrence i
--   lead_to n              == a node that only leads on, to n
--   constant b             == the node of a constant
--   IsNode g n v p         == the node n of g is v, with the priority p
--   LeadsTo g n t p        == the node n only leads on, to t
--   Joins g p o i l r      == at the occurrence i the connective o joins the operands at l and r, by nodes with the priority p
use Rattle.std.specs.Prelude.{ℕ, ◌≡◌, ◌+◌, ◌*◌, Bool, true, false}
use Rattle.ml_graph.specs.Graph.{Graph, node_at, priority_at}
use Rattle.ml_graph.specs.declared.node.Node.{Node}
use Rattle.ml_graph.specs.declared.node.Node.TheVariants as node
use Rattle.ml_text.specs.declared.token.Operator.{Operator}
use Rattle.ml_text.specs.declared.token.Operator.TheVariants as operator

abbrev pub positive : ℕ → ℕ
positive i = 2 * i

abbrev pub negative : ℕ → ℕ
negative i = 2 * i + 1

abbrev pub lead_to : ℕ → Node
lead_to n = node.And n n

abbrev pub constant : Bool → Node
constant true = node.True
constant false = node.False

abbrev pub IsNode : Graph → ℕ → Node → ℕ → Type 0
IsNode g n value priority = (node_at g n ≡ value) × (priority_at g n ≡ priority)

abbrev pub LeadsTo : Graph → ℕ → ℕ → ℕ → Type 0
LeadsTo g n target priority = IsNode g n (lead_to target) priority

abbrev pub Joins : Graph → ℕ → Operator → ℕ → ℕ → ℕ → Type 0
Joins g p operator.And i l r =
    IsNode g (positive i) (node.And (positive l) (positive r)) p
    × IsNode g (negative i) (node.Or (negative l) (negative r)) p
Joins g p operator.Or i l r =
    IsNode g (positive i) (node.Or (positive l) (positive r)) p
    × IsNode g (negative i) (node.And (negative l) (negative r)) p
Joins g p operator.Implies i l r =
    IsNode g (positive i) (node.Or (negative l) (positive r)) p
    × IsNode g (negative i) (node.And (positive l) (negative r)) p
-- both or neither; one and not the other
Joins g p operator.Iff i l r =
    let both = i + 1 in let neither = i + 2 in
    IsNode g (positive i) (node.Or (positive both) (positive neither)) p
    × IsNode g (negative i) (node.Or (negative both) (negative neither)) p
    × IsNode g (positive both) (node.And (positive l) (positive r)) p
    × IsNode g (negative both) (node.And (positive l) (negative r)) p
    × IsNode g (positive neither) (node.And (negative l) (negative r)) p
    × IsNode g (negative neither) (node.And (negative l) (positive r)) p
