-- Nodes of a list that are reached from its first one, in breadth-first order.
--
--   node_in all k         == the node k of the list
--   rank_in ranks k       == its priority
--   form_of v             == what v is, by the places to which it leads; all edges have the action 0
--   form_in all k         == what the node k is
--   IsReachedIn all k     == the node k of the list is reached from its first one
--   AreInside all         == what is reached stands in the list
--   IsTrimmed all ranks vs ps == vs and ps are all nodes that are reached, and their priorities
use Rattle.std.specs.Prelude.{ℕ, ◌<◌, true, false, List, length, get_or}
use Rattle.ml_graph.specs.declared.node.Node.{Node}
use Rattle.ml_graph.specs.declared.node.Node.TheVariants as node
use Rattle.ml_nodes.specs.NumberedValues.{IsClosed, IsMet}
use Rattle.ml_nodes.specs.declared.numbering.Form.{Form}
use Rattle.ml_nodes.specs.declared.numbering.Form.TheVariants as form

abbrev pub node_in : List Node → ℕ → Node
node_in all k = get_or all k node.True

abbrev pub rank_in : List ℕ → ℕ → ℕ
rank_in ranks k = get_or ranks k 0

abbrev pub form_of : Node → Form ℕ
form_of node.True = form.Constant true
form_of node.False = form.Constant false
form_of (node.Lit p b) = form.Literal p b
form_of (node.And l r) = form.Two true l r
form_of (node.Or l r) = form.Two false l r
form_of (node.Diamond a k) = form.Edge true k
form_of (node.Square a k) = form.Edge false k

abbrev pub form_in : List Node → ℕ → Form ℕ
form_in all k = form_of (node_in all k)

abbrev pub IsReachedIn : List Node → ℕ → Type 0
IsReachedIn all = IsMet (form_in all) 0

abbrev pub AreInside : List Node → Type 0
AreInside all = (k : ℕ) → IsReachedIn all k → k < length all

abbrev pub IsTrimmed : List Node → List ℕ → List Node → List ℕ → Type 0
IsTrimmed all ranks vs ps = IsClosed (form_in all) (rank_in ranks) 0 (length all) vs ps
