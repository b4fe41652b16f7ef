-- The nodes and priorities of a connective, in the order in which a program makes them.
--
--   operator_nodes op i l r  == the nodes of the connective as the occurrence i, with its operands as l and r
--   operator_priorities op k == as many times the priority k
use Rattle.std.specs.Prelude.{ℕ, ◌+◌, List, [], ◌∷◌}
use Rattle.ml_graph.specs.declared.node.Node.{Node}
use Rattle.ml_graph.specs.declared.node.Node.TheVariants as node
use Rattle.ml_text.specs.declared.token.Operator.{Operator}
use Rattle.ml_text.specs.declared.token.Operator.TheVariants as operator
use Rattle.ml_nodes.specs.Nodes.{positive, negative}

abbrev pub operator_nodes : Operator → ℕ → ℕ → ℕ → List Node
operator_nodes operator.And i l r =
    node.And (positive l) (positive r) ∷ node.Or (negative l) (negative r) ∷ []
operator_nodes operator.Or i l r =
    node.Or (positive l) (positive r) ∷ node.And (negative l) (negative r) ∷ []
operator_nodes operator.Implies i l r =
    node.Or (negative l) (positive r) ∷ node.And (positive l) (negative r) ∷ []
operator_nodes operator.Iff i l r =
    node.Or (positive (i + 1)) (positive (i + 2))
    ∷ node.Or (negative (i + 1)) (negative (i + 2))
    ∷ node.And (positive l) (positive r)
    ∷ node.And (positive l) (negative r)
    ∷ node.And (negative l) (negative r)
    ∷ node.And (negative l) (positive r)
    ∷ []

abbrev pub operator_priorities : Operator → ℕ → List ℕ
operator_priorities operator.And k = k ∷ k ∷ []
operator_priorities operator.Or k = k ∷ k ∷ []
operator_priorities operator.Implies k = k ∷ k ∷ []
operator_priorities operator.Iff k = k ∷ k ∷ k ∷ k ∷ k ∷ k ∷ []
