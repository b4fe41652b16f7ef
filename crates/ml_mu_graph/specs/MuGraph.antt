-- The modal graph of a formula of the mu-calculus.
--
-- Occurrences are numbered in preorder from 0: an operator before its operands, left before right; an iff takes three
-- numbers in a row. Occurrence i has two nodes, 2i for itself and 2i + 1 for its negation, so negations cost nothing: a
-- negation leads to the other node of its operand, and the nodes of a connective to those that de Morgan's laws name.
-- A binder leads to its body and a variable back to its binder, so a fixpoint is a cycle through the binder's node. That
-- node's priority says of which kind: even for a greatest fixpoint, odd for a least one, and the lower the fewer binders
-- stand around it. The negation of a least fixpoint is a greatest one. Every other node has a priority above all binders'.
--
-- A node that only leads on is an And with the same child twice. Propositions and actions are named in the graph's lists
-- in any order. `ml_nodes/specs/Nodes` has the two nodes of an occurrence, and what it means that a node of a graph is one.
--
--   binders f              == how many binders f has
--   Around                 == the binders around an occurrence, innermost first, each as its variable and its occurrence
--   binder_of bs x         == the occurrence of the innermost binder of x
--   IsLiteral, IsModality  == the node n is a literal of a named proposition; a modality by a named action
--   StandsAt g k bs i f    == at the occurrence i of g, with the binders bs around it, stands f; k is the priority of
--                             nodes that are no binder's
--   IsGraphOf g f negated  == g is the graph of f, or of its negation
use Rattle.std.specs.Prelude.{ℕ, ◌≡◌, ◌+◌, ◌*◌, Bool, true, false, not, if◌then◌else◌, List, [], ◌∷◌, length}
use Rattle.std.specs.Str.{bytes_eq}
use Rattle.ml_graph.specs.Graph.{Graph, IsGraph, size, prop_at, action_at}
use Rattle.ml_graph.specs.declared.node.Node.{Node}
use Rattle.ml_graph.specs.declared.node.Node.TheVariants as node
use Rattle.ml_text.specs.Operators.{weight}
use Rattle.ml_nodes.specs.Nodes.{positive, negative, constant, IsNode, LeadsTo, Joins}
use Rattle.ml_mu.specs.Formula.{Formula, Const, Prop, Var, Not, Binary, Modal, Binder, occurrences}
use Rattle.ml_mu.specs.declared.term.Modality.{Modality}
use Rattle.ml_mu.specs.declared.term.Modality.TheVariants.{Diamond, Square}
use Rattle.ml_mu.specs.declared.term.Fixpoint.{Fixpoint}
use Rattle.ml_mu.specs.declared.term.Fixpoint.TheVariants.{Least, Greatest}

abbrev pub binders : Formula → ℕ
binders (Not f) = binders f
binders (Binary op f g) = binders f + binders g
binders (Modal m a f) = binders f
binders (Binder q x f) = 1 + binders f
binders _ = 0

abbrev pub Around : Type 0
Around = List (List ℕ × ℕ)

-- past the last binder, where no variable of a formula stands, 0
abbrev pub binder_of : Around → List ℕ → ℕ
binder_of [] x = 0
binder_of (b ∷ bs) x = if bytes_eq b.0 x then b.1 else binder_of bs x

abbrev pub IsLiteral : Graph → ℕ → List ℕ → Bool → ℕ → Type 0
IsLiteral g n name is_positive priority =
    (p : ℕ) × IsNode g n (node.Lit p is_positive) priority × (prop_at g p ≡ name)

abbrev pub modality : Modality → ℕ → ℕ → Node
modality Diamond a target = node.Diamond a target
modality Square a target = node.Square a target

abbrev pub dual : Modality → Modality
dual Diamond = Square
dual Square = Diamond

abbrev pub IsModality : Graph → ℕ → Modality → List ℕ → ℕ → ℕ → Type 0
IsModality g n m name target priority =
    (a : ℕ) × IsNode g n (modality m a target) priority × (action_at g a ≡ name)

-- with d binders around it: 2d where it is greatest, 2d + 1 where it is least
abbrev pub binder_priority : Fixpoint → ℕ → ℕ
binder_priority Greatest d = 2 * d
binder_priority Least d = 2 * d + 1

abbrev pub opposite : Fixpoint → Fixpoint
opposite Greatest = Least
opposite Least = Greatest

abbrev pub StandsAt : Graph → ℕ → Around → ℕ → Formula → Type 0
StandsAt g k bs i (Const b) =
    IsNode g (positive i) (constant b) k × IsNode g (negative i) (constant (not b)) k
StandsAt g k bs i (Prop p) =
    IsLiteral g (positive i) p true k × IsLiteral g (negative i) p false k
StandsAt g k bs i (Var x) =
    LeadsTo g (positive i) (positive (binder_of bs x)) k × LeadsTo g (negative i) (negative (binder_of bs x)) k
StandsAt g k bs i (Not f) =
    LeadsTo g (positive i) (negative (i + 1)) k × LeadsTo g (negative i) (positive (i + 1)) k
    × StandsAt g k bs (i + 1) f
StandsAt g k bs i (Binary op f h) =
    let l = i + weight op in let r = l + occurrences f in
    Joins g k op i l r × StandsAt g k bs l f × StandsAt g k bs r h
StandsAt g k bs i (Modal m a f) =
    IsModality g (positive i) m a (positive (i + 1)) k × IsModality g (negative i) (dual m) a (negative (i + 1)) k
    × StandsAt g k bs (i + 1) f
StandsAt g k bs i (Binder q x f) =
    LeadsTo g (positive i) (positive (i + 1)) (binder_priority q (length bs))
    × LeadsTo g (negative i) (negative (i + 1)) (binder_priority (opposite q) (length bs))
    × StandsAt g k ((x, i) ∷ bs) (i + 1) f

pub record IsGraphOf (g : Graph) (f : Formula) (negated : Bool) : Type 0 where
  pub is_graph : IsGraph g
  pub two_for_each : size g ≡ 2 * occurrences f
  pub stands : StandsAt g (2 * binders f) [] 0 f
  pub root_is : g.root ≡ (if negated then negative 0 else positive 0)
