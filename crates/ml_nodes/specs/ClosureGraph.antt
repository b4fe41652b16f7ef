-- The graph of a closure: its nodes stand for values.
--
-- Some logics have nodes that stand for no occurrence of a formula, but for values that say something of a state or of a path.
-- Each value is a node of some form, which leads to other values. The closure of a root has the values that are reached from
-- it. They are numbered breadth first, from the root, which is 0, the left child of a node before the right one. All edges
-- have the action `_`.
--
--   Form P                   == what a node is, and to which values it leads
--   all_of b p q, one_of b p q == a conjunction, and a disjunction; for the negation the other one
--   form_of_connective op b  == a connective, or its negation, by the values of its operands
--   Forms P                  == the form of each value, and its priority
--   children f               == the values to which a form leads, left before right
--   IsReached F root p       == the value p is reached from the root
--   IsClosure F root ps      == these are the values that are reached, each once
--   IsNumberOf ps n p        == n is the number of the value p
--   HasForm g ps v f         == the node v of g is of the form f, with its children's numbers by `ps`
--   row_of v                 == the numbers to which a node leads, left before right
--   IsNumberedBy F g root ps == the nodes of g are those of the closure, numbered by their places
--   IsGraphFrom F g root     == g is the graph of the closure
--   HasMoreThan F root n     == more than n values are reached: some list has that many, each once
use Rattle.std.specs.Prelude.{ℕ, ◌≡◌, ◌<◌, ◌↔◌, Bool, true, false, not, List, [], ◌∷◌, Some, length, map, slice_get, codes}
use Rattle.std.specs.List.{range_with_len}
use Rattle.ml_lists.specs.BreadthFirst.{IsBreadthFirst}
use Rattle.ml_lists.specs.Member.{IsMember}
use Rattle.ml_graph.specs.Graph.{Graph, IsGraph, size, node_at, priority_at, prop_at, action_at}
use Rattle.ml_graph.specs.declared.node.Node.{Node}
use Rattle.ml_graph.specs.declared.node.Node.TheVariants as node
use Rattle.ml_nodes.specs.Nodes.{constant}
use Rattle.ml_text.specs.declared.token.Operator.{Operator}
use Rattle.ml_text.specs.declared.token.Operator.TheVariants as operator

pub data Form (P : Type 0) : Type 0 where
  Constant : Bool → Form P
  Literal : (name : List ℕ) → (positive : Bool) → Form P
  And Or : (left right : P) → Form P
  -- along some edge by the action `_`, and along each
  Diamond Square : P → Form P

-- a conjunction; for the negation a disjunction
abbrev pub all_of : {P : Type 0} → Bool → P → P → Form P
all_of true l r = And l r
all_of false l r = Or l r

abbrev pub one_of : {P : Type 0} → Bool → P → P → Form P
one_of sign l r = all_of (not sign) l r

-- a connective, or its negation, by the values of its operands; of an iff those of both, and of neither
abbrev pub form_of_connective : {P : Type 0} → Operator → Bool → (l r both neither : Bool → P) → Form P
form_of_connective operator.And sign l r both neither = all_of sign (l sign) (r sign)
form_of_connective operator.Or sign l r both neither = one_of sign (l sign) (r sign)
form_of_connective operator.Implies sign l r both neither = one_of sign (l (not sign)) (r sign)
form_of_connective operator.Iff sign l r both neither = Or (both sign) (neither sign)

pub record Forms (P : Type 0) : Type 0 where
  pub form_of : P → Form P
  pub priority_of : P → ℕ

-- ---- what is reached

abbrev pub children : {P : Type 0} → Form P → List P
children (And l r) = l ∷ r ∷ []
children (Or l r) = l ∷ r ∷ []
children (Diamond p) = p ∷ []
children (Square p) = p ∷ []
children _ = []

pub data IsReached {P : Type 0} (F : Forms P) (root : P) : P → Type 0 where
  at_root : IsReached F root root
  behind : (q p : P) → IsReached F root q → IsMember p (children (F.form_of q)) → IsReached F root p

-- each value that is reached from the root stands at one place of the list, and no other one does
pub record IsClosure {P : Type 0} (F : Forms P) (root : P) (places : List P) : Type 0 where
  pub once : (i j : ℕ) (p : P) → slice_get places i ≡ Some p → slice_get places j ≡ Some p → i ≡ j
  pub are_reached : (p : P) → IsMember p places ↔ IsReached F root p

pub record HasMoreThan {P : Type 0} (F : Forms P) (root : P) (n : ℕ) : Type 0 where
  pub places : List P
  pub once : (i j : ℕ) (p : P) → slice_get places i ≡ Some p → slice_get places j ≡ Some p → i ≡ j
  pub are_reached : (p : P) → IsMember p places → IsReached F root p
  pub is_longer : n < length places

-- ---- the graph

abbrev pub IsNumberOf : {P : Type 0} → List P → ℕ → P → Type 0
IsNumberOf places n p = slice_get places n ≡ Some p

abbrev pub HasForm : {P : Type 0} → Graph → List P → Node → Form P → Type 0
HasForm g places v (Constant b) = v ≡ constant b
HasForm g places v (Literal name sign) = (p : ℕ) × (v ≡ node.Lit p sign) × (prop_at g p ≡ name)
HasForm g places v (And l r) =
    (c d : ℕ) × IsNumberOf places c l × IsNumberOf places d r × (v ≡ node.And c d)
HasForm g places v (Or l r) =
    (c d : ℕ) × IsNumberOf places c l × IsNumberOf places d r × (v ≡ node.Or c d)
HasForm g places v (Diamond p) =
    (a c : ℕ) × IsNumberOf places c p × (v ≡ node.Diamond a c) × (action_at g a ≡ codes "_")
HasForm g places v (Square p) =
    (a c : ℕ) × IsNumberOf places c p × (v ≡ node.Square a c) × (action_at g a ≡ codes "_")

abbrev pub row_of : Node → List ℕ
row_of (node.And l r) = l ∷ r ∷ []
row_of (node.Or l r) = l ∷ r ∷ []
row_of (node.Diamond a c) = c ∷ []
row_of (node.Square a c) = c ∷ []
row_of _ = []

pub record IsNumberedBy {P : Type 0} (F : Forms P) (g : Graph) (root : P) (places : List P) : Type 0 where
  pub is_closure : IsClosure F root places
  pub one_each : size g ≡ length places
  pub has_forms : (n : ℕ) (p : P) → IsNumberOf places n p → HasForm g places (node_at g n) (F.form_of p)
  pub has_priorities : (n : ℕ) (p : P) → IsNumberOf places n p → priority_at g n ≡ F.priority_of p
  pub root_is : IsNumberOf places g.root root
  pub is_first : g.root ≡ 0
  pub breadth_first : IsBreadthFirst 0 (map row_of g.nodes) (range_with_len 0 (size g))

pub record IsGraphFrom {P : Type 0} (F : Forms P) (g : Graph) (root : P) : Type 0 where
  pub is_graph : IsGraph g
  pub is_numbered : (places : List P) × IsNumberedBy F g root places
