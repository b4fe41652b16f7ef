-- Graphs that differ in the numbers of their names alone: two graphs of one formula are such.
--
-- A node's shape is the node with the numbers of its proposition and action taken away. The occurrence i of a formula of
-- the mu-calculus or of PDL has the nodes 2i and 2i + 1.
--
--   shape v, name_in g v == the shape of the node v, and the name to which it refers
--   SameNode g h n       == node n has the same shape, name and priority in both
--   AreAlike g h         == all nodes are the same so, and the roots
--   flip                 == in both directions
--   same_priorities      == the lists of priorities are the same
--   number v, numbered w n == the number to which the node v refers, and the node of the shape w with the number n
--   true_shaped, ..      == a node of some shape
--   literal_there, diamond_there, square_there == a node with a name is one with this name in both
--   same_square          == so the squares of a diamond's action are the same
--   Range P i j          == P holds of all nodes of the occurrences from i to before j
--   one_occurrence, three_occurrences, one_part, two_parts == ranges put together
--   same_and, ..         == nodes that are told alike in both are the same
--   same_joined          == and so are those of a connective
--   alike_below          == graphs of one size whose nodes are all the same are alike
--   alike_of             == so are those whose occurrences all have the same nodes
use Rattle.std.proofs.Common.{◌≡◌, ℕ, ◌+◌, ◌*◌, ◌<◌, ◌≤◌, Bool, List, [], length, refl, sym, ◌∙◌, ap, subst, ⊎_elim, arith}
use Rattle.std.proofs.lemmas.Bool.{cases_eq, cases_lt}
use Rattle.std.proofs.lemmas.List.{get_or_past, get_or_default, same_lists}
use Rattle.ml_graph.specs.Graph.{Graph, IsGraph, size, node_at, priority_at, prop_at, action_at}
use Rattle.ml_graph.specs.declared.node.Node.{Node}
use Rattle.ml_graph.specs.declared.node.Node.TheVariants as node
use Rattle.ml_text.specs.declared.token.Operator.{Operator}
use Rattle.ml_text.specs.declared.token.Operator.TheVariants as operator
use Rattle.ml_text.specs.Operators.{weight}
use Rattle.ml_nodes.specs.Nodes.{Joins, negative, positive}
use Rattle.ml_graph.proofs.Places.{same_place}
use Rattle.ml_graph.proofs.References.{prop_in_range, diamond_action, square_action}

abbrev pub shape : Node → Node
shape node.True = node.True
shape node.False = node.False
shape (node.Lit p positive) = node.Lit 0 positive
shape (node.And l r) = node.And l r
shape (node.Or l r) = node.Or l r
shape (node.Diamond a to) = node.Diamond 0 to
shape (node.Square a to) = node.Square 0 to

abbrev pub name_in : Graph → Node → List ℕ
name_in g node.True = []
name_in g node.False = []
name_in g (node.Lit p positive) = prop_at g p
name_in g (node.And l r) = []
name_in g (node.Or l r) = []
name_in g (node.Diamond a to) = action_at g a
name_in g (node.Square a to) = action_at g a

pub record SameNode (g h : Graph) (n : ℕ) : Type 0 where
  pub shapes : shape (node_at g n) ≡ shape (node_at h n)
  pub names : name_in g (node_at g n) ≡ name_in h (node_at h n)
  pub ranks : priority_at g n ≡ priority_at h n

pub record AreAlike (g h : Graph) : Type 0 where
  pub is_graph : IsGraph g
  pub is_other : IsGraph h
  pub sizes : size g ≡ size h
  pub roots : g.root ≡ h.root
  pub nodes : (n : ℕ) → SameNode g h n

pub flip : (g h : Graph) → AreAlike g h → AreAlike h g
flip g h x = record {
  is_graph = x.is_other;
  is_other = x.is_graph;
  sizes = sym x.sizes;
  roots = sym x.roots;
  nodes = λ n. record { shapes = sym (x.nodes n).shapes; names = sym (x.nodes n).names; ranks = sym (x.nodes n).ranks };
}

pub same_priorities : (g h : Graph) → AreAlike g h → g.priorities ≡ h.priorities
same_priorities g h x =
    same_lists g.priorities h.priorities (x.is_graph.priorities ∙ x.sizes ∙ sym x.is_other.priorities)
    (λ k d low.
    get_or_default g.priorities k d 0 low ∙ (x.nodes k).ranks
    ∙ get_or_default h.priorities k 0 d (omega (arith, low, x.is_graph.priorities, x.sizes, x.is_other.priorities)))

-- ---- nodes by their shapes

-- the number of a node's proposition or action, and the node of a shape with it
abbrev number : Node → ℕ
number (node.Lit p positive) = p
number (node.Diamond a to) = a
number (node.Square a to) = a
number _ = 0

abbrev numbered : Node → ℕ → Node
numbered (node.Lit q positive) p = node.Lit p positive
numbered (node.Diamond b to) a = node.Diamond a to
numbered (node.Square b to) a = node.Square a to
numbered v n = v

own_number : (v : Node) → v ≡ numbered (shape v) (number v)
own_number node.True = refl
own_number node.False = refl
own_number (node.Lit p positive) = refl
own_number (node.And l r) = refl
own_number (node.Or l r) = refl
own_number (node.Diamond a to) = refl
own_number (node.Square a to) = refl

of_shape : (w v : Node) → w ≡ shape v → v ≡ numbered w (number v)
of_shape w v is = own_number v ∙ ap (λ x. numbered x (number v)) (sym is)

pub true_shaped : (v : Node) → node.True ≡ shape v → v ≡ node.True
true_shaped v is = of_shape node.True v is

pub false_shaped : (v : Node) → node.False ≡ shape v → v ≡ node.False
false_shaped v is = of_shape node.False v is

pub and_shaped : (l r : ℕ) (v : Node) → node.And l r ≡ shape v → v ≡ node.And l r
and_shaped l r v is = of_shape (node.And l r) v is

pub or_shaped : (l r : ℕ) (v : Node) → node.Or l r ≡ shape v → v ≡ node.Or l r
or_shaped l r v is = of_shape (node.Or l r) v is

pub lit_shaped : (s : Bool) (v : Node) → node.Lit 0 s ≡ shape v → (p : ℕ) × (v ≡ node.Lit p s)
lit_shaped s v is = (number v, of_shape (node.Lit 0 s) v is)

pub diamond_shaped : (t : ℕ) (v : Node) → node.Diamond 0 t ≡ shape v → (a : ℕ) × (v ≡ node.Diamond a t)
diamond_shaped t v is = (number v, of_shape (node.Diamond 0 t) v is)

pub square_shaped : (t : ℕ) (v : Node) → node.Square 0 t ≡ shape v → (a : ℕ) × (v ≡ node.Square a t)
square_shaped t v is = (number v, of_shape (node.Square 0 t) v is)

-- a node that isn't True has a place
placed : (g : Graph) (n : ℕ) (v : Node) → node_at g n ≡ v → (node.True ≡ v → ⊥) → n < size g
placed g n v is other =
    ⊎_elim (λ (low : n < size g). low)
    (λ (high : size g ≤ n). absurd (other (sym (get_or_past g.nodes n node.True high) ∙ is))) (cases_lt n (size g))

module _ (g h : Graph) (x : AreAlike g h) where
  -- a literal of g is one of the same proposition in h
  pub literal_there : (n p : ℕ) (s : Bool) → node_at g n ≡ node.Lit p s
      → (q : ℕ) × (node_at h n ≡ node.Lit q s) × (prop_at g p ≡ prop_at h q) × (q < length h.props)
  literal_there n p s is =
      let there = lit_shaped s (node_at h n) (sym (ap shape is) ∙ (x.nodes n).shapes) in (
        there.0,
        there.1,
        sym (ap (name_in g) is) ∙ (x.nodes n).names ∙ ap (name_in h) there.1,
        prop_in_range h x.is_other n (placed h n (node.Lit there.0 s) there.1 (λ wrong. absurd (cc))) there.0 s there.1,
      )

  pub diamond_there : (n a t : ℕ) → node_at g n ≡ node.Diamond a t
      → (b : ℕ) × (node_at h n ≡ node.Diamond b t) × (action_at g a ≡ action_at h b) × (b < length h.actions)
  diamond_there n a t is =
      let there = diamond_shaped t (node_at h n) (sym (ap shape is) ∙ (x.nodes n).shapes) in (
        there.0,
        there.1,
        sym (ap (name_in g) is) ∙ (x.nodes n).names ∙ ap (name_in h) there.1,
        diamond_action h x.is_other n (placed h n (node.Diamond there.0 t) there.1 (λ wrong. absurd (cc))) there.0 t there.1,
      )

  pub square_there : (n a t : ℕ) → node_at g n ≡ node.Square a t
      → (b : ℕ) × (node_at h n ≡ node.Square b t) × (action_at g a ≡ action_at h b) × (b < length h.actions)
  square_there n a t is =
      let there = square_shaped t (node_at h n) (sym (ap shape is) ∙ (x.nodes n).shapes) in (
        there.0,
        there.1,
        sym (ap (name_in g) is) ∙ (x.nodes n).names ∙ ap (name_in h) there.1,
        square_action h x.is_other n (placed h n (node.Square there.0 t) there.1 (λ wrong. absurd (cc))) there.0 t there.1,
      )

  -- a square of a diamond's action is one in both
  pub same_square : (d e a c m : ℕ) → node_at g d ≡ node.Diamond a c → node_at g e ≡ node.Square a m
      → (b : ℕ) × (node_at h d ≡ node.Diamond b c) × (node_at h e ≡ node.Square b m)
  same_square d e a c m diamond square =
      let one = diamond_there d a c diamond in
      let two = square_there e a m square in
      let same = same_place h.actions x.is_other.actions_differ two.0 one.0 two.3 one.3 (sym two.2 ∙ one.2) in
      (one.0, one.1, two.1 ∙ ap (λ k. node.Square k m) same)

-- ---- graphs of a formula: each occurrence has two nodes in a row

-- all numbers of the nodes of the occurrences from i to before j
abbrev pub Range : (ℕ → Type 0) → ℕ → ℕ → Type 0
Range P i j = (n : ℕ) → 2 * i ≤ n → n < 2 * j → P n

pub one_occurrence : (P : ℕ → Type 0) (i : ℕ) → P (2 * i) → P (2 * i + 1) → Range P i (i + 1)
one_occurrence P i plus minus n low high =
    ⊎_elim (λ (is : n ≡ 2 * i). subst P (sym is) plus)
    (λ (other : ¬ (n ≡ 2 * i)). let is : n ≡ 2 * i + 1 = by_next n i low high other in subst P (sym is) minus)
    (cases_eq n (2 * i))
  where
    by_next : (n i : ℕ) → 2 * i ≤ n → n < 2 * (i + 1) → ¬ (n ≡ 2 * i) → n ≡ 2 * i + 1
    by_next n i low high other = omega (arith, low, high, other)

joined : (P : ℕ → Type 0) (i j k : ℕ) → Range P i j → Range P j k → Range P i k
joined P i j k left right n low high =
    ⊎_elim (λ (before : n < 2 * j). left n low before) (λ (after : 2 * j ≤ n). right n after high) (cases_lt n (2 * j))

ended : (P : ℕ → Type 0) (i j k : ℕ) → j ≡ k → Range P i j → Range P i k
ended P i j k same all = subst (Range P i) same all

-- three occurrences in a row
three_occurrences : (P : ℕ → Type 0) (i : ℕ)
    → P (2 * i)
    → P (2 * i + 1)
    → P (2 * (i + 1))
    → P (2 * (i + 1) + 1)
    → P (2 * (i + 2))
    → P (2 * (i + 2) + 1)
    → Range P i (i + 3)
three_occurrences P i a b c d e f =
    joined P i (i + 1) (i + 3) (one_occurrence P i a b)
    (joined P (i + 1) (i + 2) (i + 3) (ended P (i + 1) (i + 1 + 1) (i + 2) (omega arith) (one_occurrence P (i + 1) c d))
    (ended P (i + 2) (i + 2 + 1) (i + 3) (omega arith) (one_occurrence P (i + 2) e f)))

-- the two nodes of an occurrence, and those of what stands behind it
pub one_part : (P : ℕ → Type 0) (i a : ℕ)
    → P (2 * i)
    → P (2 * i + 1)
    → Range P (i + 1) (i + 1 + a)
    → Range P i (i + (1 + a))
one_part P i a plus minus part =
    ended P i (i + 1 + a) (i + (1 + a)) (omega arith) (joined P i (i + 1) (i + 1 + a) (one_occurrence P i plus minus) part)

-- two parts behind the nodes of w occurrences
pub two_parts : (P : ℕ → Type 0) (i w a b : ℕ)
    → Range P i (i + w)
    → Range P (i + w) (i + w + a)
    → Range P (i + w + a) (i + w + a + b)
    → Range P i (i + (w + a + b))
two_parts P i w a b heads left right =
    ended P i (i + w + a + b) (i + (w + a + b)) (omega arith)
    (joined P i (i + w) (i + w + a + b) heads (joined P (i + w) (i + w + a) (i + w + a + b) left right))

-- the node n of a graph, with its priority
abbrev Stands : Graph → ℕ → Node → ℕ → Type 0
Stands g n v p = (node_at g n ≡ v) × (priority_at g n ≡ p)

module _ (g h : Graph) where
  same_two : (n : ℕ) (v w : Node) (p : ℕ) → Stands g n v p → Stands h n w p → shape v ≡ shape w
      → name_in g v ≡ name_in h w → SameNode g h n
  same_two n v w p here there shapes names = record {
    shapes = ap shape here.0 ∙ shapes ∙ sym (ap shape there.0);
    names = ap (name_in g) here.0 ∙ names ∙ sym (ap (name_in h) there.0);
    ranks = here.1 ∙ sym there.1;
  }

  -- a node without a name
  pub same_plain : (n : ℕ) (v : Node) (p : ℕ)
      → name_in g v ≡ name_in h v
      → Stands g n v p
      → Stands h n v p
      → SameNode g h n
  same_plain n v p names here there = same_two n v v p here there refl names

  pub same_and : (n l r p : ℕ) → Stands g n (node.And l r) p → Stands h n (node.And l r) p → SameNode g h n
  same_and n l r p here there = same_plain n (node.And l r) p refl here there

  pub same_or : (n l r p : ℕ) → Stands g n (node.Or l r) p → Stands h n (node.Or l r) p → SameNode g h n
  same_or n l r p here there = same_plain n (node.Or l r) p refl here there

  -- the nodes of a connective
  pub same_joined : (p : ℕ) (op : Operator) (i l r : ℕ) → Joins g p op i l r → Joins h p op i l r
      → Range (SameNode g h) i (i + weight op)
  same_joined p operator.And i l r x y =
      one_occurrence (SameNode g h) i (same_and (positive i) (positive l) (positive r) p x.0 y.0)
      (same_or (negative i) (negative l) (negative r) p x.1 y.1)
  same_joined p operator.Or i l r x y =
      one_occurrence (SameNode g h) i (same_or (positive i) (positive l) (positive r) p x.0 y.0)
      (same_and (negative i) (negative l) (negative r) p x.1 y.1)
  same_joined p operator.Implies i l r x y =
      one_occurrence (SameNode g h) i (same_or (positive i) (negative l) (positive r) p x.0 y.0)
      (same_and (negative i) (positive l) (negative r) p x.1 y.1)
  same_joined p operator.Iff i l r x y =
      let both = i + 1 in
      let neither = i + 2 in
      three_occurrences (SameNode g h) i (same_or (positive i) (positive both) (positive neither) p x.0 y.0)
      (same_or (negative i) (negative both) (negative neither) p x.1 y.1)
      (same_and (positive both) (positive l) (positive r) p x.2 y.2)
      (same_and (negative both) (positive l) (negative r) p x.3 y.3)
      (same_and (positive neither) (negative l) (negative r) p x.4 y.4)
      (same_and (negative neither) (negative l) (positive r) p x.5 y.5)

  pub same_literal : (n q r : ℕ) (s : Bool) (p : ℕ) (name : List ℕ)
      → Stands g n (node.Lit q s) p
      → Stands h n (node.Lit r s) p
      → prop_at g q ≡ name
      → prop_at h r ≡ name
      → SameNode g h n
  same_literal n q r s p name here there is other =
      same_two n (node.Lit q s) (node.Lit r s) p here there refl (is ∙ sym other)

  pub same_diamond : (n a b t p : ℕ) (name : List ℕ)
      → Stands g n (node.Diamond a t) p
      → Stands h n (node.Diamond b t) p
      → action_at g a ≡ name
      → action_at h b ≡ name
      → SameNode g h n
  same_diamond n a b t p name here there is other =
      same_two n (node.Diamond a t) (node.Diamond b t) p here there refl (is ∙ sym other)

  pub same_box : (n a b t p : ℕ) (name : List ℕ)
      → Stands g n (node.Square a t) p
      → Stands h n (node.Square b t) p
      → action_at g a ≡ name
      → action_at h b ≡ name
      → SameNode g h n
  same_box n a b t p name here there is other =
      same_two n (node.Square a t) (node.Square b t) p here there refl (is ∙ sym other)

  past : (n : ℕ) → IsGraph g → IsGraph h → size g ≡ size h → size g ≤ n → SameNode g h n
  past n is other same high =
      let here = get_or_past g.nodes n node.True high in
      let there = get_or_past h.nodes n node.True (omega (arith, same, high)) in
      record {
        shapes = ap shape here ∙ sym (ap shape there);
        names = ap (name_in g) here ∙ sym (ap (name_in h) there);
        ranks =
            get_or_past g.priorities n 0 (omega (arith, is.priorities, high))
            ∙ sym (get_or_past h.priorities n 0 (omega (arith, other.priorities, same, high)));
      }

  pub alike_below : IsGraph g → IsGraph h → size g ≡ size h → g.root ≡ h.root → ((n : ℕ) → n < size g → SameNode g h n)
      → AreAlike g h
  alike_below is other sizes roots all = record {
    is_graph = is;
    is_other = other;
    sizes = sizes;
    roots = roots;
    nodes = λ n.
        ⊎_elim (λ (low : n < size g). all n low) (λ (high : size g ≤ n). past n is other sizes high) (cases_lt n (size g));
  }

  pub alike_of : (k : ℕ)
      → IsGraph g
      → IsGraph h
      → size g ≡ 2 * k
      → size h ≡ 2 * k
      → g.root ≡ h.root
      → Range (SameNode g h) 0 (0 + k)
      → AreAlike g h
  alike_of k is other here there roots all =
      alike_below is other (here ∙ sym there) roots (λ n low. all n (omega arith) (omega (arith, low, here)))
