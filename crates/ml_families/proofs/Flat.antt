-- Conjunctions of propositions and of two propositions joined by `|`.
--
--   IsFlat f         == f is made of propositions and disjunctions of two of them by conjunctions
--   Inside f x i n   == n is the node of an occurrence of f, which stands at the occurrence i
--   ors f x i        == the nodes of the disjunctions, ascending
--   FlatNode g S os n == n is an And or an Or with children in S, an Or one of os, or a positive literal
--   flat_node        == each node of a flat formula is so, and has the priority of nodes of no binder
--   is_or            == each of the nodes of the disjunctions is an Or
--   or_reached       == and is reached from the first node whatever is chosen
--   ors_ascend       == they ascend
use Rattle.std.proofs.Common.{◌≡◌, ℕ, ◌+◌, ◌<◌, ◌≤◌, ◌⊎◌, true, List, [], ◌∷◌, ◌++◌, inl, inr, refl, sym, ap, subst, ◌∙◌, arith}
use Rattle.ml_lists.specs.Ascending.{IsAscending}
use Rattle.ml_lists.specs.Member.{IsMember}
use Rattle.ml_lists.proofs.Member.{member-append, member-append_left, member-append_right}
use Rattle.ml_graph.specs.Graph.{Graph, node_at, priority_at}
use Rattle.ml_graph.specs.declared.node.Node.TheVariants as node
use Rattle.ml_mu.specs.Formula.{Formula, Prop, Binary, occurrences}
use Rattle.ml_mu_graph.specs.MuGraph.{StandsAt}
use Rattle.ml_nodes.specs.Nodes.{positive}
use Rattle.ml_sequent.specs.declared.choice.Side.{Side}
use Rattle.ml_sequent.specs.LocalWalk.{children_of, stays}
use Rattle.ml_text.specs.declared.token.Operator.TheVariants as operator
use Rattle.ml_families.proofs.Regions.{Nodes, Reaches, one_more}

pub data IsFlat : Formula → Type 0 where
  a_prop : (p : List ℕ) → IsFlat (Prop p)
  both : (f h : Formula) → IsFlat f → IsFlat h → IsFlat (Binary operator.And f h)
  either : (p q : List ℕ) → IsFlat (Binary operator.Or (Prop p) (Prop q))

-- the occurrence at which the right operand stands
abbrev pub right_of : Formula → ℕ → ℕ
right_of f i = i + 1 + occurrences f

abbrev pub Inside : (f : Formula) → IsFlat f → ℕ → ℕ → Type 0
Inside _ (a_prop p) i n = n ≡ positive i
Inside _ (both f h x y) i n = (n ≡ positive i) ⊎ (Inside f x (i + 1) n ⊎ Inside h y (right_of f i) n)
Inside _ (either p q) i n = (n ≡ positive i) ⊎ ((n ≡ positive (i + 1)) ⊎ (n ≡ positive (i + 1 + 1)))

abbrev pub ors : (f : Formula) → IsFlat f → ℕ → List ℕ
ors _ (a_prop p) i = []
ors _ (both f h x y) i = ors f x (i + 1) ++ ors h y (right_of f i)
ors _ (either p q) i = positive i ∷ []

pub first_inside : (f : Formula) (x : IsFlat f) (i : ℕ) → Inside f x i (positive i)
first_inside _ (a_prop p) i = refl
first_inside _ (both f h x y) i = inl refl
first_inside _ (either p q) i = inl refl

-- ---- the nodes

pub data FlatNode (g : Graph) (S : Nodes) (os : List ℕ) (n : ℕ) : Type 0 where
  splits : (x y : ℕ) → node_at g n ≡ node.And x y → S x → S y → FlatNode g S os n
  offers : (x y : ℕ) → node_at g n ≡ node.Or x y → S x → S y → IsMember n os → FlatNode g S os n
  says : (p : ℕ) → node_at g n ≡ node.Lit p true → FlatNode g S os n

wider : (g : Graph) (S T : Nodes) (os more : List ℕ) (n : ℕ)
    → ((m : ℕ) → S m → T m)
    → (IsMember n os → IsMember n more)
    → FlatNode g S os n
    → FlatNode g T more n
wider g S T os more n into also (splits x y is of_x of_y) = splits x y is (into x of_x) (into y of_y)
wider g S T os more n into also (offers x y is of_x of_y m) = offers x y is (into x of_x) (into y of_y) (also m)
wider g S T os more n into also (says p is) = says p is

module _ (g : Graph) (d : ℕ) where
  pub flat_node : (f : Formula) (x : IsFlat f) (i : ℕ) → StandsAt g d [] i f → (n : ℕ) → Inside f x i n
      → FlatNode g (Inside f x i) (ors f x i) n × (priority_at g n ≡ d)
  flat_node _ (a_prop p) i stands n here =
      (says stands.0.0 (ap (node_at g) here ∙ stands.0.1.0), ap (priority_at g) here ∙ stands.0.1.1)
  flat_node _ (both f h x y) i stands n (inl here) = (
    splits (positive (i + 1)) (positive (right_of f i)) (ap (node_at g) here ∙ stands.0.0.0)
        (inr (inl (first_inside f x (i + 1)))) (inr (inr (first_inside h y (right_of f i)))),
    ap (priority_at g) here ∙ stands.0.0.1,
  )
  flat_node _ (both f h x y) i stands n (inr (inl here)) =
      let rest = flat_node f x (i + 1) stands.1 n here in (
        wider g (Inside f x (i + 1)) (Inside (Binary operator.And f h) (both f h x y) i) (ors f x (i + 1))
            (ors f x (i + 1) ++ ors h y (right_of f i)) n (λ m s. inr (inl s))
            (member-append_left n (ors f x (i + 1)) (ors h y (right_of f i))) rest.0,
        rest.1,
      )
  flat_node _ (both f h x y) i stands n (inr (inr here)) =
      let rest = flat_node h y (right_of f i) stands.2 n here in (
        wider g (Inside h y (right_of f i)) (Inside (Binary operator.And f h) (both f h x y) i) (ors h y (right_of f i))
            (ors f x (i + 1) ++ ors h y (right_of f i)) n (λ m s. inr (inr s))
            (member-append_right n (ors f x (i + 1)) (ors h y (right_of f i))) rest.0,
        rest.1,
      )
  flat_node _ (either p q) i stands n (inl here) = (
    offers (positive (i + 1)) (positive (i + 1 + 1)) (ap (node_at g) here ∙ stands.0.0.0) (inr (inl refl))
        (inr (inr refl)) (inl here),
    ap (priority_at g) here ∙ stands.0.0.1,
  )
  flat_node _ (either p q) i stands n (inr (inl here)) =
      (says stands.1.0.0 (ap (node_at g) here ∙ stands.1.0.1.0), ap (priority_at g) here ∙ stands.1.0.1.1)
  flat_node _ (either p q) i stands n (inr (inr here)) =
      (says stands.2.0.0 (ap (node_at g) here ∙ stands.2.0.1.0), ap (priority_at g) here ∙ stands.2.0.1.1)

  -- ---- the disjunctions

  abbrev pub IsOrNode : ℕ → Type 0
  IsOrNode n = (x : ℕ) × (y : ℕ) × (node_at g n ≡ node.Or x y)

  pub is_or : (f : Formula) (x : IsFlat f) (i : ℕ) → StandsAt g d [] i f → (n : ℕ) → IsMember n (ors f x i) → IsOrNode n
  is_or _ (a_prop p) i stands n m = absurd m
  is_or _ (both f h x y) i stands n m =
      by_part (member-append n (ors f x (i + 1)) (ors h y (right_of f i)) m) (is_or f x (i + 1) stands.1 n)
      (is_or h y (right_of f i) stands.2 n)
    where
      by_part : IsMember n (ors f x (i + 1)) ⊎ IsMember n (ors h y (right_of f i))
          → (IsMember n (ors f x (i + 1)) → IsOrNode n)
          → (IsMember n (ors h y (right_of f i)) → IsOrNode n)
          → IsOrNode n
      by_part (inl m) left right = left m
      by_part (inr m) left right = right m
  is_or _ (either p q) i stands n (inl here) =
      (positive (i + 1), positive (i + 1 + 1), ap (node_at g) here ∙ stands.0.0.0)
  is_or _ (either p q) i stands n (inr none) = absurd none

  pub or_reached : (f : Formula) (x : IsFlat f) (i : ℕ) → StandsAt g d [] i f → (c : List (ℕ × Side)) (n : ℕ)
      → IsMember n (ors f x i)
      → Reaches g c (positive i) n
  or_reached _ (a_prop p) i stands c n m = absurd m
  or_reached _ (both f h x y) i stands c n m =
      by_part (member-append n (ors f x (i + 1)) (ors h y (right_of f i)) m) (or_reached f x (i + 1) stands.1 c n)
      (or_reached h y (right_of f i) stands.2 c n)
    where
      child : (k : ℕ)
          → IsMember k (positive (i + 1) ∷ positive (right_of f i) ∷ [])
          → Reaches g c k n
          → Reaches g c (positive i) n
      child k m w =
          one_more g c (positive i) k n (subst (IsMember k) (sym (ap (children_of c (positive i)) stands.0.0.0)) m) w

      by_part : IsMember n (ors f x (i + 1)) ⊎ IsMember n (ors h y (right_of f i))
          → (IsMember n (ors f x (i + 1)) → Reaches g c (positive (i + 1)) n)
          → (IsMember n (ors h y (right_of f i)) → Reaches g c (positive (right_of f i)) n)
          → Reaches g c (positive i) n
      by_part (inl m) left right = child (positive (i + 1)) (inl refl) (left m)
      by_part (inr m) left right = child (positive (right_of f i)) (inr (inl refl)) (right m)
  or_reached _ (either p q) i stands c n (inl here) =
      subst (Reaches g c (positive i)) (sym here) (priority_at g (positive i), stays (positive i))
  or_reached _ (either p q) i stands c n (inr none) = absurd none

-- the disjunctions of a formula stand at its occurrences
ors_within : (f : Formula) (x : IsFlat f) (i n : ℕ) → IsMember n (ors f x i)
    → (positive i ≤ n) × (n < positive (i + occurrences f))
ors_within _ (a_prop p) i n m = absurd m
ors_within _ (both f h x y) i n m =
    by_part (member-append n (ors f x (i + 1)) (ors h y (right_of f i)) m) (ors_within f x (i + 1) n)
    (ors_within h y (right_of f i) n)
  where
    by_part : IsMember n (ors f x (i + 1)) ⊎ IsMember n (ors h y (right_of f i))
        → (IsMember n (ors f x (i + 1)) → (positive (i + 1) ≤ n) × (n < positive (i + 1 + occurrences f)))
        → (IsMember n (ors h y (right_of f i))
        → (positive (right_of f i) ≤ n) × (n < positive (right_of f i + occurrences h)))
        → (positive i ≤ n) × (n < positive (i + (1 + occurrences f + occurrences h)))
    by_part (inl m) left right = let in_left = left m in (omega (arith, in_left.0), omega (arith, in_left.1))
    by_part (inr m) left right = let in_right = right m in (omega (arith, in_right.0), omega (arith, in_right.1))
ors_within _ (either p q) i n (inl here) = (omega arith, omega arith)
ors_within _ (either p q) i n (inr none) = absurd none

appended_ascend : (xs ys : List ℕ) → IsAscending xs → IsAscending ys
    → ((x y : ℕ) → IsMember x xs → IsMember y ys → x < y)
    → IsAscending (xs ++ ys)
appended_ascend [] ys a b low = b
appended_ascend (x ∷ xs) ys a b low =
    ((λ y m. by_part y (member-append y xs ys m)), appended_ascend xs ys a.1 b (λ v w m k. low v w (inr m) k))
  where
    by_part : (y : ℕ) → IsMember y xs ⊎ IsMember y ys → x < y
    by_part y (inl m) = a.0 y m
    by_part y (inr m) = low x y (inl refl) m

pub ors_ascend : (f : Formula) (x : IsFlat f) (i : ℕ) → IsAscending (ors f x i)
ors_ascend _ (a_prop p) i = tt
ors_ascend _ (both f h x y) i =
    appended_ascend (ors f x (i + 1)) (ors h y (right_of f i)) (ors_ascend f x (i + 1)) (ors_ascend h y (right_of f i))
    (λ n m left right.
    let low = (ors_within f x (i + 1) n left).1 in
    let high = (ors_within h y (right_of f i) m right).0 in
    omega (arith, low, high))
ors_ascend _ (either p q) i = ((λ y m. absurd m), tt)
