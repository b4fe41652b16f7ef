-- Spreads under a choice with one side more.
--
-- At an open or-node nothing was resolved, so that a side there adds one child, and takes none away.
--
--   children_kept    == children under the choice are children under the longer one
--   new_child        == the chosen child is a child of the node
--   children_new     == a child under the longer choice is one under the choice, or the chosen one
--   chosen_low       == the chosen child is a node
--   longer_walk      == a walk under the choice is a walk under the longer one
--   longer_closed    == the old nodes lead to one another, and to the chosen child
--   longer_spread    == the spread of the old nodes and the chosen child is that of each set of which the old one was
use Rattle.std.proofs.Common.{ℕ, ◌≡◌, ◌<◌, ◌⊎◌, inl, inr, min, List, [], ◌∷◌, Option, Some, None, refl, sym, ap, ◌∙◌, subst}
use Rattle.ml_lists.specs.Member.{IsMember}
use Rattle.ml_graph.specs.declared.node.Node.{Node}
use Rattle.ml_graph.specs.declared.node.Node.TheVariants as node
use Rattle.ml_graph.specs.Graph.{Graph, IsGraph, size, node_at}
use Rattle.ml_sequent.specs.declared.choice.Side.{Side}
use Rattle.ml_sequent.specs.Choice.{side_of, chosen, with_side}
use Rattle.ml_sequent.specs.LocalWalk.{LocalWalk, stays, goes, InSpread, children, children_of, chosen_child}
use Rattle.ml_sequent.specs.Spread.{SpreadList, IsSpreadOf, IsSpread, IsOpenOr}
use Rattle.ml_sequent.proofs.ChoicesWith.{side_with, side_new, side_kept}
use Rattle.ml_sequent.proofs.RankedWalks.{children_low}
use Rattle.ml_sequent.proofs.LocalWalks.{spread_is_least, walk_joined}

module _ (g : Graph) (c : List (ℕ × Side)) (at : ℕ) (s : Side) (l r : ℕ) (is_or : node_at g at ≡ node.Or l r)
    (open' : side_of c at ≡ None) where
  -- children under the choice are children under the longer one
  pub children_kept : (n m : ℕ) → IsMember m (children g c n) → IsMember m (children g (with_side c at s) n)
  children_kept n m h = of_node (node_at g n) h
    where
      of_side : (o : Option Side) (a b : ℕ) → side_of c n ≡ o → IsMember m (chosen_child o a b)
          → IsMember m (chosen_child (side_of (with_side c at s) n) a b)
      of_side None a b is none = absurd none
      of_side (Some y) a b is one =
          subst (λ o. IsMember m (chosen_child o a b)) (sym (side_kept c at s n y open' is)) one

      of_node : (x : Node) → IsMember m (children_of c n x) → IsMember m (children_of (with_side c at s) n x)
      of_node node.True none = none
      of_node node.False none = none
      of_node (node.Lit p positive) none = none
      of_node (node.And a b) both = both
      of_node (node.Or a b) one = of_side (side_of c n) a b refl one
      of_node (node.Diamond a to) none = none
      of_node (node.Square a to) none = none

  -- the chosen child is a child of the node
  pub new_child : IsMember (chosen s l r) (children g (with_side c at s) at)
  new_child =
      subst (λ x. IsMember (chosen s l r) (children_of (with_side c at s) at x)) (sym is_or)
      (subst (λ o. IsMember (chosen s l r) (chosen_child o l r)) (sym (side_new c at s open')) (inl refl))

  -- a child under the longer choice is one under the choice, or the chosen one
  pub children_new : (n m : ℕ) → IsMember m (children g (with_side c at s) n)
      → (m ≡ chosen s l r) ⊎ IsMember m (children g c n)
  children_new n m h = of_node (node_at g n) refl h
    where
      same_or : (a b : ℕ) → node_at g n ≡ node.Or a b → at ≡ n → (l ≡ a) × (r ≡ b)
      same_or a b is here =
          let both : node.Or l r ≡ node.Or a b = sym is_or ∙ ap (node_at g) here ∙ is in
          (let left : l ≡ a = cc in left, let right : r ≡ b = cc in right)

      of_chosen : (y : Side) (a b : ℕ) → node_at g n ≡ node.Or a b → side_of (with_side c at s) n ≡ Some y
          → IsMember m (chosen y a b ∷ [])
          → ((at ≡ n) × (s ≡ y)) ⊎ (side_of c n ≡ Some y)
          → (m ≡ chosen s l r) ⊎ IsMember m (chosen_child (side_of c n) a b)
      of_chosen y a b is side (inl e) (inl here) =
          let both = same_or a b is here.0 in
          let sides : chosen s a b ≡ chosen y a b = ap (λ z. chosen z a b) here.1 in
          inl (e ∙ sym sides ∙ sym (ap (λ z. chosen s z r) both.0 ∙ ap (λ z. chosen s a z) both.1))
      of_chosen y a b is side (inr none) (inl here) = absurd none
      of_chosen y a b is side one (inr before) =
          inr (subst (λ o. IsMember m (chosen_child o a b)) (sym before) one)

      of_side : (o : Option Side) (a b : ℕ) → node_at g n ≡ node.Or a b → side_of (with_side c at s) n ≡ o
          → IsMember m (chosen_child o a b)
          → (m ≡ chosen s l r) ⊎ IsMember m (chosen_child (side_of c n) a b)
      of_side None a b is side none = absurd none
      of_side (Some y) a b is side one = of_chosen y a b is side one (side_with c at s n y side)

      of_node : (x : Node) → node_at g n ≡ x → IsMember m (children_of (with_side c at s) n x)
          → (m ≡ chosen s l r) ⊎ IsMember m (children_of c n x)
      of_node node.True is none = absurd none
      of_node node.False is none = absurd none
      of_node (node.Lit p positive) is none = absurd none
      of_node (node.And a b) is both = inr both
      of_node (node.Or a b) is one = of_side (side_of (with_side c at s) n) a b is refl one
      of_node (node.Diamond a to) is none = absurd none
      of_node (node.Square a to) is none = absurd none

  -- a walk under the choice is a walk under the longer one
  pub longer_walk : (n k m : ℕ) → LocalWalk g c n k m → LocalWalk g (with_side c at s) n k m
  longer_walk n k m (stays _) = stays n
  longer_walk n k m (goes {k = j} _ next child w) =
      goes n next (children_kept n next child) (longer_walk next j m w)

  pub longer_in : (C : List ℕ) (m : ℕ) → InSpread g c C m → InSpread g (with_side c at s) C m
  longer_in C m i =
      record { from = i.from; member = i.member; lowest = i.lowest; walk = longer_walk i.from i.lowest m i.walk }

  -- the spread of the old nodes and the chosen child is that of each set of which the old one was
  pub longer_spread : (C : List ℕ) (sp longer : SpreadList)
      → IsSpreadOf g C c sp
      → IsMember at sp.nodes
      → IsSpreadOf g (chosen s l r ∷ sp.nodes) (with_side c at s) longer
      → IsSpreadOf g C (with_side c at s) longer
  longer_spread C sp longer is member new = record {
    choice = new.choice;
    ascends = new.ascends;
    low = new.low;
    nodes = λ m. ((λ h. to m ((new.nodes m).0 h)), (λ i. (new.nodes m).1 (back m i)));
  }
    where
      has : (n : ℕ) → IsMember n (chosen s l r ∷ sp.nodes) → InSpread g (with_side c at s) C n
      has n (inl e) =
          subst (InSpread g (with_side c at s) C) (sym e)
          ((spread_is_least g (with_side c at s) C).closed at (chosen s l r) (longer_in C at ((is.nodes at).0 member)) new_child)
      has n (inr old) = longer_in C n ((is.nodes n).0 old)

      to : (m : ℕ) → InSpread g (with_side c at s) (chosen s l r ∷ sp.nodes) m → InSpread g (with_side c at s) C m
      to m i =
          let start = has i.from i.member in
          record {
            from = start.from;
            member = start.member;
            lowest = min start.lowest i.lowest;
            walk = walk_joined g (with_side c at s) start.from start.lowest i.from i.lowest m start.walk i.walk;
          }

      back : (m : ℕ) → InSpread g (with_side c at s) C m → InSpread g (with_side c at s) (chosen s l r ∷ sp.nodes) m
      back m i =
          record {
            from = i.from;
            member = inr ((is.nodes i.from).1 ((spread_is_least g c C).has i.from i.member));
            lowest = i.lowest;
            walk = i.walk;
          }

  -- the old nodes lead to one another, and to the chosen child
  pub longer_closed : (sp : SpreadList)
      → IsSpreadOf g sp.nodes c sp
      → (n m : ℕ)
      → IsMember n sp.nodes
      → IsMember m (children g (with_side c at s) n)
      → IsMember m (chosen s l r ∷ sp.nodes)
  longer_closed sp is n m h child = from (children_new n m child)
    where
      from : (m ≡ chosen s l r) ⊎ IsMember m (children g c n) → IsMember m (chosen s l r ∷ sp.nodes)
      from (inl e) = inl e
      from (inr old) = inr ((is.nodes m).1 ((spread_is_least g c sp.nodes).closed n m ((is.nodes n).0 h) old))

-- the chosen child is a node
pub chosen_low : (g : Graph)
    → IsGraph g
    → (sp : SpreadList) (n : ℕ) (s : Side)
    → IsSpread g sp
    → (o : IsOpenOr g sp n)
    → (k : ℕ)
    → k ≡ chosen s o.is_open.left o.is_open.right
    → k < size g
chosen_low g ok sp n s is o k at =
    subst (λ j. j < size g) (sym at)
    (children_low g (with_side sp.choice n s) ok n (chosen s o.is_open.left o.is_open.right) (is.low n o.member)
    (new_child g sp.choice n s o.is_open.left o.is_open.right o.is_open.is_or o.is_open.unchosen))
