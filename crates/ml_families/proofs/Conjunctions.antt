-- The decision games of flat formulas: conjunctions of propositions and of two propositions joined by `|`.
--
-- At each position the least disjunction without a side is the one where a side is chosen, and where none is left the
-- position is settled.
--
--   flat_listed   == the positions that are reached are those of the tree of choices
use Rattle.std.proofs.Common.{◌≡◌, ℕ, ◌%◌, ◌⊎◌, true, false, List, [], ◌∷◌, Option, Some, None, inl, inr, refl, sym, ap, subst, ◌∙◌, arith}
use Rattle.ml_lists.specs.Member.{IsMember}
use Rattle.ml_graph.specs.Graph.{Graph, node_at}
use Rattle.ml_graph.specs.declared.node.Node.TheVariants as node
use Rattle.ml_mu.specs.Formula.{Formula}
use Rattle.ml_mu_graph.specs.MuGraph.{StandsAt}
use Rattle.ml_sequent.specs.declared.choice.Side.{Side}
use Rattle.ml_sequent.specs.declared.choice.Side.TheVariants.{Left, Right}
use Rattle.ml_sequent.specs.Choice.{side_of, with_side}
use Rattle.ml_sequent.specs.LocalWalk.{LocalWalk, children_of, chosen_child}
use Rattle.ml_sequent.specs.Spread.{IsOpenOr, is_diamond}
use Rattle.ml_product.specs.Position.{Position}
use Rattle.ml_product.specs.DecisionGame.{Verdict, Clashing, Open, Leading, Settled, To, Turn, IsReached, AreMoves, IsVerdictOf}
use Rattle.ml_families.proofs.Flat.{FlatNode, Inside, IsFlat, first_inside, flat_node, is_or, offers, or_reached, ors, ors_ascend, says, splits}
use Rattle.ml_families.proofs.Listed.{IsListed}
use Rattle.ml_families.proofs.Regions.{AreIn, IsRegion, IsTame, Nodes, inside, no_clash, no_move}
use Rattle.ml_families.proofs.Trees.{Choice, Choosing, IsLeft, chosen_at, trees, trees_listed}

module _ (g : Graph) (d : ℕ) (f : Formula) (x : IsFlat f) (root : g.root ≡ 0) (stands : StandsAt g d [] 0 f)
    (even : d % 2 ≡ 0) where
  abbrev S : Nodes
  S = Inside f x 0

  abbrev all : List ℕ
  all = ors f x 0

  kind : (n : ℕ) → S n → FlatNode g S all n
  kind n here = (flat_node g d f x 0 stands n here).0

  one_of_two : (m k l : ℕ) → S k → S l → IsMember m (k ∷ l ∷ []) → S m
  one_of_two m k l of_k of_l (inl same) = subst S (sym same) of_k
  one_of_two m k l of_k of_l (inr (inl same)) = subst S (sym same) of_l
  one_of_two m k l of_k of_l (inr (inr none)) = absurd none

  one_chosen : (m k l : ℕ) (s : Option Side) → S k → S l → IsMember m (chosen_child s k l) → S m
  one_chosen m k l None of_k of_l i = absurd i
  one_chosen m k l (Some Left) of_k of_l (inl same) = subst S (sym same) of_k
  one_chosen m k l (Some Right) of_k of_l (inl same) = subst S (sym same) of_l
  one_chosen m k l (Some s) of_k of_l (inr none) = absurd none

  region : (c : Choice) → IsRegion g c S
  region c n m here child = by_node (kind n here)
    where
      by_node : FlatNode g S all n → S m
      by_node (splits k l is of_k of_l) = one_of_two m k l of_k of_l (subst (IsMember m) (ap (children_of c n) is) child)
      by_node (offers k l is of_k of_l i) =
          one_chosen m k l (side_of c n) of_k of_l (subst (IsMember m) (ap (children_of c n) is) child)
      by_node (says p is) = absurd (subst (IsMember m) (ap (children_of c n) is) child)

  tame : (n : ℕ) → S n → IsTame g false n
  tame n here = record {
    is_even = let is = (flat_node g d f x 0 stands n here).1 in omega (arith, is, even);
    holds = λ is. not_false is (kind n here);
    one_sign = λ p is. not_denied p is (kind n here);
  }
    where
      not_false : node_at g n ≡ node.False → FlatNode g S all n → ⊥
      not_false e (splits k l is of_k of_l) = cc
      not_false e (offers k l is of_k of_l i) = cc
      not_false e (says p is) = cc

      not_denied : (q : ℕ) → node_at g n ≡ node.Lit q false → FlatNode g S all n → ⊥
      not_denied q e (splits k l is of_k of_l) = cc
      not_denied q e (offers k l is of_k of_l i) = cc
      not_denied q e (says p is) = cc

  sequent_in : (c : Choice) → AreIn S (chosen_at g c).sequent
  sequent_in c n (inl same) = subst S (sym (same ∙ root)) (first_inside f x 0)
  sequent_in c n (inr none) = absurd none

  module _ (c : Choice) (t : Turn g (chosen_at g c)) where
    here : AreIn S t.spread.nodes
    here = inside g (chosen_at g c) S t.spread (region c) (sequent_in c) t.is_spread

    -- an open or-node is a disjunction without a side
    open_left : (os : List ℕ) → IsLeft all os c → (o : ℕ) → IsOpenOr g t.spread o → IsMember o os
    open_left os left o is =
        left.no_others o (by_node (kind o (here o is.member)))
        (subst (λ (e : Choice). side_of e o ≡ None) t.is_spread.choice is.is_open.unchosen)
      where
        by_node : FlatNode g S all o → IsMember o all
        by_node (splits k l e of_k of_l) = let f = is.is_open.is_or in absurd (cc)
        by_node (offers k l e of_k of_l m) = m
        by_node (says p e) = let f = is.is_open.is_or in absurd (cc)

    none : IsLeft all [] c → (q : Position) → IsMember (To q) t.targets → ⊥
    none left q m =
        no_move g (chosen_at g c) S (region c) (sequent_in c) (λ n i is. no_diamond n is (kind n i)) t
        (λ o is. open_left [] left o is) q m
      where
        no_diamond : (n : ℕ) → is_diamond (node_at g n) ≡ true → FlatNode g S all n → ⊥
        no_diamond n e (splits k l is of_k of_l) = let f = ap is_diamond is in cc
        no_diamond n e (offers k l is of_k of_l i) = let f = ap is_diamond is in cc
        no_diamond n e (says p is) = let f = ap is_diamond is in cc

    module _ (o : ℕ) (os : List ℕ) (left : IsLeft all (o ∷ os) c) where
      first_open : IsOpenOr g t.spread o
      first_open =
          let m = left.within o (inl refl) in
          let either = is_or g d f x 0 stands o m in
          let w = or_reached g d f x 0 stands c o m in
          record {
            member = (t.is_spread.nodes o).1 (record {
              from = g.root;
              member = inl refl;
              lowest = w.0;
              walk = subst (λ n. LocalWalk g c n w.0 o) (sym root) w.1;
            });
            is_open = record {
              left = either.0;
              right = either.1;
              is_or = either.2;
              unchosen = subst (λ (e : Choice). side_of e o ≡ None) (sym t.is_spread.choice) (left.unchosen o (inl refl));
            };
          }

      abbrev Both : ℕ → Type 0
      Both n = t.targets ≡ To (chosen_at g (with_side c n Left)) ∷ To (chosen_at g (with_side c n Right)) ∷ []

      by_verdict : (v : Verdict) → IsVerdictOf g t.spread v → AreMoves g (chosen_at g c) t.spread v t.targets → Both o
      by_verdict Clashing is moves = absurd (no_clash g false t.spread (λ n m. tame n (here n m)) is.0 is.1)
      by_verdict (Open n) is moves = by_place (open_left (o ∷ os) left n is.1.is_open)
        where
          by_place : (n ≡ o) ⊎ IsMember n os → Both o
          by_place (inl same) = subst Both same moves
          by_place (inr m) = absurd (is.1.least o (left.ascends.0 n m) first_open)
      by_verdict (Leading ds) is moves = absurd (is.0.none_open o first_open)
      by_verdict Settled is moves = absurd (is.0.none_open o first_open)

      sides : Both o
      sides = by_verdict t.verdict t.is_verdict t.are_moves

  choosing : Choosing g all
  choosing = record { sides = λ o os c left t. sides c t o os left; none = λ c left t q m. none c t left q m }

  pub flat_listed : ((p : Position) → IsReached g p → Turn g p) → IsListed g (trees g all [])
  flat_listed turn_of = trees_listed g all choosing turn_of (ors_ascend f x 0)
