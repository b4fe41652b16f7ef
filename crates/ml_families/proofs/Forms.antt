-- Regions of nodes that lead on, literals, squares, and one diamond.
--
--   Form g S d b n   == n is one of these in S: an And with children in S, a square that leads to b, a negative literal, or
--                       the node d
--   IsFormed g S d b == all nodes of S are, and have even priorities
--   form_region      == S is a region where d leads nowhere locally
--   Moved            == the one move of a position in such a region: its next sequent has the child of the diamond, and
--                       beside it at most b
--   moved            == a position in such a region, from which d is reached, has this move
use Rattle.std.proofs.Common.{◌≡◌, ℕ, ◌%◌, ◌⊎◌, true, false, List, [], ◌∷◌, inl, inr, refl, sym, ap, subst, ◌∙◌}
use Rattle.ml_lists.specs.Member.{IsMember}
use Rattle.ml_graph.specs.Graph.{Graph, node_at, priority_at}
use Rattle.ml_graph.specs.declared.node.Node.TheVariants as node
use Rattle.ml_sequent.specs.declared.choice.Side.{Side}
use Rattle.ml_sequent.specs.LocalWalk.{children, children_of}
use Rattle.ml_sequent.specs.Spread.{is_diamond}
use Rattle.ml_sequent.specs.Step.{IsTarget}
use Rattle.ml_product.specs.Position.{Position}
use Rattle.ml_product.specs.DecisionGame.{Target, Turn}
use Rattle.ml_families.proofs.Regions.{AreIn, HasOneDiamond, IsRegion, IsTame, Nodes, Reaches, Stepped, is_quiet, one_target}

pub data Form (g : Graph) (S : Nodes) (d b n : ℕ) : Type 0 where
  splits : (x y : ℕ) → node_at g n ≡ node.And x y → S x → S y → Form g S d b n
  squares : (a : ℕ) → node_at g n ≡ node.Square a b → Form g S d b n
  denies : (p : ℕ) → node_at g n ≡ node.Lit p false → Form g S d b n
  leaves : n ≡ d → Form g S d b n

pub record IsFormed (g : Graph) (S : Nodes) (d b : ℕ) : Type 0 where
  pub form : (n : ℕ) → S n → Form g S d b n
  pub even : (n : ℕ) → S n → priority_at g n % 2 ≡ 0

one_of_two : (S : Nodes) (m x y : ℕ) → S x → S y → IsMember m (x ∷ y ∷ []) → S m
one_of_two S m x y of_x of_y (inl same) = subst S (sym same) of_x
one_of_two S m x y of_x of_y (inr (inl same)) = subst S (sym same) of_y
one_of_two S m x y of_x of_y (inr (inr none)) = absurd none

pub form_region : (g : Graph) (c : List (ℕ × Side)) (S : Nodes) (d b : ℕ) → IsFormed g S d b
    → children g c d ≡ []
    → IsRegion g c S
form_region g c S d b formed nowhere n m here child = by_form (formed.form n here)
  where
    by_form : Form g S d b n → S m
    by_form (splits x y is of_x of_y) =
        one_of_two S m x y of_x of_y (subst (IsMember m) (ap (children_of c n) is) child)
    by_form (squares a is) = absurd (subst (IsMember m) (ap (children_of c n) is) child)
    by_form (denies p is) = absurd (subst (IsMember m) (ap (children_of c n) is) child)
    by_form (leaves same) = absurd (subst (IsMember m) (ap (children g c) same ∙ nowhere) child)

pub form_quiet : (g : Graph) (S : Nodes) (d b n : ℕ) → Form g S d b n → (n ≡ d) ⊎ (is_quiet (node_at g n) ≡ true)
form_quiet g S d b n (splits x y is of_x of_y) = inr (ap is_quiet is)
form_quiet g S d b n (squares a is) = inr (ap is_quiet is)
form_quiet g S d b n (denies p is) = inr (ap is_quiet is)
form_quiet g S d b n (leaves same) = inl same

-- ---- the move

pub record Moved (g : Graph) (p : Position) (S : Nodes) (d b to : ℕ) (ts : List Target) : Type 0 where
  pub step : Stepped g p S d ts
  pub has : IsMember to step.to.sequent
  pub only : (m : ℕ) → IsMember m step.to.sequent → (m ≡ to) ⊎ (m ≡ b)

module _ (g : Graph) (p : Position) (S : Nodes) (d b a to : ℕ) (formed : IsFormed g S d b)
    (is : node_at g d ≡ node.Diamond a to) (sequent : AreIn S p.sequent) where
  tame : (n : ℕ) → S n → IsTame g true n
  tame n here = record { is_even = formed.even n here; holds = not_false; one_sign = no_literal }
    where
      not_false : node_at g n ≡ node.False → ⊥
      not_false f = by_form (formed.form n here)
        where
          by_form : Form g S d b n → ⊥
          by_form (splits x y e of_x of_y) = cc
          by_form (squares k e) = cc
          by_form (denies k e) = cc
          by_form (leaves same) = let e = ap (node_at g) same in cc

      no_literal : (k : ℕ) → node_at g n ≡ node.Lit k true → ⊥
      no_literal k f = by_form (formed.form n here)
        where
          by_form : Form g S d b n → ⊥
          by_form (splits x y e of_x of_y) = cc
          by_form (squares j e) = cc
          by_form (denies j e) = cc
          by_form (leaves same) = let e = ap (node_at g) same in cc

  pub one_diamond : (from : ℕ) → IsMember from p.sequent → Reaches g p.choice from d → HasOneDiamond g p true S d
  one_diamond from member reaches = record {
    region = form_region g p.choice S d b formed (ap (children_of p.choice d) is);
    sequent = sequent;
    tame = tame;
    quiet = λ n here. form_quiet g S d b n (formed.form n here);
    is_diamond = ap is_diamond is;
    from = from;
    member = member;
    reaches = reaches;
  }

  square_to_b : (e k m : ℕ) → S e → node_at g e ≡ node.Square k m → m ≡ b
  square_to_b e k m here f = by_form (formed.form e here)
    where
      by_form : Form g S d b e → m ≡ b
      by_form (splits x y h of_x of_y) = absurd (cc)
      by_form (squares j h) = cc
      by_form (denies j h) = absurd (cc)
      by_form (leaves same) = let h = ap (node_at g) same in absurd (cc)

  pub moved : (t : Turn g p) (from : ℕ) → IsMember from p.sequent → Reaches g p.choice from d
      → Moved g p S d b to t.targets
  moved t from member reaches = found (one_target g p true S d (one_diamond from member reaches) t)
    where
      found : Stepped g p S d t.targets → Moved g p S d b to t.targets
      found s = record {
        step = s;
        has = (s.follows.is_step.targets to).1 (record {
          leaving = d;
          leads = record { action = a; child = to; is_diamond = is; leaves = inl (refl, refl) };
        });
        only = λ m i. by_target m ((s.follows.is_step.targets m).0 i);
      }
        where
          by_leaving : (m : ℕ) (x : IsTarget g s.spread d m)
              → ((x.leaving ≡ d) × (m ≡ x.leads.child))
              ⊎ (IsMember x.leaving s.spread.nodes × (node_at g x.leaving ≡ node.Square x.leads.action m))
              → (m ≡ to) ⊎ (m ≡ b)
          by_leaving m x (inl same) = let child = x.leads.is_diamond in inl (cc)
          by_leaving m x (inr square) =
              inr (square_to_b x.leaving x.leads.action m (s.within x.leaving square.0) square.1)

          by_target : (m : ℕ) → IsTarget g s.spread d m → (m ≡ to) ⊎ (m ≡ b)
          by_target m x = by_leaving m x x.leads.leaves
