-- How deep the decisions of an extracted refutation are.
--
-- Each split decides one or-node more, and a choice has each node once.
--
--   choice_node      == a node of the choice with one side more is the new one or was there
--   choice_longer    == with one side more it is longer by one
--   IsChoiceIn       == a choice of nodes of the graph
--   nesting_low      == the splits are nested no deeper than there are nodes left to choose
use Rattle.std.proofs.Common.{ℕ, ◌≡◌, ◌+◌, ◌<◌, ◌≤◌, ◌⊎◌, inl, inr, true, false, List, [], ◌∷◌, None, length, map, ltb, refl, ap, subst, arith}
use Rattle.std.proofs.lemmas.Bool.{cases_Bool, cond-true, cond-false}
use Rattle.std.proofs.lemmas.List.{length-map}
use Rattle.ml_lists.specs.Member.{IsMember}
use Rattle.ml_graph.specs.Graph.{Graph, size}
use Rattle.ml_history.proofs.definition.SmallHistories.{ascending_length}
use Rattle.ml_parity.specs.Solution.{GameSolution}
use Rattle.ml_product.specs.Arena.{Arena}
use Rattle.ml_product.specs.Position.{Position, with_chosen}
use Rattle.ml_refutation.specs.Refutation.{Decision, Split, Clash, Go, nesting}
use Rattle.ml_sequent.specs.declared.choice.Side.{Side}
use Rattle.ml_sequent.specs.declared.choice.Side.TheVariants.{Left, Right}
use Rattle.ml_sequent.specs.Choice.{side_of, IsChoice, with_side}
use Rattle.ml_sequent.proofs.Choices.{with_is_choice}
use Rattle.ml_refute.specs.Extracted.{IsDecisionAt}

abbrev nodes_of : List (ℕ × Side) → List ℕ
nodes_of c = map (λ p. p.0) c

-- a node of the choice with one side more is the new one or was there
pub choice_node : (c : List (ℕ × Side)) (n : ℕ) (x : Side) (k : ℕ)
    → IsMember k (nodes_of (with_side c n x))
    → (k ≡ n) ⊎ IsMember k (nodes_of c)
choice_node [] n x k m = m
choice_node (p ∷ c) n x k m = by_test (cases_Bool (ltb n p.0)) (choice_node c n x k)
  where
    at_head : (k ≡ p.0) ⊎ IsMember k (nodes_of (with_side c n x))
        → (IsMember k (nodes_of (with_side c n x)) → (k ≡ n) ⊎ IsMember k (nodes_of c))
        → (k ≡ n) ⊎ IsMember k (nodes_of (p ∷ c))
    at_head (inl same) rest = inr (inl same)
    at_head (inr later) rest = go (rest later)
      where
        go : (k ≡ n) ⊎ IsMember k (nodes_of c) → (k ≡ n) ⊎ IsMember k (nodes_of (p ∷ c))
        go (inl new) = inl new
        go (inr old) = inr (inr old)

    by_test : (ltb n p.0 ≡ true) ⊎ (ltb n p.0 ≡ false)
        → (IsMember k (nodes_of (with_side c n x)) → (k ≡ n) ⊎ IsMember k (nodes_of c))
        → (k ≡ n) ⊎ IsMember k (nodes_of (p ∷ c))
    by_test (inl t) rest =
        subst (λ v. IsMember k (nodes_of v)) (cond-true (ltb n p.0) ((n, x) ∷ p ∷ c) (p ∷ with_side c n x) t) m
    by_test (inr f) rest =
        at_head (subst (λ v. IsMember k (nodes_of v)) (cond-false (ltb n p.0) ((n, x) ∷ p ∷ c) (p ∷ with_side c n x) f)
        m) rest

-- with one side more it is longer by one
pub choice_longer : (c : List (ℕ × Side)) (n : ℕ) (x : Side) → length (with_side c n x) ≡ length c + 1
choice_longer [] n x = refl
choice_longer (p ∷ c) n x = by_test (cases_Bool (ltb n p.0)) (choice_longer c n x)
  where
    by_test : (ltb n p.0 ≡ true) ⊎ (ltb n p.0 ≡ false) → length (with_side c n x) ≡ length c + 1
        → length (with_side (p ∷ c) n x) ≡ length (p ∷ c) + 1
    by_test (inl t) rest =
        let e = ap (λ (v : List (ℕ × Side)). length v) (cond-true (ltb n p.0) ((n, x) ∷ p ∷ c) (p ∷ with_side c n x)
        t) in omega (arith, e)
    by_test (inr f) rest =
        let e = ap (λ (v : List (ℕ × Side)). length v) (cond-false (ltb n p.0) ((n, x) ∷ p ∷ c) (p ∷ with_side c n x)
        f) in
        omega (arith, e, rest)

-- a choice of nodes of the graph
pub record IsChoiceIn (g : Graph) (c : List (ℕ × Side)) : Type 0 where
  pub is_choice : IsChoice c
  pub low : (k : ℕ) → IsMember k (nodes_of c) → k < size g

pub choice_short : (g : Graph) (c : List (ℕ × Side)) → IsChoiceIn g c → length c ≤ size g
choice_short g c is =
    omega (arith, ascending_length (nodes_of c) (size g) is.is_choice is.low, length-map c (λ (p : ℕ × Side). p.0))

module _ (g : Graph) (a : Arena) (s : GameSolution) (ps : List Position) where
  one_more : (c : List (ℕ × Side)) (n : ℕ) (x : Side)
      → n < size g
      → side_of c n ≡ None
      → IsChoiceIn g c
      → IsChoiceIn g (with_side c n x)
  one_more c n x low unchosen is =
      record { is_choice = with_is_choice c n x is.is_choice unchosen; low = λ k m. in_graph k (choice_node c n x k m) }
    where
      in_graph : (k : ℕ) → (k ≡ n) ⊎ IsMember k (nodes_of c) → k < size g
      in_graph k (inl new) = omega arith
      in_graph k (inr old) = is.low k old

  -- the splits are nested no deeper than there are nodes left to choose
  pub nesting_low : (d : Decision) (p : Position) → IsDecisionAt g a s ps p d → IsChoiceIn g p.choice
      → nesting d + length p.choice ≤ size g
  nesting_low (Split n left right) p at is =
      let «open» = at.0.holds.1.is_open in
      let low : n < size g = at.0.is_spread.low n «open».member in
      let unchosen : side_of p.choice n ≡ None = subst (λ c. side_of c n ≡ None) at.0.is_spread.choice
      «open».is_open.unchosen in
      let on_left = nesting_low left (with_chosen g p n Left) at.1 (one_more p.choice n Left low unchosen is) in
      let on_right = nesting_low right (with_chosen g p n Right) at.2 (one_more p.choice n Right low unchosen is) in
      omega (arith, on_left, on_right, choice_longer p.choice n Left, choice_longer p.choice n Right)
  nesting_low (Clash x) p at is = omega (arith, choice_short g p.choice is)
  nesting_low (Go d f m) p at is = omega (arith, choice_short g p.choice is)
