-- The choice of a position that is reached decides nodes of the graph, each once.
--
--   with_side_length == a choice with a side more has one side more
--   with_side_some   == so it isn't empty
--   ChoiceFacts      == the choice is one, of nodes of the graph
--   reached_choice   == so is that of each position that is reached
--   chosen_few       == so there are at most as many sides as nodes
use Rattle.std.proofs.Common.{ℕ, suc, ◌≡◌, ◌<◌, ◌≤◌, ◌⊎◌, inl, inr, true, false, nat_lt, List, [], ◌∷◌, length, map, None, refl, sym, ap, ◌∙◌, subst, arith}
use Rattle.std.proofs.lemmas.Bool.{cases_Bool, cond-true, cond-false}
use Rattle.std.proofs.lemmas.List.{length-map}
use Rattle.ml_lists.specs.Member.{IsMember}
use Rattle.ml_graph.specs.Graph.{Graph, size}
use Rattle.ml_history.proofs.definition.SmallHistories.{ascending_length}
use Rattle.ml_sequent.specs.declared.choice.Side.{Side}
use Rattle.ml_sequent.specs.Choice.{side_of, IsChoice, with_side}
use Rattle.ml_sequent.proofs.Choices.{with_is_choice}
use Rattle.ml_product.specs.Position.{Position}
use Rattle.ml_product.specs.DecisionGame.{IsReached, at_start, by_move}
use Rattle.ml_product.proofs.NeutralPriority.{MovesTo, chooses, steps, moves_to}

-- a choice with a side more has one side more
pub with_side_length : (c : List (ℕ × Side)) (o : ℕ) (x : Side) → length (with_side c o x) ≡ suc (length c)
with_side_length [] o x = refl
with_side_length (q ∷ c) o x = by_test (cases_Bool (nat_lt o q.0)) (with_side_length c o x)
  where
    by_test : (nat_lt o q.0 ≡ true) ⊎ (nat_lt o q.0 ≡ false)
        → length (with_side c o x) ≡ suc (length c)
        → length (with_side (q ∷ c) o x) ≡ suc (length (q ∷ c))
    by_test (inl less) rest = ap length (cond-true (nat_lt o q.0) ((o, x) ∷ q ∷ c) (q ∷ with_side c o x) less)
    by_test (inr more) rest =
        ap length (cond-false (nat_lt o q.0) ((o, x) ∷ q ∷ c) (q ∷ with_side c o x) more) ∙ ap suc rest

-- so it isn't empty
pub with_side_some : (c : List (ℕ × Side)) (o : ℕ) (x : Side) → with_side c o x ≡ [] → ⊥
with_side_some c o x e = let long = with_side_length c o x in let none = ap length e in omega arith

-- its nodes are those of the choice and the new one
with_side_nodes : (c : List (ℕ × Side)) (o : ℕ) (x : Side) (n : ℕ)
    → IsMember n (map (λ q. q.0) (with_side c o x))
    → (n ≡ o) ⊎ IsMember n (map (λ q. q.0) c)
with_side_nodes [] o x n (inl same) = inl same
with_side_nodes [] o x n (inr none) = absurd none
with_side_nodes (q ∷ c) o x n m = by_test (cases_Bool (nat_lt o q.0)) (with_side_nodes c o x n)
  where
    later : (IsMember n (map (λ r. r.0) (with_side c o x)) → (n ≡ o) ⊎ IsMember n (map (λ r. r.0) c))
        → (n ≡ q.0) ⊎ IsMember n (map (λ r. r.0) (with_side c o x))
        → (n ≡ o) ⊎ IsMember n (map (λ r. r.0) (q ∷ c))
    later rest (inl same) = inr (inl same)
    later rest (inr i) = joined (rest i)
      where
        joined : (n ≡ o) ⊎ IsMember n (map (λ r. r.0) c) → (n ≡ o) ⊎ IsMember n (map (λ r. r.0) (q ∷ c))
        joined (inl new) = inl new
        joined (inr old) = inr (inr old)

    by_test : (nat_lt o q.0 ≡ true) ⊎ (nat_lt o q.0 ≡ false)
        → (IsMember n (map (λ r. r.0) (with_side c o x)) → (n ≡ o) ⊎ IsMember n (map (λ r. r.0) c))
        → (n ≡ o) ⊎ IsMember n (map (λ r. r.0) (q ∷ c))
    by_test (inl less) rest =
        subst (λ (d : List (ℕ × Side)). IsMember n (map (λ r. r.0) d))
        (cond-true (nat_lt o q.0) ((o, x) ∷ q ∷ c) (q ∷ with_side c o x) less) m
    by_test (inr more) rest =
        later rest (subst (λ (d : List (ℕ × Side)). IsMember n (map (λ r. r.0) d))
        (cond-false (nat_lt o q.0) ((o, x) ∷ q ∷ c) (q ∷ with_side c o x) more) m)

-- the choice is one, of nodes of the graph
pub record ChoiceFacts (g : Graph) (c : List (ℕ × Side)) : Type 0 where
  pub is_choice : IsChoice c
  pub low : (n : ℕ) → IsMember n (map (λ q. q.0) c) → n < size g

no_choice : (g : Graph) → ChoiceFacts g []
no_choice g = record { is_choice = tt; low = λ n m. absurd m }

-- so is that of each position that is reached
pub reached_choice : (g : Graph) (p : Position) → IsReached g p → ChoiceFacts g p.choice
reached_choice g p at_start = no_choice g
reached_choice g p (by_move before _ turn reached m) =
    by_kind (moves_to g before p turn m) (reached_choice g before reached)
  where
    by_kind : MovesTo g before p → ChoiceFacts g before.choice → ChoiceFacts g p.choice
    by_kind (steps sp d is_spread inside f) old = subst (ChoiceFacts g) (sym f.unchosen) (no_choice g)
    by_kind (chooses sp o x is_spread is_open is) old =
        let unchosen : side_of before.choice o ≡ None =
        subst (λ c. side_of c o ≡ None) is_spread.choice is_open.is_open.unchosen in
        subst (ChoiceFacts g) (ap (λ (q : Position). q.choice) (sym is)) (record {
          is_choice = with_is_choice before.choice o x old.is_choice unchosen;
          low = λ n i. at_node n (with_side_nodes before.choice o x n i);
        })
      where
        at_node : (n : ℕ) → (n ≡ o) ⊎ IsMember n (map (λ q. q.0) before.choice) → n < size g
        at_node n (inl new) = let low = is_spread.low o is_open.member in omega arith
        at_node n (inr i) = old.low n i

-- so there are at most as many sides as nodes
pub chosen_few : (g : Graph) (p : Position) → IsReached g p → length p.choice ≤ size g
chosen_few g p reached =
    let facts = reached_choice g p reached in
    let few = ascending_length (map (λ (q : ℕ × Side). q.0) p.choice) (size g) facts.is_choice facts.low in
    omega (arith, length-map p.choice (λ (q : ℕ × Side). q.0))
