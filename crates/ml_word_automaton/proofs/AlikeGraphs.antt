-- Graphs that are one but for their lists of names have the same states, and letters lead alike on them.
--
--   alike_at        == their nodes of one number are alike, whatever the number
--   is_alike        == of a node of this form the other one is alike
--   states_alike    == their states are the same
--   leads_alike     == letters lead alike
use Rattle.std.proofs.Common.{◌≡◌, ℕ, ◌<◌, ◌≤◌, ◌==◌, Bool, inl, inr, ⊎_elim, refl, sym, ap, ◌∙◌, subst, arith}
use Rattle.std.proofs.lemmas.Bool.{cases_lt}
use Rattle.std.proofs.lemmas.List.{get_or_past}
use Rattle.ml_graph.specs.Graph.{Graph, node_at, size}
use Rattle.ml_graph.specs.declared.node.Node.{Node}
use Rattle.ml_graph.specs.declared.node.Node.TheVariants as node
use Rattle.ml_nodes.specs.AlikeNodes.{AreAlike, AreAlikeNodes}
use Rattle.ml_word_automaton.specs.Letters.{GoesOn, IsState, begins, behind, is_true}
use Rattle.ml_word_automaton.specs.WordAutomaton.{IsTrueNode, Leads, Walks, itself, past_same, past_true, to_left, to_right}
use Rattle.ml_word_automaton.specs.Words.{Letter, has}
use Rattle.ml_word_automaton.proofs.MarkedStates.{inside}

module _ (g h : Graph) (alike : AreAlike g h) where
  pub alike_at : (n : ℕ) → AreAlikeNodes g h (node_at g n) (node_at h n)
  alike_at n =
      ⊎_elim (λ (low : n < size g). alike.nodes n low)
      (λ (past : size g ≤ n).
      subst (λ v. AreAlikeNodes g h v (node_at h n)) (sym (get_or_past g.nodes n node.True past))
      (get_or_past h.nodes n node.True (omega (arith, past, alike.sizes))))
      (cases_lt n (size g))

  is_alike : (n : ℕ) (v : Node) → node_at g n ≡ v → AreAlikeNodes g h v (node_at h n)
  is_alike n v is = subst (λ u. AreAlikeNodes g h u (node_at h n)) is (alike_at n)

  -- ---- states

  goes_alike : (k n : ℕ) → GoesOn (node_at g k) n → GoesOn (node_at h k) n
  goes_alike k n goes = by_node (node_at g k) refl goes
    where
      by_node : (v : Node) → node_at g k ≡ v → GoesOn v n → GoesOn (node_at h k) n
      by_node (node.And l r) e goes = subst (λ u. GoesOn u n) (sym (is_alike k (node.And l r) e)) goes
      by_node (node.Or l r) e goes = subst (λ u. GoesOn u n) (sym (is_alike k (node.Or l r) e)) goes
      by_node node.True e none = absurd none
      by_node node.False e none = absurd none
      by_node (node.Lit p b) e none = absurd none
      by_node (node.Diamond a q) e none = absurd none
      by_node (node.Square a q) e none = absurd none

  pub states_alike : (n : ℕ) → IsState g n → IsState h n
  states_alike _ begins = begins
  states_alike n (behind d a _ e) = let other = is_alike d (node.Diamond a n) e in behind d other.0 n other.1
  states_alike n (is_true k _ goes e) = is_true k n (goes_alike k n goes) (is_alike n node.True e)

  -- ---- letters

  module _ (l : Letter) where
    true_alike : (n : ℕ) → IsTrueNode g l (node_at g n) → IsTrueNode h l (node_at h n)
    true_alike n holds = by_node (node_at g n) refl holds
      where
        by_node : (v : Node) → node_at g n ≡ v → IsTrueNode g l v → IsTrueNode h l (node_at h n)
        by_node node.True e t = subst (IsTrueNode h l) (sym (is_alike n node.True e)) tt
        by_node (node.Lit p b) e t =
            let other = is_alike n (node.Lit p b) e in
            subst (IsTrueNode h l) (sym other.1) (ap (has l) other.2 ∙ t)
        by_node node.False e none = absurd none
        by_node (node.And c d) e none = absurd none
        by_node (node.Or c d) e none = absurd none
        by_node (node.Diamond a q) e none = absurd none
        by_node (node.Square a q) e none = absurd none

    walks_alike : (p n : ℕ) → Walks g l p n → Walks h l p n
    walks_alike p _ itself = itself
    walks_alike p _ (past_same n c d walks e same) =
        past_same n c d (walks_alike p n walks) (is_alike n (node.And c d) e) same
    walks_alike p _ (past_true n c d walks e holds) =
        past_true n c d (walks_alike p n walks) (is_alike n (node.And c d) e) (true_alike c holds)
    walks_alike p _ (to_left n c d walks e) = to_left n c d (walks_alike p n walks) (is_alike n (node.Or c d) e)
    walks_alike p _ (to_right n c d walks e) = to_right n c d (walks_alike p n walks) (is_alike n (node.Or c d) e)

    pub leads_alike : (p q : ℕ) (accepting : Bool) → Leads g l p q accepting → Leads h l p q accepting
    leads_alike p q accepting (inl on) =
        let other = is_alike on.diamond (node.Diamond on.action q) on.is_diamond in
        let low = inside g on.diamond (λ t. let wrong = sym on.is_diamond ∙ t in cc) in
        inl (record {
          diamond = on.diamond;
          action = other.0;
          walks = walks_alike p on.diamond on.walks;
          is_diamond = other.1;
          accepts = on.accepts ∙ ap (λ k. k == 0) (alike.priorities on.diamond low);
        })
    leads_alike p q accepting (inr end) = inr (record {
      walks = walks_alike p q end.walks;
      is_true = is_alike q node.True end.is_true;
      accepts = end.accepts;
    })
