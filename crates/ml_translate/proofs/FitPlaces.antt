-- Places have nodes of the graph, and states of the automaton.
--
--   node_fits, state_fits, all_fit == so it is of each place
--   listed_low == the node of a state is one
use Rattle.std.proofs.Common.{ℕ, ◌≡◌, ◌<◌, inl, inr, List, length, get_or, refl, sym, subst}
use Rattle.ml_graph.specs.Graph.{Graph, IsGraph, node_at, size}
use Rattle.ml_graph.specs.declared.node.Node.{Node}
use Rattle.ml_graph.specs.declared.node.Node.TheVariants as node
use Rattle.ml_graph.proofs.References.{and_right, or_left, or_right}
use Rattle.ml_labelled.specs.declared.labelled.Literal.{Literal}
use Rattle.ml_word_automaton.specs.Letters.{Automaton, HasItsStates, node_of}
use Rattle.ml_word_automaton.proofs.HeldTransitions.{state_low}
use Rattle.ml_word_automaton.proofs.NumberedStates.{state_at}
use Rattle.ml_translate.specs.Places.{GoesOnAt, IsPlace, Place, begins, goes_on}
use Rattle.ml_translate.specs.private.Finding.{AllFit, ArePlaces}

on_low : (g : Graph) (props : List (List ℕ)) (ok : IsGraph g) (n m : ℕ) (c d : List Literal) (v : Node)
    → n < size g
    → node_at g n ≡ v
    → GoesOnAt g props v c m d
    → m < size g
on_low g props ok n m c d (node.And l r) low is (at, more) = subst (λ k. k < size g) (sym at) (and_right g ok n low l r is)
on_low g props ok n m c d (node.Or l r) low is (inl at, same) = subst (λ k. k < size g) (sym at) (or_left g ok n low l r is)
on_low g props ok n m c d (node.Or l r) low is (inr at, same) = subst (λ k. k < size g) (sym at) (or_right g ok n low l r is)
on_low g props ok n m c d node.True low is none = absurd none
on_low g props ok n m c d node.False low is none = absurd none
on_low g props ok n m c d (node.Lit k b) low is none = absurd none
on_low g props ok n m c d (node.Diamond x y) low is none = absurd none
on_low g props ok n m c d (node.Square x y) low is none = absurd none

module _ (a : Automaton) (props : List (List ℕ)) (has : HasItsStates a) (ok : IsGraph a.graph) where
  pub node_fits : (s : Place) → IsPlace a props s → s.node < size a.graph
  node_fits _ (begins p low) = state_low a.graph ok (node_of a p) (state_at a has p low)
  node_fits _ (goes_on s n c is on) =
      on_low a.graph props ok s.node n s.cube c (node_at a.graph s.node) (node_fits s is) refl on

  pub state_fits : (s : Place) → IsPlace a props s → s.state < length a.states
  state_fits _ (begins p low) = low
  state_fits _ (goes_on s n c is on) = state_fits s is

  pub all_fit : (xs : List Place) → ArePlaces a props xs → AllFit (size a.graph) (length a.states) xs
  all_fit xs are s m = let is = (are.are s).0 m in (node_fits s is, state_fits s is)

-- the node of a state, where a program reads it
pub listed_low : (a : Automaton) (g : Graph) (states : List ℕ) (i : ℕ)
    → HasItsStates a
    → IsGraph g
    → g ≡ a.graph
    → states ≡ a.states
    → i < length states
    → get_or states i 0 < size a.graph
listed_low a g states i has ok same all low =
    subst (λ xs. get_or xs i 0 < size a.graph) (sym all)
    (state_low a.graph (subst IsGraph same ok) (node_of a i) (state_at a has i (subst (λ xs. i < length xs) all low)))
