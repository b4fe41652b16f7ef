-- Two word automata of one formula have the same places.
--
--   passes_alike, on_alike == walks go on alike
--   place_alike  == so places are the same
--   same_places  == the law
use Rattle.std.proofs.Common.{ℕ, ◌≡◌, ◌<◌, inl, inr, List, [], length, get_or, Some, sym, ap, ◌∙◌, subst}
use Rattle.ml_lists.proofs.Ascending.{ascending_same}
use Rattle.ml_graph.specs.Graph.{Graph, node_at}
use Rattle.ml_graph.specs.declared.node.Node.{Node}
use Rattle.ml_graph.specs.declared.node.Node.TheVariants as node
use Rattle.ml_nodes.specs.AlikeNodes.{AreAlike, AreAlikeNodes}
use Rattle.ml_labelled.specs.declared.labelled.Literal.{Literal}
use Rattle.ml_word_automaton.specs.Letters.{Automaton}
use Rattle.ml_word_automaton.proofs.BlockGraphs.{one_graph}
use Rattle.ml_word_automaton.proofs.AlikeGraphs.{alike_at, states_alike}
use Rattle.ml_translate.specs.Laws.{SamePlaces}
use Rattle.ml_translate.specs.Places as places
use Rattle.ml_translate.specs.Places.{GoesOnAt, IsPlace, PassesNode, Place}

module _ (g h : Graph) (alike : AreAlike g h) where
  module _ (props : List (List ℕ)) where
    passes_alike : (v w : Node) (c d : List Literal)
        → AreAlikeNodes g h v w
        → PassesNode g props v c d
        → PassesNode h props w c d
    passes_alike node.True w c d e passes = subst (λ x. PassesNode h props x c d) (sym e) passes
    passes_alike (node.Lit p b) w c d (q, e, same) (l, names, joined) =
        subst (λ x. PassesNode h props x c d) (sym e)
        (l, record { name = names.name ∙ ap Some (sym same); sign = names.sign }, joined)
    passes_alike node.False w c d e none = absurd none
    passes_alike (node.And l r) w c d e none = absurd none
    passes_alike (node.Or l r) w c d e none = absurd none
    passes_alike (node.Diamond a to) w c d e none = absurd none
    passes_alike (node.Square a to) w c d e none = absurd none

    on_alike : (v w : Node) (c d : List Literal) (m : ℕ)
        → AreAlikeNodes g h v w
        → GoesOnAt g props v c m d
        → GoesOnAt h props w c m d
    on_alike (node.And l r) w c d m e (at, inl both) = subst (λ x. GoesOnAt h props x c m d) (sym e) (at, inl both)
    on_alike (node.And l r) w c d m e (at, inr (other, passes)) =
        subst (λ x. GoesOnAt h props x c m d) (sym e)
        (at, inr (other, passes_alike (node_at g l) (node_at h l) c d (alike_at g h alike l) passes))
    on_alike (node.Or l r) w c d m e on = subst (λ x. GoesOnAt h props x c m d) (sym e) on
    on_alike node.True w c d m e none = absurd none
    on_alike node.False w c d m e none = absurd none
    on_alike (node.Lit p b) w c d m e none = absurd none
    on_alike (node.Diamond a to) w c d m e none = absurd none
    on_alike (node.Square a to) w c d m e none = absurd none

place_alike : (a b : Automaton) (props : List (List ℕ)) (s : Place)
    → AreAlike a.graph b.graph
    → a.states ≡ b.states
    → IsPlace a props s
    → IsPlace b props s
place_alike a b props _ alike same (places.begins p low) =
    subst (λ n. IsPlace b props (record { state = p; node = n; cube = [] }))
    (ap (λ xs. get_or xs p 0) (sym same))
    (places.begins p (subst (λ xs. p < length xs) same low))
place_alike a b props _ alike same (places.goes_on s n c is on) =
    places.goes_on s n c (place_alike a b props s alike same is)
    (on_alike a.graph b.graph alike props (node_at a.graph s.node) (node_at b.graph s.node) s.cube c n
    (alike_at a.graph b.graph alike s.node) on)

pub same_places : SamePlaces
same_places f negated a b is_a is_b =
    let there = one_graph f negated a.graph b.graph is_a.is_graph is_b.is_graph in
    let back = one_graph f negated b.graph a.graph is_b.is_graph is_a.is_graph in
    let states : a.states ≡ b.states =
    ascending_same a.states b.states (is_a.states).ascend (is_b.states).ascend
    (λ n m. ((is_b.states).are_states n).1 (states_alike a.graph b.graph there n (((is_a.states).are_states n).0 m)))
    (λ n m. ((is_a.states).are_states n).1 (states_alike b.graph a.graph back n (((is_b.states).are_states n).0 m))) in
    record {
      states = states;
      places = λ props s. (
        place_alike a b props s there states,
        place_alike b a props s back (sym states),
      );
    }
