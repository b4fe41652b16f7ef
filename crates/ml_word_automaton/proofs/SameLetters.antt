-- Letters with the same propositions lead alike.
use Rattle.std.proofs.Common.{ℕ, inl, inr, Bool, sym, ◌∙◌}
use Rattle.ml_graph.specs.Graph.{Graph, node_at, prop_at}
use Rattle.ml_graph.specs.declared.node.Node.{Node}
use Rattle.ml_graph.specs.declared.node.Node.TheVariants as node
use Rattle.ml_word_automaton.specs.Laws.{HaveSame, LettersAreSets}
use Rattle.ml_word_automaton.specs.WordAutomaton.{IsTrueNode, Walks, itself, past_same, past_true, to_left, to_right, Leads}
use Rattle.ml_word_automaton.specs.Words.{Letter}

module _ (g : Graph) (l k : Letter) (same : HaveSame l k) where
  true_alike : (x : Node) → IsTrueNode g l x → IsTrueNode g k x
  true_alike node.True t = tt
  true_alike (node.Lit p positive) t = sym (same (prop_at g p)) ∙ t
  true_alike node.False none = absurd none
  true_alike (node.And a b) none = absurd none
  true_alike (node.Or a b) none = absurd none
  true_alike (node.Diamond a q) none = absurd none
  true_alike (node.Square a q) none = absurd none

  walks_alike : (p n : ℕ) → Walks g l p n → Walks g k p n
  walks_alike p _ itself = itself
  walks_alike p _ (past_same n a b walks e one) = past_same n a b (walks_alike p n walks) e one
  walks_alike p _ (past_true n a b walks e t) = past_true n a b (walks_alike p n walks) e (true_alike (node_at g a) t)
  walks_alike p _ (to_left n a b walks e) = to_left n a b (walks_alike p n walks) e
  walks_alike p _ (to_right n a b walks e) = to_right n a b (walks_alike p n walks) e

  leads_alike : (p q : ℕ) (accepting : Bool) → Leads g l p q accepting → Leads g k p q accepting
  leads_alike p q accepting (inl on) = inl (record {
    diamond = on.diamond;
    action = on.action;
    walks = walks_alike p on.diamond on.walks;
    is_diamond = on.is_diamond;
    accepts = on.accepts;
  })
  leads_alike p q accepting (inr end) = inr (record {
    walks = walks_alike p q end.walks;
    is_true = end.is_true;
    accepts = end.accepts;
  })

pub letters_are_sets : LettersAreSets
letters_are_sets g l k same p q accepting =
    (leads_alike g l k same p q accepting, leads_alike g k l (λ name. sym (same name)) p q accepting)
