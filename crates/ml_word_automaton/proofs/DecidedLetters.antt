-- Whether a letter leads from one node of a graph to another one is decided.
--
--   Step m n        == a walk goes on from node m to node n
--   decided_walks   == whether a walk from p comes to n is decided
--   decided_leads   == so is whether p has a transition to q
use Rattle.std.proofs.Common.{◌≡◌, ℕ, suc, ◌<◌, ◌⊎◌, ◌==◌, Bool, true, [], inl, inr, refl, sym, ◌∙◌, subst}
use Rattle.ml_lists.specs.Found.{Found}
use Rattle.ml_lists.proofs.Decided.{Decided, decided_both, decided_either, decided_number, decided_same}
use Rattle.ml_lists.proofs.DecidedReach as ways
use Rattle.ml_lists.proofs.Deciding.{decided_truth, some_below}
use Rattle.ml_lists.proofs.Reach.{reaches_keeps, reaches_last, reaches_self}
use Rattle.ml_graph.specs.Graph.{Graph, IsGraph, node_at, priority_at, size}
use Rattle.ml_graph.specs.declared.node.Node.{Node}
use Rattle.ml_graph.specs.declared.node.Node.TheVariants as node
use Rattle.ml_word_automaton.specs.Letters.{GoesOn}
use Rattle.ml_word_automaton.specs.WordAutomaton.{IsTrueIn, Leads, LeadsOn, LeadsToTrue, Walks, itself, past_same, past_true, to_left, to_right}
use Rattle.ml_word_automaton.specs.Words.{Letter}
use Rattle.ml_word_automaton.proofs.LettersByNumbers.{goes_low}
use Rattle.ml_word_automaton.proofs.MarkedStates.{goes_inside, inside}
use Rattle.ml_word_automaton.proofs.NodeForms.{IsDiamond, decided_diamond, decided_holds, decided_true}

-- ---- walks

module _ (g : Graph) (ok : IsGraph g) (l : Letter) where
  -- a walk goes on from the node v to n
  abbrev Onward : Node → ℕ → Type 0
  Onward (node.And c d) n = ((c ≡ d) ⊎ IsTrueIn g l c) × (n ≡ d)
  Onward (node.Or c d) n = (n ≡ c) ⊎ (n ≡ d)
  Onward _ n = ⊥

  abbrev Step : ℕ → ℕ → Type 0
  Step m n = Onward (node_at g m) n

  decided_onward : (v : Node) (n : ℕ) → Decided (Onward v n)
  decided_onward (node.And c d) n =
      decided_both (decided_either (decided_number c d) (decided_holds g l (node_at g c))) (decided_number n d)
  decided_onward (node.Or c d) n = decided_either (decided_number n c) (decided_number n d)
  decided_onward node.True n = inr (λ none. none)
  decided_onward node.False n = inr (λ none. none)
  decided_onward (node.Lit p b) n = inr (λ none. none)
  decided_onward (node.Diamond a p) n = inr (λ none. none)
  decided_onward (node.Square a p) n = inr (λ none. none)

  onward_goes : (v : Node) (n : ℕ) → Onward v n → GoesOn v n
  onward_goes (node.And c d) n on = on.1
  onward_goes (node.Or c d) n on = on
  onward_goes node.True n none = absurd none
  onward_goes node.False n none = absurd none
  onward_goes (node.Lit p b) n none = absurd none
  onward_goes (node.Diamond a p) n none = absurd none
  onward_goes (node.Square a p) n none = absurd none

  step_low : (m n : ℕ) → Step m n → n < size g
  step_low m n step =
      let goes = onward_goes (node_at g m) n step in goes_low g [] ok m n (goes_inside g m n goes) goes

  -- a walk from p that comes to m goes on
  walk_on : (p m n : ℕ) → Step m n → Walks g l p m → Walks g l p n
  walk_on p m n step walks = by_node (node_at g m) refl step
    where
      by_node : (v : Node) → node_at g m ≡ v → Onward v n → Walks g l p n
      by_node (node.And c d) e (inl same, is) = subst (Walks g l p) (sym is) (past_same m c d walks e same)
      by_node (node.And c d) e (inr holds, is) = subst (Walks g l p) (sym is) (past_true m c d walks e holds)
      by_node (node.Or c d) e (inl is) = subst (Walks g l p) (sym is) (to_left m c d walks e)
      by_node (node.Or c d) e (inr is) = subst (Walks g l p) (sym is) (to_right m c d walks e)
      by_node node.True e none = absurd none
      by_node node.False e none = absurd none
      by_node (node.Lit q b) e none = absurd none
      by_node (node.Diamond a q) e none = absurd none
      by_node (node.Square a q) e none = absurd none

  way_on : (p m n : ℕ) (v : Node) → node_at g m ≡ v → Onward v n → ways.Leads Step p m → ways.Leads Step p n
  way_on p m n v e on way = record {
    steps = suc way.steps;
    reaches = reaches_last Step p m n way.steps way.reaches (subst (λ u. Onward u n) (sym e) on);
  }

  walk_way : (p n : ℕ) → Walks g l p n → ways.Leads Step p n
  walk_way p _ itself = record { steps = 0; reaches = reaches_self Step p }
  walk_way p _ (past_same m c d walks e same) =
      way_on p m d (node.And c d) e (inl same, refl) (walk_way p m walks)
  walk_way p _ (past_true m c d walks e holds) =
      way_on p m d (node.And c d) e (inr holds, refl) (walk_way p m walks)
  walk_way p _ (to_left m c d walks e) = way_on p m c (node.Or c d) e (inl refl) (walk_way p m walks)
  walk_way p _ (to_right m c d walks e) = way_on p m d (node.Or c d) e (inr refl) (walk_way p m walks)

  decided_walks : (p n : ℕ) → p < size g → Decided (Walks g l p n)
  decided_walks p n low =
      decided_same
      (λ (way : ways.Leads Step p n). reaches_keeps Step (Walks g l p) (walk_on p) p n way.steps way.reaches itself)
      (walk_way p n)
      (ways.decided_leads Step (size g) step_low (λ m k. decided_onward (node_at g m) k) p n low)

  -- ---- where a letter leads

  module _ (p q : ℕ) (b : Bool) (low : p < size g) where
    abbrev IsLast : ℕ → Type 0
    IsLast d = Walks g l p d × (IsDiamond (node_at g d) q × (b ≡ (priority_at g d == 0)))

    decided_on : Decided (LeadsOn g l p q b)
    decided_on =
        decided_same
        (λ (f : Found IsLast (size g)). record {
          diamond = f.place;
          action = f.holds.1.0.0;
          walks = f.holds.0;
          is_diamond = f.holds.1.0.1;
          accepts = f.holds.1.1;
        })
        (λ (on : LeadsOn g l p q b). record {
          place = on.diamond;
          below = inside g on.diamond (λ t. let wrong = sym on.is_diamond ∙ t in cc);
          holds = (on.walks, ((on.action, on.is_diamond), on.accepts));
        })
        (some_below IsLast (size g)
        (λ d few. decided_both (decided_walks p d low)
        (decided_both (decided_diamond (node_at g d) q) (decided_truth b (priority_at g d == 0)))))

    decided_to_true : Decided (LeadsToTrue g l p q b)
    decided_to_true =
        decided_same
        (λ (all : Walks g l p q × ((node_at g q ≡ node.True) × (b ≡ true))). record {
          walks = all.0;
          is_true = all.1.0;
          accepts = all.1.1;
        })
        (λ (end : LeadsToTrue g l p q b). (end.walks, (end.is_true, end.accepts)))
        (decided_both (decided_walks p q low) (decided_both (decided_true (node_at g q)) (decided_truth b true)))

    pub decided_leads : Decided (Leads g l p q b)
    decided_leads = decided_either decided_on decided_to_true
