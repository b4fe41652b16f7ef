-- The automaton of F p, worked out by hand from the table.
--
-- Its block decomposes F p into p, or into F p put off; the latter is an edge back to the block, and doesn't accept, since F p
-- is the eventuality in focus. Where p is true, nothing more is asked.
--
--   eventually_p            == the formula F p
--   worked_graph            == its graph, with the block as node 0
--   is_its_graph            == the graph is that of the problem
--   is_its_automaton        == its states are the block and True
--   waits, comes_true       == a letter without p leads back to the block, and one with p to True
--   accepted_some_time      == so by the law the word is accepted that has p at its second place alone
--   refused_without         == and the one that never has p isn't
use Rattle.std.proofs.Common.{ℕ, zero, suc, ◌≡◌, ◌==◌, inl, inr, true, false, if◌then◌else◌, List, [], ◌∷◌, codes, refl, sym, ap, subst, ◌∙◌, arith}
use Rattle.std.specs.List.{IsDistinct}
use Rattle.std.proofs.lemmas.Bool.{false≢true}
use Rattle.ml_lists.specs.Member.{IsMember}
use Rattle.ml_graph.specs.Graph.{Graph, IsGraph, references, node_at}
use Rattle.ml_graph.specs.declared.node.Node.TheVariants as node
use Rattle.ml_graph.proofs.References.{all_in_range}
use Rattle.ml_lists.proofs.Ascending.{ascending-cons, ascending-one}
use Rattle.ml_nodes.specs.ClosureGraph.{IsReached, at_root, behind}
use Rattle.ml_trace.specs.WordAutomata.{WordLasso, IsAcceptedFrom}
use Rattle.ml_ctl.specs.Formula.{Formula, Prop, Temporal}
use Rattle.ml_ctl.specs.declared.term.Tense.TheVariants.{Finally}
use Rattle.ml_blocks.specs.Items.{Item, now, put_off}
use Rattle.ml_blocks.specs.Places.{Place, Path, True, Holding, forms}
use Rattle.ml_blocks.proofs.ListedGraphs.{◌&◌, done, listed_graph}
use Rattle.ml_word_automaton.specs.Letters.{Automaton, GoesOn, IsAutomatonOf, IsState, begins, is_true}
use Rattle.ml_word_automaton.specs.Letters.{behind as led}
use Rattle.ml_word_automaton.specs.WordAutomaton.{IsBlockGraph, Leads, itself, past_true, to_left, to_right}
use Rattle.ml_word_automaton.specs.Words.{Letter, SatisfiedBy}
use Rattle.ml_word_automaton.proofs.Acceptance.{accepts_what_satisfies}

abbrev p_holds : Formula
p_holds = Prop (codes "p")

abbrev eventually_p : Formula
eventually_p = Temporal Finally p_holds

abbrev worked_graph : Graph
worked_graph = record {
  nodes =
      -- the block
      node.Or 1 2
      -- p, and F p put off
      ∷ node.And 3 4 ∷ node.Diamond 0 0
      ∷ node.Lit 0 true ∷ node.True ∷ [];
  priorities = 1 ∷ 1 ∷ 1 ∷ 2 ∷ 2 ∷ [];
  root = 0;
  props = codes "p" ∷ [];
  actions = codes "_" ∷ [];
}

abbrev whole : Item
whole = now 0 eventually_p true

abbrev with_items : Item → Place
with_items x = Path (record { first = whole; positive = true; items = x ∷ []; focus = 0 })

abbrev start : Place
start = with_items whole

abbrev p_now : Place
p_now = with_items (now 1 p_holds true)

abbrev later : Place
later = with_items (put_off whole)

is_a_graph : IsGraph worked_graph
unfolding IsDistinct
is_a_graph = record {
  priorities = refl;
  in_range = all_in_range (references worked_graph) refl;
  props_differ = (tt, tt);
  actions_differ = (tt, tt);
}

-- ---- the closure

abbrev rank_of_items : List Item → ℕ
rank_of_items [] = 9
rank_of_items (x ∷ xs) = if x.later then 2 else (if x.number == 0 then 0 else 1)

abbrev rank : Place → ℕ
rank (Path b) = rank_of_items b.items
rank (Holding i f sign) = 3
rank True = 4
rank _ = 9

p_reached : IsReached forms start p_now
p_reached = behind start p_now at_root (inl refl)

is_its_graph : IsBlockGraph worked_graph eventually_p false
is_its_graph =
    listed_graph forms worked_graph start (p_now ∷ later ∷ Holding 1 p_holds true ∷ True ∷ []) rank
    (record {
      is_graph = is_a_graph;
      begins = refl;
      one_each = refl;
      ranks = refl;
      children_stand = (refl & refl & done) & (refl & refl & done) & (refl & done) & done & done & done;
      reached =
          at_root & p_reached
          & behind start later at_root (inr (inl refl))
          & behind p_now (Holding 1 p_holds true) p_reached (inl refl)
          & behind p_now True p_reached (inr (inl refl))
          & done;
      forms =
          ((1, 2, refl, refl, refl), refl)
          & ((3, 4, refl, refl, refl), refl)
          & ((0, 0, refl, refl, refl), refl)
          & ((0, refl, refl), refl)
          & (refl, refl)
          & done;
      in_order = refl;
      earlier =
          (0, omega arith, inl refl)
          & (0, omega arith, inr (inl refl))
          & (1, omega arith, inl refl)
          & (1, omega arith, inr (inl refl))
          & done;
    })

-- ---- states

abbrev worked_automaton : Automaton
worked_automaton = record { graph = worked_graph; states = 0 ∷ 4 ∷ [] }

state_listed : (n : ℕ) → IsState worked_graph n → IsMember n (0 ∷ 4 ∷ [])
state_listed _ begins = inl refl
state_listed n (led d a _ e) = by_node d e
  where
    by_node : (d : ℕ) → node_at worked_graph d ≡ node.Diamond a n → IsMember n (0 ∷ 4 ∷ [])
    by_node zero e = absurd (cc)
    by_node (suc zero) e = absurd (cc)
    by_node (suc (suc zero)) e = inl (let is : n ≡ 0 = cc in is)
    by_node (suc (suc (suc zero))) e = absurd (cc)
    by_node (suc (suc (suc (suc zero)))) e = absurd (cc)
    by_node (suc (suc (suc (suc (suc d))))) e = absurd (cc)
state_listed n (is_true k _ goes t) = by_node k goes
  where
    by_node : (k : ℕ) → GoesOn (node_at worked_graph k) n → IsMember n (0 ∷ 4 ∷ [])
    by_node zero (inl is) = absurd (let wrong = ap (node_at worked_graph) (sym is) ∙ t in cc)
    by_node zero (inr is) = absurd (let wrong = ap (node_at worked_graph) (sym is) ∙ t in cc)
    by_node (suc zero) is = inr (inl is)
    by_node (suc (suc zero)) none = absurd none
    by_node (suc (suc (suc zero))) none = absurd none
    by_node (suc (suc (suc (suc zero)))) none = absurd none
    by_node (suc (suc (suc (suc (suc k))))) none = absurd none

is_its_automaton : IsAutomatonOf worked_automaton eventually_p false
is_its_automaton = record {
  is_graph = is_its_graph;
  states = record {
    ascend = ascending-cons 0 4 [] (omega arith) (ascending-one 4);
    are_states = λ n. (listed_state n, state_listed n);
  };
}
  where
    listed_state : (n : ℕ) → IsMember n (0 ∷ 4 ∷ []) → IsState worked_graph n
    listed_state n (inl e) = subst (IsState worked_graph) (sym e) begins
    listed_state n (inr (inl e)) = subst (IsState worked_graph) (sym e) (is_true 1 4 refl refl)
    listed_state n (inr (inr none)) = absurd none

-- ---- letters

waits : Leads worked_graph [] 0 0 false
waits = inl (record {
  diamond = 2;
  action = 0;
  walks = to_right 0 1 2 itself refl;
  is_diamond = refl;
  accepts = refl;
})

comes_true : Leads worked_graph (codes "p" ∷ []) 0 4 true
comes_true = inr (record {
  walks = past_true 1 3 4 (to_left 0 1 2 itself refl) refl refl;
  is_true = refl;
  accepts = refl;
})

-- ---- the law at work

-- nothing, then p, then nothing for ever; and nothing for ever
abbrev p_once : WordLasso Letter
p_once = record { word = [] ∷ (codes "p" ∷ []) ∷ [] ∷ []; loop_start = 2 }

abbrev never_p : WordLasso Letter
never_p = record { word = [] ∷ []; loop_start = 0 }

accepted_some_time : IsAcceptedFrom (Leads worked_graph) 0 p_once
accepted_some_time =
    (accepts_what_satisfies eventually_p false worked_graph p_once refl is_its_graph (omega arith)).1
    (inr (tt, inl refl))

refused_without : IsAcceptedFrom (Leads worked_graph) 0 never_p → ⊥
refused_without accepts =
    none ((accepts_what_satisfies eventually_p false worked_graph never_p refl is_its_graph (omega arith)).0 accepts)
  where
    none : SatisfiedBy never_p eventually_p → ⊥
    none (inl e) = false≢true e
    none (inr (some, later_on)) = later_on
