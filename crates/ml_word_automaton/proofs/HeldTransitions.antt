-- The transitions with which walks end, by the numbers of states, are those under a letter.
--
--   IsEnd g n q b       == a walk ends at node n and leads to the node q, accepting or not
--   move_ends, end_moves == so it is with the transition that is made there
--   state_low           == states are nodes of the graph
--   end_state           == it leads to a state
--   number_is           == the number of a state
--   those_of            == the same of what a program holds
--   all_small           == all ends are small numbers
--   all_transitions     == these are all transitions under the letter
use Rattle.std.proofs.Common.{ℕ, ◌≡◌, ◌<◌, ◌^◌, ◌⊎◌, ◌==◌, inl, inr, arith, Bool, true, List, [], length, get_or, refl, sym, ap, ◌∙◌, subst}
use Rattle.ml_lists.specs.Member.{IsMember}
use Rattle.ml_lists.proofs.Member.{member-All}
use Rattle.ml_graph.specs.Graph.{Graph, IsGraph, node_at, priority_at, size}
use Rattle.ml_graph.specs.declared.node.Node.{Node}
use Rattle.ml_graph.specs.declared.node.Node.TheVariants as node
use Rattle.ml_graph.proofs.References.{diamond_target, root_in_range}
use Rattle.ml_trace.specs.AutomatonNumbers.{HasSmallEnds}
use Rattle.ml_trace.specs.declared.letters.Transition.{Transition}
use Rattle.ml_word_automaton.specs.Letters.{Automaton, AreThoseIn, HasTransitions, IsState, IsTransition, begins, behind, is_true, node_of}
use Rattle.ml_word_automaton.specs.WordAutomaton.{Leads, Walks}
use Rattle.ml_word_automaton.specs.Words.{Letter}
use Rattle.ml_word_automaton.specs.private.Numbers.{HasNumber, IsHeld}
use Rattle.ml_word_automaton.specs.private.Walking.{AreThoseBelow, Comes, itself, further, Ends, moves, moves_at, onward}
use Rattle.ml_word_automaton.proofs.LettersByNumbers.{goes_low, goes_on, walks_back, walks_there}
use Rattle.ml_word_automaton.proofs.MarkedStates.{goes_inside, inside}
use Rattle.ml_word_automaton.proofs.NumberedStates.{one_place, state_at}

-- ---- where a walk ends

-- along a Diamond
pub record IsEdge (g : Graph) (n q : ℕ) (accepting : Bool) : Type 0 where
  pub action : ℕ
  pub is : node_at g n ≡ node.Diamond action q
  pub accepts : accepting ≡ (priority_at g n == 0)

-- at True
pub record IsTop (g : Graph) (n q : ℕ) (accepting : Bool) : Type 0 where
  pub is : node_at g n ≡ node.True
  pub same : q ≡ n
  pub accepts : accepting ≡ true

abbrev pub IsEnd : Graph → ℕ → ℕ → Bool → Type 0
IsEnd g n q accepting = IsEdge g n q accepting ⊎ IsTop g n q accepting

abbrev transition : ℕ → ℕ → Bool → Transition
transition p q b = record { from = p; to = q; accepting = b }

-- the transition with which a walk of the state p ends at n
pub record IsMove (g : Graph) (numbers : List ℕ) (p n : ℕ) (t : Transition) : Type 0 where
  pub node : ℕ
  pub is_end : IsEnd g n node t.accepting
  pub is : t ≡ transition p (get_or numbers node 0) t.accepting

module _ (g : Graph) (numbers : List ℕ) (p n : ℕ) where
  pub move_ends : (t : Transition) → IsMember t (moves g numbers p n) → IsMove g numbers p n t
  move_ends t i = by_node (node_at g n) refl i
    where
      by_node : (v : Node) → node_at g n ≡ v → IsMember t (moves_at g numbers p n v) → IsMove g numbers p n t
      by_node (node.Diamond a q) e (inl is) =
          let accepts = ap (λ (m : Transition). m.accepting) is in record {
            node = q;
            is_end = inl (record { action = a; is = e; accepts = accepts });
            is = is ∙ ap (λ b. transition p (get_or numbers q 0) b) (sym accepts);
          }
      by_node (node.Diamond a q) e (inr none) = absurd none
      by_node node.True e (inl is) =
          let accepts = ap (λ (m : Transition). m.accepting) is in record {
            node = n;
            is_end = inr (record { is = e; same = refl; accepts = accepts });
            is = is ∙ ap (λ b. transition p (get_or numbers n 0) b) (sym accepts);
          }
      by_node node.True e (inr none) = absurd none
      by_node node.False e none = absurd none
      by_node (node.Lit q b) e none = absurd none
      by_node (node.And l r) e none = absurd none
      by_node (node.Or l r) e none = absurd none
      by_node (node.Square a q) e none = absurd none

  pub end_moves : (q : ℕ) (b : Bool)
      → IsEnd g n q b
      → IsMember (transition p (get_or numbers q 0) b) (moves g numbers p n)
  end_moves q b (inl edge) =
      subst (λ v. IsMember (transition p (get_or numbers q 0) b) (moves_at g numbers p n v)) (sym edge.is)
      (inl (ap (λ c. transition p (get_or numbers q 0) c) edge.accepts))
  end_moves q b (inr top) =
      subst (λ v. IsMember (transition p (get_or numbers q 0) b) (moves_at g numbers p n v)) (sym top.is)
      (inl (ap (λ k. transition p (get_or numbers k 0) b) top.same
      ∙ ap (λ c. transition p (get_or numbers n 0) c) top.accepts))

-- ---- states

pub state_low : (g : Graph) → IsGraph g → (n : ℕ) → IsState g n → n < size g
state_low g ok _ begins = let root = root_in_range g ok in omega (arith, root)
state_low g ok n (behind d a _ e) =
    diamond_target g ok d (inside g d (λ t. let wrong = sym e ∙ t in cc)) a n e
state_low g ok n (is_true k _ goes t) = goes_low g [] ok k n (goes_inside g k n goes) goes

-- where a walk from a state leads is a state
pub end_state : (g : Graph) (present : List ℕ) (s n q : ℕ) (b : Bool)
    → IsState g s
    → Comes (onward g present) s n
    → IsEnd g n q b
    → IsState g q
end_state g present s n q b state comes (inl edge) = behind n edge.action q edge.is
end_state g present s n q b state comes (inr top) = subst (IsState g) (sym top.same) (by_walk n comes top.is)
  where
    by_walk : (m : ℕ) → Comes (onward g present) s m → node_at g m ≡ node.True → IsState g m
    by_walk _ itself e = state
    by_walk m (further k _ before i) e = is_true k m (goes_on g present k m i) e

-- the transitions of all states, by the lists that a program holds
pub those_of : (a : Automaton) (h : Graph) (nodes numbers present : List ℕ) (i : ℕ) (ts : List Transition)
    → h ≡ a.graph
    → nodes ≡ a.states
    → i ≡ length nodes
    → AreThoseBelow i (onward h present) (moves h numbers) nodes ts
    → AreThoseBelow (length a.states) (onward a.graph present) (moves a.graph numbers) a.states ts
those_of a h nodes numbers present i ts graph_is states_are all those =
    subst (λ k. AreThoseBelow k (onward a.graph present) (moves a.graph numbers) a.states ts) (all ∙ ap length states_are)
    (subst (λ xs. AreThoseBelow i (onward a.graph present) (moves a.graph numbers) xs ts) states_are
    (subst (λ g. AreThoseBelow i (onward g present) (moves g numbers) nodes ts) graph_is those))

module _ (a : Automaton) (numbers : List ℕ) (H : IsHeld a.graph a.states numbers) (ok : IsGraph a.graph) where
  pub node_low : (p : ℕ) → p < length a.states → node_of a p < size a.graph
  node_low p low = state_low a.graph ok (node_of a p) (state_at a H.listed p low)

  number_of : (n : ℕ) → IsState a.graph n → HasNumber a.states numbers n
  number_of n is = H.are_numbered n (((H.listed).are_states n).1 is)

  number_is : (p : ℕ) → p < length a.states → get_or numbers (node_of a p) 0 ≡ p
  number_is p low =
      let has = number_of (node_of a p) (state_at a H.listed p low) in
      one_place a.states (H.listed).ascend (get_or numbers (node_of a p) 0) p has.is_low low has.is

  module _ (present : List ℕ) (ts : List Transition)
      (those : AreThoseBelow (length a.states) (onward a.graph present) (moves a.graph numbers) a.states ts) where
    -- a transition that is one of them
    record IsMade (t : Transition) : Type 0 where
      at : ℕ
      from_low : t.from < length a.states
      comes : Comes (onward a.graph present) (node_of a t.from) at
      node : ℕ
      is_end : IsEnd a.graph at node t.accepting
      is_state : IsState a.graph node
      to_is : t.to ≡ get_or numbers node 0

    made : (t : Transition) → IsMember t ts → IsMade t
    made t i = from ((those t).0 i)
      where
        from : (p : ℕ) × (p < length a.states) × Ends (onward a.graph present) (moves a.graph numbers p) (node_of a p) t
            → IsMade t
        from (p, low, e) =
            let m = move_ends a.graph numbers p e.at t e.is_one in
            let from_is : p ≡ t.from = sym (ap (λ (x : Transition). x.from) m.is) in record {
              at = e.at;
              from_low = subst (λ k. k < length a.states) from_is low;
              comes = subst (λ k. Comes (onward a.graph present) (node_of a k) e.at) from_is e.comes;
              node = m.node;
              is_end = m.is_end;
              is_state =
                  end_state a.graph present (node_of a p) e.at m.node t.accepting (state_at a H.listed p low) e.comes
                  m.is_end;
              to_is = ap (λ (x : Transition). x.to) m.is;
            }

    to_low : (t : Transition) → IsMade t → t.to < length a.states
    to_low t m =
        let has = number_of m.node m.is_state in let low = has.is_low in let is = m.to_is in omega (arith, low, is)

    pub all_small : HasSmallEnds ts
    all_small =
        member-All (λ (t : Transition). (t.from < 2 ^ 30) × (t.to < 2 ^ 30)) ts (λ t i.
        let m = made t i in
        let from_low = m.from_low in
        let target = to_low t m in
        let few = H.few in
        let small = H.small in
        (omega (arith, from_low, few, small), omega (arith, target, few, small)))

    pub all_transitions : (letter : Letter) → AreThoseIn a.graph letter present → HasTransitions a letter ts
    all_transitions letter are t = (there, back)
      where
        leads_to : (s n q : ℕ)
            → Walks a.graph letter s n
            → IsEnd a.graph n q t.accepting
            → Leads a.graph letter s q t.accepting
        leads_to s n q walks (inl edge) = inl (record {
          diamond = n;
          action = edge.action;
          walks = walks;
          is_diamond = edge.is;
          accepts = edge.accepts;
        })
        leads_to s n q walks (inr top) = inr (record {
          walks = subst (Walks a.graph letter s) (sym top.same) walks;
          is_true = ap (node_at a.graph) top.same ∙ top.is;
          accepts = top.accepts;
        })

        there : IsMember t ts → IsTransition a letter t
        there i =
            let m = made t i in
            let has = number_of m.node m.is_state in
            let walks =
            walks_there a.graph present ok letter are (node_of a t.from) m.at (node_low t.from m.from_low) m.comes in
            let node_is : node_of a t.to ≡ m.node = ap (λ k. get_or a.states k 0) m.to_is ∙ has.is in record {
              from_state = m.from_low;
              to_state = to_low t m;
              leads =
                  subst (λ q. Leads a.graph letter (node_of a t.from) q t.accepting) (sym node_is)
                  (leads_to (node_of a t.from) m.at m.node walks m.is_end);
            }

        back : IsTransition a letter t → IsMember t ts
        back is = by_lead is.leads
          where
            given : (n : ℕ)
                → Walks a.graph letter (node_of a t.from) n
                → IsEnd a.graph n (node_of a t.to) t.accepting
                → IsMember t ts
            given n walks end =
                (those t).1 (
                  t.from,
                  is.from_state,
                  record {
                    at = n;
                    comes =
                        walks_back a.graph present ok letter are (node_of a t.from) n (node_low t.from is.from_state) walks;
                    is_one =
                        subst (λ k. IsMember (transition t.from k t.accepting) (moves a.graph numbers t.from n))
                        (number_is t.to is.to_state) (end_moves a.graph numbers t.from n (node_of a t.to) t.accepting end);
                  },
                )

            by_lead : Leads a.graph letter (node_of a t.from) (node_of a t.to) t.accepting → IsMember t ts
            by_lead (inl on) =
                given on.diamond on.walks (inl (record { action = on.action; is = on.is_diamond; accepts = on.accepts }))
            by_lead (inr end) =
                given (node_of a t.to) end.walks (inr (record { is = end.is_true; same = refl; accepts = end.accepts }))
