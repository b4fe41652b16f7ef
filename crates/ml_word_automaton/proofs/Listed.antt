-- Automata with finitely many states and transitions, of which all is decided, so listed.
--
--   some_states      == the states of a graph, listed
--   some_automaton   == so each problem has an automaton
--   few_states       == which has no more states than nodes
--   some_transitions == the transitions under a letter, listed
use Rattle.std.proofs.Common.{◌≡◌, ℕ, ◌<◌, ◌≤◌, ◌⊎◌, arith, Bool, true, false, List, [], ◌∷◌, length, inl, inr, refl, sym, ◌∙◌, subst}
use Rattle.std.specs.List.{flat_map, range_with_len}
use Rattle.std.proofs.lemmas.List.FromFn.{length-range_with_len}
use Rattle.ml_lists.specs.Member.{IsMember}
use Rattle.ml_lists.specs.Found.{Found}
use Rattle.ml_lists.proofs.Decided.{Decided, decided_both, decided_either, decided_less, decided_number, decided_same}
use Rattle.ml_lists.proofs.Deciding.{Sieved, decided_and, sieve, some_below}
use Rattle.ml_lists.proofs.Member.{InList, member-flat_map, member-flat_map_from}
use Rattle.ml_lists.proofs.Ranges.{member-range}
use Rattle.ml_lists.proofs.Different.{different_within}
use Rattle.ml_lists.proofs.FirstEntries.{apart_ascending}
use Rattle.ml_graph.specs.Graph.{Graph, IsGraph, node_at, size}
use Rattle.ml_graph.specs.declared.node.Node.TheVariants as node
use Rattle.ml_trace.specs.declared.letters.Transition.{Transition}
use Rattle.ml_word_automaton.specs.Letters.{Automaton, GoesOn, HasItsStates, HasTransitions, IsState, IsTransition, begins, behind, is_true, node_of}
use Rattle.ml_word_automaton.specs.WordAutomaton.{Leads}
use Rattle.ml_word_automaton.specs.Words.{Letter}
use Rattle.ml_word_automaton.proofs.BlockGraphs.{some_graph}
use Rattle.ml_word_automaton.proofs.HeldTransitions.{state_low}
use Rattle.ml_word_automaton.proofs.MarkedStates.{goes_inside, inside}
use Rattle.ml_word_automaton.proofs.NumberedStates.{state_at}
use Rattle.ml_word_automaton.proofs.DecidedLetters.{decided_leads}
use Rattle.ml_word_automaton.proofs.NodeForms.{IsDiamond, decided_diamond, decided_goes, decided_true}
use Rattle.ml_word_automaton.specs.Laws.{SomeAutomaton, SomeTransitions}

-- ---- states

module _ (g : Graph) where
  abbrev Made : ℕ → Type 0
  Made n =
      (n ≡ 0) ⊎ (Found (λ d. IsDiamond (node_at g d) n) (size g)
      ⊎ (Found (λ k. GoesOn (node_at g k) n) (size g) × (node_at g n ≡ node.True)))

  decided_made : (n : ℕ) → Decided (Made n)
  decided_made n =
      decided_either (decided_number n 0)
      (decided_either
      (some_below (λ d. IsDiamond (node_at g d) n) (size g) (λ d low. decided_diamond (node_at g d) n))
      (decided_both (some_below (λ k. GoesOn (node_at g k) n) (size g) (λ k low. decided_goes (node_at g k) n))
      (decided_true (node_at g n))))

  made_state : (n : ℕ) → Made n → IsState g n
  made_state n (inl is) = subst (IsState g) (sym is) begins
  made_state n (inr (inl d)) = behind d.place d.holds.0 n d.holds.1
  made_state n (inr (inr both)) = is_true both.0.place n both.0.holds both.1

  state_made : (n : ℕ) → IsState g n → Made n
  state_made _ begins = inl refl
  state_made n (behind d a _ e) =
      inr (inl (record {
        place = d;
        below = inside g d (λ t. let wrong = sym e ∙ t in cc);
        holds = (a, e);
      }))
  state_made n (is_true k _ goes e) =
      inr (inr (record { place = k; below = goes_inside g k n goes; holds = goes }, e))

  module _ (ok : IsGraph g) where
    listed : Sieved (IsState g) (size g)
    listed = sieve (IsState g) (size g) (λ n low. decided_same (made_state n) (state_made n) (decided_made n))

    abbrev with_states : Automaton
    with_states = record { graph = g; states = listed.list }

    some_states : HasItsStates with_states
    some_states = record {
      ascend = listed.ascends;
      are_states = λ n. ((λ m. (listed.members n m).1), (λ is. listed.all n (state_low g ok n is) is));
    }

-- a graph has no fewer nodes than states
pub few_states : (a : Automaton) → IsGraph a.graph → HasItsStates a → length a.states ≤ size a.graph
few_states a ok has =
    let few = different_within a.states (range_with_len 0 (size a.graph)) (apart_ascending a.states has.ascend)
    (λ n m. member-range (size a.graph) n (state_low a.graph ok n ((has.are_states n).0 m))) in
    omega (arith, few, length-range_with_len 0 (size a.graph))

-- ---- transitions

abbrev transition : ℕ → ℕ → Bool → Transition
transition p q b = record { from = p; to = q; accepting = b }

-- the transitions between the first n states
abbrev between : ℕ → List Transition
between n =
    flat_map (λ p. flat_map (λ q. transition p q true ∷ transition p q false ∷ []) (range_with_len 0 n))
    (range_with_len 0 n)

in_between : (n p q : ℕ) (b : Bool) → p < n → q < n → IsMember (transition p q b) (between n)
in_between n p q b p_low q_low =
    member-flat_map (λ k. flat_map (λ m. transition k m true ∷ transition k m false ∷ []) (range_with_len 0 n)) p
    (transition p q b) (range_with_len 0 n) (member-range n p p_low)
    (member-flat_map (λ m. transition p m true ∷ transition p m false ∷ []) q (transition p q b) (range_with_len 0 n)
    (member-range n q q_low) (by b))
  where
    by : (c : Bool) → IsMember (transition p q c) (transition p q true ∷ transition p q false ∷ [])
    by true = inl refl
    by false = inr (inl refl)

-- the transition, if that is so
abbrev where_so : {P : Type 0} → Transition → Decided P → List Transition
where_so m (inl p) = m ∷ []
where_so m (inr none) = []

only_where : (P : Type 0) (m k : Transition) (d : Decided P) → IsMember m (where_so k d) → (m ≡ k) × P
only_where P m k (inl p) (inl same) = (same, p)
only_where P m k (inl p) (inr none) = absurd none
only_where P m k (inr no_p) none = absurd none

so_where : (P : Type 0) (m : Transition) (d : Decided P) → P → IsMember m (where_so m d)
so_where P m (inl p) so = inl refl
so_where P m (inr none) so = absurd (none so)

module _ (a : Automaton) (ok : IsGraph a.graph) (has : HasItsStates a) (l : Letter) where
  decided_transition : (m : Transition) → Decided (IsTransition a l m)
  decided_transition m =
      decided_same
      (λ (all : (m.from < length a.states)
      × ((m.to < length a.states) × Leads a.graph l (node_of a m.from) (node_of a m.to) m.accepting)). record {
        from_state = all.0;
        to_state = all.1.0;
        leads = all.1.1;
      })
      (λ (is : IsTransition a l m). (is.from_state, (is.to_state, is.leads)))
      (decided_and (decided_less m.from (length a.states))
      (λ low. decided_both (decided_less m.to (length a.states))
      (decided_leads a.graph ok l (node_of a m.from) (node_of a m.to) m.accepting
      (state_low a.graph ok (node_of a m.from) (state_at a has m.from low)))))

  abbrev all_between : List Transition
  all_between = flat_map (λ m. where_so m (decided_transition m)) (between (length a.states))

  listed_transitions : HasTransitions a l all_between
  listed_transitions m = (
    λ member.
        there (member-flat_map_from (λ k. where_so k (decided_transition k)) m (between (length a.states)) member),
    λ is.
        member-flat_map (λ k. where_so k (decided_transition k)) m m (between (length a.states))
        (in_between (length a.states) m.from m.to m.accepting is.from_state is.to_state)
        (so_where (IsTransition a l m) m (decided_transition m) is),
  )
    where
      there : InList (λ k. where_so k (decided_transition k)) m (between (length a.states)) → IsTransition a l m
      there found =
          let so = only_where (IsTransition a l found.from) m found.from (decided_transition found.from) found.inside in
          subst (IsTransition a l) (sym so.0) so.1

-- ---- the laws

pub some_automaton : SomeAutomaton
some_automaton f negated =
    let graph = some_graph f negated in (
      with_states graph.0 graph.1.is_graph,
      record { is_graph = graph.1; states = some_states graph.0 graph.1.is_graph },
    )

pub some_transitions : SomeTransitions
some_transitions f negated a l is = (
  all_between a is.is_graph.is_graph is.states l,
  listed_transitions a is.is_graph.is_graph is.states l,
)
