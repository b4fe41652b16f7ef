-- The neutral priority stands above those of all marks.
--
-- Names in use are at most as many as items, and these at most as many as states of the trace automaton. So the mark
-- of a step has a number below the neutral priority.
--
--   MovesTo             == a position to which a move leads: with one more side, or by a step along a diamond
--   moves_to            == each move to a position is one of these
--   sequent_low         == the nodes of a sequent of a position that is reached are nodes of the graph
--   AreStatesLow        == the states of a history are states of the automaton
--   state_low           == so are those of a position that is reached
--   names_fit           == there are at most as many names in use as states of the automaton
--   mark_fits           == the number of a step's mark is below the neutral priority
--   priority_at_most    == no position that is reached has a greater priority than the neutral one
use Rattle.std.proofs.Common.{ℕ, ◌≡◌, ◌+◌, ◌*◌, ◌%◌, ◌==◌, ◌<◌, ◌≤◌, ◌⊎◌, inl, inr, List, [], ◌∷◌, map, refl, sym, ap, subst, arith}
use Rattle.std.proofs.Math.Nat.{mul-le-mul_right}
use Rattle.std.proofs.lemmas.List.{length-map}
use Rattle.ml_lists.specs.Member.{IsMember}
use Rattle.ml_lists.proofs.Ascending.{ascending-is}
use Rattle.ml_lists.proofs.Member.{member-filter_from, Image, member-map_from}
use Rattle.std.specs.List.{filter}
use Rattle.ml_graph.specs.Graph.{Graph, size, node_at, odd_priorities}
use Rattle.ml_trace.specs.declared.letters.Transition.{Transition}
use Rattle.ml_trace.specs.declared.marks.Mark.{Mark}
use Rattle.ml_trace.specs.declared.marks.Mark.TheVariants.{Red, Green, Neutral}
use Rattle.ml_trace.specs.Automaton.{states_per_node}
use Rattle.ml_trace.specs.MarkOrder.{FitsBelow}
use Rattle.ml_trace.specs.NamesCondition.{NamesCondition, bound}
use Rattle.ml_trace.specs.Run.{in_letter}
use Rattle.ml_trace.specs.Stack.{Item}
use Rattle.ml_trace.proofs.Numbers.{guess_place-le}
use Rattle.ml_trace.proofs.Priorities.{priority-most}
use Rattle.ml_history.specs.CycleLaws.{entry}
use Rattle.ml_history.specs.HistoryStep.{live, stepped, step_mark}
use Rattle.ml_history.proofs.definition.StepNames.{step_names}
use Rattle.ml_history.proofs.definition.SmallHistories.{live-length, ascending_length}
use Rattle.ml_sequent.specs.declared.choice.Side.{Side}
use Rattle.ml_sequent.specs.declared.choice.Side.TheVariants.{Left, Right}
use Rattle.ml_sequent.specs.LocalWalk.{stays}
use Rattle.ml_sequent.specs.Spread.{SpreadList, IsSpreadOf, IsOpenOr, is_diamond}
use Rattle.ml_product.specs.Position.{Position, with_chosen, automaton_states, neutral, Follows}
use Rattle.ml_product.specs.DecisionGame.{Verdict, Clashing, Open, Leading, Settled, Target, To, Lost, Won, AreSteps, AreMoves, IsVerdictOf, Turn, IsReached, at_start, by_move}
use Rattle.ml_product.proofs.Reached.{Facts, IsTraced, reached_facts}

-- a position to which a move leads
pub data MovesTo (g : Graph) (p q : Position) : Type 0 where
  chooses : (sp : SpreadList) (o : ℕ) (x : Side)
      → IsSpreadOf g p.sequent p.choice sp
      → IsOpenOr g sp o
      → q ≡ with_chosen g p o x
      → MovesTo g p q
  steps : (sp : SpreadList) (d : ℕ)
      → IsSpreadOf g p.sequent p.choice sp
      → IsMember d sp.nodes
      → Follows g p sp d q
      → MovesTo g p q

module _ (g : Graph) (p q : Position) where
  along_steps : (sp : SpreadList) → IsSpreadOf g p.sequent p.choice sp → (ds : List ℕ) (ts : List Target)
      → ((d : ℕ) → IsMember d ds → IsMember d sp.nodes)
      → AreSteps g p sp ds ts
      → IsMember (To q) ts
      → MovesTo g p q
  along_steps sp is_spread [] ts inside are m = absurd (subst (λ v. IsMember (To q) v) are m)
  along_steps sp is_spread (d ∷ ds) ts inside (r, others, follows, rest, is) m =
      by_place (subst (λ v. IsMember (To q) v) is m) (λ later. along_steps sp is_spread ds others
      (λ e i. inside e (inr i)) rest later)
    where
      by_place : (To q ≡ To r) ⊎ IsMember (To q) others → (IsMember (To q) others → MovesTo g p q) → MovesTo g p q
      by_place (inl same) behind =
          let e : r ≡ q = cc in steps sp d is_spread (inside d (inl refl)) (subst (Follows g p sp d) e follows)
      by_place (inr later) behind = behind later

  by_verdict : (sp : SpreadList) (v : Verdict) (ts : List Target)
      → IsSpreadOf g p.sequent p.choice sp
      → IsVerdictOf g sp v
      → AreMoves g p sp v ts
      → IsMember (To q) ts
      → MovesTo g p q
  by_verdict sp Clashing ts is_spread is are m = lost (subst (λ v. IsMember (To q) v) are m)
    where
      lost : (To q ≡ Lost) ⊎ ⊥ → MovesTo g p q
      lost (inl same) = cc
      lost (inr none) = absurd none
  by_verdict sp (Open o) ts is_spread is are m = chosen (subst (λ v. IsMember (To q) v) are m)
    where
      chosen : (To q ≡ To (with_chosen g p o Left)) ⊎ ((To q ≡ To (with_chosen g p o Right)) ⊎ ⊥) → MovesTo g p q
      chosen (inl same) = chooses sp o Left is_spread is.1.is_open (let e : q ≡ with_chosen g p o Left = cc in e)
      chosen (inr (inl same)) =
          chooses sp o Right is_spread is.1.is_open (let e : q ≡ with_chosen g p o Right = cc in e)
      chosen (inr (inr none)) = absurd none
  by_verdict sp (Leading ds) ts is_spread is are m =
      along_steps sp is_spread ds ts
      (λ d i. (member-filter_from (λ n. is_diamond (node_at g n)) d sp.nodes (subst (λ v. IsMember d v) is.1 i)).0)
      are m
  by_verdict sp Settled ts is_spread is are m = won (subst (λ v. IsMember (To q) v) are m)
    where
      won : (To q ≡ Won) ⊎ ⊥ → MovesTo g p q
      won (inl same) = cc
      won (inr none) = absurd none

  -- each move to a position is one of these
  pub moves_to : (t : Turn g p) → IsMember (To q) t.targets → MovesTo g p q
  moves_to t m = by_verdict t.spread t.verdict t.targets t.is_spread t.is_verdict t.are_moves m

-- the nodes of a sequent with a spread are nodes of the graph
pub sequent_low : (g : Graph) (p : Position) (sp : SpreadList)
    → IsSpreadOf g p.sequent p.choice sp
    → (n : ℕ)
    → IsMember n p.sequent
    → n < size g
sequent_low g p sp is n m = is.low n ((is.nodes n).1 (record { from = n; member = m; lowest = _; walk = stays n }))

-- the states of its history are below those of the automaton
abbrev pub AreStatesLow : Graph → Position → Type 0
AreStatesLow g p = (a : Item ℕ) → IsMember a p.history → a.state < automaton_states g

-- so the numbers of its states are below the automaton's, as many as can be in use
module _ (g : Graph) (p : Position) (facts : Facts g p)
    (node_low : (n : ℕ) → IsMember n p.sequent → n < size g) where
  pub state_low : AreStatesLow g p
  state_low a m =
      let t : IsTraced g p.sequent a = facts.traced a m in
      let node : t.state.node < size g = node_low t.state.node t.member in
      let place =
      guess_place-le (odd_priorities g) t.state.odd (ascending-is (filter (λ d. d % 2 == 1) g.priorities))
      t.is_state in
      let whole : (t.state.node + 1) * states_per_node (odd_priorities g) ≤ size g * states_per_node
      (odd_priorities g) = mul-le-mul_right (states_per_node (odd_priorities g)) (omega arith) in
      omega (arith, t.numbered_so)

  -- there are at most as many names in use as states of the automaton
  pub names_fit : live p.history ≤ automaton_states g
  names_fit =
      let few =
      ascending_length (map (λ (a : Item ℕ). a.state) p.history) (automaton_states g)
      facts.is_history.states_ascend (λ x m. of_image x (member-map_from (λ (a : Item ℕ). a.state) x p.history
      m)) in
      omega (arith, live-length p.history facts.is_history, length-map p.history (λ (a : Item ℕ). a.state))
    where
      of_image : (x : ℕ) → Image (λ (a : Item ℕ). a.state) x p.history → x < automaton_states g
      of_image x i = subst (λ y. y < automaton_states g) (sym i.holds) (state_low i.from i.member)

module _ (g : Graph) (p : Position) (facts : Facts g p) (sp : SpreadList)
    (is_spread : IsSpreadOf g p.sequent p.choice sp) where
  names_few : live p.history ≤ automaton_states g
  names_few = names_fit g p facts (sequent_low g p sp is_spread)

  -- the number of a step's mark is below the neutral priority
  pub mark_fits : (letter : List Transition) → FitsBelow (neutral g) (step_mark p.history letter)
  mark_fits letter = by_mark (step_mark p.history letter) refl
    where
      names : NamesCondition in_letter letter (step_mark p.history letter) (entry p.history)
          (entry (stepped p.history letter))
      names = step_names p.history letter facts.is_history

      by_mark : (k : Mark) → step_mark p.history letter ≡ k → FitsBelow (neutral g) k
      by_mark (Red x) is =
          let low : bound (live p.history) (Red x) ≤ live p.history =
          subst (λ k. bound (live p.history) k ≤ live p.history) is names.in_use.0 in
          omega (arith, names_few)
      by_mark (Green x) is = omega (arith, names_few, (names.green_in_use x is).0)
      by_mark Neutral is = tt

-- a number that fits is at most the neutral one

-- no position that is reached has a greater priority than the neutral one
pub priority_at_most : (g : Graph) (p : Position) → IsReached g p → p.priority ≤ neutral g
priority_at_most g p at_start = omega arith
priority_at_most g p (by_move before _ turn reached m) = by_kind (moves_to g before p turn m)
  where
    by_kind : MovesTo g before p → p.priority ≤ neutral g
    by_kind (chooses sp o x is_spread is_open is) =
        let e : p.priority ≡ neutral g = ap (λ (q : Position). q.priority) is in omega arith
    by_kind (steps sp d is_spread inside f) =
        let fits = mark_fits g before (reached_facts g before reached) sp is_spread f.letter in
        omega (arith, f.marked, priority-most (neutral g) (step_mark before.history f.letter) fits)
