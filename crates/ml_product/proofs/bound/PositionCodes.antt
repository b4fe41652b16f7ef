-- The code of a position, and the bound of positions.
--
-- A position that is reached is told by its flags of nodes, its sides at nodes, the parents of its names, the last names
-- of its states, and its priority. So there are at most as many as numbers below the bound.
--
--   reached_low      == the nodes of a sequent that is reached are nodes of the graph
--   Coded g p        == what the code of p stands on
--   reached_coded    == it is true of each position that is reached
--   code g p         == the number of p
--   code_low         == it is below the bound
--   same_code        == it tells the position
--   position_bound   == no decision game has more positions
use Rattle.std.proofs.Common.{ℕ, zero, suc, ◌≡◌, ◌+◌, ◌*◌, ◌^◌, ◌<◌, ◌≤◌, ◌⊎◌, inl, inr, List, [], ◌∷◌, map, length, get_or, sym, ap, ◌∙◌, subst, arith}
use Rattle.std.proofs.lemmas.List.{length-map, get_or-map}
use Rattle.ml_lists.specs.Ascending.{IsAscending}
use Rattle.ml_lists.specs.Member.{IsMember}
use Rattle.ml_lists.proofs.Member.{place-member}
use Rattle.ml_lists.proofs.Pigeons.{TwiceInList, pigeons_list}
use Rattle.ml_graph.specs.Graph.{Graph, IsGraph, size, node_at}
use Rattle.ml_graph.specs.declared.node.Node.TheVariants as node
use Rattle.ml_graph.proofs.References.{root_in_range, diamond_target, square_target}
use Rattle.ml_trace.specs.Stack.{Item}
use Rattle.ml_trace.proofs.Stacks.{member-has}
use Rattle.ml_history.specs.History.{IsHistory}
use Rattle.ml_history.proofs.definition.NamesInUse.{live-has}
use Rattle.ml_sequent.specs.Choice.{side_of}
use Rattle.ml_sequent.specs.Spread.{SpreadList}
use Rattle.ml_sequent.specs.Step.{LeadsOut, IsTarget}
use Rattle.ml_product.specs.Position.{Position, start_of, automaton_states, neutral}
use Rattle.ml_product.specs.DecisionGame.{IsReached, at_start, by_move, AreDifferent}
use Rattle.ml_product.specs.Bound.{bound, PositionBoundLaw}
use Rattle.ml_product.proofs.NeutralPriority.{MovesTo, chooses, steps, moves_to, priority_at_most, AreStatesLow, state_low, names_fit}
use Rattle.ml_product.proofs.Reached.{Facts, reached_facts}
use Rattle.ml_product.proofs.ReachedChoices.{ChoiceFacts, reached_choice}
use Rattle.ml_product.proofs.bound.Packs.{pair_low, pair_same, pack, pack_low, pack_same}
use Rattle.ml_product.proofs.bound.SetCodes.{flag, bit_low, same_sets, side_digit, side_digit_low, same_choices}
use Rattle.ml_product.proofs.bound.HistoryCodes.{parent_of, parent_low, tip_of, tip_of_low, same_histories}

module _ (g : Graph) (ok : IsGraph g) where
  -- what leads out of a node of the graph leads to one
  child_low : (sp : SpreadList) (d e m : ℕ)
      → d < size g
      → ((k : ℕ) → IsMember k sp.nodes → k < size g)
      → LeadsOut g sp d e m
      → m < size g
  child_low sp d e m d_low low out = by_kind out.leaves
    where
      by_kind : ((e ≡ d) × (m ≡ out.child)) ⊎ (IsMember e sp.nodes × (node_at g e ≡ node.Square out.action m))
          → m < size g
      by_kind (inl is) =
          subst (λ k. k < size g) (sym is.1) (diamond_target g ok d d_low out.action out.child out.is_diamond)
      by_kind (inr is) = square_target g ok e (low e is.0) out.action m is.1

  -- the nodes of a sequent that is reached are nodes of the graph
  pub reached_low : (p : Position) → IsReached g p → (n : ℕ) → IsMember n p.sequent → n < size g
  reached_low p at_start n (inl is) = subst (λ k. k < size g) (sym is) (root_in_range g ok)
  reached_low p at_start n (inr none) = absurd none
  reached_low p (by_move from _ turn reached m) n inside =
      by_kind (moves_to g from p turn m) (reached_low from reached n)
    where
      by_kind : MovesTo g from p → (IsMember n from.sequent → n < size g) → n < size g
      by_kind (chooses sp o x is_spread is_open is) old =
          old (subst (IsMember n) (ap (λ (q : Position). q.sequent) is) inside)
      by_kind (steps sp d is_spread in_spread f) old =
          let t : IsTarget g sp d n = (f.is_step.targets n).0 inside in
          child_low sp d t.leaving n (is_spread.low d in_spread) is_spread.low t.leads

  -- what the code of a position stands on
  pub record Coded (p : Position) : Type 0 where
    pub ascends : IsAscending p.sequent
    pub low : (n : ℕ) → IsMember n p.sequent → n < size g
    pub choice : ChoiceFacts g p.choice
    pub history : IsHistory p.history
    pub states : AreStatesLow g p
    pub names : (a : Item ℕ) → IsMember a p.history → (z : ℕ) → IsMember z a.stack → z < automaton_states g
    pub priority : p.priority ≤ neutral g

  -- it is true of each position that is reached
  pub reached_coded : (p : Position) → IsReached g p → Coded p
  reached_coded p reached = record {
    ascends = facts.ascends;
    low = reached_low p reached;
    choice = reached_choice g p reached;
    history = facts.is_history;
    states = state_low g p facts (reached_low p reached);
    names = λ a m z i. let used = live-has p.history z a m (member-has z a.stack i) in
        omega (arith, names_fit g p facts (reached_low p reached));
    priority = priority_at_most g p reached;
  }
    where
      facts : Facts g p
      facts = reached_facts g p reached

  -- ---- the code, part by part

  abbrev pub sides : Position → ℕ → ℕ
  sides p n = side_digit (side_of p.choice n)

  abbrev pub sets_code : Position → ℕ
  sets_code p = pack 2 (size g) (flag p.sequent)

  abbrev pub sides_code : Position → ℕ
  sides_code p = pack 3 (size g) (sides p)

  abbrev pub parents_code : Position → ℕ
  parents_code p = pack (automaton_states g) (automaton_states g) (parent_of p.history)

  abbrev pub tips_code : Position → ℕ
  tips_code p = pack (automaton_states g + 1) (automaton_states g) (tip_of p.history)

  abbrev pub choosing_code : Position → ℕ
  choosing_code p = sets_code p * 3 ^ size g + sides_code p

  abbrev pub naming_code : Position → ℕ
  naming_code p = choosing_code p * automaton_states g ^ automaton_states g + parents_code p

  abbrev pub ending_code : Position → ℕ
  ending_code p = naming_code p * (automaton_states g + 1) ^ automaton_states g + tips_code p

  -- the number of a position
  abbrev pub code : Position → ℕ
  code p = ending_code p * (2 * automaton_states g + 3) + p.priority

  module _ (p : Position) (is : Coded p) where
    set_digits : (n : ℕ) → n < size g → flag p.sequent n < 2
    set_digits n low = bit_low _

    side_digits : (n : ℕ) → n < size g → sides p n < 3
    side_digits n low = side_digit_low (side_of p.choice n)

    parent_digits : (y : ℕ) → y < automaton_states g → parent_of p.history y < automaton_states g
    parent_digits y low = parent_low (automaton_states g) p.history y low is.names

    tip_digits : (q : ℕ) → q < automaton_states g → tip_of p.history q < automaton_states g + 1
    tip_digits q low = tip_of_low (automaton_states g) p.history q is.history.not_empty is.names

    sets_low : sets_code p < 2 ^ size g
    sets_low = pack_low 2 (size g) (flag p.sequent) set_digits

    sides_low : sides_code p < 3 ^ size g
    sides_low = pack_low 3 (size g) (sides p) side_digits

    parents_low : parents_code p < automaton_states g ^ automaton_states g
    parents_low = pack_low (automaton_states g) (automaton_states g) (parent_of p.history) parent_digits

    tips_low : tips_code p < (automaton_states g + 1) ^ automaton_states g
    tips_low = pack_low (automaton_states g + 1) (automaton_states g) (tip_of p.history) tip_digits

    priority_low : p.priority < 2 * automaton_states g + 3
    priority_low = omega (arith, is.priority)

    -- it is below the bound
    pub code_low : code p < bound g
    code_low =
        pair_low (ending_code p) p.priority _ (2 * automaton_states g + 3)
        (pair_low (naming_code p) (tips_code p) _ ((automaton_states g + 1) ^ automaton_states g)
        (pair_low (choosing_code p) (parents_code p) _ (automaton_states g ^ automaton_states g)
        (pair_low (sets_code p) (sides_code p) (2 ^ size g) (3 ^ size g) sets_low sides_low)
        parents_low)
        tips_low)
        priority_low

  -- it tells the position
  pub same_code : (p q : Position) → Coded p → Coded q → code p ≡ code q → p ≡ q
  same_code p q is_p is_q e =
      let last = pair_same (ending_code p) p.priority (ending_code q) q.priority (2 * automaton_states g + 3)
      (priority_low p is_p) (priority_low q is_q) e in
      let tips = pair_same (naming_code p) (tips_code p) (naming_code q) (tips_code q)
      ((automaton_states g + 1) ^ automaton_states g) (tips_low p is_p) (tips_low q is_q) last.0 in
      let parents = pair_same (choosing_code p) (parents_code p) (choosing_code q) (parents_code q)
      (automaton_states g ^ automaton_states g) (parents_low p is_p) (parents_low q is_q) tips.0 in
      let first = pair_same (sets_code p) (sides_code p) (sets_code q) (sides_code q) (3 ^ size g)
      (sides_low p is_p) (sides_low q is_q) parents.0 in
      let sequents = same_sets (size g) p.sequent q.sequent is_p.ascends is_q.ascends is_p.low is_q.low
      (pack_same 2 (size g) (flag p.sequent) (flag q.sequent) (set_digits p is_p) (set_digits q is_q) first.0) in
      let choices = same_choices (size g) p.choice q.choice is_p.choice.is_choice is_q.choice.is_choice
      is_p.choice.low is_q.choice.low
      (pack_same 3 (size g) (sides p) (sides q) (side_digits p is_p) (side_digits q is_q) first.1) in
      let histories = same_histories (automaton_states g) p.history q.history is_p.history is_q.history
      is_p.states is_q.states is_p.names is_q.names
      (pack_same (automaton_states g) (automaton_states g) (parent_of p.history) (parent_of q.history)
      (parent_digits p is_p) (parent_digits q is_q) parents.1)
      (pack_same (automaton_states g + 1) (automaton_states g) (tip_of p.history) (tip_of q.history)
      (tip_digits p is_p) (tip_digits q is_q) tips.1) in
      λ i. record { sequent = sequents i; history = histories i; priority = last.1 i; choice = choices i }

-- different positions don't stand at two places
apart_places : (ps : List Position) → AreDifferent ps → (i j : ℕ) (d : Position)
    → i < j
    → j < length ps
    → get_or ps i d ≡ get_or ps j d
    → ⊥
apart_places [] apart i j d less low e = omega arith
apart_places (x ∷ xs) apart i zero d less low e = omega arith
apart_places (x ∷ xs) apart zero (suc j) d less low e =
    apart.0 (subst (λ y. IsMember y xs) (sym e) (place-member xs j d (omega arith)))
apart_places (x ∷ xs) apart (suc i) (suc j) d less low e =
    apart_places xs apart.1 i j d (omega arith) (omega arith) e

-- no decision game has more positions
pub position_bound : PositionBoundLaw
position_bound g ok many =
    from (pigeons_list (bound g) (map (code g ok) many.positions) (omega (arith, many.are_more, long)) fits)
  where
    long : length (map (code g ok) many.positions) ≡ length many.positions
    long = length-map many.positions (code g ok)

    at : (k : ℕ) → k < length many.positions → Coded g ok (get_or many.positions k (start_of g))
    at k low =
        let d = start_of g in
        reached_coded g ok (get_or many.positions k d)
        (many.are_reached (get_or many.positions k d) (place-member many.positions k d low))

    fits : (k : ℕ) → k < length (map (code g ok) many.positions) → get_or (map (code g ok) many.positions) k 0 < bound g
    fits k low =
        let d = start_of g in
        let k_low : k < length many.positions = omega (arith, long) in
        subst (λ n. n < bound g) (sym (get_or-map (code g ok) many.positions k d 0 k_low))
        (code_low g ok (get_or many.positions k d) (at k k_low))

    from : TwiceInList (map (code g ok) many.positions) → ⊥
    from t =
        let d = start_of g in
        let second : t.second < length many.positions = omega (arith, long, t.within) in
        let first : t.first < length many.positions = omega (arith, t.apart) in
        let codes = sym (get_or-map (code g ok) many.positions t.first d 0 first) ∙ t.same 0
        ∙ get_or-map (code g ok) many.positions t.second d 0 second in
        apart_places many.positions many.are_different t.first t.second d t.apart second
        (same_code g ok (get_or many.positions t.first d) (get_or many.positions t.second d) (at t.first first)
        (at t.second second) codes)
