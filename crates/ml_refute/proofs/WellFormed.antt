-- An extracted refutation is a refutation, in numbers of 32 bits.
--
--   names_few            == there are no more names than states of the automaton
--   entries_low          == and no more entries than positions
--   decided, decided_at  == a decision leads to entries, with names that there are
--   is_traced            == items ascend, and their stacks are of names in use
--   entry_is             == an entry is one
--   extracted_refutation == the theorem
use Rattle.std.proofs.Common.{ℕ, ◌≡◌, ◌*◌, ◌/◌, ◌<◌, ◌≤◌, ◌≢◌, ◌==◌, ◌%◌, List, [], ◌∷◌, Option, Some, None, length, get_or, filter, All, refl, sym, ap, ◌∙◌, subst, arith}
use Rattle.std.proofs.lemmas.List.{get_or-map, get_or_default}
use Rattle.std.proofs.lemmas.List.Sums.{length-filter, count_by-le-length}
use Rattle.std.proofs.lemmas.Nat.{mul-le}
use Rattle.ml_lists.specs.Ascending.{IsAscending}
use Rattle.ml_lists.specs.Member.{IsMember}
use Rattle.ml_lists.proofs.Ascending.{ascending-is, ascending-member, length-ascending}
use Rattle.ml_lists.proofs.Member.{All-member, member-All, member-place, member-filter_from, member-map_from, Image, Place}
use Rattle.ml_graph.specs.Graph.{IsGraph, size, odd_priorities, node_at}
use Rattle.ml_history.specs.HistoryStep.{live}
use Rattle.ml_history.proofs.definition.NamesInUse.{live-has}
use Rattle.ml_parity.specs.OneSided.{AreLongest}
use Rattle.ml_parity.proofs.HeightTables.{longest_low}
use Rattle.ml_product.specs.Position.{Position, automaton_states, with_chosen}
use Rattle.ml_product.proofs.NeutralPriority.{names_fit, sequent_low}
use Rattle.ml_product.proofs.Reached.{Facts, IsTraced}
use Rattle.ml_refutation.specs.declared.refutation.TheConstants.{NESTING_LIMIT}
use Rattle.ml_refutation.specs.Acceptance.{entry_at, no_entry, heights_of}
use Rattle.ml_refutation.specs.Refutation as plain
use Rattle.ml_refutation.specs.Refutation.{Entry, Decision, Split, Clash, Go, Fits, FitsCause, IsItem, IsDecided, IsEntry, IsRefutation, nesting}
use Rattle.ml_refutation.specs.Guesses.{FitsGuess}
use Rattle.ml_sequent.specs.declared.choice.Side.TheVariants.{Left, Right}
use Rattle.ml_sequent.specs.declared.clashes.ClashCause.{ClashCause}
use Rattle.ml_sequent.specs.declared.clashes.ClashCause.TheVariants as cause
use Rattle.ml_sequent.specs.Spread.{SpreadList, IsCause, is_diamond}
use Rattle.ml_trace.specs.declared.letters.AutomatonState.{AutomatonState}
use Rattle.ml_trace.specs.Automaton.{states_per_node, IsGuess}
use Rattle.ml_trace.specs.AutomatonNumbers.{state_of}
use Rattle.ml_trace.specs.Stack as traced
use Rattle.ml_trace.proofs.Stacks.{member-has}
use Rattle.std.proofs.lemmas.Option.{slice_get_within}
use Rattle.ml_product.proofs.OnePlace.{PlaceOf, place_of}
use Rattle.ml_product.proofs.Explored.{few_reached}
use Rattle.ml_refute.specs.Extracted.{IsDecisionAt, IsGo, go_graph, traces_of}
use Rattle.ml_refute.proofs.CarriedNames.{carried_item}
use Rattle.ml_refute.proofs.Decisions.{chosen_facts, spread_here}
use Rattle.ml_refute.proofs.Entries.{Extraction, At, position_at, facts_at, low_at, is_reached}
use Rattle.ml_refute.proofs.GoGraph.{is_one_sided, live_within, more_names}
use Rattle.ml_refute.proofs.GoSteps.{state_numbered, go_mark_in_use}
use Rattle.ml_refute.proofs.Items.{items_ascend}
use Rattle.ml_refute.proofs.Sizes.{nesting_low, IsChoiceIn}

module _ (X : Extraction) (g_ok : IsGraph X.g) (small : size X.g ≤ NESTING_LIMIT) where
  node_fits : (n : ℕ) → n < size X.g → Fits n
  node_fits n low = omega arith

  -- ---- sizes

  few_states : automaton_states X.g ≤ 4096 * 4097
  few_states =
      let odds_few : length (odd_priorities X.g) ≤ size X.g =
      omega (
        arith,
        length-ascending (filter (λ d. d % 2 == 1) X.g.priorities),
        length-filter (λ d. d % 2 == 1)
            X.g.priorities,
        count_by-le-length (λ d. d % 2 == 1) X.g.priorities,
        g_ok.priorities,
      ) in
      let product = mul-le (size X.g) (states_per_node (odd_priorities X.g)) 4096 4097 (omega arith) (omega arith) in
      omega (arith, product)

  module _ (e : ℕ) (low : e < length X.r.entries) (h : At X e) where
    facts : Facts X.g h.position
    facts = facts_at X e h.position h.placed

    nodes_low : (n : ℕ) → IsMember n h.position.sequent → n < size X.g
    nodes_low = low_at X e h.position h.placed

    live_is : (entry_at X.r e).traces.live ≡ live h.position.history
    live_is = ap (λ (t : traced.Entry AutomatonState). t.live) h.is_entry.traces

    live_few : (entry_at X.r e).traces.live ≤ automaton_states X.g
    live_few =
        let here = spread_here X.g X.a X.s X.o.positions h.position (entry_at X.r e).decision h.is_entry.decision in
        omega (arith, names_fit X.g h.position facts (sequent_low X.g h.position here.spread here.is_spread), live_is)

  -- there are no more names than states of the automaton
  pub names_few : X.r.names ≤ 4096 * 4097
  names_few =
      let place = member-place X.o.names.entry X.r.entries X.o.names.member in
      let few = live_few place.place place.below (position_at X place.place place.below) in
      let same : (entry_at X.r place.place).traces.live ≡ X.r.names = ap (λ (x : Entry). x.traces.live)
      (place.holds no_entry) ∙ X.o.names.is in
      omega (arith, few, same, few_states)

  names_low : Fits X.r.names
  names_low = omega (arith, names_few)

  -- and no more entries than positions
  entries_low : length X.r.entries ≤ length X.a.positions
  entries_low =
      let few = few_reached X.o.positions X.a.positions X.o.are_different
      (λ p m. of_place p (place_of p X.o.positions m)) in
      omega (arith, few, X.o.a_position_each)
    where
      of_place : (p : Position) → PlaceOf p X.o.positions → IsMember p X.a.positions
      of_place p i = (X.arena.are_reached p).1 (is_reached X i.place p i.stands)

  -- ---- decisions

  cause_fits : (sp : SpreadList) (x : ClashCause)
      → ((n : ℕ) → IsMember n sp.nodes → n < size X.g)
      → IsCause X.g sp x
      → FitsCause x
  cause_fits sp (cause.False n) within at = node_fits n (within n at.0)
  cause_fits sp (cause.Pair p q) within at = (node_fits p (within p at.0), node_fits q (within q at.1))
  cause_fits sp (cause.Cycle n) within at = node_fits n (within n at.0)

  pub decided : (d : Decision) (p : Position)
      → Facts X.g p
      → ((n : ℕ) → IsMember n p.sequent → n < size X.g)
      → live p.history ≤ X.r.names
      → IsDecisionAt X.g X.a X.s X.o.positions p d
      → IsDecided X.r.names (length X.r.entries) d
  decided (Split n left right) p known within few at = (
    node_fits n (at.0.is_spread.low n at.0.holds.1.is_open.member),
    decided left (with_chosen X.g p n Left) (chosen_facts X.g p n Left known) within few at.1,
    decided right (with_chosen X.g p n Right) (chosen_facts X.g p n Right known) within few at.2,
  )
  decided (Clash x) p known within few at = cause_fits at.spread x at.is_spread.low at.holds.is_cause
  decided (Go d f m) p known within few at = (
    node_fits d (at.is_spread.low d (member-filter_from (λ n. is_diamond (node_at X.g n)) d at.spread.nodes
        go.is_diamond.is_diamond).0),
    omega (arith, slice_get_within X.o.positions f go.next go.is_entry, X.o.a_position_each),
    more_names (live p.history) X.r.names m few (go_mark_in_use X.g p go.next at.spread d go.is_diamond.leads known
        at.is_spread m go.marked go.is_mark),
  )
    where
      go : IsGo X.g X.a X.s X.o.positions p at.spread d f m
      go = at.holds.1

  -- the decision of an entry
  pub decided_at : (e : ℕ) → e < length X.r.entries → IsDecided X.r.names (length X.r.entries) (entry_at X.r e).decision
  decided_at e low = of_entry (position_at X e low)
    where
      of_entry : At X e → IsDecided X.r.names (length X.r.entries) (entry_at X.r e).decision
      of_entry h =
          decided (entry_at X.r e).decision h.position (facts e low h) (nodes_low e low h) (live_within X e h low)
          h.is_entry.decision

  module _ (longest : AreLongest (go_graph X.r) (heights_of X.r)) (priorities_fit : All Fits X.g.priorities)
      (positions_fit : Fits (length X.a.positions)) where
    -- ---- items

    guess_fits : (guess : Option ℕ) → IsGuess (odd_priorities X.g) guess → FitsGuess guess
    guess_fits None at = tt
    guess_fits (Some d) at =
        All-member Fits X.g.priorities priorities_fit d (member-filter_from (λ e. e % 2 == 1) d X.g.priorities
        (ascending-member d (filter (λ e. e % 2 == 1) X.g.priorities) at)).0

    not_empty : (xs : List ℕ) → xs ≢ [] → 0 < length xs
    not_empty [] some = absurd (some refl)
    not_empty (x ∷ xs) some = omega arith

    item_is : (p : Position)
        → Facts X.g p
        → ((n : ℕ) → IsMember n p.sequent → n < size X.g)
        → (x : traced.Item ℕ)
        → IsMember x p.history
        → IsItem (live p.history) (carried_item (state_of (odd_priorities X.g)) x)
    item_is p known within x inside = of_traced (known.traced x inside)
      where
        of_traced : IsTraced X.g p.sequent x → IsItem (live p.history) (carried_item (state_of (odd_priorities X.g)) x)
        of_traced t =
            let state_is : state_of (odd_priorities X.g) x.state ≡ t.state =
            state_numbered X.g x.state t.state t.is_state
            t.numbered_so in
            record {
              node_fits = subst (λ (y : AutomatonState). Fits y.node) (sym state_is)
                  (node_fits t.state.node (within t.state.node t.member));
              guess_fits = subst (λ (y : AutomatonState). FitsGuess y.odd) (sym state_is)
                  (guess_fits t.state.odd t.is_state);
              is_stack = record {
                some = not_empty x.stack (known.is_history.not_empty x inside);
                ascends = known.is_history.stacks_ascend x inside;
                below = member-All (λ y. y < live p.history) x.stack
                    (λ y m. live-has p.history y x inside (member-has y x.stack m));
              };
            }

    traces_are : (p : Position)
        → Facts X.g p
        → ((n : ℕ) → IsMember n p.sequent → n < size X.g)
        → live p.history ≤ X.r.names
        → plain.IsTraced X.r.names (traces_of X.g p.history)
    traces_are p known within few = record {
      within = few;
      ascend = items_ascend (odd_priorities X.g) (ascending-is (filter (λ d. d % 2 == 1) X.g.priorities)) None p.history
          tt known.is_history.states_ascend;
      are_items = member-All (IsItem (live p.history)) (traces_of X.g p.history).items
          (λ x m. of_image x (member-map_from (carried_item (state_of (odd_priorities X.g))) x p.history m));
    }
      where
        of_image : (x : traced.Item AutomatonState)
            → Image (carried_item (state_of (odd_priorities X.g))) x p.history
            → IsItem (live p.history) x
        of_image x i = subst (IsItem (live p.history)) (sym i.holds) (item_is p known within i.from i.member)

    -- ---- entries

    row_is : (e : ℕ) → e < length X.r.entries → get_or (heights_of X.r) e [] ≡ (entry_at X.r e).heights
    row_is e low = get_or-map (λ (x : Entry). x.heights) X.r.entries e no_entry [] low

    height_fits : (e : ℕ) → e < length X.r.entries → All Fits (entry_at X.r e).heights
    height_fits e low k d below =
        let most = longest_low (go_graph X.r) (heights_of X.r) (is_one_sided X) longest (2 * k) e in
        let half : (2 * k) / 2 ≡ k = omega arith in
        let here : get_or (get_or (heights_of X.r) e []) ((2 * k) / 2) 0 ≡ get_or (entry_at X.r e).heights k d =
        ap (λ row. get_or row ((2 * k) / 2) 0) (row_is e low) ∙ ap (λ j. get_or (entry_at X.r e).heights j 0) half
        ∙ get_or_default (entry_at X.r e).heights k 0 d below in
        omega (arith, most, here, entries_low)

    entry_is : (e : ℕ) → e < length X.r.entries → At X e → IsEntry X.r.names (length X.r.entries) (entry_at X.r e)
    entry_is e low h =
        let p = h.position in
        let known = facts e low h in
        let within = nodes_low e low h in
        let few = live_within X e h low in
        record {
          nodes_fit = subst (All Fits) (sym h.is_entry.sequent)
              (member-All Fits p.sequent (λ n m. node_fits n (within n m)));
          ascends = subst IsAscending (sym h.is_entry.sequent) known.ascends;
          is_traced = subst (plain.IsTraced X.r.names) (sym h.is_entry.traces) (traces_are p known within few);
          heights_fit = height_fits e low;
          a_height_each = let rows = longest.shape.numbers e low in
              let half : 2 * X.r.names / 2 ≡ X.r.names = omega arith in
              omega (arith, rows, half, ap (λ (row : List ℕ). length row) (row_is e low));
          is_decided = decided (entry_at X.r e).decision p known within few h.is_entry.decision;
          nested = nested;
        }
      where
        nested : nesting (entry_at X.r e).decision ≤ NESTING_LIMIT
        nested =
            let deep = nesting_low X.g X.a X.s X.o.positions (entry_at X.r e).decision h.position h.is_entry.decision
            (subst (IsChoiceIn X.g) (sym h.is_entry.unchosen) (record { is_choice = tt; low = λ k m. absurd m })) in
            omega (arith, deep)

    -- the theorem
    pub extracted_refutation : IsRefutation X.r
    extracted_refutation = record {
      names_fit = names_low;
      has_start = let place = member-place X.o.names.entry X.r.entries X.o.names.member in omega (arith, place.below);
      entries_fit = omega (arith, entries_low);
      are_entries = member-All (IsEntry X.r.names (length X.r.entries)) X.r.entries
          (λ x m. of_place x (member-place x X.r.entries m));
    }
      where
        of_place : (x : Entry)
            → Place x X.r.entries
            → IsEntry X.r.names (length X.r.entries) x
        of_place x i =
            subst (IsEntry X.r.names (length X.r.entries)) (i.holds no_entry)
            (entry_is i.place i.below (position_at X i.place i.below))
