-- What is known of a numbered state by the position where Even's choices end, so that its parts can be gathered.
--
--   numbered_few    == there are at most as many states as positions
--   Here, here_at   == the state that ends at this position
--   sequent_fits    == the sequent of a position with a spread has nodes of the graph
--   spread_is       == the spread of the position is that of the state
--   diamonds_fit, are_diamonds, all_begin == what is asked of the diamonds of its spread, and where they lead
--   gathered_more   == with the parts of one state more
--   all_in_range    == the labels and edges of all states are of states that there are
use Rattle.std.proofs.Common.{ℕ, ◌≡◌, ◌+◌, ◌<◌, ◌≤◌, true, List, [], ◌++◌, length, get_or, slice_get, map, Some, None, All, sym, ap, ◌∙◌, subst, arith}
use Rattle.std.specs.List.{zip}
use Rattle.std.proofs.lemmas.List.{get_or_default, length-map, get_or-map}
use Rattle.std.proofs.lemmas.Option.{slice_get_within, slice_get-get_or}
use Rattle.ml_base.specs.declared.structure.Edge.{Edge}
use Rattle.ml_kripke.specs.Built.{first_bad_state}
use Rattle.ml_kripke.proofs.Range.{none_bad}
use Rattle.ml_lists.specs.Member.{IsMember}
use Rattle.ml_lists.proofs.Member.{Image, member-All, member-map_from, member-filter_from}
use Rattle.ml_graph.specs.Graph.{Graph, size, node_at}
use Rattle.ml_parity.specs.Solution.{GameSolution}
use Rattle.ml_sequent.specs.Spread.{SpreadList, IsSpreadOf, is_diamond}
use Rattle.ml_product.specs.Position.{Position}
use Rattle.ml_product.specs.DecisionGame.{diamonds_of}
use Rattle.ml_product.specs.Arena.{Arena}
use Rattle.ml_product.proofs.ArenaGame.{same_entry}
use Rattle.ml_lists.proofs.Member.{member_of_get}
use Rattle.ml_product.proofs.NeutralPriority.{sequent_low}
use Rattle.ml_extract.specs.Model.{State, SpreadAt, Chooses, ends as choice_ends, moves, nexts}
use Rattle.ml_extract.specs.private.Gathered.{HasSpread, names_in, labelled, edge_to, AreGathered}
use Rattle.ml_extract.specs.private.Numbered.{AreNumbered}
use Rattle.ml_extract.proofs.GatheredParts.{once, begins_there, one_more}
use Rattle.ml_extract.proofs.GrowingFirst.{few_below}
use Rattle.ml_extract.proofs.Numbering.{last_spread}
use Rattle.ml_extract.proofs.OneModel.{spread_here}

-- where choices begin, there is a position
first_low : (g : Graph) (a : Arena) (s : GameSolution) (v w : ℕ) (sp : SpreadList)
    → Chooses g a s v w sp
    → v < length a.positions
first_low g a s v w sp (choice_ends _ _ h none) = slice_get_within a.positions v h.position h.stands
first_low g a s v w sp (moves _ _ n here _ h is_open rest) = slice_get_within a.positions v h.position h.stands

-- a position with a spread
module _ (g : Graph) (a : Arena) (v : ℕ) (h : HasSpread g a v) where
  pub sequent_fits : (p : Position) → slice_get a.positions v ≡ Some p → All (λ k. k < size g) p.sequent
  sequent_fits p stands =
      let same = same_entry a.positions v h.1.position p h.1.stands stands in
      member-All (λ k. k < size g) p.sequent
      (λ k m. sequent_low g p h.0 (subst (λ (q : Position). IsSpreadOf g q.sequent q.choice h.0) same h.1.is_spread) k m)

module _ (g : Graph) (a : Arena) (s : GameSolution) (fs ls : List ℕ) (n : AreNumbered g a s fs ls) where
  pub same_lengths : length fs ≡ length ls
  same_lengths =
      ap length (sym n.firsts_are) ∙ length-map n.states (λ (x : State). x.first)
      ∙ sym (length-map n.states (λ (x : State). x.last)) ∙ ap length n.lasts_are

  -- there are at most as many states as positions
  pub numbered_few : length fs ≤ length a.positions
  numbered_few =
      few_below (length a.positions) fs (once g a s fs ls n)
      (λ v m. of_image v (member-map_from (λ (x : State). x.first) v n.states (subst (IsMember v)
      (sym n.firsts_are) m)))
    where
      of_image : (v : ℕ) → Image (λ (x : State). x.first) v n.states → v < length a.positions
      of_image v i =
          let low = first_low g a s i.from.first i.from.last i.from.spread (n.are_states.chosen i.from i.member) in
          omega (arith, i.holds)

  -- the state that ends at this position
  pub record Here (i last : ℕ) : Type 0 where
    pub state : State
    pub is : slice_get n.states i ≡ Some state
    pub last_is : state.last ≡ last
    pub at : SpreadAt g a last state.spread

  pub here_at : (i last : ℕ) → i < length ls → last ≡ get_or ls i last → Here i last
  here_at i last low read =
      let nowhere : State = record { first = 0; last = 0; spread = record { nodes = []; choice = [] } } in
      let last_is : last ≡ get_or ls i 0 = read ∙ get_or_default ls i last 0 low in
      let inside : i < length n.states =
      omega (arith, ap length n.lasts_are, length-map n.states (λ (x : State). x.last)) in
      let x : State = get_or n.states i nowhere in
      let is : slice_get n.states i ≡ Some x = slice_get-get_or n.states i nowhere inside in
      let same : x.last ≡ last =
      sym (get_or-map (λ (y : State). y.last) n.states i nowhere 0 inside) ∙ ap (λ vs. get_or vs i 0) n.lasts_are
      ∙ sym last_is in
      let at = last_spread g a s x.first x.last x.spread (n.are_states.chosen x (member_of_get n.states i x is)) in
      record { state = x; is = is; last_is = same; at = subst (λ v. SpreadAt g a v x.spread) same at }

  module _ (i last : ℕ) (h : Here i last) where
    pub spread_is : (sp : SpreadList) → SpreadAt g a last sp → sp ≡ h.state.spread
    spread_is sp at = spread_here g a s last sp h.state.spread at h.at

    -- the diamonds as they are read from the spread
    pub diamonds_are : (f : Graph) (sp : SpreadList) (ds : List ℕ)
        → f ≡ g
        → SpreadAt g a last sp
        → ds ≡ diamonds_of f sp
        → ds ≡ diamonds_of g h.state.spread
    diamonds_are f sp ds same at ds_is =
        ds_is ∙ ap (λ k. diamonds_of k sp) same ∙ ap (diamonds_of g) (spread_is sp at)

    pub diamonds_fit : (ds : List ℕ) → ds ≡ diamonds_of g h.state.spread → All (λ k. k < size g) ds
    diamonds_fit ds is =
        subst (All (λ k. k < size g)) (sym is)
        (member-All (λ k. k < size g) (diamonds_of g h.state.spread)
        (λ k m. h.at.is_spread.low k (member-filter_from (λ x. is_diamond (node_at g x)) k h.state.spread.nodes m).0))

    pub are_diamonds : (ds : List ℕ) → ds ≡ diamonds_of g h.state.spread → All (λ k. is_diamond (node_at g k) ≡ true) ds
    are_diamonds ds is =
        subst (All (λ k. is_diamond (node_at g k) ≡ true)) (sym is)
        (member-All (λ k. is_diamond (node_at g k) ≡ true) (diamonds_of g h.state.spread)
        (λ k m. (member-filter_from (λ x. is_diamond (node_at g x)) k h.state.spread.nodes m).1))

    nexts_are : (ds vs : List ℕ)
        → ds ≡ diamonds_of g h.state.spread
        → vs ≡ get_or a.moves last []
        → zip ds vs ≡ nexts g a h.state
    nexts_are ds vs ds_is vs_is = λ j. zip (ds_is j) ((vs_is ∙ ap (λ v. get_or a.moves v []) (sym h.last_is)) j)

    pub all_begin : (ds vs : List ℕ)
        → ds ≡ diamonds_of g h.state.spread
        → vs ≡ get_or a.moves last []
        → All (λ (next : ℕ × ℕ). IsMember next.1 fs) (zip ds vs)
    all_begin ds vs ds_is vs_is =
        subst (All (λ (next : ℕ × ℕ). IsMember next.1 fs)) (sym (nexts_are ds vs ds_is vs_is))
        (member-All (λ (next : ℕ × ℕ). IsMember next.1 fs) (nexts g a h.state)
        (λ next m. begins_there g a s fs ls n h.state (member_of_get n.states i h.state h.is) next.0 next.1 m))

    -- with the parts of one state more
    pub gathered_more : (ds vs : List ℕ) (sp : SpreadList) (labels more_labels : List (ℕ × List ℕ))
        (edges more_edges : List Edge)
        → ds ≡ diamonds_of g h.state.spread
        → vs ≡ get_or a.moves last []
        → sp ≡ h.state.spread
        → more_labels ≡ labels ++ labelled i (names_in g sp)
        → more_edges ≡ edges ++ map (edge_to g fs i) (zip ds vs)
        → AreGathered g a n.states i labels edges
        → AreGathered g a n.states (i + 1) more_labels more_edges
    gathered_more ds vs sp labels more_labels edges more_edges ds_is vs_is sp_is labels_is edges_is old =
        one_more g a s fs ls n i h.state h.is labels more_labels edges more_edges old
        (labels_is ∙ ap (λ x. labels ++ labelled i (names_in g x)) sp_is)
        (edges_is ∙ ap (λ ps. edges ++ map (edge_to g fs i) ps) (nexts_are ds vs ds_is vs_is))

  -- ---- all states

  states_long : length n.states ≡ length ls
  states_long = sym (length-map n.states (λ (x : State). x.last)) ∙ ap length n.lasts_are

  pub some_state : 0 < length ls
  some_state =
      let first = ap length n.are_states.breadth_first.in_order in
      omega (arith, first, states_long, length-map n.states (λ (x : State). x.first))

  -- the labels and edges of all states are of states that there are
  pub all_in_range : (labels : List (ℕ × List ℕ)) (edges : List Edge)
      → AreGathered g a n.states (length ls) labels edges
      → first_bad_state (length ls) labels edges ≡ None
  all_in_range labels edges old = none_bad (length ls) labels edges label_low edge_low
    where
      label_low : (label : ℕ × List ℕ) → IsMember label labels → label.0 < length ls
      label_low label m = ((old.labels_are label.0 label.1).0 m).0

      edge_low : (e : Edge) → IsMember e edges → (e.source < length ls) × (e.target < length ls)
      edge_low e m =
          let h = (old.edges_are e).0 m in
          (h.0, omega (arith, slice_get_within n.states e.target h.1.to h.1.to_is, states_long))
