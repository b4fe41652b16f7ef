-- A graph, an arena and a solution have one model.
--
-- Even's moves from a position are determined, and so is where they end; so a state is known by the position where it
-- begins, and the breadth-first list of the states is one. Labels and edges are told by them, and structures in order
-- that have the same are equal.
--
--   one_end     == Even's moves from a position end at one position, with one spread
--   same_states == two lists of states are one
--   one_model   == two models are one
use Rattle.std.proofs.Common.{ℕ, ◌≡◌, ◌<◌, ◌≤◌, ◌⊎◌, inl, inr, List, [], length, get_or, slice_get, slice_index_or, Some, Contains, refl, sym, ap, ◌∙◌, subst, arith}
use Rattle.std.proofs.lemmas.Bool.{cases_lt}
use Rattle.std.proofs.lemmas.List.{get_or_past}
use Rattle.std.proofs.lemmas.Option.{slice_get-get_or}
use Rattle.ml_base.specs.declared.structure.Edge.{Edge}
use Rattle.ml_base.specs.Structure.{Structure}
use Rattle.ml_kripke.proofs.OneStructure.{one_structure}
use Rattle.ml_lists.proofs.Members.{member_of_contains, contains_of_member}
use Rattle.ml_graph.specs.Graph.{Graph}
use Rattle.ml_parity.specs.Solution.{GameSolution, choice_at}
use Rattle.ml_sequent.specs.Spread.{SpreadList, IsSpreadOf}
use Rattle.ml_product.specs.Position.{Position}
use Rattle.ml_product.specs.Arena.{Arena}
use Rattle.ml_extract.specs.Extraction.{OneModel}
use Rattle.ml_extract.specs.Model.{SpreadAt, Chooses, ends, moves, State, next_positions, AreStates, IsModelEdge, IsModelOf}
use Rattle.ml_lists.proofs.BreadthFirst.{one_breadth_first}
use Rattle.ml_product.proofs.OnePlace.{same_spread}
use Rattle.ml_extract.proofs.Numbering.{structure_of}

module _ (g : Graph) (a : Arena) (s : GameSolution) where
  pub spread_here : (v : ℕ) (x y : SpreadList) → SpreadAt g a v x → SpreadAt g a v y → x ≡ y
  spread_here v x y h k =
      let both : Some h.position ≡ Some k.position = sym h.stands ∙ k.stands in
      let same : h.position ≡ k.position = cc in
      same_spread g k.position.sequent k.position.choice x y (subst
      (λ (p : Position). IsSpreadOf g p.sequent p.choice x) same h.is_spread) k.is_spread

  pub record SameEnd (v w : ℕ) (sp tp : SpreadList) : Type 0 where
    pub vertex : v ≡ w
    pub spread : sp ≡ tp

  -- Even's moves from a position end at one position, with one spread
  pub one_end : (u v w : ℕ) (sp tp : SpreadList) → Chooses g a s u v sp → Chooses g a s u w tp → SameEnd v w sp tp
  one_end u v w sp tp (ends _ _ h none) (ends _ _ k other) = record { vertex = refl; spread = spread_here u sp tp h k }
  one_end u v w sp tp (ends _ _ h none) (moves _ _ n here _ k is_open rest) =
      absurd (none n (subst (λ x. Rattle.ml_sequent.specs.Spread.IsOpenOr g x n) (sym (spread_here u sp here h k))
      is_open))
  one_end u v w sp tp (moves _ _ n here _ h is_open rest) (ends _ _ k none) =
      absurd (none n (subst (λ x. Rattle.ml_sequent.specs.Spread.IsOpenOr g x n) (spread_here u here tp h k) is_open))
  one_end u v w sp tp (moves _ _ n here _ h is_open rest) (moves _ _ m there _ k also_open other) =
      one_end (choice_at s.choice u) v w sp tp rest other

  IsChosen : State → Type 0
  IsChosen x = Chooses g a s x.first x.last x.spread

  same_state : (x y : State) → x.first ≡ y.first → x.last ≡ y.last → x.spread ≡ y.spread → x ≡ y
  same_state x y e f h = λ i. record { first = e i; last = f i; spread = h i }

  known_by_first : (x y : State) → IsChosen x → IsChosen y → x.first ≡ y.first → x ≡ y
  unfolding IsChosen
  known_by_first x y c d same =
      let end =
      one_end y.first x.last y.last x.spread y.spread (subst (λ v. Chooses g a s v x.last x.spread) same c) d in
      same_state x y same end.vertex end.spread

  -- two lists of states are one
  pub same_states : (xs ys : List State) → AreStates g a s xs → AreStates g a s ys → xs ≡ ys
  unfolding IsChosen
  same_states xs ys p q =
      one_breadth_first (λ (x : State). x.first) (next_positions g a) 0 IsChosen known_by_first xs ys p.breadth_first
      q.breadth_first p.chosen q.chosen

  module _ (m n : Structure) (i j : ℕ) (p : IsModelOf g a s m i) (q : IsModelOf g a s n j) where
    states_are : p.states ≡ q.states
    states_are = same_states p.states q.states p.are_states q.are_states

    labels_at : (k : ℕ) (name : List ℕ) → (k < length p.states) ⊎ (length p.states ≤ k)
        → Contains (slice_index_or m.labels k []) name → Contains (slice_index_or n.labels k []) name
    labels_at k name (inl low) inside =
        let x = get_or p.states k (record { first = 0; last = 0; spread = record { nodes = []; choice = [] } }) in
        let is : slice_get p.states k ≡ Some x =
        slice_get-get_or p.states k (record { first = 0; last = 0; spread = record { nodes = []; choice = [] } })
        low in
        let other : slice_get q.states k ≡ Some x = subst (λ xs. slice_get xs k ≡ Some x) states_are is in
        contains_of_member name (slice_index_or n.labels k []) ((q.labels k x other name).1
        ((p.labels k x is name).0 (member_of_contains name (slice_index_or m.labels k []) inside)))
    labels_at k name (inr past) inside =
        let none : slice_index_or m.labels k [] ≡ [] = get_or_past m.labels k [] (omega (arith, p.labels_each)) in
        absurd (Rattle.ml_lists.proofs.Members.contains_none name (subst (λ ls. Contains ls name) none inside))

    edges_at : (e : Edge) → Contains m.edges e → Contains n.edges e
    edges_at e inside =
        contains_of_member e n.edges ((q.edges e).1 (subst (λ xs. IsModelEdge g a xs e) states_are
        ((p.edges e).0 (member_of_contains e m.edges inside))))

-- two models are one
pub one_model : OneModel
one_model g a s m n i j p q = (
  one_structure m n (structure_of g a s m i p) (structure_of g a s n j q) p.nothing_twice q.nothing_twice (record {
    states_same = p.a_state_each ∙ ap length (states_are g a s m n i j p q) ∙ sym q.a_state_each;
    labels_same = λ k name. (
      (λ h. labels_at g a s m n i j p q k name (cases_lt k (length p.states)) h),
      (λ h. labels_at g a s n m j i q p k name (cases_lt k (length q.states)) h),
    );
    edges_same = λ e. ((λ h. edges_at g a s m n i j p q e h), (λ h. edges_at g a s n m j i q p e h));
  }),
  p.starts ∙ sym q.starts,
)
