-- The states of the model by their numbers, and its edges.
--
--   StateAt         == the state that begins at a position
--   first_state     == the state 0 begins at position 0
--   state_for       == each next position is one where a state begins
--   last_spread     == the spread of a state is that of its last position
--   structure_of    == the model is a structure
--   Earlier, earlier_state == each state but the first is the next one of an earlier state
--   reached_from_start, has_diamond == each state is reached along edges, each edge has a diamond's action
--   target_in, target_from == where the edges of an action lead
use Rattle.std.proofs.Common.{length, ℕ, zero, suc, ◌≡◌, ◌<◌, ◌≤◌, ◌==◌, inl, inr, Bool, true, ◌&&◌, List, [], ◌∷◌, get_or, slice_get, map, Some, refl, sym, ap, ◌∙◌, subst, arith}
use Rattle.std.specs.List.{zip, filter}
use Rattle.std.specs.Str.{bytes_eq}
use Rattle.std.proofs.lemmas.Bool.Decides.{Decides-eqb}
use Rattle.std.proofs.lemmas.List.{get_or-map, length-map}
use Rattle.std.proofs.lemmas.Option.{slice_get_within, slice_get-get_or, get_or_from_slice_get}
use Rattle.std.proofs.lemmas.Slice.Eq.{bytes_eq-Decides}
use Rattle.std.proofs.lemmas.Bool.{and_parts}
use Rattle.ml_base.specs.declared.structure.Edge.{Edge}
use Rattle.ml_base.specs.Structure.{Structure, IsStructure}
use Rattle.ml_lists.specs.Member.{IsMember}
use Rattle.ml_lists.proofs.Member.{Image, member-map, member-map_from, member-filter, member-filter_from, member-place, member-All, Place}
use Rattle.ml_graph.specs.declared.node.Node.TheVariants as node
use Rattle.ml_graph.specs.Graph.{Graph, node_at, action_at}
use Rattle.ml_graph.specs.CheckingGame.{targets}
use Rattle.ml_parity.specs.Solution.{GameSolution}
use Rattle.ml_sequent.specs.Spread.{SpreadList, is_diamond}
use Rattle.ml_product.specs.DecisionGame.{diamonds_of}
use Rattle.ml_product.specs.Arena.{Arena}
use Rattle.ml_lists.proofs.Member.{member_of_get}
use Rattle.ml_extract.specs.Model.{SpreadAt, Chooses, ends, moves, State, nexts, next_positions, IsModelOf}
use Rattle.ml_extract.specs.Extraction.{IsReachedFrom, itself, along, HasDiamond}
use Rattle.ml_lists.proofs.BreadthFirst.{row_inside}
use Rattle.ml_extract.proofs.Setting.{Setting}
use Rattle.ml_sequent.proofs.Traces.{diamond_of}

-- the state that begins at position v
pub record StateAt (xs : List State) (v : ℕ) : Type 0 where
  pub number : ℕ
  pub state : State
  pub stands : slice_get xs number ≡ Some state
  pub first_is : state.first ≡ v

state_at : (xs : List State) (v : ℕ) → IsMember v (map (λ (x : State). x.first) xs) → StateAt xs v
state_at xs v m = of_image (member-map_from (λ (x : State). x.first) v xs m)
  where
    of_place : (x : State) → v ≡ x.first → Place x xs → StateAt xs v
    of_place x is p = record {
      number = p.place;
      state = x;
      stands = slice_get-get_or xs p.place x p.below ∙ ap Some (p.holds x);
      first_is = sym is;
    }

    of_image : Image (λ (x : State). x.first) v xs → StateAt xs v
    of_image i = of_place i.from i.holds (member-place i.from xs i.member)

-- the first state
pub record FirstState (xs : List State) : Type 0 where
  pub state : State
  pub stands : slice_get xs 0 ≡ Some state
  pub first_is : state.first ≡ 0

head_state : (xs : List State) (rest : List ℕ) → map (λ (x : State). x.first) xs ≡ 0 ∷ rest → FirstState xs
head_state [] rest e = cc
head_state (x ∷ xs) rest e = record { state = x; stands = refl; first_is = let same : x.first ≡ 0 = cc in same }

-- the first parts of pairs
pub zip_first : (ds vs : List ℕ) (d v : ℕ) → IsMember (d, v) (zip ds vs) → IsMember d ds
zip_first [] vs d v m = absurd m
zip_first (e ∷ ds) [] d v m = absurd m
zip_first (e ∷ ds) (w ∷ vs) d v (inl same) = inl (ap (λ (x : ℕ × ℕ). x.0) same)
zip_first (e ∷ ds) (w ∷ vs) d v (inr m) = inr (zip_first ds vs d v m)

-- a diamond that leads somewhere is one of the spread
pub record IsDiamondOf (g : Graph) (sp : SpreadList) (d : ℕ) : Type 0 where
  pub member : IsMember d sp.nodes
  pub action : ℕ
  pub child : ℕ
  pub is : node_at g d ≡ node.Diamond action child

pub leading_diamond : (g : Graph) (a : Arena) (x : State) (d v : ℕ)
    → IsMember (d, v) (nexts g a x)
    → IsDiamondOf g x.spread d
leading_diamond g a x d v m =
    let kept =
    member-filter_from (λ n. is_diamond (node_at g n)) d x.spread.nodes
    (zip_first (diamonds_of g x.spread) (get_or a.moves x.last []) d v m) in
    let is = diamond_of (node_at g d) kept.1 in
    record { member = kept.0; action = is.0; child = is.1.0; is = is.1.1 }

-- the spread of a state is that of its last position
pub last_spread : (g : Graph) (a : Arena) (s : GameSolution) (v w : ℕ) (sp : SpreadList)
    → Chooses g a s v w sp
    → SpreadAt g a w sp
last_spread g a s v w sp (ends _ _ h none) = h
last_spread g a s v w sp (moves _ _ n open_sp _ h is_open rest) = last_spread g a s _ w sp rest

-- the model is a structure
pub structure_of : (g : Graph) (a : Arena) (s : GameSolution) (m : Structure) (start : ℕ)
    → IsModelOf g a s m start
    → IsStructure m
structure_of g a s m start model = record {
  has_state = low 0 first.state first.stands;
  labels_states = model.labels_each ∙ sym model.a_state_each;
  joins_states = member-All (λ (e : Edge). (e.source < m.states) × (e.target < m.states)) m.edges
      (λ e i. let k = (model.edges e).0 i in (low e.source k.from k.from_is, low e.target k.to k.to_is));
}
  where
    first : FirstState model.states
    first = head_state model.states _ model.are_states.breadth_first.in_order

    low : (k : ℕ) (x : State) → slice_get model.states k ≡ Some x → k < m.states
    low k x is = omega (arith, slice_get_within model.states k x is, model.a_state_each)

module _ (S : Setting) where
  pub first_state : FirstState S.model.states
  first_state = head_state S.model.states _ S.model.are_states.breadth_first.in_order

  -- each next position is one where a state begins
  pub state_for : (x : State)
      → IsMember x S.model.states
      → (v : ℕ)
      → IsMember v (next_positions S.g S.a x)
      → StateAt S.model.states v
  state_for x inside v m =
      state_at S.model.states v
      (row_inside 0 (map (next_positions S.g S.a) S.model.states) (map (λ (y : State). y.first) S.model.states)
      S.model.are_states.breadth_first (next_positions S.g S.a x)
      (member-map (next_positions S.g S.a) x S.model.states inside) v m)

  pub state_low : (k : ℕ) (x : State) → slice_get S.model.states k ≡ Some x → k < S.m.states
  state_low k x is = omega (arith, slice_get_within S.model.states k x is, S.model.a_state_each)

  pub is_structure : IsStructure S.m
  is_structure = structure_of S.g S.a S.s S.m S.start S.model

  -- an edge for each diamond that leads to a state
  pub edge_for : (i j : ℕ) (x y : State) → slice_get S.model.states i ≡ Some x → slice_get S.model.states j ≡ Some y
      → (d a to : ℕ) → IsMember (d, y.first) (nexts S.g S.a x) → node_at S.g d ≡ node.Diamond a to
      → IsMember (record { source = i; action = action_at S.g a; target = j }) S.m.edges
  edge_for i j x y x_is y_is d a to leads is =
      (S.model.edges (record { source = i; action = action_at S.g a; target = j })).1 (record {
        from = x;
        to = y;
        from_is = x_is;
        to_is = y_is;
        diamond = d;
        leads = leads;
        action = a;
        child = to;
        is_diamond = is;
        action_is = refl;
      })

  -- each state is reached along edges
  -- each state but the first is the next one of an earlier state
  pub record Earlier (k : ℕ) (x : State) : Type 0 where
    pub place : ℕ
    pub state : State
    pub earlier : place < k
    pub stands : slice_get S.model.states place ≡ Some state
    pub leads : IsMember x.first (next_positions S.g S.a state)

  pub earlier_state : (k : ℕ) (x : State) → 0 < k → slice_get S.model.states k ≡ Some x → Earlier k x
  earlier_state k x behind is =
      from (S.model.are_states.breadth_first.from_earlier k behind
      (omega (arith, low, length-map S.model.states (λ (y : State). y.first))))
    where
      low : k < length S.model.states
      low = slice_get_within S.model.states k x is

      key_is : get_or (map (λ (y : State). y.first) S.model.states) k 0 ≡ x.first
      key_is =
          get_or-map (λ (y : State). y.first) S.model.states k x 0 low
          ∙ ap (λ (y : State). y.first) (get_or_from_slice_get S.model.states k x x is)

      from : ((j : ℕ) × (j < k) × IsMember (get_or (map (λ (y : State). y.first) S.model.states) k 0)
          (get_or (map (next_positions S.g S.a) S.model.states) j []))
          → Earlier k x
      from (j, less, m) =
          let j_low : j < length S.model.states = omega (arith, low) in
          let row_is = get_or-map (next_positions S.g S.a) S.model.states j x [] j_low in
          record {
            place = j;
            state = get_or S.model.states j x;
            earlier = less;
            stands = slice_get-get_or S.model.states j x j_low;
            leads = subst (λ v. IsMember v (next_positions S.g S.a (get_or S.model.states j x))) key_is
                (subst (IsMember (get_or (map (λ (y : State). y.first) S.model.states) k 0)) row_is m);
          }

  by_number : (fuel k : ℕ) → k ≤ fuel → (x : State) → slice_get S.model.states k ≡ Some x → IsReachedFrom S.m S.start k
  by_number fuel zero low x is = subst (IsReachedFrom S.m S.start) S.model.starts itself
  by_number zero (suc k) low x is = absurd (omega arith)
  by_number (suc fuel) (suc k) low x is =
      from (earlier_state (suc k) x (omega arith) is) (λ j j_low y y_is. by_number fuel j j_low y y_is)
    where
      from : Earlier (suc k) x
          → ((j : ℕ) → j ≤ fuel → (y : State) → slice_get S.model.states j ≡ Some y → IsReachedFrom S.m S.start j)
          → IsReachedFrom S.m S.start (suc k)
      from c again = of_image (member-map_from (λ (next : ℕ × ℕ). next.1) x.first (nexts S.g S.a c.state) c.leads)
        where
          of_image : Image (λ (next : ℕ × ℕ). next.1) x.first (nexts S.g S.a c.state)
              → IsReachedFrom S.m S.start (suc k)
          of_image i =
              let leads : IsMember (i.from.0, x.first) (nexts S.g S.a c.state) =
              subst (λ v. IsMember (i.from.0, v) (nexts S.g S.a c.state)) (sym i.holds) i.member in
              let d = leading_diamond S.g S.a c.state i.from.0 x.first leads in
              along (record { source = c.place; action = action_at S.g d.action; target = suc k })
              (again c.place (omega (arith, c.earlier)) c.state c.stands)
              (edge_for c.place (suc k) c.state x c.stands is i.from.0 d.action d.child leads d.is)

  pub reached_from_start : (k : ℕ) → k < S.m.states → IsReachedFrom S.m S.start k
  reached_from_start k low =
      by_number k k (omega arith) (get_or S.model.states k first_state.state)
      (slice_get-get_or S.model.states k first_state.state (omega (arith, S.model.a_state_each)))

  -- each edge has a diamond's action
  pub has_diamond : (e : Edge) → IsMember e S.m.edges → HasDiamond S.g e
  has_diamond e m =
      let k = (S.model.edges e).0 m in
      let d = leading_diamond S.g S.a k.from k.diamond k.to.first k.leads in
      let chosen = S.model.are_states.chosen k.from (member_of_get S.model.states e.source k.from k.from_is) in
      let h = last_spread S.g S.a S.s k.from.first k.from.last k.from.spread chosen in
      record {
        diamond = k.diamond;
        is_node = h.is_spread.low k.diamond d.member;
        action = k.action;
        child = k.child;
        is_diamond = k.is_diamond;
        action_is = k.action_is;
      }

-- ---- where the edges of an action lead

leaving : (i : ℕ) → List ℕ → Edge → Bool
leaving i name e = (e.source == i) && bytes_eq e.action name

pub target_in : (m : Structure) (i : ℕ) (name : List ℕ) (j : ℕ) → IsMember
    (record { source = i; action = name; target = j }) m.edges → IsMember j (targets m i name)
unfolding leaving
target_in m i name j inside =
    let e : Edge = record { source = i; action = name; target = j } in
    let source : (i == i) ≡ true = (Decides-eqb i i).1 refl in
    let action : bytes_eq name name ≡ true = (bytes_eq-Decides name name).1 refl in
    let passes : leaving i name e ≡ true = subst (λ b. (b && bytes_eq name name) ≡ true) (sym source) action in
    member-map (λ (x : Edge). x.target) e (filter (leaving i name) m.edges)
    (member-filter (leaving i name) e m.edges inside passes)

pub record EdgeTo (m : Structure) (i : ℕ) (name : List ℕ) (j : ℕ) : Type 0 where
  pub edge : Edge
  pub member : IsMember edge m.edges
  pub source_is : edge.source ≡ i
  pub action_is : edge.action ≡ name
  pub target_is : edge.target ≡ j

pub target_from : (m : Structure) (i : ℕ) (name : List ℕ) (j : ℕ) → IsMember j (targets m i name) → EdgeTo m i name j
unfolding leaving
target_from m i name j inside =
    of_image (member-map_from (λ (x : Edge). x.target) j (filter (leaving i name) m.edges) inside)
  where
    of_image : Image (λ (x : Edge). x.target) j (filter (leaving i name) m.edges) → EdgeTo m i name j
    of_image k =
        let kept = member-filter_from (leaving i name) k.from m.edges k.member in
        let both = and_parts (k.from.source == i) (bytes_eq k.from.action name) kept.1 in
        record {
          edge = k.from;
          member = kept.0;
          source_is = (Decides-eqb k.from.source i).0 both.0;
          action_is = (bytes_eq-Decides k.from.action name).0 both.1;
          target_is = sym k.holds;
        }
