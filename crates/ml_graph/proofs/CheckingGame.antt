-- The checking game, vertex by vertex.
--
--   IsVertex g m v       == the state and the node of a pair are those of m and g, and a sink is that of 0 or 1
--   vertices-length      == how many vertices there are
--   vertex_at            == the vertex with the number of a vertex is that vertex
--   same_vertex          == vertices with one number are one
--   owner_is, priority_is, moves_are == of the vertex with that number: the owner, the priority, the moves
--   is_vertex            == all vertices are vertices
--   leads_on             == each vertex leads somewhere
--   leads_to_vertices    == each vertex leads to vertices
--   number_low           == a vertex has a number below the size of the game
--   is_game              == the checking game is a game
use Rattle.std.proofs.Common.{ℕ, zero, suc, ◌≡◌, ◌+◌, ◌*◌, ◌<◌, ◌≤◌, ◌==◌, ◌⊎◌, inl, inr, ⊎_elim, Bool, true, false, ◌&&◌, cond, List, []}
use Rattle.std.proofs.Common.{◌∷◌, length, get_or, map, filter, Contains, refl, sym, ap, ◌∙◌, subst, arith, length-append}
use Rattle.std.specs.List.{flat_map, range_with_len}
use Rattle.std.specs.Bool.{beq}
use Rattle.std.specs.Str.{bytes_eq}
use Rattle.std.proofs.lemmas.Bool.{cases_lt}
use Rattle.std.proofs.lemmas.List.{length-map, get_or-map, get_or_append_left, get_or-append-add, get_or_past}
use Rattle.std.proofs.lemmas.List.FromFn.{length-range_with_len, get_or-range_with_len, length-map-range_with_len, get_or-map-range_with_len}
use Rattle.std.proofs.Math.Nat.{mul-le-mul_right}
use Rattle.ml_base.specs.declared.structure.Edge.{Edge}
use Rattle.ml_base.specs.Structure.{Structure, IsStructure, lists}
use Rattle.ml_lists.specs.Member.{IsMember}
use Rattle.ml_lists.proofs.Grids.{length-even_rows, get_or-even_row}
use Rattle.ml_lists.proofs.Member.{member-append, Image, member-map_from, InList, member-flat_map_from, member-filter_from, All-member, place-member}
use Rattle.ml_lists.proofs.Members.{member_of_contains, contains_none}
use Rattle.ml_lists.proofs.Ranges.{range-member}
use Rattle.ml_parity.specs.declared.players.Player.TheVariants.{Even}
use Rattle.ml_parity.specs.Game.{IsGame, HasMove, owner_of, priority_of, moves_of}
use Rattle.ml_graph.specs.declared.node.Node.{Node}
use Rattle.ml_graph.specs.declared.node.Node.TheVariants as node
use Rattle.ml_graph.specs.Graph.{Graph, IsGraph, size, node_at, prop_at, action_at}
use Rattle.ml_graph.specs.CheckingGame.{Vertex, Pair, Sink, owner_at, priority_at_vertex, vertex_number, successors, successors_of, pairs_or_sink, targets, pairs_at, vertices, checking_game}
use Rattle.ml_graph.proofs.References.{and_left, and_right, or_left, or_right, diamond_target, square_target}

-- the state and the node of a pair are those of the structure and the graph; a sink is that of 0 or of 1
abbrev pub IsVertex : Graph → Structure → Vertex → Type 0
IsVertex g m (Pair s n) = (s < m.states) × (n < size g)
IsVertex g m (Sink p) = p < 2

module _ (g : Graph) (m : Structure) where
  even : (s : ℕ) → length (pairs_at g s) ≡ size g
  even s = length-map-range_with_len (Pair s) 0 (size g)

  pairs-length : length (flat_map (pairs_at g) (range_with_len 0 m.states)) ≡ m.states * size g
  pairs-length =
      length-even_rows (pairs_at g) (size g) even (range_with_len 0 m.states)
      ∙ ap (λ n. n * size g) (length-range_with_len 0 m.states)

  -- how many vertices there are
  pub vertices-length : length (vertices g m) ≡ m.states * size g + 2
  vertices-length = omega (
    arith,
    length-append (flat_map (pairs_at g) (range_with_len 0 m.states)) (Sink 0 ∷ Sink 1 ∷ []),
    pairs-length,
  )

  pair_low : (s n : ℕ) → s < m.states → n < size g → s * size g + n < m.states * size g
  pair_low s n s_low n_low = let whole : (s + 1) * size g ≤ m.states * size g =
      mul-le-mul_right (size g) (omega arith) in omega arith

  -- a vertex has a number below the size of the game
  pub number_low : (v : Vertex) → IsVertex g m v → vertex_number g m v < m.states * size g + 2
  number_low (Pair s n) is = omega (arith, pair_low s n is.0 is.1)
  number_low (Sink p) is = omega arith

  -- the vertex with the number of a vertex is that vertex
  pub vertex_at : (v : Vertex) → IsVertex g m v → get_or (vertices g m) (vertex_number g m v) (Sink 0) ≡ v
  vertex_at (Pair s n) is =
      let state : 0 + s ≡ s = omega arith in
      get_or_append_left (flat_map (pairs_at g) (range_with_len 0 m.states)) (Sink 0 ∷ Sink 1 ∷ []) (Sink 0)
      (s * size g + n) (omega (arith, pairs-length, pair_low s n is.0 is.1))
      ∙ get_or-even_row (pairs_at g) (size g) even (range_with_len 0 m.states) s n 0 (Sink 0)
      (omega (arith, length-range_with_len 0 m.states)) is.1
      ∙ ap (λ k. get_or (pairs_at g k) n (Sink 0)) (get_or-range_with_len 0 m.states s 0 is.0 ∙ state)
      ∙ get_or-map-range_with_len (Pair s) 0 (size g) n n (Sink 0) is.1 (omega arith)
  vertex_at (Sink p) is =
      let at : m.states * size g + p ≡ length (flat_map (pairs_at g) (range_with_len 0 m.states)) + p =
      omega (arith, pairs-length) in
      ap (λ k. get_or (vertices g m) k (Sink 0)) at
      ∙ get_or-append-add (flat_map (pairs_at g) (range_with_len 0 m.states)) (Sink 0 ∷ Sink 1 ∷ []) p (Sink 0)
      ∙ sink_at p is
    where
      sink_at : (p : ℕ) → p < 2 → get_or (Sink 0 ∷ Sink 1 ∷ []) p (Sink 0) ≡ Sink p
      sink_at zero low = refl
      sink_at (suc zero) low = refl
      sink_at (suc (suc p)) low = absurd (omega arith)

  -- vertices with one number are one
  pub same_vertex : (v w : Vertex)
      → IsVertex g m v
      → IsVertex g m w
      → vertex_number g m v ≡ vertex_number g m w
      → v ≡ w
  same_vertex v w v_is w_is same =
      sym (vertex_at v v_is) ∙ ap (λ n. get_or (vertices g m) n (Sink 0)) same ∙ vertex_at w w_is

  -- what the game has at the number of a vertex
  pub owner_is : (v : Vertex) → IsVertex g m v → owner_of (checking_game g m) (vertex_number g m v) ≡ owner_at g v
  owner_is v is =
      get_or-map (owner_at g) (vertices g m) (vertex_number g m v) (Sink 0) Even
      (omega (arith, vertices-length, number_low v is))
      ∙ ap (owner_at g) (vertex_at v is)

  pub priority_is : (v : Vertex)
      → IsVertex g m v
      → priority_of (checking_game g m) (vertex_number g m v) ≡ priority_at_vertex g v
  priority_is v is =
      get_or-map (priority_at_vertex g) (vertices g m) (vertex_number g m v) (Sink 0) 0
      (omega (arith, vertices-length, number_low v is))
      ∙ ap (priority_at_vertex g) (vertex_at v is)

  pub moves_are : (v : Vertex) → IsVertex g m v
      → moves_of (checking_game g m) (vertex_number g m v) ≡ map (vertex_number g m) (successors g m v)
  moves_are v is =
      get_or-map (λ x. map (vertex_number g m) (successors g m x)) (vertices g m) (vertex_number g m v) (Sink 0) []
      (omega (arith, vertices-length, number_low v is))
      ∙ ap (λ x. map (vertex_number g m) (successors g m x)) (vertex_at v is)

module _ (g : Graph) (m : Structure) where
  -- all vertices are vertices
  pub is_vertex : (v : Vertex) → IsMember v (vertices g m) → IsVertex g m v
  is_vertex v h =
      ⊎_elim (λ (pair : IsMember v (flat_map (pairs_at g) (range_with_len 0 m.states))). of_state
      (member-flat_map_from (pairs_at g) v (range_with_len 0 m.states) pair))
      (λ (sink : IsMember v (Sink 0 ∷ Sink 1 ∷ [])). of_sink sink)
      (member-append v (flat_map (pairs_at g) (range_with_len 0 m.states)) (Sink 0 ∷ Sink 1 ∷ []) h)
    where
      of_sink : IsMember v (Sink 0 ∷ Sink 1 ∷ []) → IsVertex g m v
      of_sink (inl e) = subst (IsVertex g m) (sym e) (let low : 0 < 2 = omega arith in low)
      of_sink (inr (inl e)) = subst (IsVertex g m) (sym e) (let low : 1 < 2 = omega arith in low)
      of_sink (inr (inr e)) = absurd e

      of_node : (s : ℕ) → s < m.states → Image (Pair s) v (range_with_len 0 (size g)) → IsVertex g m v
      of_node s low image = subst (IsVertex g m) (sym image.holds) (low, range-member (size g) image.from image.member)

      of_state : InList (pairs_at g) v (range_with_len 0 m.states) → IsVertex g m v
      of_state found = of_node found.from (range-member m.states found.from found.member)
          (member-map_from (Pair found.from) v (range_with_len 0 (size g)) found.inside)

  -- each vertex leads somewhere
  pub leads_on : (v : Vertex) → 0 < length (successors g m v)
  leads_on (Pair s n) = of_node (node_at g n)
    where
      some : (n p : ℕ) (ts : List ℕ) → 0 < length (pairs_or_sink n p ts)
      some n p [] = omega arith
      some n p (t ∷ ts) = omega arith

      of_node : (x : Node) → 0 < length (successors_of g m s x)
      of_node node.True = omega arith
      of_node node.False = omega arith
      of_node (node.Lit p positive) = omega arith
      of_node (node.And l r) = omega arith
      of_node (node.Or l r) = omega arith
      of_node (node.Diamond a to) = some to 1 (targets m s (action_at g a))
      of_node (node.Square a to) = some to 0 (targets m s (action_at g a))
  leads_on (Sink p) = omega arith

-- edges lead to states
pub target_is_state : (m : Structure) → IsStructure m → (s : ℕ) (a : List ℕ) (t : ℕ) → IsMember t (targets m s a)
    → t < m.states
target_is_state m ok s a t h =
    let test : Edge → Bool = λ e. (e.source == s) && bytes_eq e.action a in
    of_edge (member-map_from (λ (e : Edge). e.target) t (filter test m.edges) h)
  where
    of_edge : Image (λ (e : Edge). e.target) t (filter (λ e. (e.source == s) && bytes_eq e.action a) m.edges)
        → t < m.states
    of_edge image =
        let test : Edge → Bool = λ e. (e.source == s) && bytes_eq e.action a in
        let joins = All-member (λ (e : Edge). (e.source < m.states) × (e.target < m.states)) m.edges ok.joins_states
        image.from (member-filter_from test image.from m.edges image.member).0 in
        subst (λ k. k < m.states) (sym image.holds) joins.1

module _ (g : Graph) (m : Structure) (g_ok : IsGraph g) (m_ok : IsStructure m) where
  pairs_lead : (to p : ℕ) (ts : List ℕ) → to < size g → p < 2 → ((t : ℕ) → IsMember t ts → t < m.states) → (w : Vertex)
      → IsMember w (pairs_or_sink to p ts) → IsVertex g m w
  pairs_lead to p [] to_low p_low low w (inl e) = subst (IsVertex g m) (sym e) p_low
  pairs_lead to p [] to_low p_low low w (inr e) = absurd e
  pairs_lead to p (t ∷ ts) to_low p_low low w h = of_image (member-map_from (λ s. Pair s to) w (t ∷ ts) h)
    where
      of_image : Image (λ s. Pair s to) w (t ∷ ts) → IsVertex g m w
      of_image image = subst (IsVertex g m) (sym image.holds) (low image.from image.member, to_low)

  one_sink : (w : Vertex) (p : ℕ) → p < 2 → IsMember w (Sink p ∷ []) → IsVertex g m w
  one_sink w p low (inl e) = subst (IsVertex g m) (sym e) low
  one_sink w p low (inr e) = absurd e

  two_pairs : (w : Vertex) (s l r : ℕ)
      → s < m.states
      → l < size g
      → r < size g
      → IsMember w (Pair s l ∷ Pair s r ∷ [])
      → IsVertex g m w
  two_pairs w s l r s_low l_low r_low (inl e) = subst (IsVertex g m) (sym e) (s_low, l_low)
  two_pairs w s l r s_low l_low r_low (inr (inl e)) = subst (IsVertex g m) (sym e) (s_low, r_low)
  two_pairs w s l r s_low l_low r_low (inr (inr e)) = absurd e

  literal_sink : (b : Bool) → cond b 0 1 < 2
  literal_sink true = omega arith
  literal_sink false = omega arith

  -- each vertex leads to vertices
  pub leads_to_vertices : (v : Vertex) → IsVertex g m v → (w : Vertex) → IsMember w (successors g m v) → IsVertex g m w
  leads_to_vertices (Pair s n) is w h = of_node (node_at g n) refl h
    where
      of_node : (x : Node) → node_at g n ≡ x → IsMember w (successors_of g m s x) → IsVertex g m w
      of_node node.True e h = one_sink w 0 (omega arith) h
      of_node node.False e h = one_sink w 1 (omega arith) h
      of_node (node.Lit p positive) e h =
          one_sink w (cond (beq (lists m s (prop_at g p)) positive) 0 1)
          (literal_sink (beq (lists m s (prop_at g p)) positive)) h
      of_node (node.And l r) e h = two_pairs w s l r is.0 (and_left g g_ok n is.1 l r e) (and_right g g_ok n is.1 l r e)
          h
      of_node (node.Or l r) e h = two_pairs w s l r is.0 (or_left g g_ok n is.1 l r e) (or_right g g_ok n is.1 l r e) h
      of_node (node.Diamond a to) e h =
          pairs_lead to 1 (targets m s (action_at g a)) (diamond_target g g_ok n is.1 a to e) (omega arith)
          (target_is_state m m_ok s (action_at g a)) w h
      of_node (node.Square a to) e h =
          pairs_lead to 0 (targets m s (action_at g a)) (square_target g g_ok n is.1 a to e) (omega arith)
          (target_is_state m m_ok s (action_at g a)) w h
  leads_to_vertices (Sink p) is w h = one_sink w p is h

  size_is : length (checking_game g m).owner ≡ m.states * size g + 2
  size_is = length-map (vertices g m) (owner_at g) ∙ vertices-length g m

  moves_from : Vertex → List ℕ
  moves_from v = map (vertex_number g m) (successors g m v)

  -- the moves at a place of the list of vertices are those of the vertex that stands there
  moves_at_place : (k : ℕ) → k < m.states * size g + 2
      → moves_of (checking_game g m) k ≡ map (vertex_number g m) (successors g m (get_or (vertices g m) k (Sink 0)))
  moves_at_place k low =
      get_or-map (λ x. map (vertex_number g m) (successors g m x)) (vertices g m) k (Sink 0) []
      (omega (arith, vertices-length g m))

  -- the checking game is a game
  pub is_game : IsGame (checking_game g m)
  is_game = record {
    priorities = length-map (vertices g m) (priority_at_vertex g) ∙ sym (length-map (vertices g m) (owner_at g));
    lists = length-map (vertices g m) (λ v. map (vertex_number g m) (successors g m v))
        ∙ sym (length-map (vertices g m) (owner_at g));
    goes_on = λ v low.
        let v_low : v < m.states * size g + 2 = omega (arith, size_is) in
        let some = leads_on g m (get_or (vertices g m) v (Sink 0)) in
        subst (λ ws. 0 < length ws) (sym (moves_at_place v v_low))
        (omega (arith, length-map (successors g m (get_or (vertices g m) v (Sink 0))) (vertex_number g m)));
    in_range = λ v w move. at_place v w move (cases_lt v (m.states * size g + 2));
  }
    where
      at_place : (v w : ℕ)
          → HasMove (checking_game g m) v w
          → (v < m.states * size g + 2) ⊎ (m.states * size g + 2 ≤ v)
          → w < length (checking_game g m).owner
      at_place v w move (inl low) =
          let x : Vertex = get_or (vertices g m) v (Sink 0) in
          let vertex = is_vertex g m x (place-member (vertices g m) v (Sink 0) (omega (arith, vertices-length g m))) in
          let member = member_of_contains w (map (vertex_number g m) (successors g m x))
          (subst (λ ws. Contains ws w) (moves_at_place v low) move) in
          of_image x vertex (member-map_from (vertex_number g m) w (successors g m x) member)
        where
          of_image : (x : Vertex)
              → IsVertex g m x
              → Image (vertex_number g m) w (successors g m x)
              → w < length (checking_game g m).owner
          of_image x vertex image =
              let low = number_low g m image.from (leads_to_vertices x vertex image.from image.member) in
              omega (arith, size_is, image.holds)
      at_place v w move (inr high) =
          let none = get_or_past (checking_game g m).successors v []
          (omega (
            arith,
            length-map (vertices g m) (λ x. map (vertex_number g m) (successors g m x)),
            vertices-length g m,
          )) in
          absurd (contains_none w (subst (λ ws. Contains ws w) none move))
