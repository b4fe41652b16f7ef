-- The parity game of an arena, vertex by vertex.
--
--   same_entry          == a place has one element
--   here                == a position with a number is one that is reached
--   owner_at, moves_at, priority_at == of a position's vertex: those of the position
--   lost_moves, lost_priority       == the vertex behind the positions leads to itself, with the priority 1
--   target_of           == a vertex of a list stands for a target
--   is_game             == the game of an arena is one
use Rattle.std.proofs.Common.{ℕ, ◌≡◌, ◌+◌, ◌<◌, ◌≤◌, ◌⊎◌, inl, inr, List, [], ◌∷◌, length, length-append, get_or, slice_get, map, Some, Contains, refl, sym, ap, ◌∙◌, subst, arith}
use Rattle.std.proofs.lemmas.Bool.{cases_lt, cases_eq}
use Rattle.std.proofs.lemmas.List.{get_or_append_left, get_or-append-add, get_or-map, get_or_past, length-map}
use Rattle.std.proofs.lemmas.Option.{slice_get_within, get_or_from_slice_get, slice_get-get_or}
use Rattle.ml_lists.specs.Member.{IsMember}
use Rattle.ml_lists.proofs.Member.{member_of_get}
use Rattle.ml_lists.proofs.Members.{member_of_contains, contains_none}
use Rattle.ml_graph.specs.Graph.{Graph}
use Rattle.ml_parity.specs.declared.players.Player.TheVariants.{Even}
use Rattle.ml_parity.specs.Game.{IsGame, HasMove, size, owner_of, priority_of, moves_of}
use Rattle.ml_product.specs.Position.{Position, start_of}
use Rattle.ml_product.specs.DecisionGame.{Verdict, Clashing, Open, Leading, Settled, Target, To, Lost, Won, AreMoves, IsVerdictOf, IsReached}
use Rattle.ml_sequent.specs.Spread.{SpreadList}
use Rattle.ml_product.specs.Arena.{Arena, IsVertexOf, AreVertices, IsPlayed, IsArenaOf, game_of}

-- a place has one element
pub same_entry : {X : Type 0} (xs : List X) (k : ℕ) (x y : X) → slice_get xs k ≡ Some x → slice_get xs k ≡ Some y → x
    ≡ y
same_entry xs k x y a b = let e : Some x ≡ Some y = sym a ∙ b in cc

-- ---- targets and their vertices

-- a target of the list that has this vertex
pub record TargetOf (positions : List Position) (targets : List Target) (v : ℕ) : Type 0 where
  pub target : Target
  pub member : IsMember target targets
  pub is_vertex : IsVertexOf positions target v

-- a vertex of a list stands for a target
pub target_of : (positions : List Position) (targets : List Target) (vertices : List ℕ)
    → AreVertices positions targets vertices
    → (v : ℕ) → IsMember v vertices → TargetOf positions targets v
target_of positions [] vertices are v m = absurd (subst (IsMember v) are m)
target_of positions (t ∷ targets) vertices (w, others, is_vertex, rest, is) v m =
    by_place (subst (IsMember v) is m) (target_of positions targets others rest v)
  where
    by_place : (v ≡ w) ⊎ IsMember v others
        → (IsMember v others → TargetOf positions targets v)
        → TargetOf positions (t ∷ targets) v
    by_place (inl same) later =
        record { target = t; member = inl refl; is_vertex = subst (IsVertexOf positions t) (sym same) is_vertex }
    by_place (inr i) later =
        let o = later i in record { target = o.target; member = inr o.member; is_vertex = o.is_vertex }

-- a vertex of a target is one of the game
vertex_low : (positions : List Position) (t : Target) (v : ℕ) → IsVertexOf positions t v → v < length positions + 2
vertex_low positions (To p) v is = omega (arith, slice_get_within positions v p is)
vertex_low positions Lost v is = omega arith
vertex_low positions Won v is = omega arith

-- where there is a target, there is a vertex
some_vertex : (positions : List Position) (targets : List Target) (vertices : List ℕ)
    → AreVertices positions targets vertices
    → 0 < length targets → 0 < length vertices
some_vertex positions [] vertices are some = absurd (omega arith)
some_vertex positions (t ∷ targets) vertices (w, others, is_vertex, rest, is) some = let e = ap length is in omega arith

-- each position has a move
some_target : (g : Graph) (p : Position) (sp : SpreadList) (v : Verdict) (ts : List Target)
    → IsVerdictOf g sp v
    → AreMoves g p sp v ts
    → 0 < length ts
some_target g p sp Clashing ts is moves = let e = ap length moves in omega arith
some_target g p sp (Open o) ts is moves = let e = ap length moves in omega arith
some_target g p sp (Leading []) ts is moves = absurd (omega (arith, is.2))
some_target g p sp (Leading (d ∷ ds)) ts is (q, others, follows, rest, are) = let e = ap length are in omega arith
some_target g p sp Settled ts is moves = let e = ap length moves in omega arith

pub single_low : (w x n : ℕ) → x < n → IsMember w (x ∷ []) → w < n
single_low w x n low (inl same) = omega arith
single_low w x n low (inr none) = absurd none

module _ (g : Graph) (a : Arena) (is : IsArenaOf g a) where
  -- a position with a number is reached
  pub here : (v : ℕ) (p : Position) → slice_get a.positions v ≡ Some p → IsReached g p
  here v p stands = (is.are_reached p).0 (member_of_get a.positions v p stands)

  pub size_is : size (game_of a) ≡ length a.positions + 2
  size_is = omega (arith, length-append a.owners (Even ∷ Even ∷ []), is.an_owner_each)

  pub owner_at : (v : ℕ) → v < length a.positions → owner_of (game_of a) v ≡ get_or a.owners v Even
  owner_at v low = get_or_append_left a.owners (Even ∷ Even ∷ []) Even v (omega (arith, is.an_owner_each))

  abbrev ends : List (List ℕ)
  ends = (length a.positions ∷ []) ∷ ((length a.positions + 1) ∷ []) ∷ []

  pub moves_at : (v : ℕ) → v < length a.positions → moves_of (game_of a) v ≡ get_or a.moves v []
  moves_at v low = get_or_append_left a.moves ends [] v (omega (arith, is.moves_each))

  pub priority_at : (v : ℕ) (p : Position) → slice_get a.positions v ≡ Some p → priority_of (game_of a) v ≡ p.priority
  priority_at v p stands =
      let low = slice_get_within a.positions v p stands in
      get_or_append_left (map (λ (q : Position). q.priority) a.positions) (1 ∷ 0 ∷ []) 0 v
      (omega (arith, length-map a.positions (λ (q : Position). q.priority)))
      ∙ get_or-map (λ (q : Position). q.priority) a.positions v p 0 low
      ∙ ap (λ (q : Position). q.priority) (get_or_from_slice_get a.positions v p p stands)

  -- Lost leads to itself, and Won to itself
  pub lost_moves : moves_of (game_of a) (length a.positions) ≡ length a.positions ∷ []
  lost_moves =
      let e : length a.positions ≡ length a.moves + 0 = omega (arith, is.moves_each) in
      ap (λ k. get_or (game_of a).successors k []) e ∙ get_or-append-add a.moves ends 0 []

  pub won_moves : moves_of (game_of a) (length a.positions + 1) ≡ (length a.positions + 1) ∷ []
  won_moves =
      let e : length a.positions + 1 ≡ length a.moves + 1 = omega (arith, is.moves_each) in
      ap (λ k. get_or (game_of a).successors k []) e ∙ get_or-append-add a.moves ends 1 []

  pub lost_priority : priority_of (game_of a) (length a.positions) ≡ 1
  lost_priority =
      let e : length a.positions ≡ length (map (λ (q : Position). q.priority) a.positions) + 0 =
      omega (arith, length-map a.positions (λ (q : Position). q.priority)) in
      ap (λ k. get_or (game_of a).priority k 0) e ∙ get_or-append-add (map (λ (q : Position). q.priority) a.positions)
      (1 ∷ 0 ∷ []) 0 0

  -- the turn of a vertex below the number of positions
  played_at : (v : ℕ)
      → v < length a.positions
      → IsPlayed g a.positions (get_or a.positions v (start_of g)) (get_or a.owners v Even) (get_or a.moves v [])
  played_at v low = is.played v (get_or a.positions v (start_of g)) (slice_get-get_or a.positions v (start_of g) low)

  moves_low : (v w : ℕ) → v < length a.positions → IsMember w (get_or a.moves v []) → w < length a.positions + 2
  moves_low v w low m =
      let played = played_at v low in
      let t = target_of a.positions played.turn.targets (get_or a.moves v []) played.moves_are w m in
      vertex_low a.positions t.target w t.is_vertex

  -- the game of an arena is one
  pub is_game : IsGame (game_of a)
  is_game = record {
    priorities = sizes;
    lists = lists;
    goes_on =
        λ v low. goes_on v (omega (arith, size_is)) (cases_lt v (length a.positions)) (cases_eq v (length a.positions));
    in_range =
        λ v w move. in_range v w move (cases_lt v (length a.positions)) (cases_eq v (length a.positions))
        (cases_eq v (length a.positions + 1));
  }
    where
      sizes : length (game_of a).priority ≡ size (game_of a)
      sizes =
          omega (
            arith,
            size_is,
            length-append (map (λ (q : Position). q.priority) a.positions) (1 ∷ 0 ∷ []),
            length-map a.positions (λ (q : Position). q.priority),
          )

      lists : length (game_of a).successors ≡ size (game_of a)
      lists = omega (arith, size_is, length-append a.moves ends, is.moves_each)

      goes_on : (v : ℕ)
          → v < length a.positions + 2
          → (v < length a.positions) ⊎ (length a.positions ≤ v)
          → (v ≡ length a.positions) ⊎ (v ≡ length a.positions → ⊥)
          → 0 < length (moves_of (game_of a) v)
      goes_on v low (inl inside) at_lost =
          let played = played_at v inside in
          let some =
          some_target g (get_or a.positions v (start_of g)) played.turn.spread played.turn.verdict
          played.turn.targets played.turn.is_verdict played.turn.are_moves in
          subst (λ ms. 0 < length ms) (sym (moves_at v inside)) (some_vertex a.positions played.turn.targets
          (get_or a.moves v []) played.moves_are some)
      goes_on v low (inr past) (inl same) =
          let e : length (moves_of (game_of a) v) ≡ 1 =
          ap (λ k. length (moves_of (game_of a) k)) same ∙ ap length lost_moves in omega arith
      goes_on v low (inr past) (inr other) =
          let same : v ≡ length a.positions + 1 = omega (arith, other) in
          let e : length (moves_of (game_of a) v) ≡ 1 =
          ap (λ k. length (moves_of (game_of a) k)) same ∙ ap length won_moves in omega arith

      in_range : (v w : ℕ)
          → HasMove (game_of a) v w
          → (v < length a.positions) ⊎ (length a.positions ≤ v)
          → (v ≡ length a.positions) ⊎ (v ≡ length a.positions → ⊥)
          → (v ≡ length a.positions + 1) ⊎ (v ≡ length a.positions + 1 → ⊥) → w < size (game_of a)
      in_range v w move (inl inside) at_lost at_won =
          let low =
          moves_low v w inside (subst (λ ms. IsMember w ms) (moves_at v inside)
          (member_of_contains w (moves_of (game_of a) v) move)) in
          omega (arith, size_is)
      in_range v w move (inr past) (inl same) at_won =
          let m =
          subst (λ ms. IsMember w ms) (ap (moves_of (game_of a)) same ∙ lost_moves)
          (member_of_contains w (moves_of (game_of a) v) move) in
          let low = single_low w (length a.positions) (length a.positions + 2) (omega arith) m in
          omega (arith, size_is)
      in_range v w move (inr past) (inr other) (inl same) =
          let m =
          subst (λ ms. IsMember w ms) (ap (moves_of (game_of a)) same ∙ won_moves)
          (member_of_contains w (moves_of (game_of a) v) move) in
          let low = single_low w (length a.positions + 1) (length a.positions + 2) (omega arith) m in
          omega (arith, size_is)
      in_range v w move (inr past) (inr other) (inr another) =
          let none = get_or_past (game_of a).successors v [] (omega (arith, lists, size_is, other, another)) in
          absurd (contains_none w (subst (λ ms. Contains ms w) none move))
