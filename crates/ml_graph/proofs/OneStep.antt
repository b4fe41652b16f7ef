-- One step of the checking game: where a graph holds at a node of each kind.
--
--   vertex_low      == a vertex is one of the game
--   sink_holds      == Even wins the sink of 0, and not that of 1
--   move_to, move_from == a move leads to a vertex to which v leads, and the other way round
--   pair_member        == to each target, at the node behind it
--   even_step, odd_step == who wins a vertex is told by the vertices to which it leads
--   one_step        == where a node holds is told by the nodes to which it refers
--   one_step_at     == and so it is of a node that is known
use Rattle.std.proofs.Common.{ℕ, ◌≡◌, ◌<◌, ◌⊎◌, inl, inr, ◌↔◌, Bool, true, false, cond, List, [], ◌∷◌, length, map, Contains, refl, sym, ap, ◌∙◌, subst, arith}
use Rattle.std.specs.Bool.{beq}
use Rattle.std.proofs.lemmas.List.{length-map}
use Rattle.ml_base.specs.Structure.{Structure, IsStructure, lists}
use Rattle.ml_lists.specs.Member.{IsMember}
use Rattle.ml_lists.proofs.Member.{member-map, Image, member-map_from}
use Rattle.ml_lists.proofs.Members.{member_of_contains, contains_of_member, contains_none}
use Rattle.ml_parity.specs.declared.players.Player.TheVariants.{Even, Odd}
use Rattle.ml_parity.specs.Player.{side}
use Rattle.ml_parity.specs.Game.{HasMove}
use Rattle.ml_parity.specs.Winner.{Wins}
use Rattle.ml_parity.proofs.OneStep.{WinningMove, own_vertex_won, other_vertex_won}
use Rattle.ml_parity.proofs.SingleMoves.{single_move, sink_won}
use Rattle.ml_graph.specs.declared.node.Node.{Node}
use Rattle.ml_graph.specs.declared.node.Node.TheVariants as node
use Rattle.ml_graph.specs.Graph.{Graph, IsGraph, node_at, prop_at, action_at, size}
use Rattle.ml_graph.specs.CheckingGame.{Vertex, Pair, Sink, owner_at, mover, vertex_number, successors, successors_of, pairs_or_sink, targets, vertices, checking_game, HoldsAt}
use Rattle.ml_graph.specs.Laws.{NodeHolds, OneStepLaw}
use Rattle.ml_graph.proofs.CheckingGame.{IsVertex, number_low, vertices-length, owner_is, priority_is, moves_are, is_game}

pub pair_member : (n p t : ℕ) (ts : List ℕ) → IsMember t ts → IsMember (Pair t n) (pairs_or_sink n p ts)
pair_member n p t [] h = absurd h
pair_member n p t (x ∷ xs) h = member-map (λ s. Pair s n) t (x ∷ xs) h

module _ (g : Graph) (m : Structure) (g_ok : IsGraph g) (m_ok : IsStructure m) where
  -- a vertex is one of the game
  pub vertex_low : (v : Vertex) → IsVertex g m v → vertex_number g m v < length (checking_game g m).owner
  vertex_low v is = omega (arith, length-map (vertices g m) (owner_at g), vertices-length g m, number_low g m v is)

  -- Even wins it
  abbrev pub EvenWins : Vertex → Type 0
  EvenWins v = Wins (checking_game g m) Even (vertex_number g m v)

  -- a sink is won by the player of its priority
  pub sink_holds : (p : ℕ) → p < 2 → EvenWins (Sink p) ↔ (Even ≡ side p)
  sink_holds p low =
      let won = sink_won (checking_game g m) (is_game g m g_ok m_ok) Even (vertex_number g m (Sink p))
      (vertex_low (Sink p) low) (moves_are g m (Sink p) low) in
      let same = priority_is g m (Sink p) low in
      ((λ a. won.0 a ∙ ap side same), (λ e. won.1 (e ∙ ap side (sym same))))

  -- some vertex to which v leads is won by Even
  pub record SomeWon (ws : List Vertex) : Type 0 where
    pub to : Vertex
    pub member : IsMember to ws
    pub wins : EvenWins to

  -- a move leads to a vertex to which v leads, and the other way round
  pub move_to : (v : Vertex) → IsVertex g m v → (w : Vertex) → IsMember w (successors g m v)
      → HasMove (checking_game g m) (vertex_number g m v) (vertex_number g m w)
  move_to v is w h =
      subst (λ ws. Contains ws (vertex_number g m w)) (sym (moves_are g m v is))
      (contains_of_member (vertex_number g m w) (map (vertex_number g m) (successors g m v))
      (member-map (vertex_number g m) w (successors g m v) h))

  pub move_from : (v : Vertex) → IsVertex g m v → (x : ℕ) → HasMove (checking_game g m) (vertex_number g m v) x
      → Image (vertex_number g m) x (successors g m v)
  move_from v is x move =
      member-map_from (vertex_number g m) x (successors g m v)
      (member_of_contains x (map (vertex_number g m) (successors g m v))
      (subst (λ ws. Contains ws x) (moves_are g m v is) move))

  -- Even's vertex is won if some vertex is to which it leads
  pub even_step : (v : Vertex) → IsVertex g m v → owner_at g v ≡ Even → EvenWins v ↔ SomeWon (successors g m v)
  even_step v is own =
      (there, λ w. step.1 (record { to = vertex_number g m w.to; move = move_to v is w.to w.member; wins = w.wins }))
    where
      step : Wins (checking_game g m) Even (vertex_number g m v) ↔ WinningMove (checking_game g m) Even
          (vertex_number g m v)
      step = own_vertex_won (checking_game g m) (is_game g m g_ok m_ok) Even (vertex_number g m v) (vertex_low v is)
          (owner_is g m v is ∙ own)

      there : EvenWins v → SomeWon (successors g m v)
      there a =
          let good = step.0 a in
          let image = move_from v is good.to good.move in
          record {
            to = image.from;
            member = image.member;
            wins = subst (Wins (checking_game g m) Even) image.holds good.wins;
          }

  -- Odd's vertex is won if every vertex is to which it leads
  pub odd_step : (v : Vertex) → IsVertex g m v → owner_at g v ≡ Odd
      → EvenWins v ↔ ((w : Vertex) → IsMember w (successors g m v) → EvenWins w)
  odd_step v is own = (
    (λ a w h. step.0 a (vertex_number g m w) (move_to v is w h)),
    (λ every. step.1 (λ x move. let image = move_from v is x move in
        subst (Wins (checking_game g m) Even) (sym image.holds) (every image.from image.member))),
  )
    where
      step : Wins (checking_game g m) Even (vertex_number g m v) ↔
          ((x : ℕ) → HasMove (checking_game g m) (vertex_number g m v) x → Wins (checking_game g m) Even x)
      step = other_vertex_won (checking_game g m) (is_game g m g_ok m_ok) Even (vertex_number g m v) (vertex_low v is)
          (owner_is g m v is ∙ own)

  -- ---- the kinds of nodes

  -- a vertex that leads to a sink alone
  to_sink : (v : Vertex)
      → IsVertex g m v
      → (p : ℕ)
      → p < 2
      → successors g m v ≡ Sink p ∷ []
      → EvenWins v ↔ (Even ≡ side p)
  to_sink v is p low next =
      let one = single_move (checking_game g m) (is_game g m g_ok m_ok) Even (vertex_number g m v)
      (vertex_number g m (Sink p)) (vertex_low v is) (moves_are g m v is ∙ ap (map (vertex_number g m)) next) in
      let sink = sink_holds p low in
      ((λ a. sink.0 (one.0 a)), (λ e. one.1 (sink.1 e)))

  literal : (v : Vertex)
      → IsVertex g m v
      → (is positive : Bool)
      → successors g m v ≡ Sink (cond (beq is positive) 0 1) ∷ []
      → EvenWins v ↔ (is ≡ positive)
  literal v low true true next = let s = to_sink v low 0 (omega arith) next in ((λ a. refl), (λ e. s.1 refl))
  literal v low true false next = let s = to_sink v low 1 (omega arith) next in ((λ a. let e = s.0 a in cc), (λ e. cc))
  literal v low false true next = let s = to_sink v low 1 (omega arith) next in ((λ a. let e = s.0 a in cc), (λ e. cc))
  literal v low false false next = let s = to_sink v low 0 (omega arith) next in ((λ a. refl), (λ e. s.1 refl))

  -- some target, where there are pairs
  diamond : (v : Vertex)
      → IsVertex g m v
      → owner_at g v ≡ Even
      → (to : ℕ) (ts : List ℕ)
      → successors g m v ≡ pairs_or_sink to 1 ts
      → EvenWins v ↔ ((t : ℕ) × Contains ts t × HoldsAt g m t to)
  diamond v is own to [] next =
      let s = to_sink v is 1 (omega arith) next in
      ((λ a. let e = s.0 a in cc), (λ h. absurd (contains_none h.0 h.1)))
  diamond v is own to (t ∷ ts) next = (there, back)
    where
      there : EvenWins v → (x : ℕ) × Contains (t ∷ ts) x × HoldsAt g m x to
      there a =
          let some = (even_step v is own).0 a in
          of_image some (member-map_from (λ s. Pair s to) some.to (t ∷ ts) (subst (IsMember some.to) next some.member))
        where
          of_image : (some : SomeWon (successors g m v))
              → Image (λ s. Pair s to) some.to (t ∷ ts)
              → (x : ℕ) × Contains (t ∷ ts) x × HoldsAt g m x to
          of_image some image = (
            image.from,
            contains_of_member image.from (t ∷ ts) image.member,
            subst EvenWins image.holds some.wins,
          )

      back : ((x : ℕ) × Contains (t ∷ ts) x × HoldsAt g m x to) → EvenWins v
      back h =
          let member = member-map (λ s. Pair s to) h.0 (t ∷ ts) (member_of_contains h.0 (t ∷ ts) h.1) in
          (even_step v is own).1
          (record { to = Pair h.0 to; member = subst (IsMember (Pair h.0 to)) (sym next) member; wins = h.2 })

  -- every target, where there are pairs
  square : (v : Vertex)
      → IsVertex g m v
      → owner_at g v ≡ Odd
      → (to : ℕ) (ts : List ℕ)
      → successors g m v ≡ pairs_or_sink to 0 ts
      → EvenWins v ↔ ((t : ℕ) → Contains ts t → HoldsAt g m t to)
  square v is own to [] next =
      let s = to_sink v is 0 (omega arith) next in
      ((λ a t c. absurd (contains_none t c)), (λ h. s.1 refl))
  square v is own to (t ∷ ts) next = (
    (λ a x c. (odd_step v is own).0 a (Pair x to)
        (subst (IsMember (Pair x to)) (sym next)
        (member-map (λ s. Pair s to) x (t ∷ ts) (member_of_contains x (t ∷ ts) c)))),
    (λ h. (odd_step v is own).1
        (λ w member. of_image h w (member-map_from (λ s. Pair s to) w (t ∷ ts) (subst (IsMember w) next member)))),
  )
    where
      of_image : ((x : ℕ) → Contains (t ∷ ts) x → HoldsAt g m x to)
          → (w : Vertex)
          → Image (λ s. Pair s to) w (t ∷ ts)
          → EvenWins w
      of_image h w image = subst EvenWins (sym image.holds)
          (h image.from (contains_of_member image.from (t ∷ ts) image.member))

  both : (v : Vertex) → IsVertex g m v → owner_at g v ≡ Odd → (l r : Vertex) → successors g m v ≡ l ∷ r ∷ []
      → EvenWins v ↔ (EvenWins l × EvenWins r)
  both v is own l r next = (
    (λ a. (
      (odd_step v is own).0 a l (subst (IsMember l) (sym next) (inl refl)),
      (odd_step v is own).0 a r (subst (IsMember r) (sym next) (inr (inl refl))),
    )),
    (λ h. (odd_step v is own).1 (λ w member. of_member h w (subst (IsMember w) next member))),
  )
    where
      of_member : (EvenWins l × EvenWins r) → (w : Vertex) → IsMember w (l ∷ r ∷ []) → EvenWins w
      of_member h w (inl e) = subst EvenWins (sym e) h.0
      of_member h w (inr (inl e)) = subst EvenWins (sym e) h.1
      of_member h w (inr (inr e)) = absurd e

  either : (v : Vertex) → IsVertex g m v → owner_at g v ≡ Even → (l r : Vertex) → successors g m v ≡ l ∷ r ∷ []
      → EvenWins v ↔ (EvenWins l ⊎ EvenWins r)
  either v is own l r next = (there, back)
    where
      of_member : (w : Vertex) → EvenWins w → IsMember w (l ∷ r ∷ []) → EvenWins l ⊎ EvenWins r
      of_member w a (inl e) = inl (subst EvenWins e a)
      of_member w a (inr (inl e)) = inr (subst EvenWins e a)
      of_member w a (inr (inr e)) = absurd e

      there : EvenWins v → EvenWins l ⊎ EvenWins r
      there a = let some = (even_step v is own).0 a in
          of_member some.to some.wins (subst (IsMember some.to) next some.member)

      back : EvenWins l ⊎ EvenWins r → EvenWins v
      back (inl a) = (even_step v is own).1
          (record { to = l; member = subst (IsMember l) (sym next) (inl refl); wins = a })
      back (inr a) = (even_step v is own).1
          (record { to = r; member = subst (IsMember r) (sym next) (inr (inl refl)); wins = a })

  -- a node, by its kind
  by_kind : (s n : ℕ) → IsVertex g m (Pair s n) → (x : Node) → node_at g n ≡ x → HoldsAt g m s n ↔ NodeHolds g m s x
  by_kind s n is node.True e =
      let sink = to_sink (Pair s n) is 0 (omega arith) (ap (successors_of g m s) e) in
      ((λ a. tt), (λ h. sink.1 refl))
  by_kind s n is node.False e =
      let sink = to_sink (Pair s n) is 1 (omega arith) (ap (successors_of g m s) e) in
      ((λ a. let odd = sink.0 a in cc), (λ h. absurd h))
  by_kind s n is (node.Lit p positive) e =
      literal (Pair s n) is (lists m s (prop_at g p)) positive (ap (successors_of g m s) e)
  by_kind s n is (node.And l r) e = both (Pair s n) is (ap mover e) (Pair s l) (Pair s r) (ap (successors_of g m s) e)
  by_kind s n is (node.Or l r) e = either (Pair s n) is (ap mover e) (Pair s l) (Pair s r) (ap (successors_of g m s) e)
  by_kind s n is (node.Diamond a to) e =
      diamond (Pair s n) is (ap mover e) to (targets m s (action_at g a)) (ap (successors_of g m s) e)
  by_kind s n is (node.Square a to) e =
      square (Pair s n) is (ap mover e) to (targets m s (action_at g a)) (ap (successors_of g m s) e)

-- where a node holds is told by the nodes to which it refers
pub one_step : OneStepLaw
one_step g m g_ok m_ok s n s_low n_low = by_kind g m g_ok m_ok s n (s_low, n_low) (node_at g n) refl

-- and so it is told of a node that is known
pub one_step_at : (g : Graph) (m : Structure)
    → IsGraph g
    → IsStructure m
    → (s n : ℕ)
    → s < m.states
    → n < size g
    → (x : Node)
    → node_at g n ≡ x
    → HoldsAt g m s n ↔ NodeHolds g m s x
one_step_at g m g_ok m_ok s n s_low n_low x is =
    subst (λ y. HoldsAt g m s n ↔ NodeHolds g m s y) is (one_step g m g_ok m_ok s n s_low n_low)
