-- Pairs of a state and a node that the player of a sign can't leave.
--
--   Going P n u    == from the node n one may go to the vertex u: it is a pair that P allows, or the opponent wins it
--   Trapped P s n  == the pair leads to such vertices: all of its moves, or at the opponent's nodes one of them
--   leads_trapped, own_trapped, other_trapped, go_trapped == at a node of each kind
use Rattle.std.proofs.Common.{◌≡◌, ℕ, ◌<◌, ◌⊎◌, Bool, true, false, List, [], ◌∷◌, inl, inr, refl, sym, ap, subst, ◌∙◌, arith}
use Rattle.ml_lists.specs.Member.{IsMember}
use Rattle.ml_lists.proofs.Member.{member-map_from}
use Rattle.ml_base.specs.Structure.{Structure, IsStructure}
use Rattle.ml_parity.specs.declared.players.Player.{Player}
use Rattle.ml_parity.specs.Player.{opponent, side}
use Rattle.ml_parity.specs.Winner.{Wins}
use Rattle.ml_parity.proofs.SingleMoves.{sink_won}
use Rattle.ml_graph.specs.declared.node.Node.TheVariants as node
use Rattle.ml_graph.specs.Graph.{Graph, IsGraph, node_at, action_at}
use Rattle.ml_graph.specs.CheckingGame.{Vertex, Pair, Sink, mover, vertex_number, successors, successors_of, pairs_or_sink, targets, checking_game}
use Rattle.ml_graph.proofs.CheckingGame.{moves_are, priority_is, target_is_state, is_game}
use Rattle.ml_graph.proofs.OneStep.{vertex_low}
use Rattle.ml_pdl_graph.proofs.Players.{player_of, node_of, own_by, other_by, go_by, own_mover, other_mover, go_mover, own_children, other_children, node_range, at}

module _ (g : Graph) (m : Structure) (g_ok : IsGraph g) (m_ok : IsStructure m) (e : Bool) where
  abbrev place : ℕ → ℕ → ℕ
  place = at g m g_ok m_ok

  abbrev them : Player
  them = opponent (player_of e)

  pub record ToPair (P : ℕ → ℕ → ℕ → Type 0) (n : ℕ) (u : Vertex) : Type 0 where
    pub state : ℕ
    pub node : ℕ
    pub is : u ≡ Pair state node
    pub low : state < m.states
    pub allowed : P n state node

  abbrev pub Going : (ℕ → ℕ → ℕ → Type 0) → ℕ → Vertex → Type 0
  Going P n u = ToPair P n u ⊎ Wins (checking_game g m) them (vertex_number g m u)

  pub record SomeGoing (P : ℕ → ℕ → ℕ → Type 0) (s n : ℕ) : Type 0 where
    pub to : Vertex
    pub member : IsMember to (successors g m (Pair s n))
    pub goes : Going P n to

  abbrev pub Trapped : (ℕ → ℕ → ℕ → Type 0) → ℕ → ℕ → Type 0
  Trapped P s n =
      ((mover (node_at g n) ≡ player_of e) × ((u : Vertex) → IsMember u (successors g m (Pair s n)) → Going P n u))
      ⊎ ((mover (node_at g n) ≡ them) × SomeGoing P s n)

  pub to_pair : (P : ℕ → ℕ → ℕ → Type 0) (n t k : ℕ) → t < m.states → P n t k → Going P n (Pair t k)
  to_pair P n t k t_low h = inl (record { state = t; node = k; is = refl; low = t_low; allowed = h })

  -- at nodes of each kind
  pub leads_trapped : (P : ℕ → ℕ → ℕ → Type 0) (s n t : ℕ)
      → node_at g n ≡ node.And t t
      → Going P n (Pair s t)
      → Trapped P s n
  leads_trapped P s n t is goes = by_sign e refl
    where
      by_sign : (d : Bool) → d ≡ e → Trapped P s n
      by_sign true same = inr (
        ap mover is ∙ ap (λ x. opponent (player_of x)) same,
        record {
          to = Pair s t;
          member = subst (λ x. IsMember (Pair s t) (successors_of g m s x)) (sym is) (inl refl);
          goes = goes;
        },
      )
      by_sign false same =
          inl (ap mover is ∙ ap player_of same, λ u h. from u (subst (λ x. IsMember u (successors_of g m s x)) is h))
        where
          from : (u : Vertex) → IsMember u (Pair s t ∷ Pair s t ∷ []) → Going P n u
          from u (inl one) = subst (Going P n) (sym one) goes
          from u (inr (inl one)) = subst (Going P n) (sym one) goes
          from u (inr (inr none)) = absurd none

  pub own_trapped : (P : ℕ → ℕ → ℕ → Type 0) (s n l r : ℕ)
      → node_at g n ≡ own_by e l r
      → Going P n (Pair s l)
      → Going P n (Pair s r)
      → Trapped P s n
  own_trapped P s n l r is a b =
      inl (
        ap mover is ∙ own_mover e l r,
        λ u h. from u
            (subst (IsMember u) (ap (successors_of g m s) is ∙ own_children g m s e l r) h),
      )
    where
      from : (u : Vertex) → IsMember u (Pair s l ∷ Pair s r ∷ []) → Going P n u
      from u (inl one) = subst (Going P n) (sym one) a
      from u (inr (inl one)) = subst (Going P n) (sym one) b
      from u (inr (inr none)) = absurd none

  pub other_trapped : (P : ℕ → ℕ → ℕ → Type 0) (s n l r : ℕ)
      → node_at g n ≡ other_by e l r
      → (u : Vertex)
      → IsMember u (Pair s l ∷ Pair s r ∷ [])
      → Going P n u
      → Trapped P s n
  other_trapped P s n l r is u h goes =
      inr (
        ap mover is ∙ other_mover e l r,
        record {
          to = u;
          member = subst (IsMember u) (sym (ap (successors_of g m s) is ∙ other_children g m s e l r)) h;
          goes = goes;
        },
      )

  -- where there is no edge the opponent wins
  abbrev sink_for : Bool → ℕ
  sink_for true = 1
  sink_for false = 0

  sink_low : (d : Bool) → sink_for d < 2
  sink_low true = omega arith
  sink_low false = omega arith

  sink_side : (d : Bool) → opponent (player_of d) ≡ side (sink_for d)
  sink_side true = refl
  sink_side false = refl

  sink_lost : Wins (checking_game g m) them (vertex_number g m (Sink (sink_for e)))
  sink_lost =
      (sink_won (checking_game g m) (is_game g m g_ok m_ok) them (vertex_number g m (Sink (sink_for e)))
      (vertex_low g m g_ok m_ok (Sink (sink_for e)) (sink_low e)) (moves_are g m (Sink (sink_for e)) (sink_low e))).1
      (sink_side e ∙ ap side (sym (priority_is g m (Sink (sink_for e)) (sink_low e))))

  go_children : (d : Bool) (s a k : ℕ)
      → successors_of g m s (go_by d a k) ≡ pairs_or_sink k (sink_for d) (targets m s (action_at g a))
  go_children true s a k = refl
  go_children false s a k = refl

  of_targets : (P : ℕ → ℕ → ℕ → Type 0) (n k : ℕ) (ts : List ℕ) → ((t : ℕ) → IsMember t ts → (t < m.states) × P n t k)
      → (u : Vertex) → IsMember u (pairs_or_sink k (sink_for e) ts) → Going P n u
  of_targets P n k [] each u (inl one) =
      inr (subst (λ v. Wins (checking_game g m) them (vertex_number g m v)) (sym one) sink_lost)
  of_targets P n k [] each u (inr none) = absurd none
  of_targets P n k (x ∷ xs) each u h =
      let image = member-map_from (λ t. Pair t k) u (x ∷ xs) h in
      let here = each image.from image.member in
      subst (Going P n) (sym image.holds) (to_pair P n image.from k here.0 here.1)

  pub go_trapped : (P : ℕ → ℕ → ℕ → Type 0) (s n a k : ℕ) → node_at g n ≡ go_by e a k
      → ((t : ℕ) → t < m.states → IsMember t (targets m s (action_at g a)) → P n t k) → Trapped P s n
  go_trapped P s n a k is each =
      inl (
        ap mover is ∙ go_mover e a k,
        λ u h. of_targets P n k (targets m s (action_at g a))
            (λ t inside. let low = target_is_state m m_ok s (action_at g a) t inside in (low, each t low inside)) u
            (subst (IsMember u) (ap (successors_of g m s) is ∙ go_children e s a k) h),
      )

  pub before_next : (i j : ℕ) → i < j → node_of e i < node_of e j
  before_next i j less = let a = node_range e i in let b = node_range e j in omega (arith, less, a.1, b.0)
