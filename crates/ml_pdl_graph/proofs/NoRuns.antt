-- Where no run of a program leads into a set, the player who looks for one doesn't win.
--
-- The nodes of a program at the states from which what is still to be run doesn't lead into the set are a trap: where
-- that player moves, all moves stay among them, and where the opponent moves, some move does, or the opponent has won.
-- A star's priority is bad for the player; and away from stars' nodes the numbers of nodes grow, so a walk that goes on
-- for ever in the trap comes to a star's node again and again.
--
--   trapped           == unmet nodes are trapped
--   Known             == what is known of a walk among them
--   unmet_lost        == the player doesn't win one
use Rattle.std.proofs.Common.{◌≡◌, ℕ, ◌+◌, ◌*◌, ◌<◌, ◌≤◌, ◌⊎◌, Bool, true, false, not, min, get_or, inl, inr, refl, sym, ap, subst, ◌∙◌, ⊎_elim, arith}
use Rattle.std.proofs.lemmas.Bool.{cases_Bool}
use Rattle.ml_lists.specs.Member.{IsMember}
use Rattle.ml_base.specs.Structure.{Structure, IsStructure, is_member}
use Rattle.ml_parity.specs.declared.players.Player.{Player}
use Rattle.ml_parity.specs.Player.{opponent, side}
use Rattle.ml_parity.specs.Game.{HasMove, priority_of}
use Rattle.ml_parity.specs.Winner.{IsStrategyOf, WinsFrom, Wins}
use Rattle.ml_parity.proofs.FollowedWalks.{FollowedMove, last, won_behind}
use Rattle.ml_parity.proofs.Opponents.{no_own_opponent}
use Rattle.ml_graph.specs.Graph.{Graph, IsGraph, size, priority_at}
use Rattle.ml_graph.specs.CheckingGame.{Vertex, Pair, Sink, vertex_number, vertices, targets, checking_game}
use Rattle.ml_graph.proofs.CheckingGame.{IsVertex, leads_to_vertices, vertex_at, owner_is, priority_is}
use Rattle.ml_graph.proofs.OneStep.{vertex_low, move_to, move_from}
use Rattle.ml_pdl.specs.Formula.{Program, Act, Seq, Alt, Star, Test, occurrences, program_occurrences}
use Rattle.ml_pdl.specs.Meaning.{meaning, relation}
use Rattle.ml_pdl.proofs.RunsInto.{into, no_run}
use Rattle.ml_nodes.proofs.EndlessWalks.{Join, Onward, never_for_ever}
use Rattle.ml_pdl_graph.proofs.Players.{player_of, node_of, node_range, at, WinsAt, Tells, never_both, tells_other}
use Rattle.ml_pdl_graph.proofs.ProgramNodes.{star_priority, NodesAt, Tests, tested_low}
use Rattle.ml_pdl_graph.proofs.Unmet.{Unmet, start_unmet, seq_unmet, left_unmet, right_unmet, here_unmet, round_unmet, test_unmet, target_edge}
use Rattle.ml_pdl_graph.proofs.Traps.{Going, Trapped, leads_trapped, own_trapped, other_trapped, go_trapped, to_pair, before_next}

module _ (g : Graph) (m : Structure) (g_ok : IsGraph g) (m_ok : IsStructure m) (e : Bool) where
  abbrev place : ℕ → ℕ → ℕ
  place = at g m g_ok m_ok

  abbrev them : Player
  them = opponent (player_of e)

  -- ---- unmet nodes are trapped

  pub trapped : (p : Program) (i k : ℕ) (K : ℕ → Bool) (P : ℕ → ℕ → ℕ → Type 0)
      → NodesAt g e i k p
      → Tests g m g_ok m_ok e i p
      → 2 * (i + program_occurrences p) ≤ size g
      → ((n t x : ℕ) → Unmet m e p i K t x → (n < x) ⊎ (priority_at g x ≡ star_priority e) → P n t x)
      → ((n t : ℕ) → n < 2 * (i + program_occurrences p) → t < m.states → K t ≡ false → P n t k)
      → (s n : ℕ) → s < m.states → Unmet m e p i K s n → Trapped g m g_ok m_ok e P s n
  trapped (Act name) i k K P w tests room inside out s n s_low (same, never) =
      subst (λ x. Trapped g m g_ok m_ok e P s x) (sym same)
      (go_trapped g m g_ok m_ok e P s (node_of e i) w.0 k w.1 (λ t t_low h.
      out (node_of e i) t (let range = node_range e i in omega (arith, range.1)) t_low
      (no_run m (relation m (Act name)) K s never t t_low
      (target_edge m name s t (subst (λ x. IsMember t (targets m s x)) w.3 h)))))
  trapped (Seq p q) i k K P w tests room inside out s n s_low (inl (same, never)) =
      let l : ℕ = i + 1 in
      subst (λ x. Trapped g m g_ok m_ok e P s x) (sym same)
      (leads_trapped g m g_ok m_ok e P s (node_of e i) (node_of e l) w.0
      (to_pair g m g_ok m_ok e P (node_of e i) s (node_of e l) s_low
      (inside (node_of e i) s (node_of e l)
      (inr (inl (start_unmet m e p l (into m (relation m q) K) s (seq_unmet m K s s_low p q never))))
      (inl (before_next g m g_ok m_ok e i l (omega arith))))))
  trapped (Seq p q) i k K P w tests room inside out s n s_low (inr (inl h)) =
      let l : ℕ = i + 1 in
      let r : ℕ = i + 1 + program_occurrences p in
      trapped p l (node_of e r) (into m (relation m q) K) P w.2 tests.0 (omega (arith, room))
      (λ j t x u order. inside j t x (inr (inl u)) order)
      (λ j t low t_low none. inside j t (node_of e r) (inr (inr (start_unmet m e q r K t none)))
      (inl (let range = node_range e r in omega (arith, low, range.0))))
      s n s_low h
  trapped (Seq p q) i k K P w tests room inside out s n s_low (inr (inr h)) =
      let r : ℕ = i + 1 + program_occurrences p in
      trapped q r k K P w.3 tests.1 (omega (arith, room))
      (λ j t x u order. inside j t x (inr (inr u)) order)
      (λ j t low t_low none. out j t (omega (arith, low)) t_low none)
      s n s_low h
  trapped (Alt p q) i k K P w tests room inside out s n s_low (inl (same, never)) =
      let l : ℕ = i + 1 in
      let r : ℕ = i + 1 + program_occurrences p in
      subst (λ x. Trapped g m g_ok m_ok e P s x) (sym same)
      (own_trapped g m g_ok m_ok e P s (node_of e i) (node_of e l) (node_of e r) w.0
      (to_pair g m g_ok m_ok e P (node_of e i) s (node_of e l) s_low
      (inside (node_of e i) s (node_of e l) (inr (inl (start_unmet m e p l K s (left_unmet m K s s_low p q never))))
      (inl (before_next g m g_ok m_ok e i l (omega arith)))))
      (to_pair g m g_ok m_ok e P (node_of e i) s (node_of e r) s_low
      (inside (node_of e i) s (node_of e r) (inr (inr (start_unmet m e q r K s (right_unmet m K s s_low p q never))))
      (inl (before_next g m g_ok m_ok e i r (omega arith))))))
  trapped (Alt p q) i k K P w tests room inside out s n s_low (inr (inl h)) =
      trapped p (i + 1) k K P w.2 tests.0 (omega (arith, room))
      (λ j t x u order. inside j t x (inr (inl u)) order)
      (λ j t low t_low none. out j t (omega (arith, low)) t_low none)
      s n s_low h
  trapped (Alt p q) i k K P w tests room inside out s n s_low (inr (inr h)) =
      trapped q (i + 1 + program_occurrences p) k K P w.3 tests.1 (omega (arith, room))
      (λ j t x u order. inside j t x (inr (inr u)) order)
      (λ j t low t_low none. out j t (omega (arith, low)) t_low none)
      s n s_low h
  trapped (Star p) i k K P w tests room inside out s n s_low (inl (same, never)) =
      let l : ℕ = i + 1 in
      subst (λ x. Trapped g m g_ok m_ok e P s x) (sym same)
      (own_trapped g m g_ok m_ok e P s (node_of e i) k (node_of e l) w.0
      (to_pair g m g_ok m_ok e P (node_of e i) s k s_low
      (out (node_of e i) s (let range = node_range e i in omega (arith, range.1)) s_low
      (here_unmet m K s s_low p never)))
      (to_pair g m g_ok m_ok e P (node_of e i) s (node_of e l) s_low (inside (node_of e i) s (node_of e l)
      (inr (start_unmet m e p l (into m (relation m (Star p)) K) s (round_unmet m K s s_low p never)))
      (inl (before_next g m g_ok m_ok e i l (omega arith))))))
  trapped (Star p) i k K P w tests room inside out s n s_low (inr h) =
      trapped p (i + 1) (node_of e i) (into m (relation m (Star p)) K) P w.2 tests (omega (arith, room))
      (λ j t x u order. inside j t x (inr u) order)
      (λ j t low t_low none. inside j t (node_of e i) (inl (refl, none)) (inr w.1))
      s n s_low h
  trapped (Test f) i k K P w tests room inside out s n s_low (same, never) =
      let l : ℕ = i + 1 in
      let holds : Bool = is_member (meaning m f) s in
      subst (λ x. Trapped g m g_ok m_ok e P s x) (sym same)
      (⊎_elim
      (λ (yes_f : is_member (meaning m f) s ≡ true).
      other_trapped g m g_ok m_ok e P s (node_of e i) (node_of e l) k w.0 (Pair s k) (inr (inl refl))
      (to_pair g m g_ok m_ok e P (node_of e i) s k s_low
      (out (node_of e i) s (let range = node_range e i in omega (arith, range.1)) s_low
      (test_unmet m K s s_low f never yes_f))))
      (λ (no_f : is_member (meaning m f) s ≡ false).
      other_trapped g m g_ok m_ok e P s (node_of e i) (node_of e l) k w.0 (Pair s (node_of e l)) (inl refl)
      (inr ((tells_other g m g_ok m_ok (player_of e) s (node_of e l) s_low (tested_low g e i f room) holds
      (tests s s_low)).1 (ap not no_f))))
      (cases_Bool (is_member (meaning m f) s)))

  -- ---- priorities and numbers of unmet nodes

  low_star : (d : Bool) → star_priority d ≤ 4
  low_star true = omega arith
  low_star false = omega arith

  unmet_priority : (p : Program) (i k : ℕ) (K : ℕ → Bool)
      → NodesAt g e i k p
      → (s n : ℕ)
      → Unmet m e p i K s n
      → star_priority e ≤ priority_at g n
  unmet_priority (Act name) i k K w s n (same, never) =
      let low = low_star e in omega (arith, ap (priority_at g) same, w.2, low)
  unmet_priority (Seq p q) i k K w s n (inl (same, never)) =
      let low = low_star e in omega (arith, ap (priority_at g) same, w.1, low)
  unmet_priority (Seq p q) i k K w s n (inr (inl h)) =
      unmet_priority p (i + 1) (node_of e (i + 1 + program_occurrences p)) (into m (relation m q) K) w.2 s n h
  unmet_priority (Seq p q) i k K w s n (inr (inr h)) = unmet_priority q (i + 1 + program_occurrences p) k K w.3 s n h
  unmet_priority (Alt p q) i k K w s n (inl (same, never)) =
      let low = low_star e in omega (arith, ap (priority_at g) same, w.1, low)
  unmet_priority (Alt p q) i k K w s n (inr (inl h)) = unmet_priority p (i + 1) k K w.2 s n h
  unmet_priority (Alt p q) i k K w s n (inr (inr h)) = unmet_priority q (i + 1 + program_occurrences p) k K w.3 s n h
  unmet_priority (Star p) i k K w s n (inl (same, never)) = omega (arith, ap (priority_at g) same, w.1)
  unmet_priority (Star p) i k K w s n (inr h) =
      unmet_priority p (i + 1) (node_of e i) (into m (relation m (Star p)) K) w.2 s n h
  unmet_priority (Test f) i k K w s n (same, never) =
      let low = low_star e in omega (arith, ap (priority_at g) same, w.1, low)

  first_low : (i j n : ℕ) → i < j → n ≡ node_of e i → n < 2 * j
  first_low i j n less same = let range = node_range e i in omega (arith, less, same, range.1)

  unmet_low : (p : Program) (i : ℕ) (K : ℕ → Bool) (s n : ℕ) → Unmet m e p i K s n → n < 2 * (i + program_occurrences p)
  unmet_low (Act name) i K s n (same, never) = first_low i (i + 1) n (omega arith) same
  unmet_low (Seq p q) i K s n (inl (same, never)) =
      first_low i (i + (1 + program_occurrences p + program_occurrences q)) n (omega arith) same
  unmet_low (Seq p q) i K s n (inr (inl h)) =
      let low = unmet_low p (i + 1) (into m (relation m q) K) s n h in omega (arith, low)
  unmet_low (Seq p q) i K s n (inr (inr h)) =
      let low = unmet_low q (i + 1 + program_occurrences p) K s n h in omega (arith, low)
  unmet_low (Alt p q) i K s n (inl (same, never)) =
      first_low i (i + (1 + program_occurrences p + program_occurrences q)) n (omega arith) same
  unmet_low (Alt p q) i K s n (inr (inl h)) = let low = unmet_low p (i + 1) K s n h in omega (arith, low)
  unmet_low (Alt p q) i K s n (inr (inr h)) =
      let low = unmet_low q (i + 1 + program_occurrences p) K s n h in omega (arith, low)
  unmet_low (Star p) i K s n (inl (same, never)) = first_low i (i + (1 + program_occurrences p)) n (omega arith) same
  unmet_low (Star p) i K s n (inr h) =
      let low = unmet_low p (i + 1) (into m (relation m (Star p)) K) s n h in omega (arith, low)
  unmet_low (Test f) i K s n (same, never) = first_low i (i + (1 + occurrences f)) n (omega arith) same

  -- ---- so the player doesn't win one

  abbrev node_number : Vertex → ℕ
  node_number (Pair s n) = n
  node_number (Sink p) = 0

  -- the node of a vertex
  abbrev node_in : ℕ → ℕ
  node_in v = node_number (get_or (vertices g m) v (Sink 0))

  node_in_is : (s n : ℕ) → s < m.states → n < size g → node_in (place s n) ≡ n
  node_in_is s n s_low n_low = ap node_number (vertex_at g m (Pair s n) (s_low, n_low))

  abbrev bad : ℕ
  bad = star_priority e

  -- of a walk among them from v to w with the lowest priority k
  pub record Known (v k w : ℕ) : Type 0 where
    pub high : bad ≤ k
    pub first : k ≤ priority_of (checking_game g m) v
    pub onward : (node_in v < node_in w) ⊎ ((priority_of (checking_game g m) w ≡ bad) ⊎ (k ≡ bad))

  known_joined : Join Known
  known_joined v j w k x a b = record {
    high = omega (arith, a.high, b.high);
    first = omega (arith, a.first);
    onward = by_first a.onward;
  }
    where
      meets : (min j k ≡ bad) → (node_in v < node_in x) ⊎ ((priority_of (checking_game g m) x ≡ bad) ⊎ (min j k ≡ bad))
      meets is = inr (inr is)

      by_second : node_in v < node_in w
          → (node_in w < node_in x) ⊎ ((priority_of (checking_game g m) x ≡ bad) ⊎ (k ≡ bad))
          → (node_in v < node_in x) ⊎ ((priority_of (checking_game g m) x ≡ bad) ⊎ (min j k ≡ bad))
      by_second less (inl more) = inl (omega (arith, less, more))
      by_second less (inr (inl star)) = inr (inl star)
      by_second less (inr (inr is)) = meets (omega (arith, is, a.high))

      by_first : (node_in v < node_in w) ⊎ ((priority_of (checking_game g m) w ≡ bad) ⊎ (j ≡ bad))
          → (node_in v < node_in x) ⊎ ((priority_of (checking_game g m) x ≡ bad) ⊎ (min j k ≡ bad))
      by_first (inl less) = by_second less b.onward
      by_first (inr (inl star)) = meets (omega (arith, star, b.first, b.high, a.high))
      by_first (inr (inr is)) = meets (omega (arith, is, b.high))

  bad_side : (d : Bool) → side (star_priority d) ≡ opponent (player_of d)
  bad_side true = refl
  bad_side false = refl

  closed_bad : (v k : ℕ) → Known v k v → side k ≡ opponent (player_of e)
  closed_bad v k a = from a.onward
    where
      is_bad : k ≡ bad → side k ≡ opponent (player_of e)
      is_bad is = ap side is ∙ bad_side e

      from : (node_in v < node_in v) ⊎ ((priority_of (checking_game g m) v ≡ bad) ⊎ (k ≡ bad))
          → side k ≡ opponent (player_of e)
      from (inl less) = absurd (omega (arith, less))
      from (inr (inl star)) = is_bad (omega (arith, star, a.first, a.high))
      from (inr (inr is)) = is_bad is

  module _ (p : Program) (i k : ℕ) (K : ℕ → Bool) (w : NodesAt g e i k p) (tests : Tests g m g_ok m_ok e i p)
      (room : 2 * (i + program_occurrences p) ≤ size g)
      (known : (t : ℕ) → t < m.states → Tells g m g_ok m_ok (player_of e) t k (K t)) (k_low : k < size g)
      (strategy : ℕ → ℕ) (is_strategy : IsStrategyOf (checking_game g m) (player_of e) strategy) where
    -- an unmet node that the strategy wins
    record Stuck : Type 0 where
      pub state : ℕ
      pub node : ℕ
      pub low : state < m.states
      pub unmet : Unmet m e p i K state node
      pub wins : WinsFrom (checking_game g m) (player_of e) strategy (place state node)

    abbrev vertex : Stuck → ℕ
    vertex x = place x.state x.node

    is_vertex : (s n : ℕ) → s < m.states → Unmet m e p i K s n → IsVertex g m (Pair s n)
    is_vertex s n low unmet = (low, let small = unmet_low p i K s n unmet in omega (arith, small, room))

    abbrev Allowed : ℕ → ℕ → ℕ → Type 0
    Allowed n t x =
        (Unmet m e p i K t x × ((n < x) ⊎ (priority_at g x ≡ bad))) ⊎ Wins (checking_game g m) them (place t x)

    out_lost : (t : ℕ) → t < m.states → K t ≡ false → Wins (checking_game g m) them (place t k)
    out_lost t t_low none =
        (tells_other g m g_ok m_ok (player_of e) t k t_low k_low (K t) (known t t_low)).1 (ap not none)

    caught : (x : Stuck) → Trapped g m g_ok m_ok e Allowed x.state x.node
    caught x =
        trapped p i k K Allowed w tests room (λ n t y u order. inl (u, order))
        (λ n t low t_low none. inr (out_lost t t_low none)) x.state x.node x.low x.unmet

    abbrev Next : Stuck → Type 0
    Next x = Onward (checking_game g m) (player_of e) strategy Known Stuck vertex x

    never_theirs : (x : Stuck) (v : Vertex)
        → IsVertex g m v
        → FollowedMove (checking_game g m) (player_of e) strategy (vertex x) (vertex_number g m v)
        → Wins (checking_game g m) them (vertex_number g m v) → ⊥
    never_theirs x v is move theirs =
        let mine : Wins (checking_game g m) (player_of e) (vertex_number g m v) =
        record {
          strategy = strategy;
          is_strategy = is_strategy;
          wins = won_behind (checking_game g m) (player_of e)
              strategy (vertex x) (vertex_number g m v) move x.wins;
        } in
        never_both g m g_ok m_ok (player_of e) v is mine theirs

    onward : (x : Stuck) (t y : ℕ)
        → t < m.states
        → FollowedMove (checking_game g m) (player_of e) strategy (vertex x) (place t y)
        → Unmet m e p i K t y → (x.node < y) ⊎ (priority_at g y ≡ bad) → Next x
    onward x t y t_low move unmet order = record {
      to =
          record {
            state = t;
            node = y;
            low = t_low;
            unmet = unmet;
            wins = won_behind (checking_game g m) (player_of e)
                strategy (vertex x) (place t y) move x.wins;
          };
      stretch = record {
        lowest = priority_of (checking_game g m) (vertex x);
        way = last (vertex x) (place t y) move;
        known = record {
          high =
              let high =
              unmet_priority p i k K w x.state x.node x.unmet in omega
              (arith, high, priority_is g m (Pair x.state x.node) here);
          first = omega arith;
          onward = by_order order;
        };
      };
    }
      where
        here : IsVertex g m (Pair x.state x.node)
        here = is_vertex x.state x.node x.low x.unmet

        there : IsVertex g m (Pair t y)
        there = is_vertex t y t_low unmet

        by_order : (x.node < y) ⊎ (priority_at g y ≡ bad)
            → (node_in (vertex x) < node_in (place t y))
            ⊎ ((priority_of (checking_game g m) (place t y) ≡ bad) ⊎ (priority_of (checking_game g m) (vertex x) ≡ bad))
        by_order (inl less) =
            inl (omega (arith, less, node_in_is x.state x.node here.0 here.1, node_in_is t y there.0 there.1))
        by_order (inr star) = inr (inl (priority_is g m (Pair t y) there ∙ star))

    by_going : (x : Stuck) (u : Vertex)
        → IsVertex g m u
        → FollowedMove (checking_game g m) (player_of e) strategy (vertex x) (vertex_number g m u)
        → Going g m g_ok m_ok e Allowed x.node u → Next x
    by_going x u is move (inr theirs) = absurd (never_theirs x u is move theirs)
    by_going x u is move (inl a) = by_allowed a.allowed
      where
        moved : FollowedMove (checking_game g m) (player_of e) strategy (vertex x) (place a.state a.node)
        moved =
            subst (λ v. FollowedMove (checking_game g m) (player_of e) strategy (vertex x) (vertex_number g m v)) a.is
            move

        by_allowed : Allowed x.node a.state a.node → Next x
        by_allowed (inl (unmet, order)) = onward x a.state a.node a.low moved unmet order
        by_allowed (inr theirs) =
            absurd (never_theirs x (Pair a.state a.node) (subst (IsVertex g m) a.is is) moved theirs)

    next : (x : Stuck) → Next x
    next x = from (caught x)
      where
        here : IsVertex g m (Pair x.state x.node)
        here = is_vertex x.state x.node x.low x.unmet

        from : Trapped g m g_ok m_ok e Allowed x.state x.node → Next x
        from (inl (own, all)) =
            let own_here = owner_is g m (Pair x.state x.node) here ∙ own in
            let move = is_strategy (vertex x) (vertex_low g m g_ok m_ok (Pair x.state x.node) here) own_here in
            let image = move_from g m g_ok m_ok (Pair x.state x.node) here (strategy (vertex x)) move in
            by_going x image.from (leads_to_vertices g m g_ok m_ok (Pair x.state x.node) here image.from image.member)
            (record {
              move = subst (HasMove (checking_game g m) (vertex x)) image.holds move;
              chosen = λ mine. sym
                  image.holds;
            })
            (all image.from image.member)
        from (inr (other, some)) =
            by_going x some.to (leads_to_vertices g m g_ok m_ok (Pair x.state x.node) here some.to some.member)
            (record {
              move = move_to g m g_ok m_ok (Pair x.state x.node) here some.to some.member;
              chosen =
                  λ mine. absurd (no_own_opponent (player_of e)
                  (sym mine ∙ owner_is g m (Pair x.state x.node) here ∙ other));
            })
            some.goes

    pub stuck_lost : (s n : ℕ)
        → s < m.states
        → Unmet m e p i K s n
        → WinsFrom (checking_game g m) (player_of e) strategy (place s n)
        → ⊥
    stuck_lost s n s_low unmet wins =
        never_for_ever (checking_game g m) (player_of e) strategy Known Stuck vertex
        (λ x. vertex_low g m g_ok m_ok (Pair x.state x.node) (is_vertex x.state x.node x.low x.unmet))
        known_joined closed_bad next
        (record { state = s; node = n; low = s_low; unmet = unmet; wins = wins }) wins

  -- where no run of a program leads into the set at which the continuation is won, the player doesn't win
  pub unmet_lost : (p : Program) (i k : ℕ) (K : ℕ → Bool)
      → NodesAt g e i k p
      → Tests g m g_ok m_ok e i p
      → 2 * (i + program_occurrences p) ≤ size g
      → ((t : ℕ) → t < m.states → Tells g m g_ok m_ok (player_of e) t k (K t)) → k < size g
      → (s : ℕ) → s < m.states → into m (relation m p) K s ≡ false → WinsAt g m g_ok m_ok (player_of e) s (node_of e i)
      → ⊥
  unmet_lost p i k K w tests room known k_low s s_low never a =
      stuck_lost p i k K w tests room known k_low a.strategy a.is_strategy s (node_of e i) s_low
      (start_unmet m e p i K s never) a.wins
