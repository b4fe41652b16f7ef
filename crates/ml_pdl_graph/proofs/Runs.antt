-- Runs of programs as walks.
--
--   Walked v w  == a walk from v to w that follows a strategy of the opponent's, through no priority below 2
--   walked      == where the opponent wins a program's node, a run of the program is such a walk
use Rattle.std.proofs.Common.{◌≡◌, ℕ, zero, suc, ◌+◌, ◌*◌, ◌<◌, ◌≤◌, ◌==◌, ◌⊎◌, Bool, true, false, ◌&&◌, min, List, [], ◌∷◌, inl, inr, refl, sym, ap, subst, ◌∙◌, ⊎_elim, arith}
use Rattle.std.specs.Str.{bytes_eq}
use Rattle.std.proofs.lemmas.Bool.{false≢true, and_parts, or_cases, eqb-true, and_from}
use Rattle.ml_lists.specs.Iterate.{iterate}
use Rattle.ml_lists.specs.Member.{IsMember}
use Rattle.ml_lists.proofs.Member.{list_any-member, member-map, member-filter}
use Rattle.ml_base.specs.declared.structure.Edge.{Edge}
use Rattle.ml_base.specs.Structure.{Structure, IsStructure, is_member}
use Rattle.ml_parity.specs.declared.players.Player.{Player}
use Rattle.ml_parity.specs.Player.{opponent}
use Rattle.ml_parity.specs.Game.{priority_of}
use Rattle.ml_parity.specs.Winner.{IsStrategyOf, WinsFrom, Wins}
use Rattle.ml_parity.proofs.FollowedWalks.{FollowedMove, FollowedWalk, last, walks_joined, won_behind, won_at_end}
use Rattle.ml_parity.proofs.Opponents.{no_own_opponent}
use Rattle.ml_graph.specs.declared.node.Node.{Node}
use Rattle.ml_graph.specs.declared.node.Node.TheVariants as node
use Rattle.ml_graph.specs.Graph.{Graph, IsGraph, size, node_at, priority_at, action_at}
use Rattle.ml_graph.specs.CheckingGame.{Vertex, Pair, mover, vertex_number, successors, successors_of, pairs_or_sink, targets, checking_game}
use Rattle.ml_graph.proofs.CheckingGame.{owner_is, priority_is}
use Rattle.ml_graph.proofs.OneStep.{vertex_low, move_to, move_from, pair_member}
use Rattle.ml_pdl.specs.Formula.{Program, Act, Seq, Alt, Star, Test, occurrences, program_occurrences}
use Rattle.ml_pdl.specs.Meaning.{Relation, identity, either, followed_by, has_edge, meaning, relation}
use Rattle.ml_pdl.proofs.RunsInto.{run_of}
use Rattle.ml_pdl_graph.proofs.Players.{player_of, node_of, own_by, other_by, go_by, own_mover, other_mover, go_mover, own_children}
use Rattle.ml_pdl_graph.proofs.Players.{other_children, node_range, at, WinsAt, never_both}
use Rattle.ml_pdl_graph.proofs.ProgramNodes.{star_priority, NodesAt, Tests, tested_low}

-- to all targets of an edge
pub go_pairs : (g : Graph) (m : Structure) (s : ℕ) (e : Bool) (a k : ℕ)
    → (p : ℕ) × (successors_of g m s (go_by e a k) ≡ pairs_or_sink k p (targets m s (action_at g a)))
go_pairs g m s true a k = (1, refl)
go_pairs g m s false a k = (0, refl)

three : (a b c : Bool) → (a && b && c) ≡ true → (a ≡ true) × (b ≡ true) × (c ≡ true)
three true true true is = (refl, refl, refl)
three true true false is = absurd (false≢true is)
three true false c is = absurd (false≢true is)
three false b c is = absurd (false≢true is)

-- an edge leads to a target of it
pub edge_target : (m : Structure) (a : List ℕ) (s t : ℕ) → has_edge m a s t ≡ true → IsMember t (targets m s a)
edge_target m a s t is =
    let some = list_any-member (λ d. (d.source == s) && bytes_eq d.action a && (d.target == t)) m.edges is in
    let parts = three (some.item.source == s) (bytes_eq some.item.action a) (some.item.target == t) some.passes in
    subst (λ x. IsMember x (targets m s a)) (eqb-true some.item.target t parts.2)
    (member-map (λ (d : Edge). d.target) some.item _
    (member-filter (λ d. (d.source == s) && bytes_eq d.action a) some.item m.edges some.member
    (and_from (some.item.source == s) (bytes_eq some.item.action a) parts.0 parts.1)))

module _ (g : Graph) (m : Structure) (g_ok : IsGraph g) (m_ok : IsStructure m) (e : Bool) (strategy : ℕ → ℕ)
    (is_strategy : IsStrategyOf (checking_game g m) (opponent (player_of e)) strategy) where
  abbrev place : ℕ → ℕ → ℕ
  place = at g m g_ok m_ok

  abbrev them : Player
  them = opponent (player_of e)

  abbrev pub Lost : ℕ → Type 0
  Lost v = WinsFrom (checking_game g m) them strategy v

  pub record Walked (v w : ℕ) : Type 0 where
    pub lowest : ℕ
    pub high : 2 ≤ lowest
    pub way : FollowedWalk (checking_game g m) them strategy v lowest w

  pub joined : (u v w : ℕ) → Walked u v → Walked v w → Walked u w
  joined u v w a b = record {
    lowest = min a.lowest b.lowest;
    high = omega (arith, a.high, b.high);
    way = walks_joined (checking_game g m) them strategy u a.lowest v b.lowest w a.way b.way;
  }

  kept : (v w : ℕ) → Walked v w → Lost v → Lost w
  kept v w a lost = won_at_end (checking_game g m) them strategy v a.lowest w a.way lost

  -- one step, at a node of the player's or of a single child
  step : (s n t k : ℕ)
      → s < m.states
      → n < size g
      → 2 ≤ priority_at g n
      → IsMember (Pair t k) (successors g m (Pair s n))
      → (mover (node_at g n) ≡ them → place t k ≡ strategy (place s n)) → Walked (place s n) (place t k)
  step s n t k s_low n_low high h chosen = record {
    lowest = priority_of (checking_game g m) (place s n);
    high = omega (arith, high, priority_is g m (Pair s n) (s_low, n_low));
    way = last (place s n) (place t k) (record {
      move = move_to g m g_ok m_ok (Pair s n) (s_low, n_low) (Pair t k) h;
      chosen = λ own. chosen (sym (owner_is g m (Pair s n) (s_low, n_low)) ∙ own);
    });
  }

  own_step : (s n t k : ℕ)
      → s < m.states
      → n < size g
      → 2 ≤ priority_at g n
      → (x : Node)
      → node_at g n ≡ x
      → mover x ≡ player_of e
      → IsMember (Pair t k) (successors_of g m s x) → Walked (place s n) (place t k)
  own_step s n t k s_low n_low high x is own h =
      step s n t k s_low n_low high (subst (λ y. IsMember (Pair t k) (successors_of g m s y)) (sym is) h)
      (λ theirs. absurd (no_own_opponent (player_of e) (sym own ∙ sym (ap mover is) ∙ theirs)))

  -- the strategy's own move is one to a child
  chosen_is : (s n : ℕ)
      → s < m.states
      → n < size g
      → mover (node_at g n) ≡ them
      → (l r : ℕ)
      → successors_of g m s (node_at g n) ≡ Pair s l ∷ Pair s r ∷ []
      → (strategy (place s n) ≡ place s l) ⊎ (strategy (place s n) ≡ place s r)
  chosen_is s n s_low n_low own l r next =
      let move = is_strategy (place s n) (vertex_low g m g_ok m_ok (Pair s n) (s_low, n_low))
      (owner_is g m (Pair s n) (s_low, n_low) ∙ own) in
      let image = move_from g m g_ok m_ok (Pair s n) (s_low, n_low) (strategy (place s n)) move in
      from image.from image.holds (subst (IsMember image.from) next image.member)
    where
      from : (w : Vertex)
          → strategy (place s n) ≡ vertex_number g m w
          → IsMember w (Pair s l ∷ Pair s r ∷ [])
          → (strategy (place s n) ≡ place s l) ⊎ (strategy (place s n) ≡ place s r)
      from w is (inl one) = inl (is ∙ ap (vertex_number g m) one)
      from w is (inr (inl one)) = inr (is ∙ ap (vertex_number g m) one)
      from w is (inr (inr none)) = absurd none

  -- the move of a node that only leads on
  pub single_move : (s n t : ℕ)
      → s < m.states
      → n < size g
      → node_at g n ≡ node.And t t
      → FollowedMove (checking_game g m) them strategy (place s n) (place s t)
  single_move s n t s_low n_low is = record {
    move =
        move_to g m g_ok m_ok (Pair s n) (s_low, n_low) (Pair s t)
        (subst (λ y. IsMember (Pair s t) (successors_of g m s y)) (sym is) (inl refl));
    chosen = λ own. ⊎_elim
        (λ (a : strategy (place s n) ≡ place s t). sym a)
        (λ (a : strategy (place s n) ≡ place s t). sym a)
        (chosen_is s n s_low n_low (sym (owner_is g m (Pair s n) (s_low, n_low)) ∙ own) t t
        (ap (successors_of g m s) is));
  }

  single_step : (s n t : ℕ)
      → s < m.states
      → n < size g
      → 2 ≤ priority_at g n
      → node_at g n ≡ node.And t t
      → Walked (place s n) (place s t)
  single_step s n t s_low n_low high is = record {
    lowest = priority_of (checking_game g m) (place s n);
    high = omega (arith, high, priority_is g m (Pair s n) (s_low, n_low));
    way = last (place s n) (place s t) (single_move s n t s_low n_low is);
  }

  -- at a test whose formula holds the strategy goes on
  test_step : (s n l k : ℕ)
      → s < m.states
      → n < size g
      → 2 ≤ priority_at g n
      → l < size g
      → node_at g n ≡ other_by e l k
      → WinsAt g m g_ok m_ok (player_of e) s l → Lost (place s n) → Walked (place s n) (place s k)
  test_step s n l k s_low n_low high l_low is shown lost =
      step s n s k s_low n_low high (subst (IsMember (Pair s k)) (sym next) (inr (inl refl))) (λ theirs. sym goes)
    where
      next : successors_of g m s (node_at g n) ≡ Pair s l ∷ Pair s k ∷ []
      next = ap (successors_of g m s) is ∙ other_children g m s e l k

      theirs_here : mover (node_at g n) ≡ them
      theirs_here = ap mover is ∙ other_mover e l k

      goes : strategy (place s n) ≡ place s k
      goes = ⊎_elim
          (λ (a : strategy (place s n) ≡ place s l).
          let move = is_strategy (place s n) (vertex_low g m g_ok m_ok (Pair s n) (s_low, n_low))
          (owner_is g m (Pair s n) (s_low, n_low) ∙ theirs_here) in
          let behind = won_behind (checking_game g m) them strategy (place s n) (strategy (place s n))
          (record { move = move; chosen = λ own. refl }) lost in
          let wins : Wins (checking_game g m) them (place s l) =
          record { strategy = strategy; is_strategy = is_strategy; wins = subst Lost a behind } in
          absurd (never_both g m g_ok m_ok (player_of e) (Pair s l) (s_low, l_low) shown wins))
          (λ (a : strategy (place s n) ≡ place s k). a)
          (chosen_is s n s_low n_low theirs_here l k next)

  -- a walk, or none
  abbrev Way : ℕ → ℕ → Type 0
  Way v w = (v ≡ w) ⊎ Walked v w

  way_kept : (v w : ℕ) → Way v w → Lost v → Lost w
  way_kept v w (inl same) lost = subst Lost same lost
  way_kept v w (inr a) lost = kept v w a lost

  way_on : (u v w : ℕ) → Way u v → Walked v w → Walked u w
  way_on u v w (inl same) b = subst (λ x. Walked x w) (sym same) b
  way_on u v w (inr a) b = joined u v w a b

  -- what is claimed of a program at an occurrence
  abbrev Claim : Program → ℕ → ℕ → Type 0
  Claim p i k =
      (s t : ℕ) → s < m.states → t < m.states → relation m p s t ≡ true → Lost (place s (node_of e i)) → Walked
      (place s (node_of e i)) (place t k)

  by_sign : (d : Bool) → 2 ≤ star_priority d
  by_sign true = omega arith
  by_sign false = omega arith

  star_high : (i : ℕ) → priority_at g (node_of e i) ≡ star_priority e → 2 ≤ priority_at g (node_of e i)
  star_high i same = let high = by_sign e in omega (arith, same, high)

  -- of as many rounds of a star
  rounds : (p : Program) (i k : ℕ) → NodesAt g e i k (Star p) → node_of e i < size g → Claim p (i + 1) (node_of e i)
      → (j s t : ℕ) → s < m.states → t < m.states
      → iterate j (λ r. either identity (followed_by m r (relation m p))) identity s t ≡ true
      → Lost (place s (node_of e i)) → Way (place s (node_of e i)) (place t (node_of e i))
  rounds p i k w n_low inner zero s t s_low t_low is lost = inl (ap (λ x. place x (node_of e i)) (eqb-true s t is))
  rounds p i k w n_low inner (suc j) s t s_low t_low is lost =
      ⊎_elim
      (λ (same : (s == t) ≡ true). inl (ap (λ x. place x (node_of e i)) (eqb-true s t same)))
      (λ (more : followed_by m before (relation m p) s t ≡ true).
      let some = run_of m (before) (λ u. relation m p u t) s more in
      let u : ℕ = some.state in
      let first = rounds p i k w n_low inner j s u s_low some.low some.run lost in
      let begin = own_step u (node_of e i) u (node_of e (i + 1)) some.low n_low (star_high i w.1)
      (own_by e k (node_of e (i + 1))) w.0 (own_mover e k (node_of e (i + 1)))
      (subst (IsMember (Pair u (node_of e (i + 1)))) (sym (own_children g m u e k (node_of e (i + 1))))
      (inr (inl refl))) in
      let there = kept (place u (node_of e i)) (place u (node_of e (i + 1))) begin
      (way_kept (place s (node_of e i)) (place u (node_of e i)) first lost) in
      inr (way_on (place s (node_of e i)) (place u (node_of e i)) (place t (node_of e i)) first
      (joined (place u (node_of e i)) (place u (node_of e (i + 1))) (place t (node_of e i)) begin
      (inner u t some.low t_low some.inside there))))
      (or_cases (s == t) (followed_by m before (relation m p) s t) is)
    where
      before : Relation
      before = iterate j (λ r. either identity (followed_by m r (relation m p))) identity

  first_low : (i n : ℕ) → 2 * (i + (1 + n)) ≤ size g → node_of e i < size g
  first_low i n room = let range = node_range e i in omega (arith, room, range.1)

  pub walked : (p : Program) (i k : ℕ)
      → NodesAt g e i k p
      → Tests g m g_ok m_ok e i p
      → 2 * (i + program_occurrences p) ≤ size g
      → Claim p i k
  walked (Act name) i k w tests room s t s_low t_low is lost =
      let pairs = go_pairs g m s e w.0 k in
      own_step s (node_of e i) t k s_low (first_low i 0 room) (omega (arith, w.2)) (go_by e w.0 k) w.1
      (go_mover e w.0 k)
      (subst (IsMember (Pair t k)) (sym pairs.1) (pair_member k pairs.0 t (targets m s (action_at g w.0))
      (subst (λ x. IsMember t (targets m s x)) (sym w.3) (edge_target m name s t is))))
  walked (Seq p q) i k w tests room s t s_low t_low is lost =
      let some = run_of m (relation m p) (λ u. relation m q u t) s is in
      let u : ℕ = some.state in
      let l : ℕ = i + 1 in
      let r : ℕ = i + 1 + program_occurrences p in
      let begin = single_step s (node_of e i) (node_of e l) s_low
      (first_low i (program_occurrences p + program_occurrences q) (omega (arith, room))) (omega (arith, w.1)) w.0 in
      let at_p = kept (place s (node_of e i)) (place s (node_of e l)) begin lost in
      let through = walked p l (node_of e r) w.2 tests.0 (omega (arith, room)) s u s_low some.low some.run at_p in
      let at_q = kept (place s (node_of e l)) (place u (node_of e r)) through at_p in
      joined (place s (node_of e i)) (place s (node_of e l)) (place t k) begin
      (joined (place s (node_of e l)) (place u (node_of e r)) (place t k) through
      (walked q r k w.3 tests.1 (omega (arith, room)) u t some.low t_low some.inside at_q))
  walked (Alt p q) i k w tests room s t s_low t_low is lost =
      let l : ℕ = i + 1 in
      let r : ℕ = i + 1 + program_occurrences p in
      let n_low = first_low i (program_occurrences p + program_occurrences q) (omega (arith, room)) in
      let high : 2 ≤ priority_at g (node_of e i) = omega (arith, w.1) in
      let to_l = own_step s (node_of e i) s (node_of e l) s_low n_low high (own_by e (node_of e l) (node_of e r)) w.0
      (own_mover e (node_of e l) (node_of e r))
      (subst (IsMember (Pair s (node_of e l))) (sym (own_children g m s e (node_of e l) (node_of e r))) (inl refl)) in
      let to_r = own_step s (node_of e i) s (node_of e r) s_low n_low high (own_by e (node_of e l) (node_of e r)) w.0
      (own_mover e (node_of e l) (node_of e r))
      (subst (IsMember (Pair s (node_of e r))) (sym (own_children g m s e (node_of e l) (node_of e r)))
      (inr (inl refl))) in
      ⊎_elim
      (λ (a : relation m p s t ≡ true). joined (place s (node_of e i)) (place s (node_of e l)) (place t k) to_l
      (walked p l k w.2 tests.0 (omega (arith, room)) s t s_low t_low a
      (kept (place s (node_of e i)) (place s (node_of e l)) to_l lost)))
      (λ (a : relation m q s t ≡ true). joined (place s (node_of e i)) (place s (node_of e r)) (place t k) to_r
      (walked q r k w.3 tests.1 (omega (arith, room)) s t s_low t_low a
      (kept (place s (node_of e i)) (place s (node_of e r)) to_r lost)))
      (or_cases (relation m p s t) (relation m q s t) is)
  walked (Star p) i k w tests room s t s_low t_low is lost =
      let l : ℕ = i + 1 in
      let n_low = first_low i (program_occurrences p) (omega (arith, room)) in
      let way = rounds p i k w n_low (walked p l (node_of e i) w.2 tests (omega (arith, room))) m.states s t s_low t_low
      is lost in
      way_on (place s (node_of e i)) (place t (node_of e i)) (place t k) way
      (own_step t (node_of e i) t k t_low n_low (star_high i w.1) (own_by e k (node_of e l)) w.0
      (own_mover e k (node_of e l))
      (subst (IsMember (Pair t k)) (sym (own_children g m t e k (node_of e l))) (inl refl)))
  walked (Test f) i k w tests room s t s_low t_low is lost =
      let l : ℕ = i + 1 in
      let parts = and_parts (s == t) (is_member (meaning m f) s) is in
      subst (λ x. Walked (place s (node_of e i)) (place x k)) (eqb-true s t parts.0)
      (test_step s (node_of e i) (node_of e l) k s_low (first_low i (occurrences f) (omega (arith, room)))
      (omega (arith, w.1)) (tested_low g e i f room) w.0
      ((tests s s_low).1 parts.1) lost)
