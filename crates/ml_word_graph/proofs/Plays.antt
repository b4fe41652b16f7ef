-- Plays of the checking game on a formula's graph that follow the choice of a player, from a good vertex.
--
-- All their vertices are good for the player. On the loop the level of nodes never falls, so the loop stays at one occurrence,
-- or at the part of the root on edges, or at a sink.
--
--   strategy, is_strategy == the player's choice, by numbers
--   At v                  == the vertex v is good
--   all_good              == all vertices of the play are
--   OnAt s p              == the pair of the state s and the node p is on the loop, and good
--   on_stay               == the loop goes on to the child at the same level
--   on_left               == where the player picks, the left child isn't good, if it is lower
use Rattle.std.proofs.Common.{◌≡◌, ℕ, ◌+◌, ◌<◌, ◌≤◌, ◌⊎◌, Bool, List, [], ◌∷◌, Option, None, Some, Contains}
use Rattle.std.proofs.Common.{length, get_or, map, slice_get, inl, inr, refl, sym, ap, subst, ◌∙◌, ⊎_elim, arith}
use Rattle.std.proofs.lemmas.Bool.{cases_lt}
use Rattle.std.proofs.lemmas.List.{get_or-map, length-map}
use Rattle.ml_lists.specs.Lasso.{Lasso, round}
use Rattle.ml_lists.specs.Member.{IsMember}
use Rattle.ml_lists.proofs.Lasso.{on_loop, loop_length, loop_closed, lasso_keeps}
use Rattle.ml_lists.proofs.Loops.{loop_is_flat}
use Rattle.ml_lists.proofs.Member.{member-map, member-map_from, place-member}
use Rattle.ml_lists.proofs.Members.{member_of_contains, contains_of_member}
use Rattle.ml_base.specs.Structure.{Structure}
use Rattle.ml_parity.specs.Game.{ParityGame, HasMove, moves_of, owner_of}
use Rattle.ml_parity.specs.Winner.{IsPlay, IsStrategyOf, Follows}
use Rattle.ml_graph.specs.Graph.{Graph, IsGraph}
use Rattle.ml_graph.specs.CheckingGame.{Vertex, Pair, Sink, checking_game, owner_at, successors, vertex_number, vertices}
use Rattle.ml_graph.proofs.CheckingGame.{IsVertex, is_vertex, leads_to_vertices, moves_are, owner_is, vertex_at, same_vertex}
use Rattle.ml_word_graph.specs.Problem.{IsAdmitted}
use Rattle.ml_word_graph.specs.WordGraph.{Place, IsNumberOf, IsNumberedBy, form_of}
use Rattle.ml_word_graph.proofs.NodeValues.{node_value}
use Rattle.ml_word_graph.proofs.Levels.{IsLinear, Stays, level, child_level, stays_level}
use Rattle.ml_word_graph.proofs.Moves.{ChildOf, Good, StepBy, chosen, chosen_left, choose, good_pair, good_sink, good_vertex, own_form, pair_step, player_of, state_behind, verdict}

abbrev pub place_level : Option Place → ℕ
place_level None = 0
place_level (Some p) = 1 + level p

module _ (g : Graph) (m : Structure) (ok : IsAdmitted m) (root : Place) (places : List Place) (nb : IsNumberedBy g root places)
    (linear : IsLinear root) (g_ok : IsGraph g) (b : Bool) where
  abbrev pub G : ParityGame
  G = checking_game g m

  abbrev pub number : Vertex → ℕ
  number u = vertex_number g m u

  abbrev pub IsGood : Vertex → Type 0
  IsGood u = Good g m ok root places nb linear b u

  abbrev pub choice : Vertex → Vertex
  choice u = choose g m ok root places nb linear b u

  abbrev pub vertex_of : ℕ → Vertex
  vertex_of v = get_or (vertices g m) v (Sink 0)

  abbrev pub strategy : ℕ → ℕ
  strategy v = vertex_number g m (choose g m ok root places nb linear b (get_or (vertices g m) v (Sink 0)))

  is_good : (u : Vertex) → IsGood u → IsVertex g m u
  is_good u good = good_vertex g m ok root places nb linear b u good

  choice_member : (u : Vertex) → IsVertex g m u → IsMember (choice u) (successors g m u)
  choice_member u is = chosen g m ok root places nb linear b u is

  pub is_strategy : IsStrategyOf G (player_of b) strategy
  is_strategy v low own =
      let in_list : v < length (vertices g m) = omega (arith, low, length-map (vertices g m) (owner_at g)) in
      let u : Vertex = vertex_of v in
      let is : IsVertex g m u = is_vertex g m u (place-member (vertices g m) v (Sink 0) in_list) in
      let moves : moves_of G v ≡ map number (successors g m u) =
      get_or-map (λ x. map number (successors g m x)) (vertices g m) v (Sink 0) [] in_list in
      subst (λ (ws : List ℕ). Contains ws (strategy v)) (sym moves)
      (contains_of_member (strategy v) (map number (successors g m u)) (member-map number (choice u) (successors g m u) (choice_member u is)))

  -- a move that follows the choice
  pub record Went (u w : Vertex) : Type 0 where
    pub member : IsMember w (successors g m u)
    pub by_choice : owner_at g u ≡ player_of b → w ≡ choice u

  step_by : (s n : ℕ) (p : Place) (w : Vertex) → s < m.states → IsNumberOf places n p → node_value m ok p s ≡ b → Went (Pair s n) w
      → StepBy g m ok root places nb linear (form_of p) s b w
  step_by s n p w low is value went =
      pair_step g m ok root places nb linear s low w n p b is value went.member went.by_choice

  pub good_step : (u w : Vertex) → IsGood u → Went u w → IsGood w
  good_step u w (good_pair s n p low is value) went =
      ⊎_elim
      (λ (c : ChildOf g m ok root places nb linear (form_of p) s b w).
      subst IsGood (sym c.is)
      (good_pair (state_behind g m ok root places nb linear (form_of p) s) c.number c.child c.low c.is_number c.value))
      (λ (sink : w ≡ Sink (verdict b)). subst IsGood (sym sink) (good_sink (verdict b) refl))
      (step_by s n p w low is value went)
  good_step u w (good_sink k is) went = one went.member
    where
      one : IsMember w (Sink k ∷ []) → IsGood w
      one (inl same) = subst IsGood (sym same) (good_sink k is)
      one (inr none) = absurd none

  -- ---- levels

  abbrev pub level_of : Vertex → ℕ
  level_of (Pair s n) = place_level (slice_get places n)
  level_of (Sink k) = 0

  level_is : (s n : ℕ) (p : Place) → IsNumberOf places n p → level_of (Pair s n) ≡ 1 + level p
  level_is s n p is = ap place_level is

  never_up : (u w : Vertex) → IsGood u → Went u w → level_of w ≤ level_of u
  never_up u w (good_pair s n p low is value) went =
      ⊎_elim
      (λ (c : ChildOf g m ok root places nb linear (form_of p) s b w).
      let at = ap level_of c.is ∙ level_is (state_behind g m ok root places nb linear (form_of p) s) c.number c.child c.is_number in
      let here = level_is s n p is in
      ⊎_elim (λ (less : level c.child < level p). omega (arith, at, here, less))
      (λ (stays : Stays p c.child). omega (arith, at, here, stays_level p c.child stays)) (child_level p c.child c.is_child))
      (λ (sink : w ≡ Sink (verdict b)). omega (arith, ap level_of sink))
      (step_by s n p w low is value went)
  never_up u w (good_sink k is) went = one went.member
    where
      one : IsMember w (Sink k ∷ []) → level_of w ≤ 0
      one (inl same) = omega (arith, ap level_of same)
      one (inr none) = absurd none

  -- ---- plays

  module _ (l : Lasso) (play : IsPlay G l) (follows : Follows G (player_of b) strategy l) where
    abbrev at : ℕ → ℕ
    at k = get_or (round l) k 0

    pub record At (v : ℕ) : Type 0 where
      pub vertex : Vertex
      pub is : v ≡ number vertex
      pub good : IsGood vertex

    record Step (v : ℕ) (u : Vertex) : Type 0 where
      pub to : Vertex
      pub is : v ≡ number to
      pub went : Went u to
      pub vertex : IsVertex g m to

    step : (k : ℕ) → k < length l.entries → (u : Vertex) → IsVertex g m u → at k ≡ number u → Step (at (k + 1)) u
    step k low u u_is is =
        let move : HasMove G (number u) (at (k + 1)) = subst (λ v. HasMove G v (at (k + 1))) is (play.joined k low) in
        let image =
        member-map_from number (at (k + 1)) (successors g m u)
        (member_of_contains (at (k + 1)) (map number (successors g m u))
        (subst (λ (xs : List ℕ). Contains xs (at (k + 1))) (moves_are g m u u_is) move)) in
        let w_is = leads_to_vertices g m g_ok ok.is_structure u u_is image.from image.member in
        let c_is = leads_to_vertices g m g_ok ok.is_structure u u_is (choice u) (choice_member u u_is) in
        record {
          to = image.from;
          is = image.holds;
          vertex = w_is;
          went = record {
            member = image.member;
            by_choice = λ own. same_vertex g m image.from (choice u) w_is c_is
                (sym image.holds ∙ follows k low (ap (owner_of G) is ∙ owner_is g m u u_is ∙ own) ∙ ap strategy is
                ∙ ap (λ x. number (choice x)) (vertex_at g m u u_is));
          };
        }

    module _ (first : At (at 0)) where
      pub all_good : (k : ℕ) → k ≤ length l.entries → At (at k)
      all_good =
          lasso_keeps l At
          (λ k low a. let s = step k low a.vertex (is_good a.vertex a.good) a.is in
          record { vertex = s.to; is = s.is; good = good_step a.vertex s.to a.good s.went })
          first

      -- ---- the loop

      abbrev pub on : ℕ → ℕ
      on k = on_loop l k

      pub loop_good : (k : ℕ) → k ≤ loop_length l → At (on_loop l k)
      loop_good k low = all_good (l.start + k) (omega (arith, low, play.starts))

      loop_step : (k : ℕ) → k < loop_length l → (u : Vertex) → IsVertex g m u → on k ≡ number u → Step (on (k + 1)) u
      loop_step k low u u_is is =
          let same : (l.start + k) + 1 ≡ l.start + (k + 1) = omega arith in
          subst (λ j. Step (at j) u) same (step (l.start + k) (omega (arith, low)) u u_is is)

      rank : ℕ → ℕ
      rank k = level_of (vertex_of (on k))

      rank_is : (k : ℕ) (u : Vertex) → IsVertex g m u → on k ≡ number u → rank k ≡ level_of u
      unfolding rank
      rank_is k u u_is is = ap (λ v. level_of (vertex_of v)) is ∙ ap level_of (vertex_at g m u u_is)

      closed : on (loop_length l) ≡ on 0
      closed = loop_closed l play.starts

      rank_closed : rank (loop_length l) ≡ rank 0
      unfolding rank
      rank_closed = ap (λ v. level_of (vertex_of v)) closed

      rank_steps : (k : ℕ) → k < loop_length l → rank (k + 1) ≤ rank k
      rank_steps k low =
          let a = loop_good k (omega (arith, low)) in
          let s = loop_step k low a.vertex (is_good a.vertex a.good) a.is in
          omega (
            arith,
            rank_is k a.vertex (is_good a.vertex a.good) a.is,
            rank_is (k + 1) s.to s.vertex s.is,
            never_up a.vertex s.to a.good s.went,
          )

      never_falls : (k : ℕ) → k < loop_length l → (u : Vertex) → IsVertex g m u → (w : Vertex) → IsVertex g m w → on k ≡ number u
          → on (k + 1) ≡ number w → level_of w < level_of u → ⊥
      never_falls k low u u_is w w_is u_at w_at falls =
          loop_is_flat rank (loop_length l) rank_closed rank_steps k low
          (omega (arith, rank_is k u u_is u_at, rank_is (k + 1) w w_is w_at, falls))

      pub record OnAt (s : ℕ) (p : Place) : Type 0 where
        pub node : ℕ
        pub is_number : IsNumberOf places node p
        pub low : s < m.states
        pub value : node_value m ok p s ≡ b
        pub place : ℕ
        pub place_low : place < loop_length l
        pub at : on_loop l place ≡ vertex_number g m (Pair s node)

      on_vertex : (s : ℕ) (p : Place) (o : OnAt s p) → IsVertex g m (Pair s o.node)
      on_vertex s p o = is_good (Pair s o.node) (good_pair s o.node p o.low o.is_number o.value)

      next_on : (s : ℕ) (p : Place) (o : OnAt s p) → Step (on (o.place + 1)) (Pair s o.node)
      next_on s p o = loop_step o.place o.place_low (Pair s o.node) (on_vertex s p o) o.at

      -- the loop goes on to the child at the same level
      pub record Staying (s : ℕ) (p : Place) : Type 0 where
        pub child : Place
        pub stays : Stays p child
        pub on : OnAt (state_behind g m ok root places nb linear (form_of p) s) child

      pub on_stay : (s : ℕ) (p : Place) → OnAt s p → Staying s p
      on_stay s p o =
          ⊎_elim (λ (c : ChildOf g m ok root places nb linear (form_of p) s b st.to). from_child c)
          (λ (sink : st.to ≡ Sink (verdict b)).
          absurd (falls (omega (arith, ap level_of sink, level_is s o.node p o.is_number))))
          (step_by s o.node p st.to o.low o.is_number o.value st.went)
        where
          st : Step (on (o.place + 1)) (Pair s o.node)
          st = next_on s p o

          falls : level_of st.to < level_of (Pair s o.node) → ⊥
          falls less = never_falls o.place o.place_low (Pair s o.node) (on_vertex s p o) st.to st.vertex o.at st.is less

          from_child : ChildOf g m ok root places nb linear (form_of p) s b st.to → Staying s p
          from_child c =
              ⊎_elim
              (λ (less : level c.child < level p).
              absurd (falls (omega (
                arith,
                ap level_of c.is ∙ level_is (state_behind g m ok root places nb linear (form_of p) s) c.number c.child c.is_number,
                level_is s o.node p o.is_number,
                less,
              ))))
              (λ (stays : Stays p c.child). record { child = c.child; stays = stays; on = placed (cases_lt (o.place + 1) (loop_length l)) })
              (child_level p c.child c.is_child)
            where
              there : on (o.place + 1) ≡ number (Pair (state_behind g m ok root places nb linear (form_of p) s) c.number)
              there = st.is ∙ ap number c.is

              placed : (o.place + 1 < loop_length l) ⊎ (loop_length l ≤ o.place + 1)
                  → OnAt (state_behind g m ok root places nb linear (form_of p) s) c.child
              placed (inl low) = record {
                node = c.number;
                is_number = c.is_number;
                low = c.low;
                value = c.value;
                place = o.place + 1;
                place_low = low;
                at = there;
              }
              placed (inr last) =
                  let same : loop_length l ≡ o.place + 1 = omega (arith, last, o.place_low) in
                  record {
                    node = c.number;
                    is_number = c.is_number;
                    low = c.low;
                    value = c.value;
                    place = 0;
                    place_low = omega (arith, o.place_low);
                    at = sym closed ∙ ap on same ∙ there;
                  }

      -- where the player picks, the left child isn't good, if it is lower
      pub on_left : (s : ℕ) (p x y : Place) → OnAt s p → form_of p ≡ own_form b x y → level x < level p → node_value m ok x s ≡ b → ⊥
      on_left s p x y o form less value =
          let st = next_on s p o in
          let left = chosen_left g m ok root places nb linear s o.low st.to o.node p x y b o.is_number form value st.went.by_choice in
          never_falls o.place o.place_low (Pair s o.node) (on_vertex s p o) st.to st.vertex o.at st.is
          (omega (arith, ap level_of left.2 ∙ level_is s left.0 x left.1, level_is s o.node p o.is_number, less))
