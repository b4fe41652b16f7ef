-- What a play of the checking game does at a state of the model, while it follows a strategy of Odd's that wins.
--
-- It is at a node of the state's spread. The node doesn't hold, so it is no literal and no constant: the spread has
-- no clash, and the labels are its positive literals. At an And the play goes to a child by Odd's choice, at an Or to
-- the child that Even's moves chose, at a diamond to the state to which it leads, and at a square along an edge of
-- Odd's choice.
--
--   Rival            == a strategy of Odd's in the checking game of the model
--   pair, OddMove, OddWalk == the vertex of a state and a node; a move, and a walk, that follow Odd's strategy
--   AtState          == a state of the model, with its position, which Even's moves win
--   Next, next_at    == the state to which a diamond leads
--   Crossing         == a move of the play from a node to a node of a next state
--   AtNode, at_node  == what the play does at a node: it goes to a child, or crosses to a next state
use Rattle.std.proofs.Common.{ℕ, ◌≡◌, inl, inr, Bool, true, false, List, [], ◌∷◌, map, slice_get, slice_index_or, Option, Some, None, Contains, refl, sym, ap, ◌∙◌, subst}
use Rattle.ml_base.proofs.Listing.{lists_iff}
use Rattle.ml_base.specs.Structure.{lists}
use Rattle.ml_lists.specs.Member.{IsMember}
use Rattle.ml_lists.proofs.Member.{Image, member-map, member-map_from, member-filter}
use Rattle.ml_lists.proofs.Members.{member_of_contains, contains_of_member, contains_none}
use Rattle.ml_graph.specs.declared.node.Node.{Node}
use Rattle.ml_graph.specs.declared.node.Node.TheVariants as node
use Rattle.ml_graph.specs.Graph.{node_at, prop_at, action_at}
use Rattle.ml_graph.specs.CheckingGame.{Vertex, Pair, mover, vertex_number, successors, successors_of, pairs_or_sink, targets, checking_game}
use Rattle.ml_graph.specs.Laws.{NodeHolds}
use Rattle.ml_graph.proofs.CheckingGame.{IsVertex, owner_is, moves_are, is_game}
use Rattle.ml_graph.proofs.OneStep.{one_step, vertex_low, pair_member}
use Rattle.ml_graph.proofs.Places.{same_place}
use Rattle.ml_graph.proofs.References.{prop_in_range, diamond_action, square_action}
use Rattle.ml_parity.specs.declared.players.Player.TheVariants.{Even, Odd}
use Rattle.ml_parity.specs.Game.{HasMove, owner_of}
use Rattle.ml_parity.specs.Winner.{IsStrategyOf, WinsFrom}
use Rattle.ml_parity.proofs.FollowedWalks.{FollowedMove, FollowedWalk, won_behind}
use Rattle.ml_parity.proofs.Winners.{clash}
use Rattle.ml_sequent.specs.declared.choice.Side.{Side}
use Rattle.ml_sequent.specs.declared.choice.Side.TheVariants.{Left, Right}
use Rattle.ml_sequent.specs.declared.clashes.ClashCause.TheVariants as cause
use Rattle.ml_sequent.specs.Choice.{side_of, chosen}
use Rattle.ml_sequent.specs.LocalWalk.{stays, goes, children, children_of, chosen_child}
use Rattle.ml_sequent.specs.Spread.{IsPair, is_diamond}
use Rattle.ml_sequent.specs.Step.{LeadsOut}
use Rattle.ml_product.specs.Position.{Position, Follows}
use Rattle.ml_product.specs.DecisionGame.{diamonds_of}
use Rattle.ml_product.specs.Arena.{game_of}
use Rattle.ml_product.proofs.ArenaGame.{same_entry}
use Rattle.ml_lists.proofs.Member.{member_of_get}
use Rattle.ml_extract.specs.Model.{PositionAt, State, nexts, IsLabel, IsModelEdge}
use Rattle.ml_extract.proofs.Setting.{Setting, board, even_moves, WonByMoves, EvenMove}
use Rattle.ml_sequent.proofs.LocalLoops.{spread_along}
use Rattle.ml_extract.proofs.Choosing.{Chosen, down, Way, way_of, way_for}
use Rattle.ml_extract.proofs.Numbering.{StateAt, state_for, state_low, is_structure, edge_for, target_in, EdgeTo, target_from}

-- a strategy of Odd's in the checking game of the model
pub record Rival (S : Setting) : Type 0 where
  pub moves : ℕ → ℕ
  pub is_strategy : IsStrategyOf (checking_game S.g S.m) Odd moves

abbrev pub pair : Setting → ℕ → ℕ → ℕ
pair S i n = vertex_number S.g S.m (Pair i n)

abbrev pub OddMove : (S : Setting) → Rival S → ℕ → ℕ → Type 0
OddMove S R v w = FollowedMove (checking_game S.g S.m) Odd R.moves v w

abbrev pub OddWalk : (S : Setting) → Rival S → ℕ → ℕ → ℕ → Type 0
OddWalk S R v k w = FollowedWalk (checking_game S.g S.m) Odd R.moves v k w

abbrev pub OddWins : (S : Setting) → Rival S → ℕ → ℕ → Type 0
OddWins S R i n = WinsFrom (checking_game S.g S.m) Odd R.moves (pair S i n)

-- a state of the model, with its position, which Even's moves win
pub record AtState (S : Setting) : Type 0 where
  pub number : ℕ
  pub state : State
  pub is_state : slice_get S.model.states number ≡ Some state
  pub position : Position
  pub stands : PositionAt S.a state.first position
  pub won : WonByMoves S state.first

-- the position that Even's moves end with there
pub resolved_at : (S : Setting) (t : AtState S) → Chosen (board S) t.position t.state.first t.state.last t.state.spread
resolved_at S t =
    down (board S) t.state.first t.state.last t.state.spread
    (S.model.are_states.chosen t.state (member_of_get S.model.states t.number t.state t.is_state))
    t.position t.stands t.won

module _ (S : Setting) (t : AtState S) where
  abbrev pub end_of : Position
  end_of = (resolved_at S t).position

  -- the nodes of the sequent are in the spread
  pub in_spread : (n : ℕ) → IsMember n t.position.sequent → IsMember n t.state.spread.nodes
  in_spread n m = ((resolved_at S t).is_spread.nodes n).1 (record {
    from = n;
    member = subst (IsMember n) (sym (resolved_at S t).sequent_is) m;
    lowest = _;
    walk = stays n;
  })

  -- and so are the children of those that are
  pub child_in : (n e : ℕ)
      → IsMember n t.state.spread.nodes
      → IsMember e (children S.g t.state.spread.choice n)
      → IsMember e t.state.spread.nodes
  child_in n e m child =
      let c = resolved_at S t in
      let is = subst (λ d. IsMember e (children S.g d n)) c.is_spread.choice child in
      (c.is_spread.nodes e).1 (spread_along S.g c.position.choice c.position.sequent n _ e ((c.is_spread.nodes n).0 m)
      (goes n e is (stays e)))

  -- the state to which a diamond leads
  pub record Next (d : ℕ) : Type 0 where
    pub place : AtState S
    pub member : IsMember d t.state.spread.nodes
    pub follows : Follows S.g (resolved_at S t).position t.state.spread d place.position
    pub step : EvenMove S t.state.last place.state.first

  pub next_at : (d j : ℕ) (y : State)
      → slice_get S.model.states j ≡ Some y
      → IsMember (d, y.first) (nexts S.g S.a t.state)
      → Next d
  next_at d j y is leads =
      from (way_of (board S) t.position t.state.first t.state.last t.state.spread (resolved_at S t) d y.first leads)
    where
      from : Way (board S) (resolved_at S t).position t.state.spread t.state.last d y.first → Next d
      from w = record {
        place = record {
          number = j;
          state = y;
          is_state = is;
          position = w.position;
          stands = w.stands;
          won = won_behind (game_of S.a) Even (even_moves S) t.state.last y.first w.move (resolved_at S t).won;
        };
        member = w.inside;
        follows = w.follows;
        step = w.move;
      }

  module _ (R : Rival S) where
    -- a move of the play from a node to a node of a next state
    pub record Crossing (n : ℕ) : Type 0 where
      pub diamond : ℕ
      pub next : Next diamond
      pub child : ℕ
      pub leads : LeadsOut S.g t.state.spread diamond n child
      pub move : OddMove S R (pair S t.number n) (pair S next.place.number child)

    pub data AtNode (n : ℕ) : Type 0 where
      inside : (e : ℕ)
          → IsMember e (children S.g t.state.spread.choice n)
          → OddMove S R (pair S t.number n) (pair S t.number e)
          → AtNode n
      crosses : Crossing n → AtNode n

    module _ (n : ℕ) (member : IsMember n t.state.spread.nodes) (wins : OddWins S R t.number n) where
      vertex : IsVertex S.g S.m (Pair t.number n)
      vertex = (state_low S t.number t.state t.is_state, (resolved_at S t).is_spread.low n member)

      -- the node doesn't hold
      not_holding : NodeHolds S.g S.m t.number (node_at S.g n) → ⊥
      not_holding h =
          let m_ok = is_structure S in
          let even = (one_step S.g S.m S.g_ok m_ok t.number n vertex.0 vertex.1).1 h in
          clash (checking_game S.g S.m) (is_game S.g S.m S.g_ok m_ok) Even (pair S t.number n)
          (vertex_low S.g S.m S.g_ok m_ok (Pair t.number n) vertex) even
          (record { strategy = R.moves; is_strategy = R.is_strategy; wins = wins })

      -- a move at a vertex of Even's
      free_move : mover (node_at S.g n) ≡ Even → (w : Vertex) → IsMember w (successors S.g S.m (Pair t.number n))
          → OddMove S R (pair S t.number n) (vertex_number S.g S.m w)
      free_move own w h = record {
        move = subst (λ ws. Contains ws (vertex_number S.g S.m w)) (sym (moves_are S.g S.m (Pair t.number n) vertex))
            (contains_of_member (vertex_number S.g S.m w) (map (vertex_number S.g S.m)
            (successors S.g S.m (Pair t.number n)))
            (member-map (vertex_number S.g S.m) w (successors S.g S.m (Pair t.number n)) h));
        chosen =
            λ odd. absurd (let wrong : Even ≡ Odd = sym own ∙ sym (owner_is S.g S.m (Pair t.number n) vertex)
            ∙ odd in cc);
      }

      -- Odd's move at a vertex of Odd's
      pub record Reply : Type 0 where
        pub to : Vertex
        pub successor : IsMember to (successors S.g S.m (Pair t.number n))
        pub reply : OddMove S R (pair S t.number n) (vertex_number S.g S.m to)

      odd_reply : mover (node_at S.g n) ≡ Odd → Reply
      odd_reply own =
          from (member-map_from (vertex_number S.g S.m) (R.moves (pair S t.number n))
          (successors S.g S.m (Pair t.number n)) among)
        where
          owned : owner_of (checking_game S.g S.m) (pair S t.number n) ≡ Odd
          owned = owner_is S.g S.m (Pair t.number n) vertex ∙ own

          move : HasMove (checking_game S.g S.m) (pair S t.number n) (R.moves (pair S t.number n))
          move =
              R.is_strategy (pair S t.number n) (vertex_low S.g S.m S.g_ok (is_structure S) (Pair t.number n) vertex)
              owned

          among : IsMember (R.moves (pair S t.number n)) (map (vertex_number S.g S.m)
              (successors S.g S.m (Pair t.number n)))
          among =
              member_of_contains (R.moves (pair S t.number n)) (map (vertex_number S.g S.m)
              (successors S.g S.m (Pair t.number n)))
              (subst (λ ws. Contains ws (R.moves (pair S t.number n))) (moves_are S.g S.m (Pair t.number n) vertex)
              move)

          from : Image (vertex_number S.g S.m) (R.moves (pair S t.number n)) (successors S.g S.m (Pair t.number n))
              → Reply
          from i = record {
            to = i.from;
            successor = i.member;
            reply = record {
              move = subst (HasMove (checking_game S.g S.m) (pair S t.number n)) i.holds move;
              chosen = λ odd. sym i.holds;
            };
          }

      -- ---- literals

      positive : (p : ℕ) → node_at S.g n ≡ node.Lit p true → lists S.m t.number (prop_at S.g p) ≡ true
      positive p is =
          let name = prop_at S.g p in
          let label : IsLabel S.g t.state name =
          record { literal = n; prop = p; member = member; is_positive = is; named = refl } in
          (lists_iff S.m t.number name).1 (contains_of_member name (slice_index_or S.m.labels t.number [])
          ((S.model.labels t.number t.state t.is_state name).1 label))

      -- both literals of a proposition would be a clash
      no_partner : (p : ℕ) → node_at S.g n ≡ node.Lit p false → IsLabel S.g t.state (prop_at S.g p) → ⊥
      no_partner p is label =
          let partner_low = (resolved_at S t).is_spread.low label.literal label.member in
          let same : p ≡ label.prop =
          same_place S.g.props S.g_ok.props_differ p label.prop (prop_in_range S.g S.g_ok n vertex.1 p false is)
          (prop_in_range S.g S.g_ok label.literal partner_low label.prop true label.is_positive) label.named in
          let two : IsPair S.g label.literal n = record {
            prop = p;
            positive = subst (λ q. node_at S.g label.literal ≡ node.Lit q true) (sym same) label.is_positive;
            negative = is;
          } in
          (resolved_at S t).resolved.no_clash (cause.Pair label.literal n) (label.member, member, two)

      negative : (p : ℕ)
          → node_at S.g n ≡ node.Lit p false
          → (b : Bool)
          → lists S.m t.number (prop_at S.g p) ≡ b
          → lists S.m t.number (prop_at S.g p) ≡ false
      negative p is false e = e
      negative p is true e =
          let name = prop_at S.g p in
          absurd (no_partner p is ((S.model.labels t.number t.state t.is_state name).0
          (member_of_contains name (slice_index_or S.m.labels t.number []) ((lists_iff S.m t.number name).0 e))))

      literal : (p : ℕ) (sign : Bool) → node_at S.g n ≡ node.Lit p sign → ⊥
      literal p true is = not_holding (subst (NodeHolds S.g S.m t.number) (sym is) (positive p is))
      literal p false is =
          not_holding (subst (NodeHolds S.g S.m t.number) (sym is)
          (negative p is (lists S.m t.number (prop_at S.g p)) refl))

      -- ---- local moves

      at_and : (l r : ℕ) → node_at S.g n ≡ node.And l r → AtNode n
      at_and l r is = from (odd_reply (ap mover is))
        where
          child : (e : ℕ) → IsMember e (l ∷ r ∷ []) → IsMember e (children S.g t.state.spread.choice n)
          child e h = subst (λ x. IsMember e (children_of t.state.spread.choice n x)) (sym is) h

          by_place : (w : Vertex)
              → OddMove S R (pair S t.number n) (vertex_number S.g S.m w)
              → IsMember w (Pair t.number l ∷ Pair t.number r ∷ [])
              → AtNode n
          by_place w move (inl left) =
              inside l (child l (inl refl)) (subst (λ v. OddMove S R (pair S t.number n) (vertex_number S.g S.m v))
              left move)
          by_place w move (inr (inl right)) =
              inside r (child r (inr (inl refl))) (subst (λ v. OddMove S R (pair S t.number n)
              (vertex_number S.g S.m v)) right move)
          by_place w move (inr (inr none)) = absurd none

          from : Reply → AtNode n
          from o = by_place o.to o.reply (subst (IsMember o.to) (ap (successors_of S.g S.m t.number) is) o.successor)

      side_member : (i l r : ℕ) (x : Side) → IsMember (Pair i (chosen x l r)) (Pair i l ∷ Pair i r ∷ [])
      side_member i l r Left = inl refl
      side_member i l r Right = inr (inl refl)

      at_or : (l r : ℕ)
          → node_at S.g n ≡ node.Or l r
          → (o : Option Side)
          → side_of t.state.spread.choice n ≡ o
          → AtNode n
      at_or l r is None side =
          absurd ((resolved_at S t).resolved.none_open n (record {
            member = member;
            is_open = record { left = l; right = r; is_or = is; unchosen = side };
          }))
      at_or l r is (Some x) side =
          let first : IsMember (chosen x l r) (chosen_child (side_of t.state.spread.choice n) l r) =
          subst (λ o. IsMember (chosen x l r) (chosen_child o l r)) (sym side) (inl refl) in
          inside (chosen x l r) (subst (λ y. IsMember (chosen x l r) (children_of t.state.spread.choice n y)) (sym is)
          first)
          (free_move (ap mover is) (Pair t.number (chosen x l r))
          (subst (IsMember (Pair t.number (chosen x l r))) (sym (ap (successors_of S.g S.m t.number) is))
          (side_member t.number l r x)))

      -- ---- along edges

      at_diamond : (a to : ℕ) → node_at S.g n ≡ node.Diamond a to → AtNode n
      unfolding next_at
      at_diamond a to is =
          from (way_for (board S) t.position t.state.first t.state.last t.state.spread (resolved_at S t) n among)
        where
          among : IsMember n (diamonds_of S.g t.state.spread)
          among = member-filter (λ k. is_diamond (node_at S.g k)) n t.state.spread.nodes member (ap is_diamond is)

          to_state : (u : ℕ) → IsMember (n, u) (nexts S.g S.a t.state) → StateAt S.model.states u → AtNode n
          to_state u leads y =
              let leads_there : IsMember (n, y.state.first) (nexts S.g S.a t.state) =
              subst (λ v. IsMember (n, v) (nexts S.g S.a t.state)) (sym y.first_is) leads in
              let edge = edge_for S t.number y.number t.state y.state t.is_state y.stands n a to leads_there is in
              let target = target_in S.m t.number (action_at S.g a) y.number edge in
              crosses (record {
                diamond = n;
                next = next_at n y.number y.state y.stands leads_there;
                child = to;
                leads = record { action = a; child = to; is_diamond = is; leaves = inl (refl, refl) };
                move = free_move (ap mover is) (Pair y.number to)
                    (subst (IsMember (Pair y.number to)) (sym (ap (successors_of S.g S.m t.number) is))
                    (pair_member to 1 y.number (targets S.m t.number (action_at S.g a)) target));
              })

          from : ((u : ℕ) × IsMember (n, u) (nexts S.g S.a t.state)) → AtNode n
          from w =
              to_state w.0 w.1
              (state_for S t.state (member_of_get S.model.states t.number t.state t.is_state) w.0
              (member-map (λ (next : ℕ × ℕ). next.1) (n, w.0) (nexts S.g S.a t.state) w.1))

      at_square : (a to : ℕ) → node_at S.g n ≡ node.Square a to → AtNode n
      unfolding next_at
      at_square a to is = from (odd_reply (ap mover is))
        where
          name : List ℕ
          name = action_at S.g a

          by_edge : (j : ℕ)
              → OddMove S R (pair S t.number n) (pair S j to)
              → (e : EdgeTo S.m t.number (action_at S.g a) j)
              → IsModelEdge S.g S.a S.model.states e.edge
              → AtNode n
          by_edge j move e k =
              let state_is : k.from ≡ t.state =
              same_entry S.model.states t.number k.from t.state (subst (λ i. slice_get S.model.states i ≡ Some k.from)
              e.source_is
              k.from_is) t.is_state in
              let leads : IsMember (k.diamond, k.to.first) (nexts S.g S.a t.state) =
              subst (λ x. IsMember (k.diamond, k.to.first) (nexts S.g S.a x)) state_is k.leads in
              let to_is : slice_get S.model.states j ≡ Some k.to =
              subst (λ i. slice_get S.model.states i ≡ Some k.to) e.target_is k.to_is in
              let diamond_low =
              (way_of (board S) t.position t.state.first t.state.last t.state.spread (resolved_at S t) k.diamond
              k.to.first leads).inside in
              let action_is : k.action ≡ a = same_place S.g.actions S.g_ok.actions_differ k.action a
              (diamond_action S.g S.g_ok k.diamond ((resolved_at S t).is_spread.low k.diamond diamond_low) k.action
              k.child k.is_diamond)
              (square_action S.g S.g_ok n vertex.1 a to is) (sym k.action_is ∙ e.action_is) in
              crosses (record {
                diamond = k.diamond;
                next = next_at k.diamond j k.to to_is leads;
                child = to;
                leads = record {
                  action = a;
                  child = k.child;
                  is_diamond = subst (λ b. node_at S.g k.diamond ≡ node.Diamond b k.child) action_is k.is_diamond;
                  leaves = inr (member, is);
                };
                move = move;
              })

          by_target : (j : ℕ)
              → OddMove S R (pair S t.number n) (pair S j to)
              → IsMember j (targets S.m t.number (action_at S.g a))
              → AtNode n
          by_target j move target =
              let e = target_from S.m t.number (action_at S.g a) j target in
              by_edge j move e ((S.model.edges e.edge).0 e.member)

          by_targets : (ts : List ℕ)
              → targets S.m t.number (action_at S.g a) ≡ ts
              → (w : Vertex)
              → OddMove S R (pair S t.number n) (vertex_number S.g S.m w)
              → IsMember w (pairs_or_sink to 0 ts) → AtNode n
          by_targets [] none w move h =
              absurd (not_holding (subst (NodeHolds S.g S.m t.number) (sym is)
              (λ u c. absurd (contains_none u (subst (λ us. Contains us u) none c)))))
          by_targets (x ∷ xs) some w move h = of_image (member-map_from (λ s. Pair s to) w (x ∷ xs) h)
            where
              of_image : Image (λ s. Pair s to) w (x ∷ xs) → AtNode n
              of_image i =
                  by_target i.from (subst (λ v. OddMove S R (pair S t.number n) (vertex_number S.g S.m v)) i.holds move)
                  (subst (IsMember i.from) (sym some) i.member)

          from : Reply → AtNode n
          from o =
              by_targets (targets S.m t.number (action_at S.g a)) refl o.to o.reply
              (subst (IsMember o.to) (ap (successors_of S.g S.m t.number) is) o.successor)

      by_kind : (x : Node) → node_at S.g n ≡ x → AtNode n
      by_kind node.True is = absurd (not_holding (subst (NodeHolds S.g S.m t.number) (sym is) tt))
      by_kind node.False is = absurd ((resolved_at S t).resolved.no_clash (cause.False n) (member, is))
      by_kind (node.Lit p sign) is = absurd (literal p sign is)
      by_kind (node.And l r) is = at_and l r is
      by_kind (node.Or l r) is = at_or l r is (side_of t.state.spread.choice n) refl
      by_kind (node.Diamond a to) is = at_diamond a to is
      by_kind (node.Square a to) is = at_square a to is

      -- what the play does at a node
      pub at_node : AtNode n
      at_node = by_kind (node_at S.g n) refl
