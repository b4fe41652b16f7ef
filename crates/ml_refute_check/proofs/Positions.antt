-- Local walks as walks of the checking game that follow a strategy of Even's.
--
-- At a state, let a choice take the sides that the strategy takes there (`Agrees`). Then a local move is a move that
-- follows the strategy: at an And Odd may take it, and at an Or it is the chosen one. So what is won stays won along
-- local walks, and no clash is in the spread of what is won.
--
--   Board             == a graph and a structure, with a strategy of Even's in their checking game
--   vertex t n        == the vertex of the state t and the node n
--   IsWon t n         == n is a node, and the strategy wins from the vertex of t and n
--   takes             == what is won holds, as its node says
--   Agrees c t        == the sides of c are those that the strategy takes at the state t
--   child_move        == a local move is a move that follows the strategy
--   walk_to           == a local walk, and one move more, are a walk that follows it
--   won_along         == what is won stays won along a local walk
--   no_clash          == where all nodes are won, no clash is one of their spread
use Rattle.std.proofs.Common.{ℕ, ◌≡◌, ◌<◌, ◌%◌, inl, inr, min, true, false, List, [], ◌∷◌, Option, Some, None, refl, sym, ap, ◌∙◌, subst, arith}
use Rattle.ml_base.specs.Structure.{Structure, IsStructure, lists}
use Rattle.ml_lists.specs.Member.{IsMember}
use Rattle.ml_parity.specs.declared.players.Player.TheVariants.{Even, Odd}
use Rattle.ml_parity.specs.Player.{side}
use Rattle.ml_parity.specs.Game.{owner_of}
use Rattle.ml_parity.specs.Winner.{IsStrategyOf, WinsFrom}
use Rattle.ml_graph.specs.declared.node.Node.{Node}
use Rattle.ml_graph.specs.declared.node.Node.TheVariants as node
use Rattle.ml_graph.specs.Graph.{Graph, IsGraph, size, node_at, priority_at, prop_at}
use Rattle.ml_graph.specs.CheckingGame.{Vertex, Pair, owner_at, mover, vertex_number, successors, successors_of, checking_game}
use Rattle.ml_graph.specs.Laws.{NodeHolds}
use Rattle.ml_graph.proofs.CheckingGame.{IsVertex, owner_is, priority_is}
use Rattle.ml_graph.proofs.OneStep.{one_step, move_to}
use Rattle.ml_graph.proofs.References.{and_left, and_right, or_left, or_right}
use Rattle.ml_sequent.specs.declared.choice.Side.{Side}
use Rattle.ml_sequent.specs.declared.choice.Side.TheVariants.{Left, Right}
use Rattle.ml_sequent.specs.declared.clashes.ClashCause.{ClashCause}
use Rattle.ml_sequent.specs.declared.clashes.ClashCause.TheVariants as cause
use Rattle.ml_sequent.specs.Choice.{side_of, chosen}
use Rattle.ml_sequent.specs.LocalWalk.{LocalWalk, stays, goes, InSpread, children, children_of, chosen_child}
use Rattle.ml_sequent.specs.Spread.{SpreadList, IsCause, IsOddCycle}
use Rattle.ml_sequent.proofs.LocalWalks.{end_low}
use Rattle.ml_parity.proofs.FollowedWalks.{FollowedMove, FollowedWalk, last, before, won_behind, closed_walk_good, odd_is_not_even}

-- a graph and a structure, with a strategy of Even's in their checking game
pub record Board : Type 0 where
  pub graph : Graph
  pub structure : Structure
  pub is_graph : IsGraph graph
  pub is_structure : IsStructure structure
  pub strategy : ℕ → ℕ
  pub is_strategy : IsStrategyOf (checking_game graph structure) Even strategy

module _ (board : Board) where
  abbrev g : Graph
  g = board.graph

  abbrev m : Structure
  m = board.structure

  -- the vertex of a state and a node
  abbrev pub vertex : ℕ → ℕ → ℕ
  vertex t n = vertex_number g m (Pair t n)

  abbrev pub Move : ℕ → ℕ → Type 0
  Move v w = FollowedMove (checking_game g m) Even board.strategy v w

  abbrev pub Walk : ℕ → ℕ → ℕ → Type 0
  Walk v k w = FollowedWalk (checking_game g m) Even board.strategy v k w

  pub record IsWon (t n : ℕ) : Type 0 where
    pub is_node : n < size g
    pub wins : WinsFrom (checking_game g m) Even board.strategy (vertex t n)

  -- what is won holds, as its node says
  pub takes : (t n : ℕ) → t < m.states → IsWon t n → NodeHolds g m t (node_at g n)
  takes t n low won =
      (one_step g m board.is_graph board.is_structure t n low won.is_node).0
      (record { strategy = board.strategy; is_strategy = board.is_strategy; wins = won.wins })

  -- where Odd moves, each move follows the strategy
  pub free_move : (v : Vertex) → IsVertex g m v → owner_at g v ≡ Odd → (w : Vertex) → IsMember w (successors g m v)
      → Move (vertex_number g m v) (vertex_number g m w)
  free_move v is own w h = record {
    move = move_to g m board.is_graph board.is_structure v is w h;
    chosen = λ even. let odd : owner_of (checking_game g m) (vertex_number g m v) ≡ Odd = owner_is g m v is
        ∙ own in absurd (let wrong : Even ≡ Odd = sym even ∙ odd in cc);
  }

  -- the sides of the choice are those that the strategy takes at the state
  abbrev pub Agrees : List (ℕ × Side) → ℕ → Type 0
  Agrees c t = (n l r : ℕ) (x : Side) → node_at g n ≡ node.Or l r → side_of c n ≡ Some x → vertex t
      (chosen x l r) ≡ board.strategy (vertex t n)

  -- a local move
  pub record LocalMove (t n next : ℕ) : Type 0 where
    pub move : Move (vertex t n) (vertex t next)
    pub is_node : next < size g

  module _ (c : List (ℕ × Side)) (t : ℕ) (t_low : t < m.states) (agrees : Agrees c t) where
    side_node : (n l r : ℕ) → n < size g → node_at g n ≡ node.Or l r → (x : Side) → chosen x l r < size g
    side_node n l r low is Left = or_left g board.is_graph n low l r is
    side_node n l r low is Right = or_right g board.is_graph n low l r is

    side_member : (l r : ℕ) (x : Side) → IsMember (Pair t (chosen x l r)) (Pair t l ∷ Pair t r ∷ [])
    side_member l r Left = inl refl
    side_member l r Right = inr (inl refl)

    -- at an or-node with a side
    or_move : (n l r : ℕ) → n < size g → node_at g n ≡ node.Or l r → (next : ℕ) (o : Option Side) → side_of c n ≡ o
        → IsMember next (chosen_child o l r) → LocalMove t n next
    or_move n l r low is next None side h = absurd h
    or_move n l r low is next (Some x) side (inr h) = absurd h
    or_move n l r low is next (Some x) side (inl e) = subst (LocalMove t n) (sym e) (record {
      move = record {
        move = move_to g m board.is_graph board.is_structure (Pair t n) (t_low, low) (Pair t (chosen x l r))
            (subst (IsMember (Pair t (chosen x l r))) (sym (ap (successors_of g m t) is)) (side_member l r x));
        chosen = λ own. agrees n l r x is side;
      };
      is_node = side_node n l r low is x;
    })

    and_move : (n l r next : ℕ)
        → n < size g
        → node_at g n ≡ node.And l r
        → next < size g
        → IsMember (Pair t next) (Pair t l ∷ Pair t r ∷ [])
        → LocalMove t n next
    and_move n l r next low is next_low h = record {
      move = free_move (Pair t n) (t_low, low) (ap mover is) (Pair t next)
          (subst (IsMember (Pair t next)) (sym (ap (successors_of g m t) is)) h);
      is_node = next_low;
    }

    -- a local move is a move that follows the strategy
    pub child_move : (n : ℕ) → n < size g → (next : ℕ) → IsMember next (children g c n) → LocalMove t n next
    child_move n low next child = by_kind (node_at g n) refl child
      where
        by_kind : (x : Node) → node_at g n ≡ x → IsMember next (children_of c n x) → LocalMove t n next
        by_kind node.True is h = absurd h
        by_kind node.False is h = absurd h
        by_kind (node.Lit p positive) is h = absurd h
        by_kind (node.And l r) is (inl e) = subst (LocalMove t n) (sym e)
            (and_move n l r l low is (and_left g board.is_graph n low l r is) (inl refl))
        by_kind (node.And l r) is (inr (inl e)) = subst (LocalMove t n) (sym e)
            (and_move n l r r low is (and_right g board.is_graph n low l r is) (inr (inl refl)))
        by_kind (node.And l r) is (inr (inr h)) = absurd h
        by_kind (node.Or l r) is h = or_move n l r low is next (side_of c n) refl h
        by_kind (node.Diamond a to) is h = absurd h
        by_kind (node.Square a to) is h = absurd h

    -- a local walk, and one move more, are a walk that follows it
    pub walk_to : (n k e : ℕ) → n < size g → LocalWalk g c n k e → (w : ℕ) → Move (vertex t e) w → Walk (vertex t n) k w
    walk_to n k e low (stays _) w move =
        subst (λ i. Walk (vertex t n) i w) (priority_is g m (Pair t n) (t_low, low)) (last (vertex t n) w move)
    walk_to n k e low (goes {k = j} _ next child walk) w move =
        let first = child_move n low next child in
        subst (λ i. Walk (vertex t n) (min i j) w) (priority_is g m (Pair t n) (t_low, low))
        (before (vertex t n) (vertex t next) first.move (walk_to next j e first.is_node walk w move))

    pub won_child : (n next : ℕ) → IsMember next (children g c n) → IsWon t n → IsWon t next
    won_child n next child won =
        let first = child_move n won.is_node next child in
        record {
          is_node = first.is_node;
          wins = won_behind (checking_game g m) Even board.strategy (vertex t n)
              (vertex t next) first.move won.wins;
        }

    -- what is won stays won along a local walk
    pub won_along : (n k e : ℕ) → LocalWalk g c n k e → IsWon t n → IsWon t e
    won_along n k e (stays _) won = won
    won_along n k e (goes {k = j} _ next child walk) won = won_along next j e walk (won_child n next child won)

    -- where all nodes are won, so is their spread
    pub won_spread : (C : List ℕ) → ((n : ℕ) → IsMember n C → IsWon t n) → (e : ℕ) → InSpread g c C e → IsWon t e
    won_spread C won e is = won_along is.from is.lowest e is.walk (won is.from is.member)

    -- where all nodes are won, no clash is one of their spread
    pub no_clash : (sp : SpreadList)
        → sp.choice ≡ c
        → ((n : ℕ) → IsMember n sp.nodes → IsWon t n)
        → (x : ClashCause)
        → IsCause g sp x
        → ⊥
    no_clash sp same won (cause.False n) is =
        subst (NodeHolds g m t) is.1 (takes t n t_low (won n is.0))
    no_clash sp same won (cause.Pair p q) is =
        let yes_at : lists m t (prop_at g is.2.prop) ≡ true = subst (NodeHolds g m t) is.2.positive
        (takes t p t_low (won p is.0)) in
        let no_at : lists m t (prop_at g is.2.prop) ≡ false = subst (NodeHolds g m t) is.2.negative
        (takes t q t_low (won q is.1)) in
        let wrong : true ≡ false = sym yes_at ∙ no_at in
        absurd (cc)
    no_clash sp same won (cause.Cycle n) is = on_cycle (subst (λ d. IsOddCycle g d n) same is.1)
      where
        on_cycle : IsOddCycle g c n → ⊥
        on_cycle odd =
            let low = end_low g c odd.1.next odd.1.lowest n odd.1.walk in
            let exact : odd.1.lowest ≡ priority_at g n = omega (arith, low, odd.1.high) in
            let here = won n is.0 in
            let next = won_child n odd.1.next odd.1.child here in
            let walk = walk_to odd.1.next odd.1.lowest n next.is_node odd.1.walk (vertex t odd.1.next)
            (child_move n here.is_node odd.1.next odd.1.child).move in
            let good : side odd.1.lowest ≡ Even = closed_walk_good (checking_game g m) Even board.strategy
            (vertex t odd.1.next) odd.1.lowest walk next.wins in
            odd_is_not_even odd.1.lowest (ap (λ k. k % 2) exact ∙ odd.0) good
