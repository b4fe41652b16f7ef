-- The vertices of the game on a block graph, by the nodes as values.
--
--   Board               == a graph with its closure, and a structure in which each state has an edge
--   Known B p           == the number of the node p
--   at B s n            == the vertex of the state s and the node n
--   player_of b         == the player who looks for a path in a block of the sign b
--   Branches, Edges     == a node with two children, a node of edges: who moves there, and where it leads
--   both, one, edges    == of nodes of each form
--   own_branch, other_left, other_right, own_edge, other_edge == moves that follow a strategy
--   Way B p t k v w     == such moves lead from v to w, or v is w already, and the lowest priority on the way is k
use Rattle.std.proofs.Common.{ℕ, ◌≡◌, ◌<◌, ◌+◌, ◌==◌, ◌&&◌, ◌⊎◌, inl, inr, arith, min, true, false, Bool, List, [], ◌∷◌, map}
use Rattle.std.proofs.Common.{filter, Contains, Some, codes, bytes_eq, refl, sym, ap, subst, ◌∙◌, eqb-true, eq-eqb}
use Rattle.std.specs.List.{slice_get}
use Rattle.std.proofs.lemmas.Bool.{and_parts, and_from}
use Rattle.std.proofs.lemmas.Option.{slice_get_within}
use Rattle.ml_lists.specs.Member.{IsMember}
use Rattle.ml_lists.proofs.Member.{Image, member-map, member-map_from, member-filter, member-filter_from, list_any-member, member-list_any}
use Rattle.ml_lists.proofs.Members.{member_of_contains, contains_of_member}
use Rattle.ml_base.specs.Structure.{Structure, IsStructure}
use Rattle.ml_base.specs.declared.structure.Edge.{Edge}
use Rattle.ml_parity.specs.declared.players.Player.{Player}
use Rattle.ml_parity.specs.declared.players.Player.TheVariants.{Even, Odd}
use Rattle.ml_parity.specs.Player.{opponent}
use Rattle.ml_parity.specs.Game.{ParityGame, HasMove}
use Rattle.ml_parity.specs.Game as parity
use Rattle.ml_parity.specs.Winner.{IsStrategyOf}
use Rattle.ml_parity.proofs.FollowedWalks.{FollowedMove, FollowedWalk, last, walks_joined}
use Rattle.ml_parity.proofs.Opponents.{no_own_opponent}
use Rattle.ml_graph.specs.Graph.{Graph, IsGraph, size, node_at}
use Rattle.ml_graph.specs.CheckingGame.{Vertex, Pair, owner_at, mover, vertex_number, successors, successors_of, pairs_or_sink, targets, checking_game}
use Rattle.ml_graph.proofs.CheckingGame.{IsVertex, owner_is, priority_is, moves_are}
use Rattle.ml_graph.proofs.OneStep.{vertex_low, pair_member}
use Rattle.ml_ctl.specs.Paths.{IsTotal, has_step}
use Rattle.ml_blocks.specs.BlockClosures.{HasForm}
use Rattle.ml_blocks.specs.BlockClosures.{IsNumberedBy}
use Rattle.ml_blocks.specs.Places.{Place, Form, form_of, priority_of}
use Rattle.ml_nodes.specs.ClosureGraph.{And, Or, Diamond, Square, all_of, one_of}

pub record Board : Type 0 where
  pub g : Graph
  pub m : Structure
  pub root : Place
  pub places : List Place
  pub is_graph : IsGraph g
  pub is_structure : IsStructure m
  pub is_total : IsTotal m
  pub numbered : IsNumberedBy g root places

pub record Known (B : Board) (p : Place) : Type 0 where
  pub number : ℕ
  pub is : slice_get B.places number ≡ Some p

abbrev pub game : Board → ParityGame
game B = checking_game B.g B.m

abbrev pub at : Board → ℕ → ℕ → ℕ
at B s n = vertex_number B.g B.m (Pair s n)

abbrev pub player_of : Bool → Player
player_of true = Even
player_of false = Odd

-- a node with two children
pub record Branches (B : Board) (who : Player) (s n : ℕ) (l r : Place) : Type 0 where
  pub left : Known B l
  pub right : Known B r
  pub owner : owner_at B.g (Pair s n) ≡ who
  pub leads : successors B.g B.m (Pair s n) ≡ Pair s left.number ∷ Pair s right.number ∷ []

-- a node of edges by the action `_`
pub record Edges (B : Board) (who : Player) (s n : ℕ) (q : Place) : Type 0 where
  pub to : Known B q
  pub owner : owner_at B.g (Pair s n) ≡ who
  pub stuck : ℕ
  pub leads : successors B.g B.m (Pair s n) ≡ pairs_or_sink to.number stuck (targets B.m s (codes "_"))

abbrev pub edge_form : Bool → Place → Form
edge_form true q = Diamond q
edge_form false q = Square q

module _ (B : Board) where
  pub number_low : {p : Place} (a : Known B p) → a.number < size B.g
  number_low {p = p} a =
      let low = slice_get_within B.places a.number p a.is in
      let same = (B.numbered).one_each in
      omega (arith, low, same)

  pub same_number : {p : Place} (a b : Known B p) → a.number ≡ b.number
  same_number {p = p} a b = ((B.numbered).is_closure).once a.number b.number p a.is b.is

  pub known_as : {p q : Place} → p ≡ q → Known B p → Known B q
  known_as e a = subst (Known B) e a

  pub form : {p : Place} (a : Known B p) → HasForm B.g B.places (node_at B.g a.number) (form_of p)
  form {p = p} a = (B.numbered).has_forms a.number p a.is

  pub form_as : {p : Place} (a : Known B p) (f : Form) → form_of p ≡ f → HasForm B.g B.places (node_at B.g a.number) f
  form_as a f e = subst (HasForm B.g B.places (node_at B.g a.number)) e (form a)

  pub vertex_is : {p : Place} (s : ℕ) → s < (B.m).states → (a : Known B p) → IsVertex B.g B.m (Pair s a.number)
  vertex_is s low a = (low, number_low a)

  pub priority_at_place : {p : Place} (s : ℕ) → s < (B.m).states → (a : Known B p)
      → parity.priority_of (game B) (at B s a.number) ≡ priority_of p
  priority_at_place {p = p} s low a =
      priority_is B.g B.m (Pair s a.number) (vertex_is s low a) ∙ (B.numbered).has_priorities a.number p a.is

  -- ---- nodes of each form

  and_node : {p : Place} (l r : Place) (s : ℕ) (a : Known B p) → form_of p ≡ And l r → Branches B Odd s a.number l r
  and_node l r s a e =
      let h = form_as a (And l r) e in
      record {
        left = record { number = h.0; is = h.2 };
        right = record { number = h.1; is = h.3 };
        owner = ap mover h.4;
        leads = ap (successors_of B.g B.m s) h.4;
      }

  or_node : {p : Place} (l r : Place) (s : ℕ) (a : Known B p) → form_of p ≡ Or l r → Branches B Even s a.number l r
  or_node l r s a e =
      let h = form_as a (Or l r) e in
      record {
        left = record { number = h.0; is = h.2 };
        right = record { number = h.1; is = h.3 };
        owner = ap mover h.4;
        leads = ap (successors_of B.g B.m s) h.4;
      }

  pub both : {p : Place} (b : Bool) (l r : Place) (s : ℕ) (a : Known B p)
      → form_of p ≡ all_of b l r
      → Branches B (opponent (player_of b)) s a.number l r
  both true l r s a e = and_node l r s a e
  both false l r s a e = or_node l r s a e

  pub one : {p : Place} (b : Bool) (l r : Place) (s : ℕ) (a : Known B p)
      → form_of p ≡ one_of b l r
      → Branches B (player_of b) s a.number l r
  one true l r s a e = or_node l r s a e
  one false l r s a e = and_node l r s a e

  diamond_node : {p : Place} (q : Place) (s : ℕ) (a : Known B p) → form_of p ≡ Diamond q → Edges B Even s a.number q
  diamond_node q s a e =
      let h = form_as a (Diamond q) e in
      record {
        to = record { number = h.1; is = h.2 };
        owner = ap mover h.3;
        stuck = 1;
        leads = ap (successors_of B.g B.m s) h.3 ∙ ap (λ name. pairs_or_sink h.1 1 (targets B.m s name)) h.4;
      }

  square_node : {p : Place} (q : Place) (s : ℕ) (a : Known B p) → form_of p ≡ Square q → Edges B Odd s a.number q
  square_node q s a e =
      let h = form_as a (Square q) e in
      record {
        to = record { number = h.1; is = h.2 };
        owner = ap mover h.3;
        stuck = 0;
        leads = ap (successors_of B.g B.m s) h.3 ∙ ap (λ name. pairs_or_sink h.1 0 (targets B.m s name)) h.4;
      }

  pub edges : {p : Place} (b : Bool) (q : Place) (s : ℕ) (a : Known B p)
      → form_of p ≡ edge_form b q
      → Edges B (player_of b) s a.number q
  edges true q s a e = diamond_node q s a e
  edges false q s a e = square_node q s a e

-- ---- steps of a structure

module _ (m : Structure) (s t : ℕ) where
  abbrev leaves : Edge → Bool
  leaves e = (e.source == s) && bytes_eq e.action (codes "_")

  pub target_step : IsMember t (targets m s (codes "_")) → has_step m s t ≡ true
  target_step h =
      let image = member-map_from (λ e. e.target) t (filter leaves m.edges) h in
      let kept = member-filter_from leaves image.from m.edges image.member in
      member-list_any (λ e. leaves e && (e.target == t)) image.from m.edges kept.0
      (and_from (leaves image.from) ((image.from).target == t) kept.1 (eq-eqb (image.from).target t (sym image.holds)))

  pub step_target : has_step m s t ≡ true → IsMember t (targets m s (codes "_"))
  step_target is =
      let found = list_any-member (λ e. leaves e && (e.target == t)) m.edges is in
      let parts = and_parts (leaves found.item) ((found.item).target == t) found.passes in
      let member =
      member-map (λ e. e.target) found.item (filter leaves m.edges)
      (member-filter leaves found.item m.edges found.member parts.0) in
      subst (λ u. IsMember u (targets m s (codes "_"))) (eqb-true (found.item).target t parts.1) member

-- ---- moves that follow a strategy

member_pair : (q p : ℕ) (ts : List ℕ) (t : ℕ) (w : Vertex)
    → IsMember t ts
    → IsMember w (pairs_or_sink q p ts)
    → Image (λ v. Pair v q) w ts
member_pair q p [] t w none m = absurd none
member_pair q p (u ∷ us) t w some m = member-map_from (λ v. Pair v q) w (u ∷ us) m

module _ (B : Board) (p : Player) (choice : ℕ → ℕ) (is_strategy : IsStrategyOf (game B) p choice) where
  abbrev num : Vertex → ℕ
  num v = vertex_number B.g B.m v

  pub own_move : (v : Vertex) → IsVertex B.g B.m v → owner_at B.g v ≡ p
      → (w : Vertex) × IsMember w (successors B.g B.m v) × FollowedMove (game B) p choice (num v) (num w)
  own_move v is own =
      let move = is_strategy (num v) (vertex_low B.g B.m B.is_graph B.is_structure v is) (owner_is B.g B.m v is ∙ own) in
      let image =
      member-map_from num (choice (num v)) (successors B.g B.m v)
      (member_of_contains (choice (num v)) (map num (successors B.g B.m v))
      (subst (λ ws. Contains ws (choice (num v))) (moves_are B.g B.m v is) move)) in (
        image.from,
        image.member,
        record {
          move = subst (HasMove (game B) (num v)) image.holds move;
          chosen = λ mine. sym image.holds;
        },
      )

  pub other_move : (v : Vertex) → IsVertex B.g B.m v → owner_at B.g v ≡ opponent p
      → (w : Vertex)
      → IsMember w (successors B.g B.m v)
      → FollowedMove (game B) p choice (num v) (num w)
  other_move v is own w m = record {
    move =
        subst (λ ws. Contains ws (num w)) (sym (moves_are B.g B.m v is))
        (contains_of_member (num w) (map num (successors B.g B.m v)) (member-map num w (successors B.g B.m v) m));
    chosen = λ mine. absurd (no_own_opponent p (sym mine ∙ owner_is B.g B.m v is ∙ own));
  }

  abbrev pub Goes : ℕ → ℕ → Type 0
  Goes v w = FollowedMove (game B) p choice v w

  module _ (s n : ℕ) (is : IsVertex B.g B.m (Pair s n)) where
    pub own_branch : (l r : Place) (c : Branches B p s n l r)
        → Goes (at B s n) (at B s (c.left).number) ⊎ Goes (at B s n) (at B s (c.right).number)
    own_branch l r c =
        let mine = own_move (Pair s n) is c.owner in from mine.0 mine.2 (subst (IsMember mine.0) c.leads mine.1)
      where
        from : (w : Vertex)
            → Goes (at B s n) (num w)
            → IsMember w (Pair s (c.left).number ∷ Pair s (c.right).number ∷ [])
            → Goes (at B s n) (at B s (c.left).number) ⊎ Goes (at B s n) (at B s (c.right).number)
        from w move (inl e) = inl (subst (λ v. Goes (at B s n) (num v)) e move)
        from w move (inr (inl e)) = inr (subst (λ v. Goes (at B s n) (num v)) e move)
        from w move (inr (inr none)) = absurd none

    pub other_left : (l r : Place) (c : Branches B (opponent p) s n l r) → Goes (at B s n) (at B s (c.left).number)
    other_left l r c =
        other_move (Pair s n) is c.owner (Pair s (c.left).number)
        (subst (IsMember (Pair s (c.left).number)) (sym c.leads) (inl refl))

    pub other_right : (l r : Place) (c : Branches B (opponent p) s n l r) → Goes (at B s n) (at B s (c.right).number)
    other_right l r c =
        other_move (Pair s n) is c.owner (Pair s (c.right).number)
        (subst (IsMember (Pair s (c.right).number)) (sym c.leads) (inr (inl refl)))

    pub own_edge : (q : Place) (c : Edges B p s n q)
        → (u : ℕ)
        → has_step B.m s u ≡ true
        → (t : ℕ) × (has_step B.m s t ≡ true) × Goes (at B s n) (at B t (c.to).number)
    own_edge q c u some =
        let mine = own_move (Pair s n) is c.owner in
        let image =
        member_pair (c.to).number c.stuck (targets B.m s (codes "_")) u mine.0 (step_target B.m s u some)
        (subst (IsMember mine.0) c.leads mine.1) in (
          image.from,
          target_step B.m s image.from image.member,
          subst (λ v. Goes (at B s n) (num v)) image.holds mine.2,
        )

    pub other_edge : (q : Place) (c : Edges B (opponent p) s n q)
        → (t : ℕ)
        → has_step B.m s t ≡ true
        → Goes (at B s n) (at B t (c.to).number)
    other_edge q c t some =
        other_move (Pair s n) is c.owner (Pair t (c.to).number)
        (subst (IsMember (Pair t (c.to).number)) (sym c.leads)
        (pair_member (c.to).number c.stuck t (targets B.m s (codes "_")) (step_target B.m s t some)))

  -- ---- ways

  abbrev pub Way : ℕ → ℕ → ℕ → Type 0
  Way k v w = (v ≡ w) ⊎ FollowedWalk (game B) p choice v k w

  pub move_walk : (k v w : ℕ) → parity.priority_of (game B) v ≡ k → Goes v w → FollowedWalk (game B) p choice v k w
  move_walk k v w e move = subst (λ j. FollowedWalk (game B) p choice v j w) e (last v w move)

  pub further : (k v w x : ℕ) → FollowedWalk (game B) p choice v k w → Way k w x → Way k v x
  further k v w x walk (inl e) = inr (subst (λ y. FollowedWalk (game B) p choice v k y) e walk)
  further k v w x walk (inr rest) =
      let same : min k k ≡ k = omega arith in
      inr (subst (λ j. FollowedWalk (game B) p choice v j x) same (walks_joined (game B) p choice v k w k x walk rest))

  pub way_walk : (k j v w x : ℕ) → Way k v w → FollowedWalk (game B) p choice w j x → j < k + 1
      → FollowedWalk (game B) p choice v j x
  way_walk k j v w x (inl e) walk low = subst (λ y. FollowedWalk (game B) p choice y j x) (sym e) walk
  way_walk k j v w x (inr way) walk low =
      let same : min k j ≡ j = omega (arith, low) in
      subst (λ i. FollowedWalk (game B) p choice v i x) same (walks_joined (game B) p choice v k w j x way walk)
